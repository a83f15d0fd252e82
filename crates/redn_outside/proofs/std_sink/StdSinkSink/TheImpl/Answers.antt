use Rattle.std.proofs.Common.{arith}
use Rattle.redn_outside.proofs.std_sink.StdSinkSink.TheImpl.Goals as goal

pub put-tells : goal.put-tells
put-tells g c = grind arith
