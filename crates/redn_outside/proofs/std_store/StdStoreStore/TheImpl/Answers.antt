use Rattle.std.proofs.Common.{arith}
use Rattle.redn_outside.proofs.std_store.StdStoreStore.TheImpl.Goals as goal

pub read-tells : goal.read-tells
read-tells g c = grind arith

pub write-tells : goal.write-tells
write-tells g c = grind arith
