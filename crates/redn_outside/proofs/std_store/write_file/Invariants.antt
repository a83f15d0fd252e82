use Rattle.std.proofs.Common.{length}
use Rattle.redn_outside.proofs.std_store.write_file.Given as goal

abbrev pub decreases-loop-left : goal.decreases-loop-left
decreases-loop-left g l = length l.left
