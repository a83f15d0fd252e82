use Rattle.std.proofs.Common.{◌+◌, ◌-◌, vec_len}
use Rattle.redn_outside.proofs.std_store.read_file.Given as goal

abbrev pub decreases-loop-chunk : goal.decreases-loop-chunk
decreases-loop-chunk g l = l.limit + 1 - vec_len l.bytes
