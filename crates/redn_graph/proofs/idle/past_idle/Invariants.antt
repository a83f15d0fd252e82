use Rattle.std.proofs.Common.{◌≡◌, ◌<◌, length}
use Rattle.redn_graph.specs.Idle.{jumps}
use Rattle.redn_graph.proofs.idle.past_idle.Given as goal

abbrev pub invariant-loop-i : goal.invariant-loop-i
invariant-loop-i l = record { there : l.at < length l.blocks; is : l.at ≡ jumps l.blocks l._i l.from }
