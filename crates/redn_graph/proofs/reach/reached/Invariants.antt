use Rattle.std.proofs.Common.{◌-◌, length}
use Rattle.redn_graph.specs.Idle.{passed}
use Rattle.redn_graph.proofs.Reaching.{Walked}
use Rattle.redn_graph.proofs.reach.reached.Given as goal

abbrev pub invariant-loop-all : goal.invariant-loop-all
invariant-loop-all l = Walked (passed l.g) l.found l.blocks

abbrev pub decreases-loop-all : goal.decreases-loop-all
decreases-loop-all l = length l.g.blocks - length l.blocks
