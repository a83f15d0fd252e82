use Rattle.std.proofs.Common.{◌≡◌, map, take}
use Rattle.redn_kernel.specs.CoreRun.{cell_of}
use Rattle.redn_graph.proofs.build.cells.Given as goal

abbrev pub invariant-loop-word : goal.invariant-loop-word
invariant-loop-word l = l.cells ≡ map cell_of (take l.word-index l.words)
