use Rattle.std.proofs.Common.{take}
use Rattle.std.specs.List.{All}
use Rattle.redn_emit.specs.Graphs.{HasWords}
use Rattle.redn_emit.proofs.words.graphs_words.Given as goal

abbrev pub invariant-loop-graph : goal.invariant-loop-graph
invariant-loop-graph l = All HasWords (take l.graph-index l.graphs)
