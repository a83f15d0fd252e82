use Rattle.redn_compile.proofs.Graphs.{AreMade}
use Rattle.redn_compile.proofs.image.graphs_of.Given as goal

abbrev pub invariant-loop-chain : goal.invariant-loop-chain
invariant-loop-chain l = AreMade l.p l.chain l.graphs.items
