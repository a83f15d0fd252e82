use Rattle.std.proofs.Common.{arith, subst}
use Rattle.std.proofs.lemmas.List.{take_all}
use Rattle.std.specs.List.{All}
use Rattle.std.specs.Prelude.{List}
use Rattle.redn_graph.specs.declared.types.Graph.{Graph}
use Rattle.redn_emit.specs.Graphs.{HasWords}
use Rattle.redn_block.proofs.Slots.{all_next}
use Rattle.redn_emit.proofs.words.graphs_words.Goals as goal

pub loop-graph-preserved : goal.loop-graph-preserved
loop-graph-preserved c = all_next HasWords c.args.graphs.now c.loop-graph.graph-index c.graph-item.result (omega arith) c.loop-graph.invariant (subst HasWords c.graph-item.is c.graph_words.ensures)

pub returns : goal.returns
returns c = subst (λ (l : List Graph). All HasWords l) (take_all c.loop-graph.graph-index c.args.graphs.now (omega arith)) c.loop-graph.invariant
