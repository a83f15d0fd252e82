use Rattle.std.proofs.Common.{◌+◌, ◌*◌}
use Rattle.redn_graph.specs.CoreSizes.{statements_in, taken_of_all}
use Rattle.redn_graph.proofs.build.Builder.+cores.Given as goal

-- a statement has more of them than its blocks
abbrev pub decreases-cores : goal.decreases-cores
decreases-cores l = 3 * statements_in (taken_of_all l.body.now) + 1

abbrev pub decreases-fork : goal.decreases-fork
decreases-fork l = 3 * (statements_in (taken_of_all l.yes.now) + statements_in (taken_of_all l.no.now)) + 2

abbrev pub decreases-round : goal.decreases-round
decreases-round l = 3 * statements_in (taken_of_all l.body.now) + 2
