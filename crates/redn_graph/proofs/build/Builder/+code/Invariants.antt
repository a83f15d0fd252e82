use Rattle.std.proofs.Common.{◌+◌, ◌*◌, drop}
use Rattle.redn_kernel.specs.Program.{weight_of, weight_of_all}
use Rattle.redn_graph.specs.Listed.{Listed}
use Rattle.redn_graph.proofs.build.Builder.+code.Given as goal

-- the statements from this one on have code
abbrev pub invariant-list-loop-i : goal.invariant-list-loop-i
invariant-list-loop-i l = Listed l.initial.self l.self l.exit l.fn.tail (drop l.i l.body) l.after

-- a statement weighs more than its blocks
abbrev pub decreases-list : goal.decreases-list
decreases-list l = 3 * weight_of_all l.body.now + 1

abbrev pub decreases-statement : goal.decreases-statement
decreases-statement l = 3 * weight_of l.statement.now

abbrev pub decreases-branch : goal.decreases-branch
decreases-branch l = 3 * (weight_of_all l.yes.now + weight_of_all l.no.now) + 2

abbrev pub decreases-endless : goal.decreases-endless
decreases-endless l = 3 * weight_of_all l.body.now + 2

abbrev pub decreases-counted : goal.decreases-counted
decreases-counted l = 3 * weight_of_all l.body.now + 2
