use Rattle.std.proofs.Common.{◌≡◌, ◌+◌, ◌*◌, take}
use Rattle.redn_kernel.specs.Program.{weight_of, weight_of_all}
use Rattle.redn_source.proofs.weight.+weight.Given as goal

-- those so far
abbrev pub invariant-weight-loop-statement : goal.invariant-weight-loop-statement
invariant-weight-loop-statement l = l.sum ≡ weight_of_all (take l.statement-index l.body)

-- a statement weighs more than its blocks
abbrev pub decreases-weight : goal.decreases-weight
decreases-weight l = 2 * weight_of_all l.body.now + 1

abbrev pub decreases-statement_weight : goal.decreases-statement_weight
decreases-statement_weight l = 2 * weight_of l.statement.now
