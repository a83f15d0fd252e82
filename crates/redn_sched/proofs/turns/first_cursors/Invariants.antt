use Rattle.std.proofs.Common.{◌≡◌, replicate}
use Rattle.redn_sched.proofs.turns.first_cursors.Given as goal

abbrev pub invariant-loop : goal.invariant-loop
invariant-loop l = l.cursors.items ≡ replicate l.counter 0
