use Rattle.std.proofs.Common.{◌≡◌, length}
use Rattle.std.specs.VecDeque.{deque_capacity}
use Rattle.redn_source.proofs.Piles.{IsPopped}
use Rattle.redn_source.proofs.run.pop_past_again.Given as goal

abbrev pub invariant-loop-task : goal.invariant-loop-task
invariant-loop-task l =
    IsPopped l.initial.tasks.items l.tasks.items × (deque_capacity l.tasks ≡ deque_capacity l.initial.tasks)

abbrev pub decreases-loop-task : goal.decreases-loop-task
decreases-loop-task l = length l.tasks.items
