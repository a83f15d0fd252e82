use Rattle.std.proofs.Common.{sym, ◌∙◌}
use Rattle.redn_source.proofs.Piles.{other_popped}
use Rattle.redn_source.proofs.run.pop_past_again.Goals as goal

pub loop-task-preserved : goal.loop-task-preserved
loop-task-preserved c =
    (other_popped _ _ _ c.in-Some.task c.in-Some.ensures.items (sym c.if-is_again.ensures) c.loop-task.invariant.0, c.pop_front.ensures.capacity ∙ c.loop-task.invariant.1)
