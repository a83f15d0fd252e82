use Rattle.std.proofs.Common.{ℕ, ap, ◌∙◌}
use Rattle.std.specs.List.{find, range_with_len}
use Rattle.redn_queue.specs.QueueView.{queue_view}
use Rattle.redn_queue.proofs.Seeking.{seeks}
use Rattle.redn_queue.proofs.Unheld.{none_least, least_same}
use Rattle.redn_queue.proofs.queue.Queue.least_unheld.Goals as goal

pub returns-then-self : goal.returns-then-self
returns-then-self c = rw (← c.self.view_is) (none_least (queue_view c.self.inside) c.if-self.true)

pub returns : goal.returns
returns c =
    let a = c.self.inside in
    rw (← c.self.view_is) (c.least.ensures ∙ ap (λ (n : ℕ). find (seeks a.ahead.copies a.limit) (range_with_len a.ahead.head n)) c.self.invariant.places ∙ least_same (queue_view a) c.if-self.false)
