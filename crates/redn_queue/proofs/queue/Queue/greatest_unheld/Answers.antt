use Rattle.std.proofs.Common.{ℕ, reverse, ap, ◌∙◌}
use Rattle.std.specs.List.{find, range_with_len}
use Rattle.redn_queue.specs.QueueView.{queue_view}
use Rattle.redn_queue.proofs.Seeking.{seeks}
use Rattle.redn_queue.proofs.Unheld.{none_greatest, greatest_same}
use Rattle.redn_queue.proofs.queue.Queue.greatest_unheld.Goals as goal

pub returns-then-self : goal.returns-then-self
returns-then-self c = rw (← c.self.view_is) (none_greatest (queue_view c.self.inside) c.if-self.true)

pub returns : goal.returns
returns c =
    let a = c.self.inside in
    rw (← c.self.view_is) (c.greatest.ensures ∙ ap (λ (n : ℕ). find (seeks a.ahead.copies a.limit) (reverse (range_with_len a.ahead.head n))) c.self.invariant.places ∙ greatest_same (queue_view a) c.if-self.false)
