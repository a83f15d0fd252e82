use Rattle.std.proofs.Common.{◌-◌, ◌<◌, ◌≤◌, length, arith, refl, sym, ◌∙◌}
use Rattle.redn_queue.proofs.Windows.{copy_at, copy_below}
use Rattle.redn_queue.proofs.ahead.Ahead.get.Goals as goal

pub returns-then-index-self : goal.returns-then-index-self
returns-then-index-self c = let a = c.self.inside in rw (← c.self.view_is) (sym (copy_below a.head a.places.items c.args.index (omega (arith, c.if-index-self.true))))

pub returns : goal.returns
returns c =
    let a = c.self.inside in
    let i = c.args.index in
    let low : a.head ≤ i = omega (arith, c.if-index-self.false) in
    let here : i - a.head < length a.places.items = omega (arith, a.places.ok, c.get.ensures.variant.0 (rw c.in_ok-get.was refl)) in
    rw (← c.self.view_is) (c.as_ref.ensures.value ∙ c.in_ok-get.ensures.lookup ∙ sym (copy_at a.head a.places.items i c.in_ok-get.field-0.now low here))
