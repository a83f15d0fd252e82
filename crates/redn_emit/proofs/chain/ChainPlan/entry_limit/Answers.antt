use Rattle.std.proofs.Common.{◌≡◌, ℕ, ◌+◌, ◌-◌, map, get_or, ap, sym, ◌∙◌, subst, arith}
use Rattle.redn_emit.specs.Layout.{ChainPlan, first_limit, limit_of_ring}
use Rattle.redn_emit.specs.View.{plan_view}
use Rattle.redn_emit.proofs.Lists.{map_at}
use Rattle.redn_emit.proofs.chain.ChainPlan.entry_limit.Goals as goal

pub returns : goal.returns
returns c =
    let plan : ChainPlan = plan_view c.self.inside in
    let P : ChainPlan → Type 0 = λ q. c.opens.result ≡ limit_of_ring q (q.first + q.entry) in
    let back : plan.entry ≡ (plan.first + plan.entry) - plan.first = omega arith in
    let there = map_at first_limit plan.rings plan.entry c.index.result.now 0 c.self.invariant.entry in
    subst P c.self.view_is (c.opens.ensures ∙ ap first_limit c.index.ensures ∙ sym there ∙ ap (λ (n : ℕ). get_or (map first_limit plan.rings) n 0) back)
