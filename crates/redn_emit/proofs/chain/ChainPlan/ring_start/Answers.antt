use Rattle.std.proofs.Common.{rules, ◌≡◌, ◌-◌, ◌≤◌, subst, arith}
use Rattle.redn_emit.specs.Kept.{MOST}
use Rattle.redn_emit.specs.Layout.{ChainPlan, ring_slots, code_slots, ring_start}
use Rattle.redn_emit.proofs.Lists.{sum_take}
use Rattle.redn_emit.proofs.chain.ChainPlan.ring_start.Goals as goal

pub returns-in-Some-clause-few : goal.returns-in-Some-clause-few
returns-in-Some-clause-few c =
    let P : ChainPlan → Type 0 = λ q. code_slots q.rings ≤ MOST in
    let few : code_slots c.args.self.now.rings ≤ MOST = subst P c.self.view_is c.self.invariant.few_slots in
    let is : c.in-Some.start.now ≡ ring_start c.args.self.now c.args.number = search rules in
    let part = sum_take ring_slots c.args.self.now.rings (c.args.number - c.args.self.now.first) in
    omega (arith, few, is, part)
