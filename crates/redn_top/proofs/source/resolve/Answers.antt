-- What the rules say of a tree.
use Rattle.std.proofs.Common.{◌≡◌, Err, sym, ap, ◌∙◌}
use Rattle.redn_check.specs.Rules.{Accepts}
use Rattle.redn_check.specs.declared.fault.CheckFault.TheVariants as check
use Rattle.redn_top.proofs.source.resolve.Goals as goal

pub returns-in-Err-Rule-clause-refused : goal.returns-in-Err-Rule-clause-refused
returns-in-Err-Rule-clause-refused c =
    let h = c.in-Err-Rule.ensures in
    let not : Accepts c.args.f.now → ⊥ = λ a. (let e : check.Rule c.in-Err-Rule.rule c.in-Err-Rule.at c.in-Err-Rule.seen ≡ check.Memory = sym c.in-Err-Rule.field-0-is ∙ h.accepts a in absurd (cc)) in
    (h.rule c.in-Err-Rule.rule c.in-Err-Rule.at c.in-Err-Rule.seen (ap Err c.in-Err-Rule.field-0-is), not)
