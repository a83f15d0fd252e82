use Rattle.std.proofs.Common.{◌≡◌, ◌∙◌, sym, ap, rules, inl, Some, None}
use Rattle.std.proofs.lemmas.Option.{same_Some}
use Rattle.redn_check.specs.declared.fault.CheckFault.TheVariants.{Rule}
use Rattle.redn_check.specs.Faults.{fault, first_of}
use Rattle.redn_check.specs.Rules.{faults}
use Rattle.redn_check.proofs.Earliest.{first_is, first_only, first_none, on_ok}
use Rattle.redn_check.proofs.rules.checked.Goals as goal

pub returns-in-Some-clause-rule : goal.returns-in-Some-clause-rule
returns-in-Some-clause-rule c = λ rule at seen h.
    let told : c.in_ok-first.first ≡ first_of (faults c.args.f.now) = search rules in
    let x = c.in-Some.fault in
    let same_rule : x.rule ≡ rule = cc in
    let same_place : x.at ≡ at = cc in
    let same_seen : x.seen ≡ seen = cc in
    first_is (faults c.args.f.now) (fault rule at seen) (sym told ∙ c.in-Some.is ∙ (λ j. Some (fault (same_rule j) (same_place j) (same_seen j))))

pub returns-in-Some-clause-refuses : goal.returns-in-Some-clause-refuses
returns-in-Some-clause-refuses c = λ first h.
    let told : c.in_ok-first.first ≡ first_of (faults c.args.f.now) = search rules in
    let same = same_Some _ _ (sym c.in-Some.is ∙ told ∙ first_only (faults c.args.f.now) first h) in
    inl (ap (λ x. Rule x.rule x.at x.seen) same)

pub program-requires : goal.program-requires
program-requires c =
    let told : c.in_ok-first.first ≡ first_of (faults c.args.f.now) = search rules in
    first_none (faults c.args.f.now) (sym told ∙ c.in_default.is)

pub returns-clause-accepted : goal.returns-clause-accepted
returns-clause-accepted c =
    let told : c.in_ok-first.first ≡ first_of (faults c.args.f.now) = search rules in
    on_ok c.map_err-2.result (first_none (faults c.args.f.now) (sym told ∙ c.in_default.is))

pub returns-clause-refuses : goal.returns-clause-refuses
returns-clause-refuses c = λ first h.
    let told : c.in_ok-first.first ≡ first_of (faults c.args.f.now) = search rules in
    let no : None ≡ Some first = sym c.in_default.is ∙ told ∙ first_only (faults c.args.f.now) first h in
    cc
