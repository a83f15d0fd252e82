use Rattle.std.proofs.Common.{rules, ◌≡◌, sym, ap, ◌∙◌}
use Rattle.redn_syntax.specs.declared.token.TokenKind.TheVariants.{Number}
use Rattle.redn_parse.specs.Lookahead.{kind_at}
use Rattle.redn_parse.proofs.Tokens.{kind_there, no_kind}
use Rattle.redn_parse.proofs.Passed.{number_stuck}
use Rattle.redn_parse.proofs.reader.Reader.number.Goals as goal

pub returns-in_default-clause-reads : goal.returns-in_default-clause-reads
returns-in_default-clause-reads c =
    let e = ap (kind_at 0) (sym c.self.view_is) ∙ no_kind c.self.inside.text.now c.self.inside.rest.now 0 c.in_default.ensures.value in
    number_stuck _ (λ h. cc)

pub returns-then-ne-clause-reads : goal.returns-then-ne-clause-reads
returns-then-ne-clause-reads c =
    let e = ap (kind_at 0) (sym c.self.view_is) ∙ kind_there c.self.inside.text.now c.self.inside.rest.now 0 c.in-Some.token.now c.in-Some.ensures.value in
    let other : c.in-Some.token.now.kind ≡ Number → ⊥ = search rules in
    number_stuck _ (λ h. let same : c.in-Some.token.now.kind ≡ Number = cc in other same)
