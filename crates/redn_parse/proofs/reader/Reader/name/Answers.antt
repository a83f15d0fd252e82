use Rattle.std.proofs.Common.{arith, rules, ◌≡◌, ◌+◌, ◌-◌, sym, ap, ◌∙◌}
use Rattle.redn_syntax.specs.declared.token.TokenKind.TheVariants.{Name}
use Rattle.redn_parse.specs.Lookahead.{IsTokenOf, kind_at}
use Rattle.redn_parse.proofs.Tokens.{all_first, name_small, kind_there, no_kind}
use Rattle.redn_parse.proofs.Passed.{name_stuck}
use Rattle.redn_parse.proofs.reader.Reader.name.Goals as goal

pub from_ascii-requires : goal.from_ascii-requires
from_ascii-requires c =
    let token = c.in-Some.token.now in
    let good = all_first (IsTokenOf c.self.inside.text.now) c.self.inside.rest.now token c.in-Some.ensures.value c.self.invariant in
    let kind : token.kind ≡ Name = search rules in
    name_small c.self.inside.text.now token (token.at + token.len - token.at) good kind (omega arith)

pub returns-in_default-clause-reads : goal.returns-in_default-clause-reads
returns-in_default-clause-reads c =
    let e = ap (kind_at 0) (sym c.self.view_is) ∙ no_kind c.self.inside.text.now c.self.inside.rest.now 0 c.in_default.ensures.value in
    name_stuck _ (λ h. cc)

pub returns-then-ne-clause-reads : goal.returns-then-ne-clause-reads
returns-then-ne-clause-reads c =
    let e = ap (kind_at 0) (sym c.self.view_is) ∙ kind_there c.self.inside.text.now c.self.inside.rest.now 0 c.in-Some.token.now c.in-Some.ensures.value in
    let other : c.in-Some.token.now.kind ≡ Name → ⊥ = search rules in
    name_stuck _ (λ h. let same : c.in-Some.token.now.kind ≡ Name = cc in other same)
