use Rattle.std.proofs.Common.{rules, ◌≡◌, Some, ap, ◌∙◌, sym}
use Rattle.redn_parse.specs.Lookahead.{kind_at}
use Rattle.redn_parse.proofs.Tokens.{kind_there, no_kind}
use Rattle.redn_parse.proofs.reader.Reader.is_ahead.Goals as goal

pub returns-in-Some : goal.returns-in-Some
returns-in-Some c =
    let e = ap (kind_at c.args.count) (sym c.self.view_is) ∙ kind_there c.self.inside.text.now c.self.inside.rest.now c.args.count c.in-Some.token.now c.in-Some.ensures in
    (λ t. let same : c.in-Some.token.now.kind ≡ c.args.kind = search rules in e ∙ ap (λ k. Some k) same, λ h. let same : c.in-Some.token.now.kind ≡ c.args.kind = cc in search rules)

pub returns-in-None : goal.returns-in-None
returns-in-None c =
    let e = ap (kind_at c.args.count) (sym c.self.view_is) ∙ no_kind c.self.inside.text.now c.self.inside.rest.now c.args.count c.in-None.ensures in
    (λ t. cc, λ h. cc)
