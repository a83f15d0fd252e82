use Rattle.std.proofs.Common.{◌≡◌, true, sym, ap, subst, ◌∙◌, decimal}
use Rattle.std.specs.Prelude.{nat_eq}
use Rattle.std.specs.Str.{IsUtf8}
use Rattle.std.specs.Cmp.Lexicographic.{pointwise, bytes_decides}
use Rattle.std.proofs.lemmas.Str.{IsUtf8-from_ascii}
use Rattle.std.proofs.lemmas.Fmt.{IsAscii-decimal, parse-decimal}
use Rattle.redn_text.proofs.number.read_number.Goals as goal

pub returns-in_default-clause-none : goal.returns-in_default-clause-none
returns-in_default-clause-none c =
    λ n small e. c.in_default.ensures.cases.0 (subst IsUtf8 (sym e) (IsUtf8-from_ascii (decimal n) (IsAscii-decimal n small)))

pub returns-in_default-parse-clause-none : goal.returns-in_default-parse-clause-none
returns-in_default-parse-clause-none c =
    λ n small e. c.in_default-parse.not-Ok n (parse-decimal 64 n c.in-Ok.text.now c.parse.result small small (c.in-Ok.ensures.cases.0 ∙ e) c.parse.ensures.value.0)

pub returns-else-eq-clause-none : goal.returns-else-eq-clause-none
returns-else-eq-clause-none c =
    λ n small e.
    let parsed = parse-decimal 64 n c.in-Ok.text.now c.parse.result small small (c.in-Ok.ensures.cases.0 ∙ e) c.parse.ensures.value.0 in
    let read = c.in-Ok-parse.is in
    let number : c.in-Ok-parse.number ≡ n = cc in
    let same : c.as_bytes.result.now ≡ c.args.digits.now = c.as_bytes.ensures.value ∙ c.format.ensures.text ∙ ap decimal number ∙ sym e in
    let yes : pointwise nat_eq c.as_bytes.result.now c.args.digits.now ≡ true = (bytes_decides _ _).1 same in
    let told = c.eq.ensures in
    let no = c.if-eq.false in
    absurd (cc)
