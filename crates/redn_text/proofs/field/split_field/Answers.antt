use Rattle.std.proofs.Common.{◌≡◌, ◌∷◌, ◌++◌, length, take, drop, sym, ap, ◌∙◌, arith}
use Rattle.std.specs.List.{list_all}
use Rattle.std.proofs.lemmas.List.{take-append-drop}
use Rattle.redn_text.specs.Texts.{is_not}
use Rattle.redn_text.proofs.Fields.{front_has_none, behind_of, space_first}
use Rattle.redn_text.proofs.field.split_field.Goals as goal

pub returns-clause-found : goal.returns-clause-found
returns-clause-found c =
    let text = c.args.text.now in
    let at = c.field_len.ensures.value in
    let front = c.split_at.ensures.front in
    let back = c.split_at.ensures.back in
    let rest = c.in-Some.ensures.cases.0 in
    let space = space_first c.args.separator text c.in-Some._separator.now c.in-Some.behind.now (sym (back ∙ ap (λ n. drop n text) at) ∙ rest) in
    let behind : drop c.field_len.result text ≡ c.args.separator ∷ c.in-Some.behind.now = sym back ∙ rest ∙ ap (λ b. b ∷ c.in-Some.behind.now) space in
    record {
      is = sym (take-append-drop c.field_len.result text) ∙ ap (λ l. l ++ drop c.field_len.result text) (sym front) ∙ ap (λ l. c.split_at.result.0.now ++ l) behind;
      first = ap (list_all (is_not c.args.separator)) (front ∙ ap (λ n. take n text) at) ∙ front_has_none c.args.separator text;
    }

pub returns-in_default-clause-none : goal.returns-in_default-clause-none
returns-in_default-clause-none c =
    λ front behind s.
    let text = c.args.text.now in
    let rest : c.split_at.result.1.now ≡ c.args.separator ∷ behind = c.split_at.ensures.back ∙ ap (λ n. drop n text) c.field_len.ensures.value ∙ behind_of c.args.separator text front behind s in
    let none = c.in_default.ensures.cases in
    absurd (omega (arith, ap length rest, none))
