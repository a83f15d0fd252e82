use Rattle.std.proofs.Common.{ℕ, List, ◌∷◌, ◌++◌, take, drop, sym, ap, ◌∙◌}
use Rattle.std.specs.List.{list_all, prefix_len}
use Rattle.std.proofs.lemmas.List.{take-append-drop}
use Rattle.redn_disasm.specs.Assembly.{is_inside}
use Rattle.redn_disasm.proofs.Pieces.{behind_stops, front_passes}
use Rattle.redn_disasm.proofs.fields.next_field.Goals as goal

pub returns-clause-found : goal.returns-clause-found
returns-clause-found c =
    let rest = c.in-Some.rest.now in
    let at = c.field_len.ensures.value in
    let front = c.split_at.ensures.front in
    let back = c.split_at.ensures.back in
    let first = c.if-first-ne32.false in
    record {
      is = c.in-Some.ensures.cases.0 ∙ ap (λ (b : ℕ). b ∷ rest) first ∙ ap (λ (l : List ℕ). 32 ∷ l) (sym (take-append-drop c.field_len.result rest) ∙ ap (λ (l : List ℕ). l ++ drop c.field_len.result rest) (sym front) ∙ ap (λ (l : List ℕ). c.split_at.result.0.now ++ l) (sym back));
      inside = ap (list_all is_inside) (front ∙ ap (λ (n : ℕ). take n rest) at) ∙ front_passes is_inside rest;
      stops = ap (prefix_len is_inside) (back ∙ ap (λ (n : ℕ). drop n rest) at) ∙ behind_stops is_inside rest;
    }
