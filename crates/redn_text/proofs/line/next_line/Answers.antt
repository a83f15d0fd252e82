use Rattle.std.proofs.Common.{◌≡◌, ℕ, List, [], ◌∷◌, length, take, drop, sym, ap, ◌∙◌, arith, ◌<◌, ◌+◌, ◌==◌, false}
use Rattle.std.proofs.lemmas.List.{take_all, drop_all}
use Rattle.std.specs.List.{prefix_len}
use Rattle.std.proofs.lemmas.Bool.Decides.{nat_tests}
use Rattle.redn_text.specs.Texts.{lines_of}
use Rattle.redn_text.specs.Texts.{is_no_newline}
use Rattle.redn_text.proofs.Cuts.{cut, one_line}
use Rattle.redn_text.proofs.line.next_line.Goals as goal

some_left : (text : List ℕ) → (length text == 0) ≡ false → 0 < length text
some_left text e = grind (arith, nat_tests)

pub returns-then-end-text-clause-found : goal.returns-then-end-text-clause-found
returns-then-end-text-clause-found c =
    let text = c.args.text.now in
    let some : 0 < length text = some_left text (sym c.is_empty.ensures ∙ c.if-is_empty.false) in
    let front : c.split_at.result.0.now ≡ text = c.split_at.ensures.front ∙ take_all c.line_len-end.result text (omega arith) in
    let back : c.split_at.result.1.now ≡ [] = c.split_at.ensures.back ∙ drop_all c.line_len-end.result text (omega arith) in
    one_line text some (omega (arith, c.line_len-end.ensures.value)) ∙ ap (λ (l : List ℕ). l ∷ []) (sym front) ∙ ap (λ (l : List ℕ). c.split_at.result.0.now ∷ lines_of l) (sym back)

pub returns-clause-found : goal.returns-clause-found
returns-clause-found c =
    let text = c.args.text.now in
    let n = ap (λ (k : ℕ). k + 1) c.line_len-end.ensures.value in
    let front = c.split_at-2.ensures.front ∙ ap (λ (k : ℕ). take k text) n in
    let back = c.split_at-2.ensures.back ∙ ap (λ (k : ℕ). drop k text) n in
    cut [] text (omega (arith, c.line_len-end.ensures.value)) ∙ ap (λ (l : List ℕ). l ∷ lines_of (drop (prefix_len is_no_newline text + 1) text)) (sym front) ∙ ap (λ (l : List ℕ). c.split_at-2.result.0.now ∷ lines_of l) (sym back)
