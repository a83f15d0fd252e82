-- Texts cut behind their newlines.
use Rattle.std.proofs.Common.{◌≡◌, ℕ, suc, ◌+◌, ◌<◌, ◌≤◌, true, false, not, cond, ◌==◌, List, [], ◌∷◌, ◌++◌, length, take, drop, refl, sym, ap, ◌∙◌, arith, append_assoc, append-nil}
use Rattle.std.specs.List.{prefix_len, list_all}
use Rattle.std.proofs.lemmas.Bool.{and_parts}
use Rattle.redn_text.specs.Texts.{last_line, lines_after, lines_of}
use Rattle.redn_text.specs.Texts.{is_no_newline}

abbrev newline_at : List ℕ → ℕ
newline_at text = prefix_len is_no_newline text

pub cut : (line text : List ℕ) → newline_at text < length text → lines_after line text ≡ (line ++ take (newline_at text + 1) text) ∷ lines_of (drop (newline_at text + 1) text)
cut line [] h = absurd (omega arith)
cut line (x ∷ text) h =
    elim (x == 10) as (λ v.
    cond (not v) (1 + newline_at text) 0 < suc (length text)
    → cond v ((line ++ x ∷ []) ∷ lines_after [] text) (lines_after (line ++ x ∷ []) text) ≡ (line ++ take (cond (not v) (1 + newline_at text) 0 + 1) (x ∷ text)) ∷ lines_of (drop (cond (not v) (1 + newline_at text) 0 + 1) (x ∷ text))) [
      | true ↦ λ f. refl
      | false ↦ λ f.
          let n : suc (newline_at text + 1) ≡ (1 + newline_at text) + 1 = omega arith in
          let rest = cut (line ++ x ∷ []) text (omega arith) in
          rest ∙ ap (λ (l : List ℕ). l ∷ lines_of (drop (newline_at text + 1) text)) (append_assoc line (x ∷ []) (take (newline_at text + 1) text)) ∙ ap (λ (k : ℕ). (line ++ take k (x ∷ text)) ∷ lines_of (drop k (x ∷ text))) n
    ] h

-- a text without a newline is the rest of its line
pub uncut : (line text : List ℕ) → length text ≤ newline_at text → lines_after line text ≡ last_line (line ++ text)
uncut line [] h = ap last_line (sym (append-nil line))
uncut line (x ∷ text) h =
    elim (x == 10) as (λ v. suc (length text) ≤ cond (not v) (1 + newline_at text) 0 → cond v ((line ++ x ∷ []) ∷ lines_after [] text) (lines_after (line ++ x ∷ []) text) ≡ last_line (line ++ x ∷ text)) [
      | true ↦ λ f. absurd (omega arith)
      | false ↦ λ f. uncut (line ++ x ∷ []) text (omega arith) ∙ ap last_line (append_assoc line (x ∷ []) text)
    ] h

pub one_line : (text : List ℕ) → 0 < length text → length text ≤ newline_at text → lines_of text ≡ text ∷ []
one_line [] some h = absurd (omega arith)
one_line (x ∷ text) some h = uncut [] (x ∷ text) h

-- a line with its newline, and what stands behind it
pub after_line : (line front behind : List ℕ) → list_all is_no_newline front ≡ true → lines_after line (front ++ 10 ∷ behind) ≡ (line ++ (front ++ 10 ∷ [])) ∷ lines_of behind
after_line line [] behind e = refl
after_line line (x ∷ front) behind e =
    let both = and_parts (is_no_newline x) (list_all is_no_newline front) e in
    elim (x == 10) as (λ v. not v ≡ true → cond v ((line ++ x ∷ []) ∷ lines_after [] (front ++ 10 ∷ behind)) (lines_after (line ++ x ∷ []) (front ++ 10 ∷ behind)) ≡ (line ++ x ∷ (front ++ 10 ∷ [])) ∷ lines_of behind) [
      | true ↦ λ f. absurd (cc)
      | false ↦ λ f. after_line (line ++ x ∷ []) front behind both.1 ∙ ap (λ (l : List ℕ). l ∷ lines_of behind) (append_assoc line (x ∷ []) (front ++ 10 ∷ []))
    ] both.0
