-- Texts cut at newlines.
use Rattle.std.proofs.Common.{◌≡◌, ℕ, suc, ◌+◌, ◌<◌, true, false, not, cond, ◌==◌, List, [], ◌∷◌, ◌++◌, length, take, drop, refl, sym, ap, ◌∙◌, inl, inr, arith, append_assoc, append-nil}
use Rattle.std.specs.Prelude.{Option, Some}
use Rattle.std.specs.List.{prefix_len}
use Rattle.std.proofs.lemmas.List.{take-append-drop}
use Rattle.redn_sched.specs.declared.text.Numbered.{Numbered}
use Rattle.redn_text.specs.Texts.{is_no_newline}
use Rattle.redn_sched.specs.ScheduleText.{IsSkipped, IsAction, IsBad, last_line, lines_after, lines_of, Reads}

-- Reading on: a skipped line, an action's, a bad one.
pub reads_skipped : (n : ℕ) (line : List ℕ) (rest : List (List ℕ)) (xs : List Numbered) (bad : Option ℕ) → IsSkipped line → Reads (n + 1) rest xs bad → Reads n (line ∷ rest) xs bad
reads_skipped n line rest [] bad s h = inr (s, h)
reads_skipped n line rest (x ∷ xs) bad s h = inr (s, h)

pub reads_action : (n : ℕ) (line : List ℕ) (rest : List (List ℕ)) (x : Numbered) (xs : List Numbered) (bad : Option ℕ) → IsAction line x.action → x.line ≡ n → Reads (n + 1) rest xs bad → Reads n (line ∷ rest) (x ∷ xs) bad
reads_action n line rest x xs bad a e h = inl (a, e, h)

pub reads_bad : (n : ℕ) (line : List ℕ) (rest : List (List ℕ)) → IsBad line → Reads n (line ∷ rest) [] (Some n)
reads_bad n line rest b = inl (b, refl)
