-- What is held of a line tells what the line means.
use Rattle.std.proofs.Common.{◌≡◌, ℕ, zero, suc, ◌+◌, ◌-◌, ◌^◌, ◌<◌, ◌≤◌, true, false, not, cond, ◌&&◌, ◌==◌, List, [], ◌∷◌, ◌++◌, length, take, decimal, min, refl, sym, ap, ◌∙◌, inl, inr, arith, append_assoc, append-nil, length-append}
use Rattle.std.specs.Prelude.{Option}
use Rattle.std.specs.List.{list_all}
use Rattle.std.proofs.lemmas.Bool.{cases_lt}
use Rattle.std.proofs.lemmas.List.{length-take, take_all, take-take}
use Rattle.std.proofs.Math.Seq.{take-append-add}
use Rattle.std.proofs.lemmas.Fmt.{length-decimal-le}
use Rattle.redn_words.specs.declared.types.Action.{Action}
use Rattle.redn_words.specs.declared.types.Action.TheVariants.{Deliver, Fetch, Start, Land, Complete}
use Rattle.redn_sched.specs.declared.text.Numbered.{Numbered}
use Rattle.redn_text.specs.Texts.{is_no_newline}
use Rattle.redn_sched.specs.ScheduleText.{pair_text, action_text, Fits, IsAction, IsSkipped, IsBad, last_line, lines_after, Reads, Begins}
use Rattle.redn_sched.specs.Pieces.{held_of}

-- a number of 32 bits has ten digits at most, one of 64 bits twenty
small_digits : (n : ℕ) → n < 2 ^ 32 → length (decimal n) ≤ 10
small_digits n small = length-decimal-le 10 n (omega arith) (omega arith) (omega arith)

wide_digits : (n : ℕ) → n < 2 ^ 64 → length (decimal n) ≤ 20
wide_digits n small = length-decimal-le 20 n (omega arith) (omega arith) small

pair_length : (q i : ℕ) → (q < 2 ^ 32) × (i < 2 ^ 64) → length (pair_text q i) ≤ 31
pair_length q i fits = omega (arith, length-append (decimal q) (32 ∷ decimal i), small_digits q fits.0, wide_digits i fits.1)

-- no action's line has as many bytes as are held
pub short_action : (a : Action) → Fits a → length (action_text a) ≤ 33
unfolding action_text
short_action (Deliver c) fits = omega (arith, small_digits c fits)
short_action (Fetch q i) fits = omega (arith, pair_length q i fits)
short_action (Start q) fits = omega (arith, small_digits q fits)
short_action (Land q i) fits = omega (arith, pair_length q i fits)
short_action (Complete q) fits = omega (arith, small_digits q fits)

-- a line that is all held
all_held : (line : List ℕ) → length line ≤ 33 → held_of line ≡ line
all_held line l = take_all 34 line (omega (arith, l))

-- lines that begin alike
pub begun_again : (n : ℕ) (line more : List ℕ) → take n (take n line ++ more) ≡ take n (line ++ more)
begun_again zero line more = refl
begun_again (suc n) [] more = refl
begun_again (suc n) (b ∷ line) more = ap (λ (l : List ℕ). b ∷ l) (begun_again n line more)

same_skipped : (l m : List ℕ) → held_of l ≡ held_of m → IsSkipped l → IsSkipped m
same_skipped [] [] e s = tt
same_skipped [] (c ∷ m) e s = absurd (cc)
same_skipped (b ∷ l) [] e s = tt
same_skipped (b ∷ l) (c ∷ m) e s = let same : b ≡ c = cc in sym same ∙ s

same_short : (l m : List ℕ) → held_of l ≡ held_of m → length l ≤ 33 → l ≡ m
same_short l m e short =
    let same : l ≡ held_of m = sym (all_held l short) ∙ e in
    let few : length m ≤ 33 = omega (arith, short, ap length same, length-take 34 m) in
    same ∙ all_held m few

same_action : (l m : List ℕ) (a : Action) → held_of l ≡ held_of m → IsAction l a → IsAction m a
same_action l m a e is =
    let short : length l ≤ 33 = omega (arith, ap length is.text, short_action a is.fits) in
    record { text = sym (same_short l m e short) ∙ is.text; fits = is.fits }

same_bad : (l m : List ℕ) → held_of l ≡ held_of m → IsBad l → IsBad m
same_bad l m e is = record { meant = λ s. is.meant (same_skipped m l (sym e) s); no_action = λ a h. is.no_action a (same_action m l a (sym e) h) }

-- what is held means what the line does
module _ (line : List ℕ) where
  same : held_of (held_of line) ≡ held_of line
  same = take-take 34 34 line (omega arith)

  pub skipped_whole : IsSkipped (held_of line) → IsSkipped line
  skipped_whole s = same_skipped (held_of line) line same s

  pub action_whole : (a : Action) → IsAction (held_of line) a → IsAction line a
  action_whole a is = same_action (held_of line) line a same is

  pub bad_whole : IsBad (held_of line) → IsBad line
  bad_whole is = same_bad (held_of line) line same is

-- the lines of a text that goes on after one or the other read alike
same_line : (n : ℕ) (l m : List ℕ) (rest : List (List ℕ)) (xs : List Numbered) (bad : Option ℕ) → held_of l ≡ held_of m → Reads n (l ∷ rest) xs bad → Reads n (m ∷ rest) xs bad
same_line n l m rest [] bad e (inl h) = inl (same_bad l m e h.0, h.1)
same_line n l m rest [] bad e (inr h) = inr (same_skipped l m e h.0, h.1)
same_line n l m rest (x ∷ xs) bad e (inl h) = inl (same_action l m x.action e h.0, h.1, h.2)
same_line n l m rest (x ∷ xs) bad e (inr h) = inr (same_skipped l m e h.0, h.1)

same_last : (n : ℕ) (l m : List ℕ) (xs : List Numbered) (bad : Option ℕ) → held_of l ≡ held_of m → Reads n (last_line l) xs bad → Reads n (last_line m) xs bad
same_last n [] [] xs bad e h = h
same_last n [] (c ∷ m) xs bad e h = absurd (cc)
same_last n (b ∷ l) [] xs bad e h = absurd (cc)
same_last n (b ∷ l) (c ∷ m) xs bad e h = same_line n (b ∷ l) (c ∷ m) [] xs bad e h

pub same_lines : (n : ℕ) (l m text : List ℕ) (xs : List Numbered) (bad : Option ℕ) → held_of l ≡ held_of m → Reads n (lines_after l text) xs bad → Reads n (lines_after m text) xs bad
same_lines n l m [] xs bad e h = same_last n l m xs bad e h
same_lines n l m (b ∷ text) xs bad e h =
    elim (b == 10) as (λ v. Reads n (cond v (l ∷ lines_after [] text) (lines_after (l ++ b ∷ []) text)) xs bad → Reads n (cond v (m ∷ lines_after [] text) (lines_after (m ++ b ∷ []) text)) xs bad) [
      | true ↦ λ k. same_line n l m (lines_after [] text) xs bad e k
      | false ↦ λ k.
          let again : held_of (l ++ b ∷ []) ≡ held_of (m ++ b ∷ []) = sym (begun_again 34 l (b ∷ [])) ∙ ap (λ (x : List ℕ). take 34 (x ++ b ∷ [])) e ∙ begun_again 34 m (b ∷ []) in
          same_lines n (l ++ b ∷ []) (m ++ b ∷ []) text xs bad again k
    ] h

-- the same of how they begin
same_line_begins : (n : ℕ) (l m : List ℕ) (rest : List (List ℕ)) (xs : List Numbered) → held_of l ≡ held_of m → Begins n (l ∷ rest) xs → Begins n (m ∷ rest) xs
same_line_begins n l m rest [] e h = tt
same_line_begins n l m rest (x ∷ xs) e (inl h) = inl (same_action l m x.action e h.0, h.1, h.2)
same_line_begins n l m rest (x ∷ xs) e (inr h) = inr (same_skipped l m e h.0, h.1)

same_last_begins : (n : ℕ) (l m : List ℕ) (xs : List Numbered) → held_of l ≡ held_of m → Begins n (last_line l) xs → Begins n (last_line m) xs
same_last_begins n [] [] xs e h = h
same_last_begins n [] (c ∷ m) xs e h = absurd (cc)
same_last_begins n (b ∷ l) [] xs e h = absurd (cc)
same_last_begins n (b ∷ l) (c ∷ m) xs e h = same_line_begins n (b ∷ l) (c ∷ m) [] xs e h

pub same_lines_begin : (n : ℕ) (l m text : List ℕ) (xs : List Numbered) → held_of l ≡ held_of m → Begins n (lines_after l text) xs → Begins n (lines_after m text) xs
same_lines_begin n l m [] xs e h = same_last_begins n l m xs e h
same_lines_begin n l m (b ∷ text) xs e h =
    elim (b == 10) as (λ v. Begins n (cond v (l ∷ lines_after [] text) (lines_after (l ++ b ∷ []) text)) xs → Begins n (cond v (m ∷ lines_after [] text) (lines_after (m ++ b ∷ []) text)) xs) [
      | true ↦ λ k. same_line_begins n l m (lines_after [] text) xs e k
      | false ↦ λ k.
          let again : held_of (l ++ b ∷ []) ≡ held_of (m ++ b ∷ []) = sym (begun_again 34 l (b ∷ [])) ∙ ap (λ (x : List ℕ). take 34 (x ++ b ∷ [])) e ∙ begun_again 34 m (b ∷ []) in
          same_lines_begin n (l ++ b ∷ []) (m ++ b ∷ []) text xs again k
    ] h

-- a piece without a newline goes on with the line
pub goes_on : (line piece text : List ℕ) → list_all is_no_newline piece ≡ true → lines_after line (piece ++ text) ≡ lines_after (line ++ piece) text
goes_on line [] text e = ap (λ (l : List ℕ). lines_after l text) (sym (append-nil line))
goes_on line (b ∷ piece) text e =
    elim (b == 10) as (λ v. (not v && list_all is_no_newline piece) ≡ true → cond v (line ∷ lines_after [] (piece ++ text)) (lines_after (line ++ b ∷ []) (piece ++ text)) ≡ lines_after (line ++ b ∷ piece) text) [
      | true ↦ λ f. absurd (cc)
      | false ↦ λ f. goes_on (line ++ b ∷ []) piece text f ∙ ap (λ (l : List ℕ). lines_after l text) (append_assoc line (b ∷ []) piece)
    ] e

-- what is held of a line that goes on
pub held_on : (held bytes : List ℕ) → length held ≤ 34 → held ++ take (min (length bytes) (34 - length held)) bytes ≡ held_of (held ++ bytes)
held_on held bytes short =
    let room = 34 - length held in
    let all : length held + room ≡ 34 = omega (arith, short) in
    let some : take (min (length bytes) room) bytes ≡ take room bytes = elim (cases_lt room (length bytes)) [
      | inl l ↦ ap (λ (n : ℕ). take n bytes) (omega (arith, l))
      | inr g ↦ let short_one : min (length bytes) room ≡ length bytes = omega (arith, g) in ap (λ (n : ℕ). take n bytes) short_one ∙ take_all (length bytes) bytes (omega arith) ∙ sym (take_all room bytes (omega (arith, g)))
    ] in
    ap (λ (l : List ℕ). held ++ l) some ∙ sym (take-append-add held bytes room) ∙ ap (λ (n : ℕ). take n (held ++ bytes)) all
