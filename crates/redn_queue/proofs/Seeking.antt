-- Held copies, as their window changes.
use Rattle.std.proofs.Common.{◌≡◌, ◌≢◌, ℕ, ◌+◌, ◌-◌, ◌<◌, ◌≤◌, min, ◌&&◌, Bool, true, false, cond, eqb, List, reverse, Option, Some, None, length, get_or, refl, sym, ap, ◌∙◌, arith, ◌⊎◌, inl, inr}
use Rattle.std.specs.Prelude.{nat_lt, is_none, is_some, IsSome, IfSome}
use Rattle.std.specs.Option.{option_map}
use Rattle.std.specs.Borrow.{Bor}
use Rattle.std.specs.FinMap.{get, insert, remove}
use Rattle.std.specs.List.{find, range_with_len}
use Rattle.std.proofs.lemmas.Bool.{eq-eqb, false≢true, cases_lt, and_right, and_from, lt-ltb}
use Rattle.std.proofs.lemmas.Bool.Decides.{nat_tests}
use Rattle.redn_words.specs.States.{Copies}
use Rattle.redn_words.proofs.Copies.{get_insert, get_remove}
use Rattle.redn_queue.specs.Windows.{lacks, is_held}
use Rattle.redn_queue.proofs.Covers.{same_read}
use Rattle.redn_queue.proofs.Finding.{least_in, none_in, greatest_in, none_in_all}

-- a copy that is held or leaves, and the others
pub insert_closes : (m : Copies) (k : ℕ) (v : List ℕ) (n : ℕ) → lacks (insert m k v) n ≡ true → lacks m n ≡ true
insert_closes m k v n e =
    elim (eqb n k) as (λ b. is_none (cond b (Some v) (get m n)) ≡ true → lacks m n ≡ true) [
      | true ↦ λ h. absurd (false≢true h)
      | false ↦ λ h. h
    ] (ap is_none (sym (get_insert m k v n)) ∙ e)

pub insert_closed : (m : Copies) (k : ℕ) (v : List ℕ) → lacks (insert m k v) k ≡ false
insert_closed m k v = ap is_none (get_insert m k v k) ∙ rw (eq-eqb k k refl) refl

pub insert_other : (m : Copies) (k : ℕ) (v : List ℕ) (n : ℕ) → n ≢ k → get (insert m k v) n ≡ get m n
insert_other m k v n ne = let other : eqb n k ≡ false = grind (arith, nat_tests) in get_insert m k v n ∙ rw other refl

pub remove_other : (m : Copies) (k n : ℕ) → n ≢ k → get (remove m k) n ≡ get m n
remove_other m k n ne = let other : eqb n k ≡ false = grind (arith, nat_tests) in get_remove m k n ∙ rw other refl

-- whether an index below a limit isn't held
abbrev pub seeks : Copies → ℕ → ℕ → Bool
seeks copies limit i = nat_lt i limit && lacks copies i

module _ (copies : Copies) (limit : ℕ) where
  passes : (i : ℕ) → i < limit → lacks copies i ≡ true → seeks copies limit i ≡ true
  passes i l e = and_from (nat_lt i limit) (lacks copies i) (lt-ltb i limit l) e

  fails_held : (i : ℕ) → lacks copies i ≡ false → seeks copies limit i ≡ false
  fails_held i e = rw e (and_right (nat_lt i limit) false refl)

  fails_far : (i : ℕ) → limit ≤ i → seeks copies limit i ≡ false
  fails_far i l = let far : nat_lt i limit ≡ false = grind (arith, nat_tests) in rw far refl

  module _ (h slots : ℕ) where
    module _ (m : ℕ) (low : h ≤ m) (held : (i : ℕ) → h ≤ i → i < m → lacks copies i ≡ false) (gap : lacks copies m ≡ true) where
      pub least_found : m < limit → m - h < slots → find (seeks copies limit) (range_with_len h slots) ≡ Some m
      least_found lt near = least_in (seeks copies limit) h slots m low (omega arith) (passes m lt gap) (λ j l u. fails_held j (held j l u))

      none_from : (j : ℕ) → h ≤ j → j < h + slots → (limit ≤ m) ⊎ (slots ≤ m - h) → seeks copies limit j ≡ false
      none_from j l u far =
          elim (cases_lt j m) [
            | inl lt ↦ fails_held j (held j l lt)
            | inr ge ↦ elim far [ inl past ↦ fails_far j (omega arith) | inr over ↦ absurd (omega arith) ]
          ]

      pub none_past : limit ≤ m → find (seeks copies limit) (range_with_len h slots) ≡ None
      none_past far = none_in (seeks copies limit) h slots (λ j l u. none_from j l u (inl far))

      pub none_over : slots ≤ m - h → find (seeks copies limit) (range_with_len h slots) ≡ None
      none_over far = none_in (seeks copies limit) h slots (λ j l u. none_from j l u (inr far))

    -- nothing is held from u on
    module _ (u end : ℕ) (low : h ≤ u) (bare : (i : ℕ) → u ≤ i → get copies i ≡ None) (ends : end ≡ min limit (h + slots)) where
      pub greatest_bare : u < end → find (seeks copies limit) (reverse (range_with_len h slots)) ≡ Some (end - 1)
      greatest_bare lt =
          greatest_in (seeks copies limit) h slots (end - 1) (omega arith) (omega arith) (passes (end - 1) (omega arith) (ap is_none (bare (end - 1) (omega arith))))
          (λ j l s. fails_far j (omega arith))

      -- or all of them lie below it
      pub greatest_gap : end ≤ u → (g : ℕ) → h ≤ g → g < u → u ≤ limit → u ≤ h + slots → lacks copies g ≡ true → ((j : ℕ) → h ≤ j → j < u → g < j → lacks copies j ≡ false) → find (seeks copies limit) (reverse (range_with_len h slots)) ≡ Some g
      greatest_gap le g lg ug lim near gap held =
          greatest_in (seeks copies limit) h slots g lg (omega arith) (passes g (omega arith) gap)
          (λ j l s. elim (cases_lt j u) [ inl lt ↦ fails_held j (held j (omega arith) lt l) | inr ge ↦ fails_far j (omega arith) ])

      pub no_gap : end ≤ u → ((j : ℕ) → h ≤ j → j < u → lacks copies j ≡ false) → find (seeks copies limit) (reverse (range_with_len h slots)) ≡ None
      no_gap le held =
          none_in_all (seeks copies limit) h slots
          (λ j l s. elim (cases_lt j u) [ inl lt ↦ fails_held j (held j l lt) | inr ge ↦ fails_far j (omega arith) ])

-- an end of some numbers, of which a copy is held
pub end_there : (copies : Copies) (o : Option (Bor ℕ)) → is_held copies (option_map (λ (i : Bor ℕ). i.now) o) ≡ true → IsSome o
end_there copies None e = absurd (false≢true e)
end_there copies (Some i) e = refl

held_fails : {X : Type 0} (o : Option X) → is_some o ≡ true → is_none o ≡ false
held_fails None e = absurd (false≢true e)
held_fails (Some x) e = refl

pub end_held : (copies : Copies) (xs : List ℕ) (k : ℕ) (o : Option (Bor ℕ)) → is_held copies (option_map (λ (i : Bor ℕ). i.now) o) ≡ true → IfSome o (λ i. i.now ≡ get_or xs k i.now) → k < length xs → (d : ℕ) → lacks copies (get_or xs k d) ≡ false
end_held copies xs k None e at l d = absurd (false≢true e)
end_held copies xs k (Some i) e at l d = ap (lacks copies) (same_read xs k d i.now l ∙ sym at) ∙ held_fails (get copies i.now) e
