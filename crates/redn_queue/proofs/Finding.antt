-- The first and the last element that pass a test.
use Rattle.std.proofs.Common.{◌≡◌, ℕ, zero, suc, ◌+◌, ◌-◌, ◌<◌, ◌≤◌, Bool, true, false, cond, List, [], ◌∷◌, reverse, Some, None, length, get_or, refl, sym, ap, ◌∙◌, arith}
use Rattle.std.specs.List.{find, range_with_len}
use Rattle.std.specs.Option.{option_or}
use Rattle.std.proofs.lemmas.List.{reverse-append}
use Rattle.std.proofs.lemmas.List.Folds.{find-append}
use Rattle.std.proofs.lemmas.List.FromFn.{length-range_with_len, get_or-range_with_len}

module _ {X : Type 0} (p : X → Bool) where
  pub first_at : (xs : List X) (k : ℕ) (d : X) → k < length xs → p (get_or xs k d) ≡ true → ((j : ℕ) → j < k → p (get_or xs j d) ≡ false) → find p xs ≡ Some (get_or xs k d)
  first_at [] k d l at before = absurd (omega arith)
  first_at (x ∷ xs) zero d l at before = rw at refl
  first_at (x ∷ xs) (suc k) d l at before = rw (before 0 (omega arith)) (first_at xs k d (omega arith) at (λ j lt. before (suc j) (omega arith)))

  pub none_at : (xs : List X) (d : X) → ((j : ℕ) → j < length xs → p (get_or xs j d) ≡ false) → find p xs ≡ None
  none_at [] d fails = refl
  none_at (x ∷ xs) d fails = rw (fails 0 (omega arith)) (none_at xs d (λ j lt. fails (suc j) (omega arith)))

  by_rest : (x : X) (xs : List X) → find p (reverse (x ∷ xs)) ≡ option_or (find p (reverse xs)) (cond (p x) (Some x) None)
  by_rest x xs = ap (find p) (reverse-append (x ∷ []) xs) ∙ find-append p (reverse xs) (x ∷ [])

  pub none_at_all : (xs : List X) (d : X) → ((j : ℕ) → j < length xs → p (get_or xs j d) ≡ false) → find p (reverse xs) ≡ None
  none_at_all [] d fails = refl
  none_at_all (x ∷ xs) d fails = by_rest x xs ∙ rw (none_at_all xs d (λ j lt. fails (suc j) (omega arith)), fails 0 (omega arith)) refl

  pub last_at : (xs : List X) (k : ℕ) (d : X) → k < length xs → p (get_or xs k d) ≡ true → ((j : ℕ) → k < j → j < length xs → p (get_or xs j d) ≡ false) → find p (reverse xs) ≡ Some (get_or xs k d)
  last_at [] k d l at later = absurd (omega arith)
  last_at (x ∷ xs) zero d l at later = by_rest x xs ∙ rw (none_at_all xs d (λ j lt. later (suc j) (omega arith) (omega arith)), at) refl
  last_at (x ∷ xs) (suc k) d l at later = by_rest x xs ∙ rw (last_at xs k d (omega arith) at (λ j lt lj. later (suc j) (omega arith) (omega arith))) refl

-- among the n numbers from a on
module _ (p : ℕ → Bool) (a n : ℕ) where
  at_offset : (k : ℕ) → k < n → get_or (range_with_len a n) k 0 ≡ a + k
  at_offset k l = get_or-range_with_len a n k 0 l

  pub least_in : (i : ℕ) → a ≤ i → i < a + n → p i ≡ true → ((j : ℕ) → a ≤ j → j < i → p j ≡ false) → find p (range_with_len a n) ≡ Some i
  least_in i low high at before =
      let here : get_or (range_with_len a n) (i - a) 0 ≡ i = omega (arith, at_offset (i - a) (omega arith)) in
      first_at p (range_with_len a n) (i - a) 0 (omega (arith, length-range_with_len a n)) (ap p here ∙ at) (λ j lt. ap p (at_offset j (omega arith)) ∙ before (a + j) (omega arith) (omega arith)) ∙ ap Some here

  pub none_in : ((j : ℕ) → a ≤ j → j < a + n → p j ≡ false) → find p (range_with_len a n) ≡ None
  none_in fails =
      none_at p (range_with_len a n) 0 (λ j lt. let l : j < n = omega (arith, lt, length-range_with_len a n) in ap p (at_offset j l) ∙ fails (a + j) (omega arith) (omega arith))

  pub greatest_in : (i : ℕ) → a ≤ i → i < a + n → p i ≡ true → ((j : ℕ) → i < j → j < a + n → p j ≡ false) → find p (reverse (range_with_len a n)) ≡ Some i
  greatest_in i low high at later =
      let here : get_or (range_with_len a n) (i - a) 0 ≡ i = omega (arith, at_offset (i - a) (omega arith)) in
      last_at p (range_with_len a n) (i - a) 0 (omega (arith, length-range_with_len a n)) (ap p here ∙ at) (λ j lt lj. let l : j < n = omega (arith, lj, length-range_with_len a n) in ap p (at_offset j l) ∙ later (a + j) (omega arith) (omega arith)) ∙ ap Some here

  pub none_in_all : ((j : ℕ) → a ≤ j → j < a + n → p j ≡ false) → find p (reverse (range_with_len a n)) ≡ None
  none_in_all fails =
      none_at_all p (range_with_len a n) 0 (λ j lt. let l : j < n = omega (arith, lt, length-range_with_len a n) in ap p (at_offset j l) ∙ fails (a + j) (omega arith) (omega arith))

-- the same where the tests are the same there
module _ (p q : ℕ → Bool) where
  pub find_same : (a n : ℕ) → ((j : ℕ) → a ≤ j → j < a + n → p j ≡ q j) → find p (range_with_len a n) ≡ find q (range_with_len a n)
  find_same a zero same = refl
  find_same a (suc n) same = rw (same a (omega arith) (omega arith), find_same (a + 1) n (λ j l u. same j (omega arith) (omega arith))) refl

  pub find_last_same : (a n : ℕ) → ((j : ℕ) → a ≤ j → j < a + n → p j ≡ q j) → find p (reverse (range_with_len a n)) ≡ find q (reverse (range_with_len a n))
  find_last_same a zero same = refl
  find_last_same a (suc n) same =
      by_rest p a (range_with_len (a + 1) n) ∙ rw (same a (omega arith) (omega arith), find_last_same (a + 1) n (λ j l u. same j (omega arith) (omega arith))) (sym (by_rest q a (range_with_len (a + 1) n)))
