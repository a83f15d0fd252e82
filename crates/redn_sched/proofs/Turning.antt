-- What is looked for from a cursor on, and then below it.
use Rattle.std.proofs.Common.{◌≡◌, ℕ, zero, suc, ◌+◌, ◌-◌, ◌<◌, ◌≤◌, Bool, true, false, cond, ◌&&◌, ◌||◌, List, [], ◌∷◌, ◌++◌, Some, None, refl, sym, ap, ◌∙◌, inl, inr, arith}
use Rattle.std.specs.Prelude.{nat_le, nat_lt, is_some}
use Rattle.std.specs.List.{find, filter, list_any, range_with_len}
use Rattle.std.proofs.lemmas.Bool.{cases_lt, le-leb, lt-leb, lt-ltb, le-ltb}
use Rattle.std.proofs.lemmas.List.Folds.{list_any-append}
use Rattle.redn_sched.specs.MadeSchedules.{cyclically}

module _ {X : Type 0} (p : X → Bool) where
  -- what is found in a filtered list
  pub find_filtered : (f : X → Bool) (xs : List X) → find p (filter f xs) ≡ find (λ x. f x && p x) xs
  find_filtered f [] = refl
  find_filtered f (x ∷ xs) =
      elim (f x) as (λ b. find p (cond b (x ∷ filter f xs) (filter f xs)) ≡ cond (b && p x) (Some x) (find (λ x. f x && p x) xs)) [
        | true ↦ ap (cond (p x) (Some x)) (find_filtered f xs)
        | false ↦ find_filtered f xs
      ]

  -- what is found in the first of two lists, and what is found in the second
  pub found_first : (xs ys : List X) (x : X) → find p xs ≡ Some x → find p (xs ++ ys) ≡ Some x
  found_first [] ys x e = absurd (cc)
  found_first (y ∷ xs) ys x e =
      elim (p y) as (λ b. cond b (Some y) (find p xs) ≡ Some x → cond b (Some y) (find p (xs ++ ys)) ≡ Some x) [ true ↦ λ h. h | false ↦ λ h. found_first xs ys x h ] e

  pub found_later : (xs ys : List X) → find p xs ≡ None → find p (xs ++ ys) ≡ find p ys
  found_later [] ys e = refl
  found_later (y ∷ xs) ys e =
      elim (p y) as (λ b. cond b (Some y) (find p xs) ≡ None → cond b (Some y) (find p (xs ++ ys)) ≡ find p ys) [ true ↦ λ h. absurd (cc) | false ↦ λ h. found_later xs ys h ] e

  -- something is found where there is something
  pub some_found : (xs : List X) → is_some (find p xs) ≡ list_any p xs
  some_found [] = refl
  some_found (x ∷ xs) = elim (p x) as (λ b. is_some (cond b (Some x) (find p xs)) ≡ (b || list_any p xs)) [ true ↦ refl | false ↦ some_found xs ]

-- numbers one after the other, in two parts
pub range_split : (a k n m j : ℕ) → k ≡ n + m → a + n ≡ j → range_with_len a k ≡ range_with_len a n ++ range_with_len j m
range_split a k zero m j e at = let same : k ≡ m = omega (arith, e) in let here : a ≡ j = omega (arith, at) in rw (same, here) refl
range_split a zero (suc n) m j e at = absurd (omega (arith, e))
range_split a (suc k) (suc n) m j e at = ap (λ (xs : List ℕ). a ∷ xs) (range_split (a + 1) k n m j (omega (arith, e)) (omega (arith, at)))

module _ (p : ℕ → Bool) (k : ℕ) where
  pub found_on : (xs : List ℕ) (x : ℕ) → find (λ n. nat_le k n && p n) xs ≡ Some x → find p (cyclically k xs) ≡ Some x
  found_on xs x e = found_first p (filter (nat_le k) xs) (filter (λ (n : ℕ). nat_lt n k) xs) x (find_filtered p (nat_le k) xs ∙ e)

  pub found_below : (xs : List ℕ) → find (λ n. nat_le k n && p n) xs ≡ None → find p (cyclically k xs) ≡ find (λ n. nat_lt n k && p n) xs
  found_below xs e =
      found_later p (filter (nat_le k) xs) (filter (λ (n : ℕ). nat_lt n k) xs) (find_filtered p (nat_le k) xs ∙ e) ∙ find_filtered p (λ (n : ℕ). nat_lt n k) xs

  -- all numbers of a list are looked at
  either : (xs : List ℕ) → (list_any p (filter (nat_le k) xs) || list_any p (filter (λ (n : ℕ). nat_lt n k) xs)) ≡ list_any p xs
  either [] = refl
  either (x ∷ xs) =
      elim (cases_lt x k) [
        | inl l ↦ rw (lt-leb k x l, lt-ltb x k l) (swapped (list_any p (filter (nat_le k) xs)) (p x) _ ∙ ap (λ (b : Bool). p x || b) (either xs))
        | inr g ↦ rw (le-leb k x g, le-ltb x k g) (grouped (p x) (list_any p (filter (nat_le k) xs)) _ ∙ ap (λ (b : Bool). p x || b) (either xs))
      ]
    where
      swapped : (a b c : Bool) → (a || (b || c)) ≡ (b || (a || c))
      swapped true true c = refl
      swapped true false c = refl
      swapped false b c = refl

      grouped : (a b c : Bool) → ((a || b) || c) ≡ (a || (b || c))
      grouped true b c = refl
      grouped false b c = refl

  pub some_acts : (xs : List ℕ) → is_some (find p (cyclically k xs)) ≡ list_any p xs
  some_acts xs = some_found p (cyclically k xs) ∙ list_any-append p (filter (nat_le k) xs) (filter (λ (n : ℕ). nat_lt n k) xs) ∙ either xs

-- the numbers of a range from a cursor on, and those below it
module _ (k : ℕ) where
  all_on : (a n : ℕ) → k ≤ a → filter (nat_le k) (range_with_len a n) ≡ range_with_len a n
  all_on a zero l = refl
  all_on a (suc n) l = rw (le-leb k a l) (ap (λ (xs : List ℕ). a ∷ xs) (all_on (a + 1) n (omega (arith, l))))

  none_below : (a n : ℕ) → k ≤ a → filter (λ (x : ℕ). nat_lt x k) (range_with_len a n) ≡ []
  none_below a zero l = refl
  none_below a (suc n) l = rw (le-ltb a k l) (none_below (a + 1) n (omega (arith, l)))

  range_on : (a n : ℕ) → a ≤ k → k ≤ a + n → filter (nat_le k) (range_with_len a n) ≡ range_with_len k (a + n - k)
  range_on a zero l h = let none : a + 0 - k ≡ 0 = omega (arith, l, h) in rw none refl
  range_on a (suc n) l h =
      elim (cases_lt a k) [
        | inl lt ↦ let same : a + suc n - k ≡ a + 1 + n - k = omega arith in rw (lt-leb k a lt, same) (range_on (a + 1) n (omega (arith, lt)) (omega (arith, h)))
        | inr ge ↦
            let here : a ≡ k = omega (arith, l, ge) in
            let rest : a + suc n - k ≡ suc n = omega (arith, here) in
            all_on a (suc n) ge ∙ ap (λ (x : ℕ). range_with_len x (suc n)) here ∙ ap (range_with_len k) (sym rest)
      ]

  range_below : (a n : ℕ) → a ≤ k → k ≤ a + n → filter (λ (x : ℕ). nat_lt x k) (range_with_len a n) ≡ range_with_len a (k - a)
  range_below a zero l h = let none : k - a ≡ 0 = omega (arith, l, h) in rw none refl
  range_below a (suc n) l h =
      elim (cases_lt a k) [
        | inl lt ↦ let some : k - a ≡ suc (k - (a + 1)) = omega (arith, lt) in rw (lt-ltb a k lt, some) (ap (λ (xs : List ℕ). a ∷ xs) (range_below (a + 1) n (omega (arith, lt)) (omega (arith, h))))
        | inr ge ↦ let none : k - a ≡ 0 = omega (arith, ge) in rw none (none_below a (suc n) ge)
      ]

range_turned : (k n : ℕ) → k ≤ n → cyclically k (range_with_len 0 n) ≡ range_with_len k (n - k) ++ range_with_len 0 (k - 0)
range_turned k n l =
    let on = range_on k 0 n (omega arith) (omega (arith, l)) in
    let below = range_below k 0 n (omega arith) (omega (arith, l)) in
    let same : 0 + n - k ≡ n - k = omega arith in
    rw (on, below) (ap (λ (m : ℕ). range_with_len k m ++ range_with_len 0 (k - 0)) same)

module _ (p : ℕ → Bool) where
  pub turned_on : (k n x : ℕ) → k ≤ n → find p (range_with_len k (n - k)) ≡ Some x → find p (cyclically k (range_with_len 0 n)) ≡ Some x
  turned_on k n x l e = rw (range_turned k n l) (found_first p (range_with_len k (n - k)) (range_with_len 0 (k - 0)) x e)

  pub turned_below : (k n : ℕ) → k ≤ n → find p (range_with_len k (n - k)) ≡ None → find p (cyclically k (range_with_len 0 n)) ≡ find p (range_with_len 0 (k - 0))
  turned_below k n l e = rw (range_turned k n l) (found_later p (range_with_len k (n - k)) (range_with_len 0 (k - 0)) e)

  -- the first one of a range is found
  found_here : (a m : ℕ) → 0 < m → p a ≡ true → find p (range_with_len a m) ≡ Some a
  found_here a zero l e = absurd (omega (arith, l))
  found_here a (suc m) l e = rw e refl

  pub found_at : (from to x : ℕ) → from ≤ x → x < to → find p (range_with_len from (x - from)) ≡ None → p x ≡ true → find p (range_with_len from (to - from)) ≡ Some x
  found_at from to x low high none e =
      rw (range_split from (to - from) (x - from) (to - x) x (omega (arith, low, high)) (omega (arith, low)))
      (found_later p (range_with_len from (x - from)) (range_with_len x (to - x)) none ∙ found_here x (to - x) (omega (arith, high)) e)

  pub none_with : (from x : ℕ) → from ≤ x → find p (range_with_len from (x - from)) ≡ None → p x ≡ false → find p (range_with_len from (x + 1 - from)) ≡ None
  none_with from x low none e =
      rw (range_split from (x + 1 - from) (x - from) 1 x (omega (arith, low)) (omega (arith, low)))
      (found_later p (range_with_len from (x - from)) (range_with_len x 1) none ∙ rw e refl)
