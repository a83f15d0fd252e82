-- Places in lists: where each ring of some begins, and where a number stands.
use Rattle.std.proofs.Common.{◌≡◌, ◌≢◌, ℕ, zero, suc, ◌+◌, ◌<◌, ◌≤◌, Bool, true, false, ◌==◌, ◌||◌, cond, List, [], ◌∷◌, length, map, take, get_or, refl, sym, ap, ◌∙◌, arith}
use Rattle.std.specs.Prelude.{not}
use Rattle.std.specs.List.{list_any, position_or_len}
use Rattle.std.proofs.lemmas.Bool.{false≢true, eqb-true}
use Rattle.std.proofs.lemmas.List.Sums.{sum_by-cons}
use Rattle.redn_emit.specs.Layout.{Plain, ring_slots, code_slots}

-- numbers that only grow
abbrev pub Rises : List ℕ → Type 0
Rises [] = Unit {0}
Rises (a ∷ []) = Unit {0}
Rises (a ∷ b ∷ rest) = (a ≤ b) × Rises (b ∷ rest)

rises_first : (a : ℕ) (xs : List ℕ) → Rises (a ∷ xs) → (j : ℕ) → j < length (a ∷ xs) → a ≤ get_or (a ∷ xs) j 0
rises_first a xs h zero l = omega arith
rises_first a [] h (suc j) l = absurd (omega arith)
rises_first a (b ∷ xs) h (suc j) l = let low = h.0 in let rest = rises_first b xs h.1 j (omega (arith, l)) in omega (arith, low, rest)

rises_tail : (a : ℕ) (xs : List ℕ) → Rises (a ∷ xs) → Rises xs
rises_tail a [] h = tt
rises_tail a (b ∷ xs) h = h.1

pub rises_at : (xs : List ℕ) → Rises xs → (i j : ℕ) → i ≤ j → j < length xs → get_or xs i 0 ≤ get_or xs j 0
rises_at [] h i j l m = absurd (omega arith)
rises_at (a ∷ xs) h zero j l m = rises_first a xs h j m
rises_at (a ∷ xs) h (suc i) zero l m = absurd (omega arith)
rises_at (a ∷ xs) h (suc i) (suc j) l m = rises_at xs (rises_tail a xs h) i j (omega (arith, l)) (omega (arith, m))

-- the slots before a ring, and its own, are among all
pub ring_room : (rings : List Plain) (k : ℕ) → k < length rings → code_slots (take k rings) + get_or (map ring_slots rings) k 0 ≤ code_slots rings
ring_room [] k l = absurd (omega arith)
ring_room (r ∷ rs) zero l = let all = sum_by-cons ring_slots r rs in omega (arith, all)
ring_room (r ∷ rs) (suc k) l =
    let rest = ring_room rs k (omega (arith, l)) in
    let all = sum_by-cons ring_slots r rs in
    let front = sum_by-cons ring_slots r (take k rs) in
    omega (arith, rest, all, front)

pub ring_before : (rings : List Plain) (i k : ℕ) → i < k → k < length rings → code_slots (take i rings) + get_or (map ring_slots rings) i 0 ≤ code_slots (take k rings)
ring_before [] i k l m = absurd (omega arith)
ring_before (r ∷ rs) i zero l m = absurd (omega arith)
ring_before (r ∷ rs) zero (suc k) l m = let front = sum_by-cons ring_slots r (take k rs) in omega (arith, front)
ring_before (r ∷ rs) (suc i) (suc k) l m =
    let rest = ring_before rs i k (omega (arith, l)) (omega (arith, m)) in
    let one = sum_by-cons ring_slots r (take i rs) in
    let other = sum_by-cons ring_slots r (take k rs) in
    omega (arith, rest, one, other)

-- a number that stands in a list has a place there, and no other one has it
pub place_below : (n : ℕ) (xs : List ℕ) → list_any (λ (m : ℕ). n == m) xs ≡ true → position_or_len (λ (m : ℕ). n == m) xs < length xs
place_below n [] h = absurd (false≢true h)
place_below n (x ∷ xs) h = by_test (n == x) h (λ e. place_below n xs e)
  where
    by_test : (b : Bool) → (b || list_any (λ (m : ℕ). n == m) xs) ≡ true → (list_any (λ (m : ℕ). n == m) xs ≡ true → position_or_len (λ (m : ℕ). n == m) xs < length xs) → cond (not b) (1 + position_or_len (λ (m : ℕ). n == m) xs) 0 < suc (length xs)
    by_test true e f = omega arith
    by_test false e f = let rest = f e in omega (arith, rest)

pub place_holds : (n : ℕ) (xs : List ℕ) → list_any (λ (m : ℕ). n == m) xs ≡ true → get_or xs (position_or_len (λ (m : ℕ). n == m) xs) 0 ≡ n
place_holds n [] h = absurd (false≢true h)
place_holds n (x ∷ xs) h = by_test (n == x) refl h (λ e. place_holds n xs e)
  where
    by_test : (b : Bool) → (n == x) ≡ b → (b || list_any (λ (m : ℕ). n == m) xs) ≡ true → (list_any (λ (m : ℕ). n == m) xs ≡ true → get_or xs (position_or_len (λ (m : ℕ). n == m) xs) 0 ≡ n) → get_or (x ∷ xs) (cond (not b) (1 + position_or_len (λ (m : ℕ). n == m) xs) 0) 0 ≡ n
    by_test true e f g = sym (eqb-true n x e)
    by_test false e f g =
        let next : 1 + position_or_len (λ (m : ℕ). n == m) xs ≡ suc (position_or_len (λ (m : ℕ). n == m) xs) = omega arith in
        ap (λ (k : ℕ). get_or (x ∷ xs) k 0) next ∙ g f

pub places_differ : (m n : ℕ) (xs : List ℕ) → list_any (λ (k : ℕ). m == k) xs ≡ true → list_any (λ (k : ℕ). n == k) xs ≡ true → m ≢ n → position_or_len (λ (k : ℕ). m == k) xs ≢ position_or_len (λ (k : ℕ). n == k) xs
places_differ m n xs h g ne e = ne (sym (place_holds m xs h) ∙ ap (λ (k : ℕ). get_or xs k 0) e ∙ place_holds n xs g)
