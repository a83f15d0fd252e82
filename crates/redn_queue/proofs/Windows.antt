-- Held copies in a ring of places answer like a finite map.
use Rattle.std.proofs.Common.{◌≡◌, ℕ, zero, suc, ◌+◌, ◌-◌, ◌<◌, ◌≤◌, true, false, cond, eqb, List, [], ◌∷◌, ◌++◌, Option, Some, None, length, set, drop, take, replicate, get_or, IsSome, is_some, refl, sym, ap, ◌∙◌, arith}
use Rattle.std.proofs.lemmas.Bool.{eqb-true, eq-eqb, false≢true}
use Rattle.std.proofs.lemmas.Bool.Decides.{nat_tests}
use Rattle.std.specs.Ordering.{nat_cmp}
use Rattle.std.specs.Cmp.{nat_cmp_total}
use Rattle.std.specs.FinMap.{empty, get-empty, find, get, insert, remove, get-from_entries}
use Rattle.redn_words.proofs.Copies.{eq_is, get_insert, get_remove, same_copies}
use Rattle.redn_queue.specs.Pools.{window, copies_in}

abbrev Copy : Type 0
Copy = List ℕ

-- the copy of an index, in places whose first one is that of index h
abbrev at_window : ℕ → ℕ → List (Option Copy) → Option Copy
at_window q h [] = None
at_window q h (x ∷ xs) = cond (eqb q h) x (at_window q (h + 1) xs)

at_window_below : (q h : ℕ) (xs : List (Option Copy)) → q < h → at_window q h xs ≡ None
at_window_below q h [] l = refl
at_window_below q h (x ∷ xs) l =
    let other : eqb q h ≡ false = grind (arith, nat_tests) in
    rw other (at_window_below q (h + 1) xs (omega arith))

find_window : (q h : ℕ) (xs : List (Option Copy)) → find nat_cmp q (window h xs) ≡ at_window q h xs
find_window q h [] = refl
find_window q h (None ∷ xs) =
    find_window q (h + 1) xs ∙
    elim (eqb q h) as (λ b. eqb q h ≡ b → at_window q (h + 1) xs ≡ cond b None (at_window q (h + 1) xs)) [
      | true ↦ λ e. at_window_below q (h + 1) xs (omega (arith, eqb-true q h e))
      | false ↦ λ e. refl
    ] refl
find_window q h (Some c ∷ xs) =
    ap (λ b. cond b (Some c) (find nat_cmp q (window (h + 1) xs))) (eq_is q h) ∙ ap (cond (eqb q h) (Some c)) (find_window q (h + 1) xs)

pub get_copies : (h : ℕ) (xs : List (Option Copy)) (q : ℕ) → get (copies_in h xs) q ≡ at_window q h xs
unfolding copies_in
get_copies h xs q = get-from_entries nat_cmp_total (window h xs) q ∙ find_window q h xs

-- a write to place k
at_window_set : (q h : ℕ) (xs : List (Option Copy)) (k : ℕ) (c : Copy) → k < length xs → at_window q h (set xs k (Some c)) ≡ cond (eqb q (h + k)) (Some c) (at_window q h xs)
at_window_set q h [] k c l = absurd (omega arith)
at_window_set q h (x ∷ xs) zero c l =
    let e : h + 0 ≡ h = omega arith in
    rw e (elim (eqb q h) as (λ b. cond b (Some c) (at_window q (h + 1) xs) ≡ cond b (Some c) (cond b x (at_window q (h + 1) xs))) [ true ↦ refl | false ↦ refl ])
at_window_set q h (x ∷ xs) (suc k) c l =
    let e : h + 1 + k ≡ h + suc k = omega arith in
    let rest : at_window q (h + 1) (set xs k (Some c)) ≡ cond (eqb q (h + suc k)) (Some c) (at_window q (h + 1) xs) =
    at_window_set q (h + 1) xs k c (omega arith) ∙ ap (λ n. cond (eqb q n) (Some c) (at_window q (h + 1) xs)) e in
    elim (eqb q h) as (λ b. eqb q h ≡ b → cond b x (at_window q (h + 1) (set xs k (Some c))) ≡ cond (eqb q (h + suc k)) (Some c) (cond b x (at_window q (h + 1) xs))) [
      | true ↦ λ t. let at : q ≡ h = eqb-true q h t in let other : eqb q (h + suc k) ≡ false = grind (arith, nat_tests) in rw other refl
      | false ↦ λ t. rest
    ] refl

-- places move down by one, and the last one is empty
at_window_push : (q h : ℕ) (xs : List (Option Copy)) → at_window q h (xs ++ None ∷ []) ≡ at_window q h xs
at_window_push q h [] = elim (eqb q h) as (λ b. cond b None (at_window q (h + 1) []) ≡ None) [ true ↦ refl | false ↦ refl ]
at_window_push q h (x ∷ xs) = ap (cond (eqb q h) x) (at_window_push q (h + 1) xs)

pub insert_copies : (h : ℕ) (xs : List (Option Copy)) (i : ℕ) (c : Copy) → h ≤ i → i - h < length xs → copies_in h (set xs (i - h) (Some c)) ≡ insert (copies_in h xs) i c
insert_copies h xs i c le l =
    let e : h + (i - h) ≡ i = omega arith in
    same_copies _ _ (λ q. get_copies h (set xs (i - h) (Some c)) q ∙ at_window_set q h xs (i - h) c l ∙ ap (λ n. cond (eqb q n) (Some c) (at_window q h xs)) e ∙ ap (cond (eqb q i) (Some c)) (sym (get_copies h xs q)) ∙ sym (get_insert (copies_in h xs) i c q))

pub remove_copies : (h : ℕ) (x : Option Copy) (xs : List (Option Copy)) → copies_in (h + 1) (xs ++ None ∷ []) ≡ remove (copies_in h (x ∷ xs)) h
remove_copies h x xs =
    same_copies _ _ (λ q.
    get_copies (h + 1) (xs ++ None ∷ []) q ∙ at_window_push q (h + 1) xs ∙
    elim (eqb q h) as (λ b. eqb q h ≡ b → at_window q (h + 1) xs ≡ cond b None (cond b x (at_window q (h + 1) xs))) [
      | true ↦ λ e. at_window_below q (h + 1) xs (omega (arith, eqb-true q h e))
      | false ↦ λ e. refl
    ] refl
    ∙ ap (cond (eqb q h) None) (sym (get_copies h (x ∷ xs) q)) ∙ sym (get_remove (copies_in h (x ∷ xs)) h q))

-- the copy of the first place
pub get_first : (h : ℕ) (x : Option Copy) (xs : List (Option Copy)) → get (copies_in h (x ∷ xs)) h ≡ x
get_first h x xs = get_copies h (x ∷ xs) h ∙ rw (eq-eqb h h refl) refl

-- as a queue takes the copy of its first place
pub taken_copies : (h : ℕ) (xs ys : List (Option Copy)) → zero < length xs → ys ≡ drop 1 (set xs 0 None) ++ take 1 (set xs 0 None) → copies_in (h + 1) ys ≡ remove (copies_in h xs) h
taken_copies h [] ys l e = absurd (omega arith)
taken_copies h (x ∷ xs) ys l e = ap (copies_in (h + 1)) e ∙ remove_copies h x xs

pub some_place : (h : ℕ) (xs : List (Option Copy)) → IsSome (get (copies_in h xs) h) → zero < length xs
some_place h [] s = let e : get (copies_in h []) h ≡ None = get_copies h [] h in absurd (false≢true (ap is_some (sym e) ∙ s))
some_place h (x ∷ xs) s = omega arith

-- a read of the first place
pub first_read : (h : ℕ) (xs : List (Option Copy)) (x : Option Copy) → zero < length xs → x ≡ get_or xs 0 x → x ≡ get (copies_in h xs) h
first_read h [] x l e = absurd (omega arith)
first_read h (y ∷ ys) x l e = e ∙ sym (get_first h y ys)

no_window : (h n : ℕ) → window h (replicate n None) ≡ []
no_window h zero = refl
no_window h (suc n) = no_window (h + 1) n

pub no_copies : (h n : ℕ) → copies_in h (replicate n None) ≡ empty
no_copies h n =
    same_copies _ _ (λ q. get_copies h (replicate n None) q ∙ sym (find_window q h (replicate n None)) ∙ ap (find nat_cmp q) (no_window h n) ∙ sym (get-empty nat_cmp q))

-- the copy of an index that has a place, and of one that hasn't
at_offset : (h k : ℕ) (xs : List (Option Copy)) (d : Option Copy) → k < length xs → at_window (h + k) h xs ≡ get_or xs k d
at_offset h k [] d l = absurd (omega arith)
at_offset h zero (x ∷ xs) d l = let same : eqb (h + 0) h ≡ true = grind (arith, nat_tests) in rw same refl
at_offset h (suc k) (x ∷ xs) d l =
    let other : eqb (h + suc k) h ≡ false = grind (arith, nat_tests) in
    let e : h + 1 + k ≡ h + suc k = omega arith in
    rw other (ap (λ n. at_window n (h + 1) xs) (sym e) ∙ at_offset (h + 1) k xs d (omega arith))

pub copy_at : (h : ℕ) (xs : List (Option Copy)) (q : ℕ) (d : Option Copy) → h ≤ q → q - h < length xs → get (copies_in h xs) q ≡ get_or xs (q - h) d
copy_at h xs q d le l =
    let e : h + (q - h) ≡ q = omega arith in
    get_copies h xs q ∙ ap (λ n. at_window n h xs) (sym e) ∙ at_offset h (q - h) xs d l

pub copy_below : (h : ℕ) (xs : List (Option Copy)) (q : ℕ) → q < h → get (copies_in h xs) q ≡ None
copy_below h xs q l = get_copies h xs q ∙ at_window_below q h xs l
