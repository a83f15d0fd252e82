-- Each number that a draft reads is among the constants.
use Rattle.std.proofs.Common.{◌≡◌, ℕ, zero, suc, ◌<◌, Bool, true, false, cond, ◌||◌, ◌==◌, List, [], ◌∷◌, ◌++◌, length, get_or, refl, arith}
use Rattle.std.specs.List.{flat_map, list_any, AllByRecursion}
use Rattle.std.proofs.lemmas.Bool.{or_right, eq-eqb, false≢true}
use Rattle.redn_segment.specs.declared.types.Draft.{Draft}
use Rattle.redn_segment.specs.Building.{drafts_of}
use Rattle.redn_emit.specs.Layout.{Plain, number_read, numbers_read, with_new, each_once}
use Rattle.redn_emit.specs.Placed.{constants_of}
use Rattle.redn_proof_layout.specs.Layouts.{no_ring}

abbrev pub stands_in : List ℕ → ℕ → Bool
stands_in cs v = list_any (λ (m : ℕ). v == m) cs

in_front : (v : ℕ) (xs ys : List ℕ) → stands_in xs v ≡ true → stands_in (xs ++ ys) v ≡ true
in_front v [] ys h = absurd (false≢true h)
in_front v (x ∷ xs) ys h = by_test (v == x) h (λ e. in_front v xs ys e)
  where
    by_test : (b : Bool) → (b || stands_in xs v) ≡ true → (stands_in xs v ≡ true → stands_in (xs ++ ys) v ≡ true) → (b || stands_in (xs ++ ys) v) ≡ true
    by_test true e f = refl
    by_test false e f = f e

at_end : (v : ℕ) (xs : List ℕ) → stands_in (xs ++ v ∷ []) v ≡ true
at_end v [] = let same = eq-eqb v v refl in rw same refl
at_end v (x ∷ xs) = or_right (v == x) (stands_in (xs ++ v ∷ []) v) (at_end v xs)

seen_new : (seen : List ℕ) (n v : ℕ) → stands_in seen v ≡ true → stands_in (with_new seen n) v ≡ true
seen_new seen n v h = by_test (stands_in seen n)
  where
    by_test : (b : Bool) → stands_in (cond b seen (seen ++ n ∷ [])) v ≡ true
    by_test true = h
    by_test false = in_front v seen (n ∷ []) h

new_seen : (seen : List ℕ) (n : ℕ) → stands_in (with_new seen n) n ≡ true
new_seen seen n = by_test (stands_in seen n) refl
  where
    by_test : (b : Bool) → stands_in seen n ≡ b → stands_in (cond b seen (seen ++ n ∷ [])) n ≡ true
    by_test true e = e
    by_test false e = at_end n seen

seen_once : (seen xs : List ℕ) (v : ℕ) → stands_in seen v ≡ true → stands_in (each_once seen xs) v ≡ true
seen_once seen [] v h = h
seen_once seen (x ∷ xs) v h = seen_once (with_new seen x) xs v (seen_new seen x v h)

all_once : (seen xs : List ℕ) → AllByRecursion (λ (v : ℕ). stands_in (each_once seen xs) v ≡ true) xs
all_once seen [] = tt
all_once seen (x ∷ xs) = (seen_once (with_new seen x) xs x (new_seen seen x), all_once (with_new seen x) xs)

split_all : (P : ℕ → Type 0) (xs ys : List ℕ) → AllByRecursion P (xs ++ ys) → AllByRecursion P xs × AllByRecursion P ys
split_all P [] ys h = (tt, h)
split_all P (x ∷ xs) ys h = let rest = split_all P xs ys h.1 in ((h.0, rest.0), rest.1)

-- so for the drafts of each ring
abbrev pub Reads : List ℕ → Draft → Type 0
Reads cs d = AllByRecursion (λ (v : ℕ). stands_in cs v ≡ true) (number_read d.local)

draft_reads : (cs : List ℕ) (ds : List Draft) → AllByRecursion (λ (v : ℕ). stands_in cs v ≡ true) (flat_map (λ (d : Draft). number_read d.local) ds) → AllByRecursion (Reads cs) ds
draft_reads cs [] h = tt
draft_reads cs (d ∷ ds) h = let parts = split_all _ (number_read d.local) (flat_map (λ (e : Draft). number_read e.local) ds) h in (parts.0, draft_reads cs ds parts.1)

ring_reads : (cs : List ℕ) (rings : List Plain) → AllByRecursion (λ (v : ℕ). stands_in cs v ≡ true) (numbers_read rings) → (k : ℕ) → k < length rings → AllByRecursion (Reads cs) (drafts_of (get_or rings k no_ring).segments)
ring_reads cs [] h k l = absurd (omega arith)
ring_reads cs (r ∷ rs) h zero l = draft_reads cs (drafts_of r.segments) (split_all _ (flat_map (λ (d : Draft). number_read d.local) (drafts_of r.segments)) (numbers_read rs) h).0
ring_reads cs (r ∷ rs) h (suc k) l = ring_reads cs rs (split_all _ (flat_map (λ (d : Draft). number_read d.local) (drafts_of r.segments)) (numbers_read rs) h).1 k (omega (arith, l))

pub all_read : (rings : List Plain) (k : ℕ) → k < length rings → AllByRecursion (Reads (constants_of rings)) (drafts_of (get_or rings k no_ring).segments)
all_read rings k l = ring_reads (constants_of rings) rings (all_once [] (numbers_read rings)) k l
