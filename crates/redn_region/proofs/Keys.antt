-- The regions that are found by key while rows are added.
use Rattle.std.proofs.Common.{◌≡◌, ℕ, zero, suc, ◌+◌, ◌<◌, ◌≤◌, Bool, true, false, ◌==◌, List, [], ◌∷◌, ◌++◌, Option, Some, None, cond, length, take, get_or, refl, sym, ap, subst, ◌∙◌, add-one, arith}
use Rattle.std.specs.Prelude.{IfSome, is_some, option_and_then}
use Rattle.std.specs.Ordering.{nat_cmp, is_eq}
use Rattle.std.specs.Option.{option_or}
use Rattle.std.specs.List.{All, find}
use Rattle.std.proofs.Math.Seq.{take-suc}
use Rattle.std.proofs.lemmas.Bool.{eqb-true}
use Rattle.std.proofs.lemmas.Option.{slice_get_past, slice_get-get_or}
use Rattle.std.proofs.lemmas.Bool.Decides.{nat_tests}
use Rattle.std.proofs.lemmas.List.Folds.{find-append}
use Rattle.redn_words.specs.declared.types.Region.{Region}
use Rattle.redn_words.specs.Access.{region_of}
use Rattle.redn_words.specs.Access.{EndsBy}
use Rattle.redn_region.specs.Rows.{repeats}

of_either : (P : Region → Type 0) (b : Bool) (r : Region) (o : Option Region) → P r → IfSome o P → IfSome (cond b (Some r) o) P
of_either P true r o h k = h
of_either P false r o h k = k

-- what holds of each region holds of the one that is found
pub found_ends : (size key : ℕ) (rows : List Region) → EndsBy size rows → IfSome (region_of rows key) (λ r. r.base + r.len ≤ size)
found_ends size key [] h = tt
found_ends size key (r ∷ rows) h =
    of_either (λ (x : Region). x.base + x.len ≤ size) (r.key == key) r (region_of rows key) (h 0 r (omega arith)) (found_ends size key rows (λ k d l. h (suc k) d (omega arith)))

-- the order of keys tells them apart
same_key : (k q : ℕ) → is_eq (nat_cmp k q) ≡ (k == q)
same_key k q = grind (arith, nat_tests)

either_one : (b : Bool) (found : Option Region) (row : Region) → (b ≡ true → found ≡ None) → cond b (Some row) found ≡ option_or found (cond b (Some row) None)
either_one true found row h = rw (h refl) refl
either_one false None row h = refl
either_one false (Some r) row h = refl

-- one more row is found by its key, and each other key as before
pub finds_more : (old new : ℕ → Option Region) (rows : List Region) (i : ℕ) (d : Region) → ((k : ℕ) → old k ≡ region_of (take i rows) k) → i < length rows → old (get_or rows i d).key ≡ None → ((k : ℕ) → new k ≡ cond (is_eq (nat_cmp (get_or rows i d).key k)) (Some (get_or rows i d)) (old k)) → (k : ℕ) → new k ≡ region_of (take (i + 1) rows) k
finds_more old new rows i d h l none updates k =
    let row : Region = get_or rows i d in
    let cut : take (i + 1) rows ≡ take i rows ++ row ∷ [] = ap (λ (n : ℕ). take n rows) (add-one i) ∙ take-suc rows i d l in
    let parts : region_of (take (i + 1) rows) k ≡ option_or (old k) (cond (row.key == k) (Some row) None) =
    ap (λ (xs : List Region). region_of xs k) cut ∙ find-append (λ (r : Region). r.key == k) (take i rows) (row ∷ []) ∙ ap (λ (o : Option Region). option_or o (cond (row.key == k) (Some row) None)) (sym (h k)) in
    updates k ∙ ap (λ (b : Bool). cond b (Some row) (old k)) (same_key row.key k) ∙ either_one (row.key == k) (old k) row (λ t. let same : row.key ≡ k = eqb-true row.key k t in ap old (sym same) ∙ none) ∙ sym parts

-- whether a row repeats a key is whether its key was found
pub repeats_found : (rows : List Region) (i : ℕ) (d : Region) → i < length rows → repeats rows i ≡ is_some (region_of (take i rows) (get_or rows i d).key)
repeats_found rows i d l = ap (λ (o : Option Region). is_some (option_and_then (λ (r : Region). region_of (take i rows) r.key) o)) (slice_get-get_or rows i d l)

-- past the end nothing is repeated
pub repeats_past : (rows : List Region) (i : ℕ) → length rows ≤ i → repeats rows i ≡ false
repeats_past rows i h = ap (λ (o : Option Region). is_some (option_and_then (λ (r : Region). region_of (take i rows) r.key) o)) (slice_get_past rows i h)

pub none_found : (o : Option Region) → is_some o ≡ false → o ≡ None
none_found None e = refl
none_found (Some r) e = absurd (cc)
