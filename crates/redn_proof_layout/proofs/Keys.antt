-- Rows are found by their keys.
use Rattle.std.proofs.Common.{◌≡◌, ℕ, zero, suc, ◌+◌, true, false, ◌==◌, List, [], ◌∷◌, ◌++◌, map, Some, sym, ap, ◌∙◌, arith}
use Rattle.std.specs.Prelude.{slice_get}
use Rattle.std.specs.List.{flat_map}
use Rattle.std.proofs.lemmas.Bool.{eq-eqb, ne_eqb}
use Rattle.redn_words.specs.declared.types.Region.{Region}
use Rattle.redn_words.specs.Access.{region_of}
use Rattle.redn_image.specs.Rules.{region_numbers}
use Rattle.redn_emit.proofs.RowRules.{KeysFrom}

-- an item of a list, at some place
abbrev pub Among : {X : Type 0} → X → List X → Type 0
Among x xs = (i : ℕ) × (slice_get xs i ≡ Some x)

pub among_tail : {X : Type 0} (x y : X) (xs : List X) → Among x xs → Among x (y ∷ xs)
among_tail x y xs h = (suc h.0, h.1)

pub among_front : {X : Type 0} (x : X) (xs ys : List X) → Among x xs → Among x (xs ++ ys)
among_front x [] ys h = absurd (let e = h.1 in cc)
among_front x (y ∷ xs) ys (zero, e) = (0, e)
among_front x (y ∷ xs) ys (suc i, e) = let rest = among_front x xs ys (i, e) in (suc rest.0, rest.1)

pub among_back : {X : Type 0} (x : X) (xs ys : List X) → Among x ys → Among x (xs ++ ys)
among_back x [] ys h = h
among_back x (y ∷ xs) ys h = let rest = among_back x xs ys h in (suc rest.0, rest.1)

pub among_flat : {X Y : Type 0} (f : X → List Y) (xs : List X) (i : ℕ) (x : X) (y : Y) → slice_get xs i ≡ Some x → Among y (f x) → Among y (flat_map f xs)
among_flat f [] i x y e h = absurd (cc)
among_flat f (z ∷ xs) zero x y e h =
    let same : z ≡ x = cc in among_front y (f z) (flat_map f xs) (rw same h)
among_flat f (z ∷ xs) (suc i) x y e h = among_back y (f z) (flat_map f xs) (among_flat f xs i x y e h)

-- keys count through the rows
key_at : (k : ℕ) (rows : List Region) → KeysFrom k (map region_numbers rows) → (i : ℕ) (r : Region) → slice_get rows i ≡ Some r → r.key ≡ k + i
key_at k [] keys i r e = absurd (cc)
key_at k (x ∷ rows) keys zero r e = let same : x ≡ r = cc in sym (ap (λ (y : Region). y.key) same) ∙ (keys.0 ∙ omega arith)
key_at k (x ∷ rows) keys (suc i) r e = let rest = key_at (suc k) rows keys.1 i r e in omega (arith, rest)

pub found_at : (k : ℕ) (rows : List Region) → KeysFrom k (map region_numbers rows) → (i : ℕ) (r : Region) → slice_get rows i ≡ Some r → region_of rows r.key ≡ Some r
found_at k [] keys i r e = absurd (cc)
found_at k (x ∷ rows) keys zero r e =
    let same : x ≡ r = cc in
    let here : (x.key == r.key) ≡ true = eq-eqb x.key r.key (ap (λ (y : Region). y.key) same) in
    rw here e
found_at k (x ∷ rows) keys (suc i) r e =
    let first : x.key ≡ k = keys.0 in
    let later = key_at (suc k) rows keys.1 i r e in
    let other : (x.key == r.key) ≡ false = ne_eqb x.key r.key (λ same. omega (arith, first, later, same)) in
    rw other (found_at (suc k) rows keys.1 i r e)

pub among_found : (k : ℕ) (rows : List Region) (r : Region) → KeysFrom k (map region_numbers rows) → Among r rows → region_of rows r.key ≡ Some r
among_found k rows r keys h = found_at k rows keys h.0 r h.1
