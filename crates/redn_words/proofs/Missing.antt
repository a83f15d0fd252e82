-- How many of a queue's slots are still to be fetched.
use Rattle.std.proofs.Common.{◌≡◌, ◌≢◌, ℕ, zero, suc, ◌+◌, ◌<◌, ◌≤◌, Bool, true, false, eqb, List, None, refl, ap, ◌∙◌, arith}
use Rattle.std.specs.Prelude.{nat_le, is_none, ◌&&◌, if◌then◌else◌}
use Rattle.std.proofs.lemmas.Bool.{eqb-true}
use Rattle.std.proofs.lemmas.Bool.Decides.{nat_tests}
use Rattle.std.specs.FinMap.{get, insert, remove}
use Rattle.redn_words.specs.States.{Copies}
use Rattle.redn_words.proofs.Copies.{get_insert, get_remove}
use Rattle.redn_words.specs.Missing.{one, missing}

one_inserted : (head i j : ℕ) (held : Copies) (c : List ℕ) → eqb j i ≡ true → one head (insert held i c) j ≡ 0
one_inserted head i j held c t = rw (get_insert, t) (none_of (nat_le head j))
  where
    none_of : (b : Bool) → ◌≡◌ {A = ℕ} (if b && false then 1 else 0) 0
    none_of true = refl
    none_of false = refl

one_other : (head i j : ℕ) (held : Copies) (c : List ℕ) → eqb j i ≡ false → one head (insert held i c) j ≡ one head held j
one_other head i j held c t = rw (get_insert, t) refl

one_insert : (head i j : ℕ) (held : Copies) (c : List ℕ) → one head (insert held i c) j ≤ one head held j
one_insert head i j held c =
    elim (eqb j i) as (λ b. eqb j i ≡ b → one head (insert held i c) j ≤ one head held j) [
      | true ↦ λ t. let e = one_inserted head i j held c t in omega (arith, e)
      | false ↦ λ t. let e = one_other head i j held c t in omega (arith, e)
    ] refl

pub missing_insert : (head i n : ℕ) (held : Copies) (c : List ℕ) → missing head (insert held i c) n ≤ missing head held n
missing_insert head i zero held c = omega arith
missing_insert head i (suc n) held c = omega (arith, one_insert head i n held c, missing_insert head i n held c)

one_here : (head i : ℕ) (held : Copies) → get held i ≡ None → head ≤ i → one head held i ≡ 1
one_here head i held e l = let t : nat_le head i ≡ true = grind (arith, nat_tests) in rw (e, t) refl

-- a fetch of an index that wasn't held
pub missing_insert_new : (head i n : ℕ) (held : Copies) (c : List ℕ) → get held i ≡ None → head ≤ i → i < n → missing head (insert held i c) n + 1 ≤ missing head held n
missing_insert_new head i zero held c e le lt = absurd (omega arith)
missing_insert_new head i (suc n) held c e le lt =
    elim (eqb n i) as (λ b. eqb n i ≡ b → missing head (insert held i c) (suc n) + 1 ≤ missing head held (suc n)) [
      | true ↦ λ t.
          let at : n ≡ i = eqb-true n i t in
          let here : one head held n ≡ 1 = ap (λ k. one head held k) at ∙ one_here head i held e le in
          omega (arith, here, one_inserted head i n held c t, missing_insert head i n held c)
      | false ↦ λ t.
          let ne : n ≢ i = grind (arith, nat_tests) in
          omega (arith, one_other head i n held c t, missing_insert_new head i n held c e le (omega (arith, ne)))
    ] refl

one_remove : (n j : ℕ) (held : Copies) → one (n + 1) (remove held n) j ≤ one n held j
one_remove n j held =
    elim (nat_le (n + 1) j) as (λ b. nat_le (n + 1) j ≡ b → (if b && is_none (get (remove held n) j) then 1 else 0) ≤ one n held j) [
      | true ↦ λ t.
          let lt : n < j = grind (arith, nat_tests) in
          let low : nat_le n j ≡ true = grind (arith, nat_tests) in
          let other : eqb j n ≡ false = grind (arith, nat_tests) in
          rw (get_remove, other, low) (omega arith)
      | false ↦ λ t. omega arith
    ] refl

-- head moves on
pub missing_remove : (n k : ℕ) (held : Copies) → missing (n + 1) (remove held n) k ≤ missing n held k
missing_remove n zero held = omega arith
missing_remove n (suc k) held = omega (arith, one_remove n k held, missing_remove n k held)

pub small : (b : Bool) → (if b then 1 else 0) ≤ 1
small true = omega arith
small false = omega arith

pub missing_le : (head n : ℕ) (held : Copies) → missing head held n ≤ n
missing_le head zero held = omega arith
missing_le head (suc n) held = omega (arith, small (nat_le head n && is_none (get held n)), missing_le head n held)
