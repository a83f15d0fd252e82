-- Lists of ranges, by tests: ranges apart have no byte in common, and ranges inside others only bytes of those.
use Rattle.std.proofs.Common.{◌≡◌, ℕ, ◌+◌, ◌<◌, ◌≤◌, ◌⊎◌, inl, inr, true, false, List, [], ◌∷◌, refl, arith}
use Rattle.std.specs.Prelude.{nat_le, nat_lt}
use Rattle.std.specs.List.{list_any, list_all}
use Rattle.std.proofs.lemmas.Bool.{false≢true, and_parts, and_from, or_cases, or_from, or_left, or_right, leb-true, ltb-true, le-leb, lt-ltb, false_from_ne_true}
use Rattle.redn_words.specs.Landings.{Place}
use Rattle.redn_words.specs.Ranges.{holds, within, is_apart, all_apart, is_inside, all_inside}

-- a byte that a range holds
pub holds_bounds : (a : Place) (p : ℕ) → holds a p ≡ true → (a.at ≤ p) × (p < a.at + a.len)
holds_bounds a p h = let parts = and_parts (nat_le a.at p) (nat_lt p (a.at + a.len)) h in (leb-true a.at p parts.0, ltb-true p (a.at + a.len) parts.1)

pub bounds_hold : (a : Place) (p : ℕ) → a.at ≤ p → p < a.at + a.len → holds a p ≡ true
bounds_hold a p low high = and_from (nat_le a.at p) (nat_lt p (a.at + a.len)) (le-leb a.at p low) (lt-ltb p (a.at + a.len) high)

apart_one : (a b : Place) (p : ℕ) → is_apart a b ≡ true → holds a p ≡ true → holds b p ≡ false
apart_one a b p e h = false_from_ne_true (holds b p) (λ k. by_side (holds_bounds a p h) (holds_bounds b p k) (or_cases (nat_le (a.at + a.len) b.at) (nat_le (b.at + b.len) a.at) e))
  where
    by_side : (a.at ≤ p) × (p < a.at + a.len) → (b.at ≤ p) × (p < b.at + b.len) → (nat_le (a.at + a.len) b.at ≡ true) ⊎ (nat_le (b.at + b.len) a.at ≡ true) → ⊥
    by_side x y (inl t) = let f = leb-true (a.at + a.len) b.at t in omega (arith, x.1, y.0)
    by_side x y (inr t) = let f = leb-true (b.at + b.len) a.at t in omega (arith, x.0, y.1)

apart_from : (a : Place) (those : List Place) (p : ℕ) → list_all (λ b. is_apart a b) those ≡ true → holds a p ≡ true → within those p ≡ false
apart_from a [] p e h = refl
apart_from a (b ∷ those) p e h =
    let parts = and_parts (is_apart a b) (list_all (λ c. is_apart a c) those) e in
    or_from (holds b p) (within those p) (apart_one a b p parts.0 h) (apart_from a those p parts.1 h)

pub within_apart : (these those : List Place) (p : ℕ) → all_apart these those ≡ true → within these p ≡ true → within those p ≡ false
within_apart [] those p e h = absurd (false≢true h)
within_apart (a ∷ these) those p e h =
    let parts = and_parts (list_all (λ b. is_apart a b) those) (all_apart these those) e in
    elim (or_cases (holds a p) (within these p) h) [ inl here ↦ apart_from a those p parts.0 here | inr there ↦ within_apart these those p parts.1 there ]

inside_one : (a b : Place) (p : ℕ) → is_inside a b ≡ true → holds a p ≡ true → holds b p ≡ true
inside_one a b p e h =
    let parts = and_parts (nat_le b.at a.at) (nat_le (a.at + a.len) (b.at + b.len)) e in
    let low = leb-true b.at a.at parts.0 in
    let high = leb-true (a.at + a.len) (b.at + b.len) parts.1 in
    let bounds = holds_bounds a p h in
    bounds_hold b p (omega (arith, bounds.0)) (omega (arith, bounds.1))

inside_some : (a : Place) (those : List Place) (p : ℕ) → list_any (λ b. is_inside a b) those ≡ true → holds a p ≡ true → within those p ≡ true
inside_some a [] p e h = absurd (false≢true e)
inside_some a (b ∷ those) p e h =
    elim (or_cases (is_inside a b) (list_any (λ c. is_inside a c) those) e) [
      | inl here ↦ or_left (holds b p) (within those p) (inside_one a b p here h)
      | inr there ↦ or_right (holds b p) (within those p) (inside_some a those p there h)
    ]

pub within_inside : (these those : List Place) (p : ℕ) → all_inside these those ≡ true → within these p ≡ true → within those p ≡ true
within_inside [] those p e h = absurd (false≢true h)
within_inside (a ∷ these) those p e h =
    let parts = and_parts (list_any (λ b. is_inside a b) those) (all_inside these those) e in
    elim (or_cases (holds a p) (within these p) h) [ inl here ↦ inside_some a those p parts.0 here | inr there ↦ within_inside these those p parts.1 there ]

pub one_within : (a : Place) (p : ℕ) → holds a p ≡ true → within (a ∷ []) p ≡ true
one_within a p h = or_left (holds a p) false h
