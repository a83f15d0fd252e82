-- Which requests have landed: all before the first that hasn't completed, and those that are marked.
use Rattle.std.proofs.Common.{◌≡◌, ◌≢◌, ℕ, zero, suc, ◌+◌, ◌-◌, ◌<◌, ◌≤◌, Bool, true, false, List, [], ◌∷◌, ◌++◌, length, get_or, set, refl, sym, ap, ◌∙◌, arith}
use Rattle.std.specs.Prelude.{nat_lt, if◌then◌else◌}
use Rattle.std.proofs.lemmas.Bool.Decides.{nat_tests}
use Rattle.std.proofs.lemmas.List.{get_or-set_same}
use Rattle.redn_proof_window.specs.Windows.{landed}

pub landed_before : (first : ℕ) (marks : List Bool) (p : ℕ) → p < first → landed first marks p ≡ true
landed_before first marks p h = let t : nat_lt p first ≡ true = grind (arith, nat_tests) in rw t refl

pub landed_at : (first : ℕ) (marks : List Bool) (p k : ℕ) → p ≡ first + k → landed first marks p ≡ get_or marks k false
landed_at first marks p k e =
    let t : nat_lt p first ≡ false = grind (arith, nat_tests) in
    let at : p - first ≡ k = omega arith in
    rw (t, at) refl

past_marks : (marks : List Bool) (k : ℕ) → length marks ≤ k → get_or marks k false ≡ false
past_marks [] k h = refl
past_marks (b ∷ marks) zero h = absurd (omega arith)
past_marks (b ∷ marks) (suc k) h = past_marks marks k (omega arith)

pub landed_past : (first : ℕ) (marks : List Bool) (p : ℕ) → first + length marks ≤ p → landed first marks p ≡ false
landed_past first marks p h = landed_at first marks p (p - first) (omega arith) ∙ past_marks marks (p - first) (omega arith)

-- a request that goes into flight hasn't landed
one_more : (marks : List Bool) (k : ℕ) → get_or (marks ++ false ∷ []) k false ≡ get_or marks k false
one_more [] zero = refl
one_more [] (suc k) = refl
one_more (b ∷ marks) zero = refl
one_more (b ∷ marks) (suc k) = one_more marks k

pub landed_flies : (first : ℕ) (marks : List Bool) (p : ℕ) → landed first (marks ++ false ∷ []) p ≡ landed first marks p
landed_flies first marks p = ap (λ (b : Bool). if nat_lt p first then true else b) (one_more marks (p - first))

-- one that lands
other_mark : (marks : List Bool) (k j : ℕ) → k ≢ j → get_or (set marks j true) k false ≡ get_or marks k false
other_mark [] k j h = refl
other_mark (b ∷ marks) zero zero h = absurd (h refl)
other_mark (b ∷ marks) zero (suc j) h = refl
other_mark (b ∷ marks) (suc k) zero h = refl
other_mark (b ∷ marks) (suc k) (suc j) h = other_mark marks k j (λ e. h (ap suc e))

pub landed_lands : (first : ℕ) (marks : List Bool) (p k : ℕ) → k < length marks → p ≡ first + k → landed first (set marks k true) p ≡ true
landed_lands first marks p k h e = landed_at first (set marks k true) p k e ∙ get_or-set_same marks k true false h

pub landed_other : (first : ℕ) (marks : List Bool) (p k : ℕ) → p ≢ first + k → landed first (set marks k true) p ≡ landed first marks p
landed_other first marks p k h =
    elim (nat_lt p first) as (λ t. nat_lt p first ≡ t → landed first (set marks k true) p ≡ landed first marks p) [
      | true ↦ λ t. rw t refl
      | false ↦ λ t.
          let late : first ≤ p = grind (arith, nat_tests) in
          let apart : p - first ≢ k = λ e. h (omega (arith, e, late)) in
          rw t (other_mark marks (p - first) k apart)
    ] refl

-- the oldest completes
pub landed_completes : (first : ℕ) (marks : List Bool) (p : ℕ) → landed (first + 1) marks p ≡ landed first (true ∷ marks) p
landed_completes first marks p =
    elim (nat_lt p first) as (λ t. nat_lt p first ≡ t → landed (first + 1) marks p ≡ landed first (true ∷ marks) p) [
      | true ↦ λ t. let u : nat_lt p (first + 1) ≡ true = grind (arith, nat_tests) in rw (t, u) refl
      | false ↦ λ t. by_place (p - first) (let late : first ≤ p = grind (arith, nat_tests) in omega (arith, late))
    ] refl
  where
    by_place : (k : ℕ) → p ≡ first + k → landed (first + 1) marks p ≡ landed first (true ∷ marks) p
    by_place zero e = landed_before (first + 1) marks p (omega arith) ∙ sym (landed_at first (true ∷ marks) p 0 e)
    by_place (suc k) e = landed_at (first + 1) marks p k (omega arith) ∙ sym (landed_at first (true ∷ marks) p (suc k) e)

-- a WAIT passes
pub landed_passes : (first p : ℕ) → p ≢ first → landed (first + 1) [] p ≡ landed first [] p
landed_passes first p h =
    elim (nat_lt p first) as (λ t. nat_lt p first ≡ t → landed (first + 1) [] p ≡ landed first [] p) [
      | true ↦ λ t. let u : nat_lt p (first + 1) ≡ true = grind (arith, nat_tests) in rw (t, u) refl
      | false ↦ λ t. let u : nat_lt p (first + 1) ≡ false = grind (arith, nat_tests) in rw (t, u) refl
    ] refl
