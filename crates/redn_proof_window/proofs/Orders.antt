-- What the requests that have written a byte, in their order, make of it; and that the order in which they wrote doesn't matter where they write apart.
use Rattle.std.proofs.Common.{◌≡◌, ◌≢◌, ℕ, zero, suc, ◌<◌, inl, inr, Bool, true, false, List, refl, sym, ap, ◌∙◌, arith}
use Rattle.std.specs.Prelude.{if◌then◌else◌}
use Rattle.std.proofs.lemmas.Bool.{cases_Bool, cases_eq}
use Rattle.redn_words.specs.Landings.{Change}
use Rattle.redn_words.proofs.Bytes.{over_missed}
use Rattle.redn_words.specs.Bytes.{hits, over}
use Rattle.redn_proof_window.specs.Stages.{value}

pub over_commute : (a b : List Change) (p v : ℕ) → (hits a p ≡ true → hits b p ≡ false) → over a p (over b p v) ≡ over b p (over a p v)
over_commute a b p v apart =
    elim (cases_Bool (hits a p)) [
      | inl hit ↦
          let miss = apart hit in
          ap (over a p) (over_missed b p v miss) ∙ sym (over_missed b p (over a p v) miss)
      | inr miss ↦ over_missed a p (over b p v) miss ∙ sym (ap (over b p) (over_missed a p v miss))
    ]

module _ (written next : ℕ → ℕ → Bool) (effects then_effects : ℕ → List Change) (p before : ℕ) where
  -- only those that have written it count
  pub value_same : (n : ℕ) → ((j : ℕ) → j < n → next j p ≡ written j p) → ((j : ℕ) → j < n → written j p ≡ true → then_effects j ≡ effects j) → value next then_effects n p before ≡ value written effects n p before
  value_same zero marks same = refl
  value_same (suc n) marks same =
      let lower : value next then_effects n p before ≡ value written effects n p before = value_same n (λ j l. marks j (omega arith)) (λ j l. same j (omega arith)) in
      let mark : next n p ≡ written n p = marks n (omega arith) in
      rw (mark, lower) (by_mark (written n p) refl)
    where
      by_mark : (b : Bool) → written n p ≡ b → (if b then over (then_effects n) p (value written effects n p before) else value written effects n p before) ≡
          (if b then over (effects n) p (value written effects n p before) else value written effects n p before)
      by_mark true e = let its : then_effects n ≡ effects n = same n (omega arith) e in rw its refl
      by_mark false e = refl

  -- one more that writes it, wherever it stands in the order
  pub value_lands : (k n : ℕ) → k < n → written k p ≡ false → next k p ≡ true → ((j : ℕ) → j < n → j ≢ k → next j p ≡ written j p) → ((j : ℕ) → j < n → written j p ≡ true → then_effects j ≡ effects j)
      → ((j : ℕ) → j < n → j ≢ k → written j p ≡ true → hits (then_effects k) p ≡ true → hits (effects j) p ≡ false) → value next then_effects n p before ≡ over (then_effects k) p (value written effects n p before)
  value_lands k zero l old new marks same apart = absurd (omega arith)
  value_lands k (suc n) l old new marks same apart =
      elim (cases_eq n k) [
        | inl at ↦
            let lower : value next then_effects n p before ≡ value written effects n p before = value_same n (λ j l. marks j (omega arith) (omega arith)) (λ j l. same j (omega arith)) in
            let was : written n p ≡ false = ap (λ m. written m p) at ∙ old in
            let is : next n p ≡ true = ap (λ m. next m p) at ∙ new in
            rw (is, was, lower) (ap (λ m. over (then_effects m) p (value written effects n p before)) at)
        | inr ne ↦
            let lower : value next then_effects n p before ≡ over (then_effects k) p (value written effects n p before) = value_lands k n (omega (arith, ne)) old new (λ j l. marks j (omega arith)) (λ j l. same j (omega arith))
            (λ j l. apart j (omega arith)) in
            let mark : next n p ≡ written n p = marks n (omega arith) ne in
            rw (mark, lower) (by_mark ne (written n p) refl)
      ]
    where
      by_mark : n ≢ k → (b : Bool) → written n p ≡ b → (if b then over (then_effects n) p (over (then_effects k) p (value written effects n p before)) else over (then_effects k) p (value written effects n p before)) ≡ over
          (then_effects k) p (if b then over (effects n) p (value written effects n p before) else value written effects n p before)
      by_mark ne true e =
          let its : then_effects n ≡ effects n = same n (omega arith) e in
          rw its (sym (over_commute (then_effects k) (effects n) p (value written effects n p before) (apart n (omega arith) ne e)))
      by_mark ne false e = refl

-- a byte that none of them hits stays
pub value_missed : (written : ℕ → ℕ → Bool) (effects : ℕ → List Change) (n p before : ℕ) → ((j : ℕ) → j < n → written j p ≡ true → hits (effects j) p ≡ false) → value written effects n p before ≡ before
value_missed written effects zero p before miss = refl
value_missed written effects (suc n) p before miss =
    let lower : value written effects n p before ≡ before = value_missed written effects n p before (λ j l. miss j (omega arith)) in
    rw lower (by_mark (written n p) refl)
  where
    by_mark : (b : Bool) → written n p ≡ b → (if b then over (effects n) p before else before) ≡ before
    by_mark true e = over_missed (effects n) p before (miss n (omega arith) e)
    by_mark false e = refl

-- a byte that only one of them may hit
pub value_only : (written : ℕ → ℕ → Bool) (effects : ℕ → List Change) (k n p before : ℕ) → k < n → ((j : ℕ) → j < n → j ≢ k → written j p ≡ true → hits (effects j) p ≡ false)
    → value written effects n p before ≡ (if written k p then over (effects k) p before else before)
value_only written effects k zero p before l miss = absurd (omega arith)
value_only written effects k (suc n) p before l miss =
    elim (cases_eq n k) [
      | inl at ↦
          let lower : value written effects n p before ≡ before = value_missed written effects n p before (λ j m. miss j (omega arith) (omega arith)) in
          rw lower (ap (λ m. if written m p then over (effects m) p before else before) at)
      | inr ne ↦
          let lower : value written effects n p before ≡ (if written k p then over (effects k) p before else before) = value_only written effects k n p before (omega (arith, ne)) (λ j m. miss j (omega arith)) in
          rw lower (by_mark ne (written n p) refl)
    ]
  where
    by_mark : n ≢ k → (b : Bool) → written n p ≡ b → (if b then over (effects n) p (if written k p then over (effects k) p before else before) else (if written k p then over (effects k) p before else before)) ≡
        (if written k p then over (effects k) p before else before)
    by_mark ne true e = over_missed (effects n) p (if written k p then over (effects k) p before else before) (miss n (omega arith) ne e)
    by_mark ne false e = refl
