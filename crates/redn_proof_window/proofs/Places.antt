-- Places in a window: a first gate, where there is one, has place 0, and all else stands one further.
use Rattle.std.proofs.Common.{◌≡◌, ℕ, ◌+◌, ◌-◌, ◌<◌, ◌≤◌, ◌⊎◌, inl, inr, List, ◌++◌, Option, Some, None, get_or, length, [], refl, ap, arith}
use Rattle.std.proofs.lemmas.Bool.{cases_lt}
use Rattle.redn_proof_window.specs.Windows.{Opening, Body, behind_gate, from_gate, with_gate, place_of, past_gate, bodies_of, slots_of, copy_of}

module _ (w : Opening) where
  -- the place of the first body: 0 or 1
  abbrev pub start_of : ℕ
  start_of = place_of w 0

  pub place_is : (k : ℕ) → place_of w k ≡ start_of + k
  place_is k = by_gate w.first_gate
    where
      by_gate : (o : Option (List ℕ)) → behind_gate o k ≡ behind_gate o 0 + k
      by_gate None = omega arith
      by_gate (Some copy) = omega arith

  pub past_is : (n : ℕ) → past_gate w n ≡ n - start_of
  past_is n = by_gate w.first_gate
    where
      by_gate : (o : Option (List ℕ)) → from_gate o n ≡ n - behind_gate o 0
      by_gate None = omega arith
      by_gate (Some copy) = omega arith

  pub start_small : start_of ≤ 1
  start_small = by_gate w.first_gate
    where
      by_gate : (o : Option (List ℕ)) → behind_gate o 0 ≤ 1
      by_gate None = omega arith
      by_gate (Some copy) = omega arith

  -- a place behind the first gate, from its number
  pub place_past : (n : ℕ) → start_of ≤ n → place_of w (past_gate w n) ≡ n
  place_past n low = let place = place_is (past_gate w n) in let past = past_is n in omega (arith, place, past, low)

  pub past_place : (k : ℕ) → past_gate w (place_of w k) ≡ k
  past_place k = let past = past_is (place_of w k) in let place = place_is k in omega (arith, place, past)

  pub place_below : (k n : ℕ) → k < n → place_of w k < place_of w n
  place_below k n l = let one = place_is k in let other = place_is n in omega (arith, one, other, l)

  -- the body at a place
  pub body_past : (place : ℕ) → Body w place → (past_gate w place < bodies_of w)
  body_past place b =
      let low = b.low in
      let high = b.high in
      let past = past_is place in
      let end = place_is (bodies_of w) in
      omega (arith, low, high, past, end)

  -- what can stand at a place: the first gate, a body, or what is behind the bodies
  pub stands_at : (place : ℕ) → (place < start_of) ⊎ (Body w place ⊎ (place_of w (bodies_of w) ≤ place))
  stands_at place =
      elim (cases_lt place start_of) [
        | inl before ↦ inl before
        | inr low ↦ inr (elim (cases_lt place (place_of w (bodies_of w))) [ inl high ↦ inl (record { low = low; high = high }) | inr behind ↦ inr behind ])
      ]

  pub body_inside : (place : ℕ) → Body w place → place < slots_of w
  body_inside place b =
      let high = b.high in
      let end = place_is (bodies_of w) in
      let slots = place_is (length w.bodies + length w.gates) in
      omega (arith, high, end, slots)

  -- what stands behind the first gate
  pub copy_behind : (k : ℕ) → copy_of w (place_of w k) ≡ get_or (w.bodies ++ w.gates) k []
  copy_behind k = by_gate w.first_gate
    where
      by_gate : (o : Option (List ℕ)) → get_or (with_gate o (w.bodies ++ w.gates)) (behind_gate o k) [] ≡ get_or (w.bodies ++ w.gates) k []
      by_gate None = refl
      by_gate (Some copy) = refl

  -- before the first body there is a first gate
  pub gate_before : start_of ≡ 1 → (copy : List ℕ) × (w.first_gate ≡ Some copy) × (copy_of w 0 ≡ copy)
  gate_before one = by_gate w.first_gate refl one
    where
      by_gate : (o : Option (List ℕ)) → w.first_gate ≡ o → behind_gate o 0 ≡ 1 → (copy : List ℕ) × (w.first_gate ≡ Some copy) × (copy_of w 0 ≡ copy)
      by_gate None is e = absurd (omega (arith, e))
      by_gate (Some copy) is e = (copy, is, ap (λ (o : Option (List ℕ)). get_or (with_gate o (w.bodies ++ w.gates)) 0 []) is)

  pub gate_first : (copy : List ℕ) → w.first_gate ≡ Some copy → start_of ≡ 1
  gate_first copy is = ap (λ (o : Option (List ℕ)). behind_gate o 0) is
