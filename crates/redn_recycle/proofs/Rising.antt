-- New numbers of slots rise with the old ones, so no two slots get one number; and none is a WAIT's, or an ENABLE's but the last.
use Rattle.std.proofs.Common.{◌≡◌, ◌≢◌, ℕ, suc, ◌+◌, ◌-◌, ◌<◌, ◌≤◌, inl, inr, Bool, true, false, cond, ◌&&◌, ◌==◌, List, length, refl, sym, ap, ◌∙◌, subst, arith}
use Rattle.std.proofs.lemmas.Bool.{eq-eqb, ne_eqb, cases_lt, cases_eq, eqb-true}
use Rattle.redn_segment.specs.declared.types.SlotRef.{SlotRef}
use Rattle.redn_segment.specs.declared.types.Draft.{Draft}
use Rattle.redn_segment.specs.Building.{drafts_of}
use Rattle.redn_segment.specs.Sites.{same_slot}
use Rattle.redn_recycle.specs.Lapped.{segment_at, start_of, first_of, slots_added, sends_last, slots_in_laps, segment_of_slot, slot_in_laps, ref_in_laps}
use Rattle.redn_recycle.proofs.Starts.{start_le, first_le, gated_all, some_slots, segment_known, slot_there, last_there, past_there}

module _ (segments : List (List Draft)) (some : 2 ≤ length segments) where
  abbrev n : ℕ
  n = length (drafts_of segments)

  -- a slot of a draft, old and new
  pub record Placed (i : ℕ) : Type 0 where
    pub segment : ℕ
    pub inside : segment < length segments
    pub low : start_of segments segment ≤ i
    pub high : i < start_of segments segment + length (segment_at segments segment)
    pub is : slot_in_laps segments i ≡ first_of segments segment + (i - start_of segments segment)

  pub placed : (i : ℕ) → i < n → Placed i
  placed i l =
      let known = segment_known segments i l in
      let j : ℕ = segment_of_slot segments i in
      let low = known.1 in
      let high = known.2 in
      let there = slot_there segments j (i - start_of segments j) known.0 (omega (arith, low, high)) in
      let same : start_of segments j + (i - start_of segments j) ≡ i = omega (arith, low) in
      record { segment = j; inside = known.0; low = low; high = high; is = ap (slot_in_laps segments) (sym same) ∙ there }

  -- the new number of a draft's slot lies in its segment, before the lap requests
  pub placed_high : (i : ℕ) (p : Placed i) → (first_of segments p.segment ≤ slot_in_laps segments i) × (slot_in_laps segments i < first_of segments p.segment + length (segment_at segments p.segment))
  placed_high i p = let is = p.is in let low = p.low in let high = p.high in (omega (arith, is, low, high), omega (arith, is, low, high))

  next_first : (j : ℕ) → j < length segments → first_of segments j + (length (segment_at segments j) + slots_added segments j) ≤ slots_in_laps segments
  next_first j l = let up = first_le segments (suc j) (length segments) (omega arith) in omega (arith, up)

  pub placed_inside : (i : ℕ) → Placed i → slot_in_laps segments i < slots_in_laps segments
  placed_inside i p = let at = placed_high i p in let low = at.0 in let high = at.1 in let all = next_first p.segment p.inside in omega (arith, low, high, all)

  -- of two drafts' slots
  rise_two : (i k : ℕ) → i < k → (p : Placed i) (q : Placed k) → slot_in_laps segments i < slot_in_laps segments k
  rise_two i k l p q =
      elim (cases_lt p.segment q.segment) [
        | inl before ↦
            let a = (placed_high i p).1 in
            let b = (placed_high k q).0 in
            let up = first_le segments (suc p.segment) q.segment before in
            omega (arith, a, b, up)
        | inr not_before ↦
            elim (cases_eq p.segment q.segment) [
              | inl same ↦
                  let at = p.is in
                  let there = q.is in
                  let low = p.low in
                  let one : first_of segments p.segment ≡ first_of segments q.segment = ap (first_of segments) same in
                  let other : start_of segments p.segment ≡ start_of segments q.segment = ap (start_of segments) same in
                  omega (arith, l, at, there, low, one, other)
              | inr ne ↦
                  let up = start_le segments (suc q.segment) p.segment (omega (arith, not_before, ne)) in
                  let low = p.low in
                  let high = q.high in
                  absurd (omega (arith, l, up, low, high))
            ]
      ]

  -- where the number behind the last draft goes
  behind_rises : (i : ℕ) → Placed i → (s : Bool) → sends_last segments ≡ s → slot_in_laps segments i < slot_in_laps segments n
  behind_rises i p true e = let inside = placed_inside i p in let there = past_there segments n (omega arith) (inl e) in omega (arith, inside, there)
  behind_rises i p false e =
      let at = (placed_high i p).1 in
      let all = next_first p.segment p.inside in
      let gates = gated_all segments p.segment e in
      let there = last_there segments e in
      omega (arith, at, all, gates, there)

  two_past : (k : ℕ) → n < k → (s : Bool) → sends_last segments ≡ s → slot_in_laps segments n < slot_in_laps segments k
  two_past k l true e = let at = past_there segments n (omega arith) (inl e) in let there = past_there segments k (omega arith) (inr l) in omega (arith, at, there, l)
  two_past k l false e = let at = last_there segments e in let there = past_there segments k (omega arith) (inr l) in let more = some_slots segments some in omega (arith, at, there, l, more)

  pub slots_rise : (i k : ℕ) → i < k → slot_in_laps segments i < slot_in_laps segments k
  slots_rise i k l =
      elim (cases_lt k n) [
        | inl both ↦ rise_two i k l (placed i (omega (arith, l, both))) (placed k both)
        | inr past ↦
            elim (cases_lt i n) [
              | inl before ↦
                  elim (cases_eq k n) [
                    | inl at ↦ subst (λ (m : ℕ). slot_in_laps segments i < slot_in_laps segments m) (sym at) (behind_rises i (placed i before) (sends_last segments) refl)
                    | inr ne ↦ let inside = placed_inside i (placed i before) in let there = past_there segments k past (inr (omega (arith, past, ne))) in omega (arith, inside, there)
                  ]
              | inr after ↦
                  elim (cases_eq i n) [
                    | inl at ↦ subst (λ (m : ℕ). slot_in_laps segments m < slot_in_laps segments k) (sym at) (two_past k (omega (arith, l, at)) (sends_last segments) refl)
                    | inr ne ↦
                        let first = past_there segments i after (inr (omega (arith, after, ne))) in
                        let second = past_there segments k past (inr (omega (arith, l, after, ne))) in
                        omega (arith, l, first, second, after)
                  ]
            ]
      ]

  pub slots_differ : (i k : ℕ) → (slot_in_laps segments i == slot_in_laps segments k) ≡ (i == k)
  slots_differ i k =
      elim (cases_eq i k) [
        | inl same ↦ eq-eqb (slot_in_laps segments i) (slot_in_laps segments k) (ap (slot_in_laps segments) same) ∙ sym (eq-eqb i k same)
        | inr ne ↦ ne_eqb (slot_in_laps segments i) (slot_in_laps segments k) (other ne) ∙ sym (ne_eqb i k ne)
      ]
    where
      other : i ≢ k → slot_in_laps segments i ≢ slot_in_laps segments k
      other ne e =
          elim (cases_lt i k) [
            | inl l ↦ let up = slots_rise i k l in omega (arith, e, up)
            | inr l ↦ let up = slots_rise k i (omega (arith, l, ne)) in omega (arith, e, up)
          ]

  -- so no two slots, of whatever ring, get one name
  pub refs_differ : (number : ℕ) (p q : SlotRef) → same_slot (ref_in_laps segments number p) (ref_in_laps segments number q) ≡ same_slot p q
  refs_differ number p q = by_rings (p.ring == number) (q.ring == number) refl refl
    where
      never : false ≡ true → ⊥
      never e = cc

      unlike : (a b : ℕ) → (a == number) ≡ true → (b == number) ≡ false → (a == b) ≡ false
      unlike a b e f = ne_eqb a b (λ same. let at : a ≡ number = eqb-true a number e in never (sym f ∙ eq-eqb b number (sym same ∙ at)))

      by_rings : (a b : Bool) → (p.ring == number) ≡ a → (q.ring == number) ≡ b → same_slot (cond a (record p { slot = slot_in_laps segments p.slot }) p) (cond b (record q { slot = slot_in_laps segments q.slot }) q) ≡ same_slot p q
      by_rings true true e f = ap (λ (x : Bool). (p.ring == q.ring) && x) (slots_differ p.slot q.slot)
      by_rings false false e f = refl
      by_rings true false e f = let other : (p.ring == q.ring) ≡ false = unlike p.ring q.ring e f in rw other refl
      by_rings false true e f = let other : (p.ring == q.ring) ≡ false = ne_eqb p.ring q.ring (λ same. never (sym e ∙ eq-eqb p.ring number (same ∙ eqb-true q.ring number f))) in rw other refl
