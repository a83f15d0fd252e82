-- Which slots of a ring with laps its drafts name.
use Rattle.std.proofs.Common.{◌≡◌, ◌≢◌, ℕ, suc, ◌+◌, ◌<◌, ◌≤◌, ◌⊎◌, inl, inr, true, false, not, ◌||◌, ◌==◌, List, length, ap, arith}
use Rattle.std.specs.Prelude.{nat_lt}
use Rattle.std.proofs.lemmas.Bool.{and_parts, or_cases, ltb-true, eqb-true, cases_lt, cases_eq}
use Rattle.redn_segment.specs.declared.types.SlotRef.{SlotRef}
use Rattle.redn_segment.specs.declared.types.Draft.{Draft}
use Rattle.redn_segment.specs.Building.{drafts_of}
use Rattle.redn_segment.proofs.Kept.{not_true}
use Rattle.redn_recycle.specs.Laps.{Ring, wait_of, enable_of}
use Rattle.redn_recycle.specs.Lapped.{segment_at, start_of, first_of, slots_added, sends_last, slots_in_laps, slot_in_laps, names_last, names_slot, ring_of}
use Rattle.redn_recycle.proofs.Starts.{first_le, gated_all, gated_below, last_there}
use Rattle.redn_recycle.proofs.Rising.{Placed, placed, placed_high}

module _ (segments : List (List Draft)) (some : 2 ≤ length segments) where
  abbrev n : ℕ
  n = length (drafts_of segments)

  -- a number that a draft may name: a draft's slot, or that of the last ENABLE
  abbrev pub IsNamed : ℕ → Type 0
  IsNamed i = (i < n) ⊎ ((sends_last segments ≡ false) × (i ≡ n))

  pub named : (number : ℕ) (q : SlotRef) → names_slot segments number q ≡ true → (q.ring ≡ number) × IsNamed q.slot
  named number q e =
      let parts = and_parts (q.ring == number) (nat_lt q.slot n || names_last segments q.slot) e in (
        eqb-true q.ring number parts.0,
        elim (or_cases (nat_lt q.slot n) (names_last segments q.slot) parts.1) [
          | inl below ↦ inl (ltb-true q.slot n below)
          | inr last ↦ let both = and_parts (not (sends_last segments)) (q.slot == n) last in inr (not_true (sends_last segments) both.0, eqb-true q.slot n both.1)
        ],
      )

  pub behind_last : (j : ℕ) → suc j < length segments → sends_last segments ≡ false → first_of segments (suc j) + 3 ≤ slots_in_laps segments
  behind_last j l none =
      let up = first_le segments (suc (suc j)) (length segments) (omega arith) in
      let gates = gated_all segments (suc j) none in
      omega (arith, up, gates)

  -- so none is in the gates of a segment, but the last ENABLE
  pub in_segment : (i j : ℕ) → (p : Placed segments some i) → j < length segments → (p.segment ≡ j) ⊎ ((slot_in_laps segments i < first_of segments j) ⊎ (first_of segments (suc j) ≤ slot_in_laps segments i))
  in_segment i j p l =
      let at = placed_high segments some i p in
      let low = at.0 in
      let high = at.1 in
      elim (cases_lt p.segment j) [
        | inl before ↦ let up = first_le segments (suc p.segment) j before in inr (inl (omega (arith, high, up)))
        | inr not_before ↦
            elim (cases_eq p.segment j) [
              | inl same ↦ inl same
              | inr ne ↦ let up = first_le segments (suc j) p.segment (omega (arith, not_before, ne)) in inr (inr (omega (arith, low, up)))
            ]
      ]

  pub no_gate : (i j w : ℕ) → i < n → j < length segments → first_of segments j + length (segment_at segments j) ≤ w → w < first_of segments (suc j) → slot_in_laps segments i ≢ w
  no_gate i j w below l low high e =
      let p = placed segments some i below in
      elim (in_segment i j p l) [
        | inl same ↦
            let at = (placed_high segments some i p).1 in
            let here : first_of segments p.segment + length (segment_at segments p.segment) ≡ first_of segments j + length (segment_at segments j) = ap (λ (k : ℕ). first_of segments k + length (segment_at segments k)) same in
            absurd (omega (arith, at, here, low, e))
        | inr (inl before) ↦ absurd (omega (arith, before, low, e))
        | inr (inr after) ↦ absurd (omega (arith, after, high, e))
      ]

  -- the WAIT and the ENABLE of a segment, by the slots that it has
  module _ (number domain base : ℕ) where
    abbrev r : Ring
    r = ring_of segments number domain base

    pub not_a_wait : (i j : ℕ) → IsNamed i → j < length segments → 3 ≤ slots_added segments j → slot_in_laps segments i ≢ wait_of number r j
    not_a_wait i j (inl below) l gates e = no_gate i j (wait_of number r j) below l (omega (arith, gates)) (omega (arith, gates)) e
    not_a_wait i j (inr last) l gates e =
        let there = last_there segments last.0 in
        let same : slot_in_laps segments i ≡ slot_in_laps segments n = ap (slot_in_laps segments) last.1 in
        let up = first_le segments (suc j) (length segments) (omega arith) in
        absurd (omega (arith, e, there, same, up, gates))

    pub not_an_enable : (i j : ℕ) → IsNamed i → suc j < length segments → slot_in_laps segments i ≢ enable_of number r j
    not_an_enable i j (inl below) l e = let gates = gated_below segments j l in no_gate i j (enable_of number r j) below (omega arith) (omega (arith, gates)) (omega (arith, gates)) e
    not_an_enable i j (inr last) l e =
        let there = last_there segments last.0 in
        let same : slot_in_laps segments i ≡ slot_in_laps segments n = ap (slot_in_laps segments) last.1 in
        let far = behind_last j l last.0 in
        let gates = gated_below segments j l in
        absurd (omega (arith, e, there, same, far, gates))

    -- outside a segment stay the slots that stood outside it; of the last segment, its ENABLE is inside
    pub stays_outside : (i j : ℕ) → IsNamed i → j < length segments → (i < start_of segments j) ⊎ (start_of segments (suc j) ≤ i) → (suc j ≡ length segments → i ≢ n) → (slot_in_laps segments i < first_of segments j) ⊎ (first_of segments (suc j) ≤ slot_in_laps segments i)
    stays_outside i j (inl below) l way last =
        let p = placed segments some i below in
        let low = p.low in
        let high = p.high in
        elim (in_segment i j p l) [
          | inl same ↦
              let here : start_of segments p.segment ≡ start_of segments j = ap (start_of segments) same in
              let there : start_of segments (suc p.segment) ≡ start_of segments (suc j) = ap (λ (k : ℕ). start_of segments (suc k)) same in
              elim way [ inl before ↦ absurd (omega (arith, low, here, before)) | inr after ↦ absurd (omega (arith, high, there, after)) ]
          | inr out ↦ out
        ]
    stays_outside i j (inr named_last) l way last =
        let more : suc j < length segments = (let ne : suc j ≢ length segments = λ e. last e named_last.1 in omega (arith, ne, l)) in
        let there = last_there segments named_last.0 in
        let same : slot_in_laps segments i ≡ slot_in_laps segments n = ap (slot_in_laps segments) named_last.1 in
        let far = behind_last j more named_last.0 in
        inr (omega (arith, there, same, far))
