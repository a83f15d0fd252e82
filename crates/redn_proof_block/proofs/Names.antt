-- New numbers of slots: no two slots get one, a segment's drafts stay in a row, and none is between the drafts of a segment and the next one's, but the last ENABLE.
use Rattle.std.proofs.Common.{◌≡◌, ◌≢◌, inl, inr, ℕ, suc, ◌+◌, ◌<◌, ◌≤◌, Bool, true, false, cond, ◌&&◌, ◌==◌, List, length, refl, sym, ap, ◌∙◌, arith}
use Rattle.std.proofs.lemmas.Bool.{ne_eqb, cases_lt, cases_eq}
use Rattle.redn_segment.specs.declared.types.SlotRef.{SlotRef}
use Rattle.redn_segment.specs.declared.types.Draft.{Draft}
use Rattle.redn_segment.specs.Building.{drafts_of}
use Rattle.redn_segment.specs.Sites.{same_slot}
use Rattle.redn_segment.specs.Effects.{slot_behind}
use Rattle.redn_recycle.specs.Laps.{slot_of}
use Rattle.redn_recycle.specs.Lapped.{segment_at, start_of, first_of, sends_last, slots_in_laps, slot_in_laps}
use Rattle.redn_recycle.proofs.Starts.{first_le, slot_there, last_there, past_there}
use Rattle.redn_recycle.proofs.Rising.{slots_differ}
use Rattle.redn_proof_ring.proofs.GateSlots.{no_gate}
use Rattle.redn_proof_block.specs.Names.{Rings, new_slot, in_laps, AreRings}

-- of one ring
module _ (segments : List (List Draft)) (some : 2 ≤ length segments) where
  -- such a slot isn't a draft's, and not the last ENABLE
  pub record IsGap (j w : ℕ) : Type 0 where
    pub inside : j < length segments
    pub low : first_of segments j + length (segment_at segments j) ≤ w
    pub high : w < first_of segments (suc j)
    pub not_last : sends_last segments ≡ false → suc w < slots_in_laps segments

  pub no_gap : (i j w : ℕ) → IsGap j w → slot_in_laps segments i ≢ w
  no_gap i j w g e =
      let up = first_le segments (suc j) (length segments) g.inside in
      let high = g.high in
      elim (cases_lt i (length (drafts_of segments))) [
        | inl below ↦ no_gate segments some i j w below g.inside g.low g.high e
        | inr past ↦ by_last (sends_last segments) refl past up high
      ]
    where
      by_last : (b : Bool) → sends_last segments ≡ b → length (drafts_of segments) ≤ i → first_of segments (suc j) ≤ slots_in_laps segments → w < first_of segments (suc j) → ⊥
      by_last true sends past up high = let there = past_there segments i past (inl sends) in omega (arith, there, up, high, e)
      by_last false none past up high =
          elim (cases_eq i (length (drafts_of segments))) [
            | inl last ↦
                let there = last_there segments none in
                let same : slot_in_laps segments i ≡ slot_in_laps segments (length (drafts_of segments)) = ap (slot_in_laps segments) last in
                let room = g.not_last none in
                omega (arith, there, same, room, e)
            | inr ne ↦ let there = past_there segments i past (inr (omega (arith, past, ne))) in omega (arith, there, up, high, e)
          ]

module _ (g : Rings) (are : AreRings g) where
  new_differ : (ring i k : ℕ) → (new_slot g ring i == new_slot g ring k) ≡ (i == k)
  new_differ ring i k = by_ring (g.is_ring ring) refl
    where
      by_ring : (b : Bool) → g.is_ring ring ≡ b → (cond b (slot_in_laps (g.segments ring) i) i == cond b (slot_in_laps (g.segments ring) k) k) ≡ (i == k)
      by_ring true e = slots_differ (g.segments ring) (are ring e).some i k
      by_ring false e = refl

  pub names_keep : (p q : SlotRef) → same_slot (in_laps g p) (in_laps g q) ≡ same_slot p q
  names_keep p q =
      elim (cases_eq p.ring q.ring) [
        | inl same ↦ ap (λ (b : Bool). (p.ring == q.ring) && b) (ap (λ (r : ℕ). new_slot g r p.slot == new_slot g q.ring q.slot) same ∙ new_differ q.ring p.slot q.slot)
        | inr ne ↦ let other = ne_eqb p.ring q.ring ne in rw other refl
      ]

  module _ (ring : ℕ) (is_ring : g.is_ring ring ≡ true) where
    abbrev its : List (List Draft)
    its = g.segments ring

    new_is : (i : ℕ) → new_slot g ring i ≡ slot_in_laps its i
    new_is i = ap (λ (b : Bool). cond b (slot_in_laps its i) i) is_ring

    pub names_near : (j k : ℕ) → j < length its → k < length (segment_at its j) → in_laps g (slot_behind (slot_of ring (start_of its j)) k) ≡ slot_behind (slot_of ring (first_of its j)) k
    names_near j k inside small = ap (slot_of ring) (new_is (start_of its j + k) ∙ slot_there its j k inside small)

    pub names_miss : (q : SlotRef) (j w : ℕ) → IsGap its (are ring is_ring).some j w → same_slot (in_laps g q) (slot_of ring w) ≡ false
    names_miss q j w gap =
        elim (cases_eq q.ring ring) [
          | inl same ↦
              let there : new_slot g q.ring q.slot ≡ slot_in_laps its q.slot = ap (λ (r : ℕ). new_slot g r q.slot) same ∙ new_is q.slot in
              let other = ne_eqb (new_slot g q.ring q.slot) w (λ e. no_gap its (are ring is_ring).some q.slot j w gap (sym there ∙ e)) in
              ap (λ (b : Bool). (q.ring == ring) && b) other ∙ and_none (q.ring == ring)
          | inr ne ↦ let other = ne_eqb q.ring ring ne in rw other refl
        ]
      where
        and_none : (b : Bool) → b && false ≡ false
        and_none true = refl
        and_none false = refl
