-- What a template does from slot 0 of ring 0 on, it does from any slot on.
use Rattle.std.proofs.Common.{◌≡◌, ℕ, ◌+◌, ◌-◌, ◌⊎◌, inl, inr, Bool, true, false, ◌&&◌, List, length, map, refl, sym, ap, ◌∙◌, subst, arith}
use Rattle.std.specs.Prelude.{slice_index, ◌==◌, nat_le, nat_lt}
use Rattle.std.proofs.lemmas.List.{length-map}
use Rattle.std.proofs.lemmas.Bool.{false≢true, cases_lt, eqb-true, eq-eqb, ne_eqb}
use Rattle.std.proofs.lemmas.Bool.Decides.{nat_tests}
use Rattle.redn_segment.specs.declared.types.SlotRef.{SlotRef}
use Rattle.redn_segment.specs.declared.types.Space.{Space}
use Rattle.redn_segment.specs.declared.types.Space.TheVariants as space
use Rattle.redn_segment.specs.declared.types.Draft.{Draft}
use Rattle.redn_segment.specs.Sites.{same_slot, next_slot}
use Rattle.redn_segment.specs.Plain.{Bytes, View, Put, placed, Outcome, Went, Faults, Bad, runs}
use Rattle.redn_segment.specs.Primed.{writes_slot, Primed, IsWhole, HasRoom}
use Rattle.redn_segment.specs.Drafts.{slot_from}
use Rattle.redn_segment.specs.Effects.{Effect, Leaves, Stops, is_own, IsLeft, Meets, Does}
use Rattle.redn_segment.specs.Renaming.{pulled_view, renamed, renamed_put, renamed_outcome, pulled, moved, IsSame}
use Rattle.redn_segment.proofs.Moved.{writes_slot_renamed, pulled_placed, runs_renamed, primed_from, primed_to, other_slot}

abbrev pub own : ℕ → SlotRef
own k = slot_from 0 0 k

same_if : (a b : Bool) → (a ≡ true → b ≡ true) → (b ≡ true → a ≡ true) → a ≡ b
same_if true b h k = sym (h refl)
same_if false true h k = k refl
same_if false false h k = refl

pub eq_moved : (n a b : ℕ) → (n + a == n + b) ≡ (a == b)
eq_moved n a b =
    same_if (n + a == n + b) (a == b) (λ h. let e : n + a ≡ n + b = eqb-true (n + a) (n + b) h in eq-eqb a b (omega arith)) (λ h. ap (λ (k : ℕ). n + a == n + k) (sym (eqb-true a b h)) ∙ eq-eqb (n + a) (n + a) refl)

pub le_moved : (n a b : ℕ) → nat_le (n + a) (n + b) ≡ nat_le a b
le_moved n a b = same_if (nat_le (n + a) (n + b)) (nat_le a b) (λ h. grind (arith, nat_tests)) (λ h. grind (arith, nat_tests))

pub lt_moved : (n a b c : ℕ) → c ≡ n + b → nat_lt (n + a) c ≡ nat_lt a b
lt_moved n a b c e = same_if (nat_lt (n + a) c) (nat_lt a b) (λ h. grind (arith, nat_tests)) (λ h. grind (arith, nat_tests))

and_false : (b : Bool) → b && false ≡ false
and_false true = refl
and_false false = refl

abbrev pub slot_ref : ℕ → ℕ → SlotRef
slot_ref ring slot = record { ring = ring; slot = slot }

module _ (ring first : ℕ) where
  abbrev at : SlotRef → SlotRef
  at = moved ring first

  pub keeps : (p q : SlotRef) → same_slot (at p) (at q) ≡ same_slot p q
  keeps p q =
      let rings = eq_moved ring p.ring q.ring in
      let slots = eq_moved first p.slot q.slot in
      rw (rings, slots) refl

  pub next : (q : SlotRef) → at (next_slot q) ≡ next_slot (at q)
  next q = ap (λ (k : ℕ). let r : SlotRef = record { ring = ring + q.ring; slot = k } in r) (let e : first + (q.slot + 1) ≡ (first + q.slot) + 1 = omega arith in e)

  pub own_moved : (n : ℕ) (r : SlotRef) → is_own (at (own 0)) n (space.Slot (at r)) ≡ is_own (own 0) n (space.Slot r)
  own_moved n r =
      let rings = eq_moved ring r.ring 0 in
      let from = le_moved first 0 r.slot in
      let to = lt_moved first r.slot (0 + n) ((first + 0) + n) (omega arith) in
      rw (rings, from, to) refl

  -- a slot is a moved one, or none is it
  from_where : (q : SlotRef) → ((r : SlotRef) × (at r ≡ q)) ⊎ ((r : SlotRef) → same_slot (at r) q ≡ false)
  from_where q =
      elim (cases_lt q.ring ring) [
        | inl g ↦ inr (λ r. let other : (ring + r.ring == q.ring) ≡ false = ne_eqb (ring + r.ring) q.ring (λ e. omega arith) in rw other refl)
        | inr g ↦
            elim (cases_lt q.slot first) [
              | inl k ↦ inr (λ r. let other : (first + r.slot == q.slot) ≡ false = ne_eqb (first + r.slot) q.slot (λ e. omega arith) in rw other (and_false (ring + r.ring == q.ring)))
              | inr k ↦
                  let same_ring : ring + (q.ring - ring) ≡ q.ring = omega arith in
                  let same_place : first + (q.slot - first) ≡ q.slot = omega arith in
                  let same : slot_ref (ring + (q.ring - ring)) (first + (q.slot - first)) ≡ slot_ref q.ring q.slot = cc in
                  inl (slot_ref (q.ring - ring) (q.slot - first), same)
            ]
      ]

  module _ (ds : List Draft) (s : Bytes) where
    spaces_moved : (n : ℕ) (us : List Put) (t u : Bytes) → t ≡ pulled at u → ((q : SlotRef) → ((r : SlotRef) → same_slot (at r) q ≡ false) → u (space.Slot q) ≡ s (space.Slot q)) → ((p : Space) → is_own (own 0) n p ≡ false → placed (pulled at s) us p ≡ t p) → (p : Space) → is_own (at (own 0)) n p ≡ false → placed s (map (renamed_put at) us) p ≡ u p
    spaces_moved n us t u e others h (space.Slot q) k =
        elim (from_where q) [
          | inl w ↦
              let k_moved : is_own (at (own 0)) n (space.Slot (at w.0)) ≡ false = subst (λ (r : SlotRef). is_own (at (own 0)) n (space.Slot r) ≡ false) (sym w.1) k in
              let there : placed s (map (renamed_put at) us) (space.Slot (at w.0)) ≡ u (space.Slot (at w.0)) = ap (λ (v : Bytes). v (space.Slot w.0)) (pulled_placed at keeps us s) ∙ (h (space.Slot w.0) (sym (own_moved n w.0) ∙ k_moved) ∙ ap (λ (v : Bytes). v (space.Slot w.0)) e) in
              subst (λ (r : SlotRef). placed s (map (renamed_put at) us) (space.Slot r) ≡ u (space.Slot r)) w.1 there
          | inr none ↦ other_slot at keeps us s q none ∙ sym (others q none)
        ]
    spaces_moved n us t u e others h (space.Cell c) k = ap (λ (v : Bytes). v (space.Cell c)) (pulled_placed at keeps us s) ∙ (h (space.Cell c) k ∙ ap (λ (v : Bytes). v (space.Cell c)) e)
    spaces_moved n us t u e others h (space.Descriptor c) k = ap (λ (v : Bytes). v (space.Descriptor c)) (pulled_placed at keeps us s) ∙ (h (space.Descriptor c) k ∙ ap (λ (v : Bytes). v (space.Descriptor c)) e)
    spaces_moved n us t u e others h (space.Table c) k = ap (λ (v : Bytes). v (space.Table c)) (pulled_placed at keeps us s) ∙ (h (space.Table c) k ∙ ap (λ (v : Bytes). v (space.Table c)) e)
    spaces_moved n us t u e others h _ k = absurd (false≢true (sym k))

    slots_moved : (us : List Put) → ((q : SlotRef) → length (pulled at s (space.Slot q)) ≡ 64 → (length (placed (pulled at s) us (space.Slot q)) ≡ 64) × ((i : ℕ) → writes_slot ds q i ≡ false → slice_index (placed (pulled at s) us (space.Slot q)) i ≡ slice_index (pulled at s (space.Slot q)) i)) → (q : SlotRef) → length (s (space.Slot q)) ≡ 64 → (length (placed s (map (renamed_put at) us) (space.Slot q)) ≡ 64) × ((i : ℕ) → writes_slot (map (renamed at) ds) q i ≡ false → slice_index (placed s (map (renamed_put at) us) (space.Slot q)) i ≡ slice_index (s (space.Slot q)) i)
    slots_moved us h q long =
        elim (from_where q) [
          | inr none ↦
              let e : placed s (map (renamed_put at) us) (space.Slot q) ≡ s (space.Slot q) = other_slot at keeps us s q none in
              (ap length e ∙ long, λ i untouched. ap (λ (l : List ℕ). slice_index l i) e)
          | inl w ↦ subst (λ (r : SlotRef). length (s (space.Slot r)) ≡ 64 → (length (placed s (map (renamed_put at) us) (space.Slot r)) ≡ 64) × ((i : ℕ) → writes_slot (map (renamed at) ds) r i ≡ false → slice_index (placed s (map (renamed_put at) us) (space.Slot r)) i ≡ slice_index (s (space.Slot r)) i)) w.1 (from w.0) long
        ]
      where
        from : (r : SlotRef) → length (s (space.Slot (at r))) ≡ 64 → (length (placed s (map (renamed_put at) us) (space.Slot (at r))) ≡ 64) × ((i : ℕ) → writes_slot (map (renamed at) ds) (at r) i ≡ false → slice_index (placed s (map (renamed_put at) us) (space.Slot (at r))) i ≡ slice_index (s (space.Slot (at r))) i)
        from r l =
            let e : placed s (map (renamed_put at) us) (space.Slot (at r)) ≡ placed (pulled at s) us (space.Slot r) = ap (λ (v : Bytes). v (space.Slot r)) (pulled_placed at keeps us s) in
            (ap length e ∙ (h r l).0, λ i untouched. ap (λ (b : List ℕ). slice_index b i) e ∙ (h r l).1 i (sym (writes_slot_renamed at keeps ds r i) ∙ untouched))

    left_moved : (n : ℕ) (us : List Put) (t u : Bytes) → t ≡ pulled at u → ((q : SlotRef) → ((r : SlotRef) → same_slot (at r) q ≡ false) → u (space.Slot q) ≡ s (space.Slot q)) → IsLeft (own 0) ds (pulled at s) us (is_own (own 0) n) t → IsLeft (at (own 0)) (map (renamed at) ds) s (map (renamed_put at) us) (is_own (at (own 0)) n) u
    left_moved n us t u e others h =
        record {
          spaces = spaces_moved n us t u e others h.spaces;
          primed = primed_to at keeps next ds (placed s (map (renamed_put at) us)) ds (own 0) (subst (λ (v : Bytes). Primed ds (own 0) ds v) (sym (pulled_placed at keeps us s)) h.primed);
          slots = λ q long. slots_moved us h.slots q long;
          room = record {
            reply = ap (λ (v : Bytes). length (v space.Reply)) (pulled_placed at keeps us s) ∙ h.room.reply;
            key = ap (λ (v : Bytes). length (v space.Key)) (pulled_placed at keeps us s) ∙ h.room.key;
            scratch = λ i. ap (λ (v : Bytes). length (v (space.Scratch i))) (pulled_placed at keeps us s) ∙ h.room.scratch i;
          };
        }

    meets_moved : (o : Outcome) (a b : Effect) → IsSame at s a b → Meets (own 0) ds (pulled at s) o a → Meets (at (own 0)) (map (renamed at) ds) s (renamed_outcome at o) b
    meets_moved (Went us shown) (Leaves t events) (Leaves u more) same m =
        (m.0 ∙ same.0, subst (λ (n : ℕ). IsLeft (at (own 0)) (map (renamed at) ds) s (map (renamed_put at) us) (is_own (at (own 0)) n) u) (sym (length-map ds (renamed at))) (left_moved (length ds) us t u same.1 same.2 m.1))
    meets_moved (Faults us shown) (Stops t events) (Stops u more) same m =
        (m.0 ∙ same.0, subst (λ (n : ℕ). (p : Space) → is_own (at (own 0)) (n + 1) p ≡ false → placed s (map (renamed_put at) us) p ≡ u p) (sym (length-map ds (renamed at))) (spaces_moved (length ds + 1) us t u same.1 same.2 m.1))
    meets_moved (Went us shown) (Leaves t events) (Stops u more) same m = absurd same
    meets_moved (Faults us shown) (Stops t events) (Leaves u more) same m = absurd same
    meets_moved (Went us shown) (Stops t events) b same m = absurd m
    meets_moved (Faults us shown) (Leaves t events) b same m = absurd m
    meets_moved Bad a b same m = absurd m

  -- the slots of a template
  at_place : (k : ℕ) → at (own k) ≡ slot_from ring first k
  at_place k =
      let same_ring : ring + 0 ≡ ring = omega arith in
      let same_place : first + (0 + k) ≡ first + k = omega arith in
      let same : slot_ref (ring + 0) (first + (0 + k)) ≡ slot_ref ring (first + k) = cc in same

  at_first : at (own 0) ≡ slot_ref ring first
  at_first =
      let same_ring : ring + 0 ≡ ring = omega arith in
      let same_place : first + 0 ≡ first = omega arith in
      let same : slot_ref (ring + 0) (first + 0) ≡ slot_ref ring first = cc in same

  -- what holds of a moved template holds of the template in that place
  pub in_place : (P : SlotRef → (ℕ → SlotRef) → Type 0) → P (at (own 0)) (λ (k : ℕ). at (own k)) → P (slot_ref ring first) (slot_from ring first)
  in_place P h =
      subst (λ (q : SlotRef). P q (slot_from ring first)) at_first (subst (λ (slot : ℕ → SlotRef). P (at (own 0)) slot) (λ i k. at_place k i) h)

  pub does_moved : (template : (ℕ → SlotRef) → List Draft) (effect : (ℕ → SlotRef) → View → Bytes → Effect) → map (renamed at) (template own) ≡ template (λ (k : ℕ). at (own k)) → ((chain : View) (s : Bytes) → IsSame at s (effect own (pulled_view at chain) (pulled at s)) (effect (λ (k : ℕ). at (own k)) chain s)) → Does (own 0) (template own) (effect own) → Does (slot_ref ring first) (template (slot_from ring first)) (effect (slot_from ring first))
  does_moved template effect same same_effect does =
      in_place (λ (q : SlotRef) (slot : ℕ → SlotRef). Does q (template slot) (effect slot)) there
    where
      there : Does (at (own 0)) (template (λ (k : ℕ). at (own k))) (effect (λ (k : ℕ). at (own k)))
      there chain bytes s whole room primed =
          let ds : List Draft = template own in
          let old : View = pulled_view at chain in
          let moved_effect : Effect = effect (λ (k : ℕ). at (own k)) chain s in
          let primed_same : Primed (map (renamed at) ds) (at (own 0)) (map (renamed at) ds) s = subst (λ (l : List Draft). Primed l (at (own 0)) l s) (sym same) primed in
          let whole_pulled : IsWhole (pulled at s) = record { cells = whole.cells; numbers = whole.numbers; descriptors = whole.descriptors; tables = whole.tables } in
          let room_pulled : HasRoom (pulled at s) = record { reply = room.reply; key = room.key; scratch = room.scratch } in
          let m : Meets (own 0) ds (pulled at s) (runs old (own 0) ds (pulled at s)) (effect own old (pulled at s)) = does old (λ q t. bytes (at q) t) (pulled at s) whole_pulled room_pulled (primed_from at keeps next ds s ds (own 0) primed_same) in
          let moved_meets : Meets (at (own 0)) (map (renamed at) ds) s (renamed_outcome at (runs old (own 0) ds (pulled at s))) moved_effect = meets_moved ds s (runs old (own 0) ds (pulled at s)) (effect own old (pulled at s)) moved_effect (same_effect chain s) m in
          let runs_meets : Meets (at (own 0)) (map (renamed at) ds) s (runs chain (at (own 0)) (map (renamed at) ds) s) moved_effect = subst (λ (o : Outcome). Meets (at (own 0)) (map (renamed at) ds) s o moved_effect) (sym (runs_renamed at keeps next chain ds (own 0) s)) moved_meets in
          subst (λ (l : List Draft). Meets (at (own 0)) l s (runs chain (at (own 0)) l s) moved_effect) same runs_meets
