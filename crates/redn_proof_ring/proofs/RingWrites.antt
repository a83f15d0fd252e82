-- Which bytes of a ring with laps its drafts write: in no WAIT, in no ENABLE but the operands of the last, and in no lap request.
use Rattle.std.proofs.Common.{◌≡◌, ◌≢◌, ℕ, suc, ◌+◌, ◌<◌, ◌≤◌, inl, inr, Bool, true, false, cond, not, ◌&&◌, ◌||◌, ◌==◌, List, length, refl, sym, ap, ◌∙◌, subst, arith, length-append}
use Rattle.std.specs.Prelude.{Some, nat_le, nat_lt}
use Rattle.std.proofs.lemmas.Bool.{and_parts, and_from, or_cases, leb-true, ltb-true, le-leb, lt-ltb, eq-eqb, false≢true, cases_eq, false_from_ne_true}
use Rattle.std.proofs.lemmas.List.{length-map}
use Rattle.redn_segment.proofs.Sides.{IsSide, side_at, side_test}
use Rattle.redn_words.specs.declared.types.Opcode.{Opcode}
use Rattle.redn_words.specs.declared.types.Opcode.TheVariants.{Noop, Write, Read, Cas, Add, Send, Wait, Enable, Undefined}
use Rattle.redn_segment.specs.declared.types.SlotRef.{SlotRef}
use Rattle.redn_segment.specs.declared.types.Site.{Site}
use Rattle.redn_segment.specs.declared.types.Site.TheVariants as site
use Rattle.redn_segment.specs.declared.types.Side.{Side}
use Rattle.redn_segment.specs.declared.types.Space.{Space}
use Rattle.redn_segment.specs.declared.types.Space.TheVariants as space
use Rattle.redn_segment.specs.declared.types.Draft.{Draft}
use Rattle.redn_segment.specs.Building.{drafts_of}
use Rattle.redn_segment.specs.Sites.{space_of, start_of, same_space}
use Rattle.redn_segment.specs.Plain.{local_space, remote_space}
use Rattle.redn_segment.specs.Primed.{covers, writes_at, writes_local, writes_remote}
use Rattle.redn_segment.specs.Footprints.{local_by, remote_by, both_sides, from}
use Rattle.redn_segment.specs.Renaming.{renamed_site, renamed}
use Rattle.redn_segment.proofs.Renamed.{start_renamed}
use Rattle.redn_segment.proofs.Pieces.{slot_is}
use Rattle.redn_recycle.specs.Laps.{Ring, slot_of, wait_of, enable_of, gates_of, is_send_last, bodies_of, lap_requests}
use Rattle.redn_recycle.specs.Lapped.{segment_at, first_of, slots_added, sends_last, slots_in_laps, slot_in_laps, names_well, draft_names_well, ref_in_laps, ring_of}
use Rattle.redn_recycle.proofs.Starts.{some_slots, last_there}
use Rattle.redn_recycle.proofs.Rings.{bodies_and_gates, added_is}
use Rattle.redn_proof_ring.specs.Apart.{fills_last}
use Rattle.redn_proof_ring.proofs.Named.{side_named}
use Rattle.redn_proof_ring.proofs.GateSlots.{IsNamed, named, no_gate, behind_last, not_a_wait}
use Rattle.redn_proof_ring.proofs.RingApart.{site_test}

-- the written side that has a written byte
pub record Writing (d : Draft) (p : Space) (i : ℕ) : Type 0 where
  pub side : Side
  pub its : IsSide d side
  pub writes : side.writes ≡ true
  pub there : same_space (space_of side.site) p ≡ true
  pub low : from side ≤ i
  pub high : i < from side + side.len

pub covered : (at len i : ℕ) → covers at len i ≡ true → (at ≤ i) × (i < at + len)
covered at len i e = let parts = and_parts (nat_le at i) (nat_lt i (at + len)) e in (leb-true at i parts.0, ltb-true i (at + len) parts.1)

pub writing : (d : Draft) (p : Space) (i : ℕ) → writes_at p i d ≡ true → Writing d p i
writing d p i e =
    elim (or_cases (same_space (local_space d) p && covers (start_of d.local + d.local_byte) (writes_local d d.op) i) (same_space (remote_space d) p && covers (start_of d.remote + d.remote_byte) (writes_remote d d.op) i) e) [
      | inl near ↦ let parts = and_parts (same_space (local_space d) p) (covers (start_of d.local + d.local_byte) (writes_local d d.op) i) near in near_by d.op refl parts.0 (covered (start_of d.local + d.local_byte) (writes_local d d.op) i parts.1)
      | inr far ↦ let parts = and_parts (same_space (remote_space d) p) (covers (start_of d.remote + d.remote_byte) (writes_remote d d.op) i) far in far_by d.op refl parts.0 (covered (start_of d.remote + d.remote_byte) (writes_remote d d.op) i parts.1)
    ]
  where
    near_side : (len : ℕ) → local_by d d.op ≡ Some (side_at d.local d.local_byte len true) → same_space (local_space d) p ≡ true → start_of d.local + d.local_byte ≤ i → i < (start_of d.local + d.local_byte) + len → Writing d p i
    near_side len is same low high = record { side = side_at d.local d.local_byte len true; its = inl is; writes = refl; there = same; low = low; high = high }

    far_side : (len : ℕ) → remote_by d d.op ≡ Some (side_at d.remote d.remote_byte len true) → same_space (remote_space d) p ≡ true → start_of d.remote + d.remote_byte ≤ i → i < (start_of d.remote + d.remote_byte) + len → Writing d p i
    far_side len is same low high = record { side = side_at d.remote d.remote_byte len true; its = inr is; writes = refl; there = same; low = low; high = high }

    long : (op : Opcode) (at n : ℕ) → d.op ≡ op → (w : Opcode → ℕ) → i < at + w d.op → w op ≡ n → i < at + n
    long op at n e w h f = let same : w d.op ≡ n = ap w e ∙ f in omega (arith, h, same)

    near_by : (op : Opcode) → d.op ≡ op → same_space (local_space d) p ≡ true → (start_of d.local + d.local_byte ≤ i) × (i < (start_of d.local + d.local_byte) + writes_local d d.op) → Writing d p i
    near_by Noop f same c = near_side d.length (ap (local_by d) f) same c.0 (long Noop (start_of d.local + d.local_byte) d.length f (writes_local d) c.1 refl)
    near_by Read f same c = near_side d.length (ap (local_by d) f) same c.0 (long Read (start_of d.local + d.local_byte) d.length f (writes_local d) c.1 refl)
    near_by Cas f same c = near_side 8 (ap (local_by d) f) same c.0 (long Cas (start_of d.local + d.local_byte) 8 f (writes_local d) c.1 refl)
    near_by Add f same c = near_side 8 (ap (local_by d) f) same c.0 (long Add (start_of d.local + d.local_byte) 8 f (writes_local d) c.1 refl)
    near_by Write f same c = let h = long Write (start_of d.local + d.local_byte) 0 f (writes_local d) c.1 refl in let low = c.0 in absurd (omega (arith, h, low))
    near_by Send f same c = let h = long Send (start_of d.local + d.local_byte) 0 f (writes_local d) c.1 refl in let low = c.0 in absurd (omega (arith, h, low))
    near_by Wait f same c = let h = long Wait (start_of d.local + d.local_byte) 0 f (writes_local d) c.1 refl in let low = c.0 in absurd (omega (arith, h, low))
    near_by Enable f same c = let h = long Enable (start_of d.local + d.local_byte) 0 f (writes_local d) c.1 refl in let low = c.0 in absurd (omega (arith, h, low))
    near_by (Undefined n) f same c = let h = long (Undefined n) (start_of d.local + d.local_byte) 0 f (writes_local d) c.1 refl in let low = c.0 in absurd (omega (arith, h, low))

    far_by : (op : Opcode) → d.op ≡ op → same_space (remote_space d) p ≡ true → (start_of d.remote + d.remote_byte ≤ i) × (i < (start_of d.remote + d.remote_byte) + writes_remote d d.op) → Writing d p i
    far_by Noop f same c = far_side d.length (ap (remote_by d) f) same c.0 (long Noop (start_of d.remote + d.remote_byte) d.length f (writes_remote d) c.1 refl)
    far_by Write f same c = far_side d.length (ap (remote_by d) f) same c.0 (long Write (start_of d.remote + d.remote_byte) d.length f (writes_remote d) c.1 refl)
    far_by Cas f same c = far_side 8 (ap (remote_by d) f) same c.0 (long Cas (start_of d.remote + d.remote_byte) 8 f (writes_remote d) c.1 refl)
    far_by Add f same c = far_side 8 (ap (remote_by d) f) same c.0 (long Add (start_of d.remote + d.remote_byte) 8 f (writes_remote d) c.1 refl)
    far_by Read f same c = let h = long Read (start_of d.remote + d.remote_byte) 0 f (writes_remote d) c.1 refl in let low = c.0 in absurd (omega (arith, h, low))
    far_by Send f same c = let h = long Send (start_of d.remote + d.remote_byte) 0 f (writes_remote d) c.1 refl in let low = c.0 in absurd (omega (arith, h, low))
    far_by Wait f same c = let h = long Wait (start_of d.remote + d.remote_byte) 0 f (writes_remote d) c.1 refl in let low = c.0 in absurd (omega (arith, h, low))
    far_by Enable f same c = let h = long Enable (start_of d.remote + d.remote_byte) 0 f (writes_remote d) c.1 refl in let low = c.0 in absurd (omega (arith, h, low))
    far_by (Undefined n) f same c = let h = long (Undefined n) (start_of d.remote + d.remote_byte) 0 f (writes_remote d) c.1 refl in let low = c.0 in absurd (omega (arith, h, low))

module _ (segments : List (List Draft)) (some : 2 ≤ length segments) (number domain base : ℕ) where
  abbrev r : Ring
  r = ring_of segments number domain base

  abbrev f : SlotRef → SlotRef
  f = ref_in_laps segments number

  abbrev n : ℕ
  n = length (drafts_of segments)

  -- the number by which a draft names a slot
  record Naming (x : Site) (q : SlotRef) : Type 0 where
    pub number_is : q.ring ≡ number
    pub old : ℕ
    pub named : IsNamed segments some old
    pub new : q.slot ≡ slot_in_laps segments old
    pub space_is : space_of x ≡ space.Slot (slot_of number old)

  naming : (x : Site) (q : SlotRef) → names_well segments number x ≡ true → same_space (space_of (renamed_site f x)) (space.Slot q) ≡ true → Naming x q
  naming (site.Field y) q e same =
      let its = named segments some number y.slot e in
      let own : (y.slot.ring == number) ≡ true = eq-eqb y.slot.ring number its.0 in
      let now : f y.slot ≡ record (y.slot) { slot = slot_in_laps segments y.slot.slot } = rw own refl in
      let at : f y.slot ≡ q = slot_is (f y.slot) q same in
      record {
        number_is = ap (λ (s : SlotRef). s.ring) (sym at ∙ now) ∙ its.0;
        old = y.slot.slot;
        named = its.1;
        new = ap (λ (s : SlotRef). s.slot) (sym at ∙ now);
        space_is = ap (λ (k : ℕ). space.Slot (slot_of k y.slot.slot)) its.0;
      }
  naming (site.Cell c) q e same = absurd (false≢true same)
  naming _ q e same = absurd (false≢true same)

  -- a segment with gates
  gates_some : (j : ℕ) → j < length segments → gates_of number r j ≡ 2 → 3 ≤ slots_added segments j
  gates_some j l two = by_test (sends_last segments) (suc j == length segments) (j == 0) two
    where
      by_test : (s last first : Bool) → ◌≡◌ {A = ℕ} (cond (s && last) 0 2) 2 → 3 ≤ cond (s && last) 0 (cond (s && first) 3 4)
      by_test true true first e = absurd (omega arith)
      by_test true false true e = omega arith
      by_test true false false e = omega arith
      by_test false last first e = omega arith

  -- what is written of a slot by a draft under its new names
  pub record WritesWell (q : SlotRef) (i : ℕ) : Type 0 where
    pub ring_is : q.ring ≡ number
    pub waits : (j : ℕ) → j < length segments → gates_of number r j ≡ 2 → q.slot ≢ wait_of number r j
    pub enables : (j : ℕ) → j < length segments → gates_of number r j ≡ 2 → q.slot ≡ enable_of number r j → (suc j ≡ length segments) × (covers 40 16 i ≡ true)
    pub laps : (j w : ℕ) → j < length segments → first_of segments j + length (segment_at segments j) ≤ w → w < first_of segments (suc j) → q.slot ≡ w → (suc j ≡ length segments) × (w + 1 ≡ slots_in_laps segments)

  some_side : (b a : Side) → Some b ≡ Some a → a ≡ b
  some_side b a e = cc

  named_local : (d : Draft) (op : Opcode) (b : Side) → local_by (renamed f d) op ≡ Some b → (a : Side) × (local_by d op ≡ Some a) × (b ≡ side_named f a)
  named_local d Wait b e = absurd (cc)
  named_local d Enable b e = absurd (cc)
  named_local d (Undefined n) b e = absurd (cc)
  named_local d _ b e = (_, refl, some_side _ b e)

  named_remote : (d : Draft) (op : Opcode) (b : Side) → remote_by (renamed f d) op ≡ Some b → (a : Side) × (remote_by d op ≡ Some a) × (b ≡ side_named f a)
  named_remote d Send b e = absurd (cc)
  named_remote d Wait b e = absurd (cc)
  named_remote d Enable b e = absurd (cc)
  named_remote d (Undefined n) b e = absurd (cc)
  named_remote d _ b e = (_, refl, some_side _ b e)

  named_side : (d : Draft) (b : Side) → IsSide (renamed f d) b → (a : Side) × IsSide d a × (b ≡ side_named f a)
  named_side d b (inl e) = let x = named_local d d.op b e in (x.0, inl x.1, x.2)
  named_side d b (inr e) = let x = named_remote d d.op b e in (x.0, inr x.1, x.2)

  -- a side that writes the last ENABLE
  filled : (a : Side) (i : ℕ) → fills_last segments number a ≡ true → a.writes ≡ true → space_of a.site ≡ space.Slot (slot_of number n) → from a ≤ i → i < from a + a.len → covers 40 16 i ≡ true
  filled a i e w at low high =
      let here : same_space (space_of a.site) (space.Slot (slot_of number n)) ≡ true = ap (λ (p : Space). same_space p (space.Slot (slot_of number n))) at ∙ and_from (number == number) _ (eq-eqb number number refl) (eq-eqb n n refl) in
      let hit : (a.writes && same_space (space_of a.site) (space.Slot (slot_of number n))) ≡ true = and_from a.writes _ w here in
      let fine : (nat_le 40 (from a) && nat_le (from a + a.len) 56) ≡ true = subst (λ (b : Bool). (not b || (nat_le 40 (from a) && nat_le (from a + a.len) 56)) ≡ true) hit e in
      let parts = and_parts (nat_le 40 (from a)) (nat_le (from a + a.len) 56) fine in
      let above = leb-true 40 (from a) parts.0 in
      let below = leb-true (from a + a.len) 56 parts.1 in
      and_from (nat_le 40 i) _ (le-leb 40 i (omega (arith, above, low))) (lt-ltb i (40 + 16) (omega (arith, below, high)))

  -- a named slot in the gates of a segment is the last ENABLE
  last_lap : (j w old : ℕ) → j < length segments → first_of segments j + length (segment_at segments j) ≤ w → w < first_of segments (suc j) → IsNamed segments some old → slot_in_laps segments old ≡ w → (suc j ≡ length segments) × (w + 1 ≡ slots_in_laps segments) × (old ≡ n)
  last_lap j w old l low high (inl below) e = absurd (no_gate segments some old j w below l low high e)
  last_lap j w old l low high (inr last) e =
      let there = last_there segments last.0 in
      let same : slot_in_laps segments old ≡ slot_in_laps segments n = ap (slot_in_laps segments) last.1 in
      let more = some_slots segments some in
      elim (cases_eq (suc j) (length segments)) [
        | inl end ↦ (end, omega (arith, e, there, same, more), last.1)
        | inr ne ↦ let far = behind_last segments some j (omega (arith, l, ne)) last.0 in absurd (omega (arith, e, there, same, high, far, more))
      ]

  pub writes_well : (d : Draft) → draft_names_well segments number d ≡ true → both_sides (fills_last segments number) d ≡ true → (q : SlotRef) (i : ℕ) → writes_at (space.Slot q) i (renamed f d) ≡ true → WritesWell q i
  writes_well d names fills q i e =
      let w = writing (renamed f d) (space.Slot q) i e in
      let x = named_side d w.side w.its in
      let a : Side = x.0 in
      let both = and_parts (names_well segments number d.local) (names_well segments number d.remote) names in
      let there : same_space (space_of (renamed_site f a.site)) (space.Slot q) ≡ true = ap (λ (b : Side). same_space (space_of b.site) (space.Slot q)) (sym x.2) ∙ w.there in
      let name = naming a.site q (site_test (names_well segments number) d a x.1 both.0 both.1) there in
      let start : from w.side ≡ from a = ap (λ (b : Side). from b) x.2 ∙ ap (λ (k : ℕ). k + a.byte) (start_renamed f a.site) in
      let long : w.side.len ≡ a.len = ap (λ (b : Side). b.len) x.2 in
      let writes : a.writes ≡ true = ap (λ (b : Side). b.writes) (sym x.2) ∙ w.writes in
      let low = w.low in
      let high = w.high in
      record {
        ring_is = name.number_is;
        waits = λ j l two at. not_a_wait segments some number domain base name.old j name.named l (gates_some j l two) (sym name.new ∙ at);
        enables = λ j l two at.
            let gates = gates_some j l two in
            let last = last_lap j (enable_of number r j) name.old l (omega (arith, gates)) (omega (arith, gates)) name.named (sym name.new ∙ at) in
            (last.0, filled a i (side_test d (fills_last segments number) a fills x.1) writes (name.space_is ∙ ap (λ (k : ℕ). space.Slot (slot_of number k)) last.2) (omega (arith, low, start)) (omega (arith, high, start, long)));
        laps = λ j k l from_here to_there at. (let last = last_lap j k name.old l from_here to_there name.named (sym name.new ∙ at) in (last.0, last.1));
      }

  -- a segment with lap requests has gates
  gates_where_laps : (j k : ℕ) → length (r.drafts j) ≤ k → k < length (bodies_of number r j) → gates_of number r j ≡ 2
  gates_where_laps j k low high = by_test (is_send_last number r j) refl
    where
      count : length (bodies_of number r j) ≡ length (r.drafts j) + length (lap_requests number r j)
      count = length-append (r.drafts j) (lap_requests number r j)

      by_test : (b : Bool) → is_send_last number r j ≡ b → ◌≡◌ {A = ℕ} (cond b 0 2) 2
      by_test false e = refl
      by_test true e =
          let none : slots_added segments j ≡ 0 = rw e refl in
          let all = added_is segments number domain base j some in
          absurd (omega (arith, none, all, count, low, high))

  -- so no draft writes a lap request
  pub laps_unwritten : (d : Draft) → draft_names_well segments number d ≡ true → both_sides (fills_last segments number) d ≡ true → (j k i : ℕ) → j < length segments → length (r.drafts j) ≤ k → k < length (bodies_of number r j) → writes_at (space.Slot (slot_of number (first_of segments j + k))) i (renamed f d) ≡ false
  laps_unwritten d names fills j k i l low high =
      false_from_ne_true (writes_at (space.Slot (slot_of number (first_of segments j + k))) i (renamed f d)) (λ e.
      let w = writes_well d names fills (slot_of number (first_of segments j + k)) i e in
      let own : length (r.drafts j) ≡ length (segment_at segments j) = length-map (segment_at segments j) (renamed f) in
      let all = bodies_and_gates segments number domain base j some in
      let gates : gates_of number r j ≡ 2 = gates_where_laps j k low high in
      let last = w.laps j (first_of segments j + k) l (omega (arith, low, own)) (omega (arith, high, all, gates)) refl in
      let whole : first_of segments (suc j) ≡ slots_in_laps segments = ap (first_of segments) last.0 in
      let at = last.1 in
      omega (arith, at, whole, high, all, gates))
