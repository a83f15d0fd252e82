-- The drafts of a segment and its lap requests lie apart together.
use Rattle.std.proofs.Common.{◌≡◌, ◌≢◌, ℕ, suc, ◌+◌, ◌-◌, ◌<◌, ◌≤◌, ◌⊎◌, inl, inr, Bool, true, false, not, ◌&&◌, ◌||◌, ◌==◌, List, [], ◌∷◌, map, length, refl, sym, ap, ◌∙◌, subst, arith}
use Rattle.std.specs.Prelude.{nat_le, nat_lt, slice_get, Some}
use Rattle.std.specs.List.{list_all}
use Rattle.std.proofs.lemmas.Bool.{and_parts, and_from, eq-eqb, ne_eqb, le-leb, lt-ltb, false≢true, cases_lt, cases_eq}
use Rattle.std.proofs.lemmas.Bool.Decides.{nat_tests}
use Rattle.redn_segment.proofs.Sides.{IsSide, side_test}
use Rattle.redn_words.specs.declared.types.Opcode.{Opcode}
use Rattle.redn_words.specs.declared.types.Opcode.TheVariants.{Send, Wait, Enable, Undefined}
use Rattle.redn_segment.specs.declared.types.SlotRef.{SlotRef}
use Rattle.redn_segment.specs.Building.{drafts_of}
use Rattle.redn_segment.specs.declared.types.Site.{Site}
use Rattle.redn_segment.specs.declared.types.Site.TheVariants as site
use Rattle.redn_segment.specs.declared.types.Side.{Side}
use Rattle.redn_segment.specs.declared.types.Space.TheVariants as space
use Rattle.redn_segment.specs.declared.types.Draft.{Draft}
use Rattle.redn_segment.specs.Sites.{space_of, same_space}
use Rattle.redn_segment.specs.Footprints.{local_by, remote_by, both_sides, ends_inside, is_free, drafts_free, all_free, among, spares, meet}
use Rattle.redn_segment.specs.Renaming.{renamed_site, renamed}
use Rattle.redn_segment.proofs.Kept.{not_true}
use Rattle.redn_recycle.specs.Laps.{Ring, slot_of, wait_of, enable_of, gates_of, lap_requests, bodies_of, raise_wait, raise_enable, raise_descriptor, is_send_last}
use Rattle.redn_recycle.specs.Lapped.{segment_at, start_of, first_of, slots_added, sends_last, slot_in_laps, names_well, draft_names_well, ref_in_laps, ring_of}
use Rattle.redn_recycle.proofs.Starts.{start_all, first_le, gated_all, gated_below}
use Rattle.redn_recycle.proofs.Rings.{bodies_and_gates, one_request, first_requests, no_requests, two_requests}
use Rattle.redn_recycle.proofs.Rising.{refs_differ}
use Rattle.redn_proof_ring.specs.Apart.{LeavesLaps, leaves_scratch, leaves_descriptor}
use Rattle.redn_proof_ring.proofs.Named.{both_from, free_of_both, side_named, both_named, ends_named, free_named}
use Rattle.redn_proof_ring.proofs.GateSlots.{IsNamed, named, not_a_wait, not_an_enable, stays_outside}
use Rattle.redn_proof_ring.proofs.LapKept.{some_site}
use Rattle.redn_segment.proofs.AnyOrder.{all_at}
use Rattle.redn_segment.proofs.Both.{all_append as all_of_both}

-- the two sides of an ADD
abbrev near_side : Draft → Side
near_side e = record { site = e.local; byte = e.local_byte; len = 8; writes = true }

abbrev far_side : Draft → Side
far_side e = record { site = e.remote; byte = e.remote_byte; len = 8; writes = true }

-- a lap request is free of what leaves its scratch word and its target alone
unmet : (a b : Side) → same_space (space_of a.site) (space_of b.site) ≡ false → is_free a b ≡ true
unmet a b e = by_writes (a.writes || b.writes)
  where
    none : meet a b ≡ false
    none = rw e refl

    by_writes : (w : Bool) → not (w && meet a b) ≡ true
    by_writes true = ap not none
    by_writes false = refl

pub local_site : (d : Draft) (op : Opcode) (a : Side) → local_by d op ≡ Some a → a.site ≡ d.local
local_site d Wait a e = absurd (cc)
local_site d Enable a e = absurd (cc)
local_site d (Undefined n) a e = absurd (cc)
local_site d _ a e = some_site _ a e

pub remote_site : (d : Draft) (op : Opcode) (a : Side) → remote_by d op ≡ Some a → a.site ≡ d.remote
remote_site d Send a e = absurd (cc)
remote_site d Wait a e = absurd (cc)
remote_site d Enable a e = absurd (cc)
remote_site d (Undefined n) a e = absurd (cc)
remote_site d _ a e = some_site _ a e

-- a test of a site that both sites of a draft pass
pub site_test : (test : Site → Bool) (d : Draft) (a : Side) → IsSide d a → test d.local ≡ true → test d.remote ≡ true → test a.site ≡ true
site_test test d a (inl e) l m = ap test (local_site d d.op a e) ∙ l
site_test test d a (inr e) l m = ap test (remote_site d d.op a e) ∙ m

-- what a written range spares
spared_from : (w p x : Bool) → (w ≡ true → p ≡ true → x ≡ false) → not (w && (p && x)) ≡ true
spared_from true true x h = ap not (h refl refl)
spared_from true false x h = refl
spared_from false p x h = refl

spared_to : (w p x : Bool) → not (w && (p && x)) ≡ true → w ≡ true → p ≡ true → x ≡ false
spared_to w p true e f g = absurd (false≢true (ap not (sym (and_from w (p && true) f (and_from p true g refl))) ∙ e))
spared_to w p false e f g = refl

-- a number outside a range, and one inside
outside : (first n i : ℕ) → (i < first) ⊎ (first + n ≤ i) → nat_le first i && nat_lt i (first + n) ≡ false
outside first n i (inl h) = let t : nat_le first i ≡ false = grind (arith, nat_tests) in rw t refl
outside first n i (inr h) = by_first (nat_le first i)
  where
    past : nat_lt i (first + n) ≡ false
    past = grind (arith, nat_tests)

    by_first : (b : Bool) → b && nat_lt i (first + n) ≡ false
    by_first true = past
    by_first false = refl

outside_is : (first n i : ℕ) → nat_le first i && nat_lt i (first + n) ≡ false → (i < first) ⊎ (first + n ≤ i)
outside_is first n i e =
    elim (cases_lt i first) [
      | inl low ↦ inl low
      | inr high ↦
          elim (cases_lt i (first + n)) [
            | inl below ↦ absurd (false≢true (sym e ∙ and_from (nat_le first i) (nat_lt i (first + n)) (le-leb first i high) (lt-ltb i (first + n) below)))
            | inr past ↦ inr past
          ]
    ]

module _ (segments : List (List Draft)) (some : 2 ≤ length segments) (number domain base : ℕ) where
  abbrev r : Ring
  r = ring_of segments number domain base

  abbrev f : SlotRef → SlotRef
  f = ref_in_laps segments number

  -- a named side isn't in a slot that no draft names
  side_elsewhere : (x : Site) (w : ℕ) → names_well segments number x ≡ true → ((i : ℕ) → IsNamed segments some i → slot_in_laps segments i ≢ w) → same_space (space_of (renamed_site f x)) (space.Slot (slot_of number w)) ≡ false
  side_elsewhere (site.Field y) w e h =
      let its = named segments some number y.slot e in
      let own : (y.slot.ring == number) ≡ true = eq-eqb y.slot.ring number its.0 in
      let other : (slot_in_laps segments y.slot.slot == w) ≡ false = ne_eqb (slot_in_laps segments y.slot.slot) w (h y.slot.slot its.1) in
      rw own (rw own other)
  side_elsewhere (site.Cell c) w e h = refl
  side_elsewhere _ w e h = refl

  -- spaces that aren't slots keep their names
  same_scratch : (x : Site) (i : ℕ) → same_space (space_of (renamed_site f x)) (space.Scratch i) ≡ same_space (space_of x) (space.Scratch i)
  same_scratch (site.Field y) i = refl
  same_scratch _ i = refl

  same_descriptor : (x : Site) (i : ℕ) → same_space (space_of (renamed_site f x)) (space.Descriptor i) ≡ same_space (space_of x) (space.Descriptor i)
  same_descriptor (site.Field y) i = refl
  same_descriptor _ i = refl

  no_scratch : (a : Side) → leaves_scratch a ≡ true → (same_space (space_of a.site) (space.Scratch 2) ≡ false) × (same_space (space_of a.site) (space.Scratch 3) ≡ false)
  no_scratch a e = by_tests (same_space (space_of a.site) (space.Scratch 2)) (same_space (space_of a.site) (space.Scratch 3)) e
    where
      by_tests : (x y : Bool) → not (x || y) ≡ true → (x ≡ false) × (y ≡ false)
      by_tests false false h = (refl, refl)
      by_tests false true h = absurd (false≢true h)
      by_tests true y h = absurd (false≢true h)

  module _ (j : ℕ) (l : j < length segments) (h : LeavesLaps segments number j) where
    abbrev ds : List Draft
    ds = segment_at segments j

    abbrev m : ℕ
    m = length (bodies_of number r j) + gates_of number r j

    -- the segment's slots end where the next one begins
    ends_at : first_of segments j + m ≡ first_of segments (suc j)
    ends_at = ap (λ (k : ℕ). first_of segments j + k) (bodies_and_gates segments number domain base j some)

    -- a draft of the segment
    pub record Its (d : Draft) : Type 0 where
      pub named_well : (a : Side) → IsSide d a → names_well segments number a.site ≡ true
      pub scratch : (a : Side) → IsSide d a → leaves_scratch a ≡ true
      pub descriptor : j ≡ 0 → (a : Side) → IsSide d a → leaves_descriptor number a ≡ true
      pub spared : (a : Side) → IsSide d a → spares (slot_of number (start_of segments j)) (length ds) a ≡ true
      pub last : suc j ≡ length segments → (a : Side) → IsSide d a → spares (slot_of number (start_of segments j)) (length ds + 1) a ≡ true

    apart_parts : (list_all (both_sides ends_inside) ds ≡ true) × (all_free ds ≡ true) × (list_all (both_sides (spares (slot_of number (start_of segments j)) (length ds))) ds ≡ true)
    apart_parts =
        let one = and_parts (list_all (both_sides ends_inside) ds) (all_free ds && list_all (both_sides (spares (slot_of number (start_of segments j)) (length ds))) ds) h.apart in
        let two = and_parts (all_free ds) (list_all (both_sides (spares (slot_of number (start_of segments j)) (length ds))) ds) one.1 in
        (one.0, two.0, two.1)

    pub its : (k : ℕ) (d : Draft) → slice_get ds k ≡ Some d → Its d
    its k d e =
        let names = and_parts (names_well segments number d.local) (names_well segments number d.remote) (all_at (draft_names_well segments number) ds k d h.names e) in
        record {
          named_well = λ a of_it. site_test (names_well segments number) d a of_it names.0 names.1;
          scratch = λ a of_it. side_test d leaves_scratch a (all_at (both_sides leaves_scratch) ds k d h.scratch e) of_it;
          descriptor = λ zero_is a of_it. side_test d (leaves_descriptor number) a (all_at (both_sides (leaves_descriptor number)) ds k d (h.descriptor zero_is) e) of_it;
          spared = λ a of_it. side_test d (spares (slot_of number (start_of segments j)) (length ds)) a (all_at (both_sides (spares (slot_of number (start_of segments j)) (length ds))) ds k d apart_parts.2 e) of_it;
          last = λ last_is a of_it. side_test d (spares (slot_of number (start_of segments j)) (length ds + 1)) a (all_at (both_sides (spares (slot_of number (start_of segments j)) (length ds + 1))) ds k d (h.last last_is) e) of_it;
        }

    -- a slot outside the segment stays outside
    spared_side : (d : Draft) (a : Side) → Its d → IsSide d a → spares (slot_of number (first_of segments j)) m (side_named f a) ≡ true
    spared_side d a t of_it = spared_from a.writes (nat_lt 0 a.len) (among (slot_of number (first_of segments j)) m (space_of (renamed_site f a.site))) (λ w some_len. by_site a.site (t.named_well a of_it) (spared_to a.writes (nat_lt 0 a.len) (among (slot_of number (start_of segments j)) (length ds) (space_of a.site)) (t.spared a of_it) w some_len) (λ last_is. spared_to a.writes (nat_lt 0 a.len) (among (slot_of number (start_of segments j)) (length ds + 1) (space_of a.site)) (t.last last_is a of_it) w some_len))
      where
        by_site : (x : Site) → names_well segments number x ≡ true → among (slot_of number (start_of segments j)) (length ds) (space_of x) ≡ false → (suc j ≡ length segments → among (slot_of number (start_of segments j)) (length ds + 1) (space_of x) ≡ false) → among (slot_of number (first_of segments j)) m (space_of (renamed_site f x)) ≡ false
        by_site (site.Field y) e out last =
            let its_slot = named segments some number y.slot e in
            let own : (y.slot.ring == number) ≡ true = eq-eqb y.slot.ring number its_slot.0 in
            let stood : (y.slot.slot < start_of segments j) ⊎ (start_of segments j + length ds ≤ y.slot.slot) = outside_is (start_of segments j) (length ds) y.slot.slot (rw own at out) in
            let not_last : suc j ≡ length segments → y.slot.slot ≢ length (drafts_of segments) = λ last_is at_end.
            (let far : (y.slot.slot < start_of segments j) ⊎ (start_of segments j + (length ds + 1) ≤ y.slot.slot) = outside_is (start_of segments j) (length ds + 1) y.slot.slot (rw own at (last last_is)) in
            let all = start_all segments in
            let here : start_of segments (suc j) ≡ start_of segments (length segments) = ap (start_of segments) last_is in
            elim far [ inl before ↦ omega (arith, before, at_end, all, here) | inr after ↦ omega (arith, after, at_end, all, here) ]) in
            let stands = stays_outside segments some number domain base y.slot.slot j its_slot.1 l stood not_last in
            let out_now : nat_le (first_of segments j) (slot_in_laps segments y.slot.slot) && nat_lt (slot_in_laps segments y.slot.slot) (first_of segments j + m) ≡ false = outside (first_of segments j) m (slot_in_laps segments y.slot.slot) (elim stands [ inl before ↦ inl before | inr after ↦ inr (let at = ends_at in omega (arith, after, at)) ]) in
            rw own (rw own out_now)
        by_site (site.Cell c) e out last = refl
        by_site (site.ReplyWord i) e out last = refl
        by_site site.Key e out last = refl
        by_site (site.Scratch i) e out last = refl
        by_site (site.Descriptor i) e out last = refl
        by_site (site.Table t o) e out last = refl

    draft_spared : (k : ℕ) (d : Draft) → slice_get ds k ≡ Some d → both_sides (spares (slot_of number (first_of segments j)) m) (renamed f d) ≡ true
    draft_spared k d e = both_named f (spares (slot_of number (first_of segments j)) m) d ∙ both_from d (λ (a : Side). spares (slot_of number (first_of segments j)) m (side_named f a)) (λ a of_it. spared_side d a (its k d e) of_it)

    -- what is asked of a lap request
    pub record Laps (e : Draft) : Type 0 where
      pub inside : both_sides ends_inside e ≡ true
      pub free : (k : ℕ) (d : Draft) → slice_get ds k ≡ Some d → drafts_free (renamed f d) e ≡ true
      pub spared : both_sides (spares (slot_of number (first_of segments j)) m) e ≡ true

    slot_spared : (w : ℕ) → (w < first_of segments j) ⊎ (first_of segments (suc j) ≤ w) → among (slot_of number (first_of segments j)) m (space.Slot (slot_of number w)) ≡ false
    slot_spared w out =
        let own : (number == number) ≡ true = eq-eqb number number refl in
        let at = ends_at in
        let now : nat_le (first_of segments j) w && nat_lt w (first_of segments j + m) ≡ false = outside (first_of segments j) m w (elim out [ inl before ↦ inl before | inr after ↦ inr (omega (arith, after, at)) ]) in
        rw own now

    wait_laps : (i : ℕ) → i < length segments → 3 ≤ slots_added segments i → (wait_of number r i < first_of segments j) ⊎ (first_of segments (suc j) ≤ wait_of number r i) → Laps (raise_wait number r i)
    wait_laps i inside gates out =
        record {
          inside = refl;
          free = λ k d e. (let t = its k d e in both_named f (λ (a : Side). both_sides (is_free a) (raise_wait number r i)) d ∙ both_from d (λ (a : Side). both_sides (is_free (side_named f a)) (raise_wait number r i)) (λ a of_it.
              and_from _ _ (unmet (side_named f a) (near_side (raise_wait number r i)) (same_scratch a.site 2 ∙ (no_scratch a (t.scratch a of_it)).0)) (unmet (side_named f a) (far_side (raise_wait number r i)) (side_elsewhere a.site (wait_of number r i) (t.named_well a of_it) (λ s n. not_a_wait segments some number domain base s i n inside gates)))));
          spared = ap not (slot_spared (wait_of number r i) out);
        }

    enable_laps : (i : ℕ) → suc i < length segments → (enable_of number r i < first_of segments j) ⊎ (first_of segments (suc j) ≤ enable_of number r i) → Laps (raise_enable number r i)
    enable_laps i inside out =
        record {
          inside = refl;
          free = λ k d e. (let t = its k d e in both_named f (λ (a : Side). both_sides (is_free a) (raise_enable number r i)) d ∙ both_from d (λ (a : Side). both_sides (is_free (side_named f a)) (raise_enable number r i)) (λ a of_it.
              and_from _ _ (unmet (side_named f a) (near_side (raise_enable number r i)) (same_scratch a.site 3 ∙ (no_scratch a (t.scratch a of_it)).1)) (unmet (side_named f a) (far_side (raise_enable number r i)) (side_elsewhere a.site (enable_of number r i) (t.named_well a of_it) (λ s n. not_an_enable segments some number domain base s i n inside)))));
          spared = ap not (slot_spared (enable_of number r i) out);
        }

    descriptor_laps : j ≡ 0 → Laps (raise_descriptor number r)
    descriptor_laps zero_is =
        record {
          inside = refl;
          free = λ k d e. (let t = its k d e in both_named f (λ (a : Side). both_sides (is_free a) (raise_descriptor number r)) d ∙ both_from d (λ (a : Side). both_sides (is_free (side_named f a)) (raise_descriptor number r)) (λ a of_it.
              and_from _ _ (unmet (side_named f a) (near_side (raise_descriptor number r)) (same_scratch a.site 3 ∙ (no_scratch a (t.scratch a of_it)).1)) (unmet (side_named f a) (far_side (raise_descriptor number r)) (same_descriptor a.site number ∙ not_true _ (t.descriptor zero_is a of_it)))));
          spared = refl;
        }

    -- lap requests together
    pub record Together (ls : List Draft) : Type 0 where
      pub inside : list_all (both_sides ends_inside) ls ≡ true
      pub free : all_free ls ≡ true
      pub others : list_all (λ (x : Draft). list_all (drafts_free x) ls) (map (renamed f) ds) ≡ true
      pub spared : list_all (both_sides (spares (slot_of number (first_of segments j)) m)) ls ≡ true

    renamed_all : (test : Draft → Bool) → ((k : ℕ) (d : Draft) → slice_get ds k ≡ Some d → test (renamed f d) ≡ true) → list_all test (map (renamed f) ds) ≡ true
    renamed_all test g = by_list ds g
      where
        by_list : (xs : List Draft) → ((k : ℕ) (d : Draft) → slice_get xs k ≡ Some d → test (renamed f d) ≡ true) → list_all test (map (renamed f) xs) ≡ true
        by_list [] h = refl
        by_list (x ∷ xs) h = and_from (test (renamed f x)) (list_all test (map (renamed f) xs)) (h 0 x refl) (by_list xs (λ k d e. h (suc k) d e))

    no_laps : Together []
    no_laps = record { inside = refl; free = refl; others = renamed_all (λ x. true) (λ k d e. refl); spared = refl }

    one_lap : (a : Draft) → Laps a → Together (a ∷ [])
    one_lap a x =
        record {
          inside = and_from (both_sides ends_inside a) true x.inside refl;
          free = refl;
          others = renamed_all (λ (y : Draft). list_all (drafts_free y) (a ∷ [])) (λ k d e. and_from (drafts_free (renamed f d) a) true (x.free k d e) refl);
          spared = and_from (both_sides (spares (slot_of number (first_of segments j)) m) a) true x.spared refl;
        }

    two_laps : (a b : Draft) → Laps a → Laps b → drafts_free a b ≡ true → Together (a ∷ b ∷ [])
    two_laps a b x y free =
        record {
          inside = and_from (both_sides ends_inside a) _ x.inside (and_from (both_sides ends_inside b) true y.inside refl);
          free = and_from (drafts_free a b && true) true (and_from (drafts_free a b) true free refl) refl;
          others = renamed_all (λ (z : Draft). list_all (drafts_free z) (a ∷ b ∷ [])) (λ k d e. and_from (drafts_free (renamed f d) a) _ (x.free k d e) (and_from (drafts_free (renamed f d) b) true (y.free k d e) refl));
          spared = and_from (both_sides (spares (slot_of number (first_of segments j)) m) a) _ x.spared (and_from (both_sides (spares (slot_of number (first_of segments j)) m) b) true y.spared refl);
        }

    first_laps : j ≡ 0 → (b : Bool) → sends_last segments ≡ b → Together (lap_requests number r 0)
    first_laps zero_is true e = subst Together (sym (one_request number r e)) (one_lap (raise_descriptor number r) (descriptor_laps zero_is))
    first_laps zero_is false e =
        let last : ℕ = length segments - 1 in
        let gates = gated_all segments last e in
        let before = first_le segments 1 last (omega arith) in
        let here : first_of segments (suc j) ≡ first_of segments 1 = ap (λ (k : ℕ). first_of segments (suc k)) zero_is in
        subst Together (sym (first_requests number r e)) (two_laps (raise_wait number r last) (raise_descriptor number r) (wait_laps last (omega arith) gates (inr (omega (arith, gates, before, here)))) (descriptor_laps zero_is) refl)

    later_laps : j ≢ 0 → (b : Bool) → is_send_last number r j ≡ b → Together (lap_requests number r j)
    later_laps ne true e = subst Together (sym (no_requests number r j (omega (arith, ne)) e)) no_laps
    later_laps ne false e =
        let i : ℕ = j - 1 in
        let next : suc i ≡ j = omega (arith, ne) in
        let more : suc i < length segments = omega (arith, next, l) in
        let gates = gated_below segments i more in
        let there : first_of segments (suc i) ≡ first_of segments j = ap (first_of segments) next in
        let other : (wait_of number r i == enable_of number r i) ≡ false = ne_eqb (wait_of number r i) (enable_of number r i) (λ same. omega (arith, same, gates)) in
        let own : (number == number) ≡ true = eq-eqb number number refl in
        let apart : is_free (far_side (raise_wait number r i)) (far_side (raise_enable number r i)) ≡ true = unmet (far_side (raise_wait number r i)) (far_side (raise_enable number r i)) (rw own other) in
        subst Together (sym (two_requests number r j (omega (arith, ne)) e)) (two_laps (raise_wait number r i) (raise_enable number r i) (wait_laps i (omega (arith, next, l)) gates (inl (omega (arith, gates, there)))) (enable_laps i more (inl (omega (arith, gates, there)))) apart)

    pub together : Together (lap_requests number r j)
    together =
        elim (cases_eq j 0) [
          | inl zero_is ↦ subst (λ (k : ℕ). Together (lap_requests number r k)) (sym zero_is) (first_laps zero_is (sends_last segments) refl)
          | inr ne ↦ later_laps ne (is_send_last number r j) refl
        ]

    -- so all bodies lie apart
    pub inside_all : list_all (both_sides ends_inside) (bodies_of number r j) ≡ true
    inside_all = all_of_both (both_sides ends_inside) (map (renamed f) ds) (lap_requests number r j) (ends_named f ds ∙ apart_parts.0) together.inside

    pub free_all : all_free (bodies_of number r j) ≡ true
    free_all = free_of_both (map (renamed f) ds) (lap_requests number r j) (free_named f (refs_differ segments some number) ds ∙ apart_parts.1) together.free together.others

    pub spared_all : list_all (both_sides (spares (slot_of number (first_of segments j)) m)) (bodies_of number r j) ≡ true
    spared_all = all_of_both (both_sides (spares (slot_of number (first_of segments j)) m)) (map (renamed f) ds) (lap_requests number r j) (renamed_all (both_sides (spares (slot_of number (first_of segments j)) m)) draft_spared) together.spared
