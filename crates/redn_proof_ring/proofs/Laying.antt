-- Rings of segments that may go round, laid out with laps, are laid out as their windows ask.
use Rattle.std.proofs.Common.{◌≡◌, ◌≢◌, ℕ, zero, suc, ◌+◌, ◌-◌, ◌*◌, ◌^◌, ◌<◌, ◌≤◌, inl, inr, Bool, true, false, cond, ◌||◌, ◌==◌, List, [], ◌∷◌, ◌++◌, map, length, refl, sym, ap, ◌∙◌, subst, arith}
use Rattle.std.specs.Prelude.{slice_get, Some}
use Rattle.std.specs.List.{list_any, list_all}
use Rattle.std.proofs.lemmas.Bool.{and_parts, and_from, or_cases, or_left, or_right, eq-eqb, false≢true, true≢false}
use Rattle.std.proofs.lemmas.Option.{slice_get_within}
use Rattle.redn_words.specs.declared.types.Opcode.{Opcode}
use Rattle.redn_words.specs.declared.types.Opcode.TheVariants.{Add, Send, Wait, Enable, Undefined}
use Rattle.redn_segment.specs.declared.types.SlotRef.{SlotRef}
use Rattle.redn_segment.specs.declared.types.Site.{Site}
use Rattle.redn_segment.specs.declared.types.Site.TheVariants as site
use Rattle.redn_segment.specs.declared.types.Side.{Side}
use Rattle.redn_segment.specs.declared.types.Space.{Space}
use Rattle.redn_segment.specs.declared.types.Space.TheVariants as space
use Rattle.redn_segment.specs.declared.types.Draft.{Draft}
use Rattle.redn_segment.specs.Building.{drafts_of}
use Rattle.redn_segment.specs.Sites.{space_of}
use Rattle.redn_segment.specs.Plain.{local_space, remote_space}
use Rattle.redn_segment.specs.Primed.{writes_at, writes_slot}
use Rattle.redn_segment.specs.Footprints.{remote_by, both_sides}
use Rattle.redn_segment.specs.Orders.{is_send}
use Rattle.redn_segment.specs.Renaming.{renamed_site, renamed}
use Rattle.redn_segment.specs.Rights.{is_descriptor}
use Rattle.redn_segment.proofs.Renamed.{table_renamed}
use Rattle.redn_segment.proofs.Moved.{writes_slot_renamed}
use Rattle.redn_segment.proofs.Kept.{not_true}
use Rattle.redn_proof_landing.specs.Homes.{Granted}
use Rattle.redn_proof_landing.specs.Requested.{is_fixed, SparesFixed}
use Rattle.redn_recycle.specs.Laps.{Ring, slot_of, wait_of, enable_of, lap_requests, bodies_of, raise_wait, raise_enable, raise_descriptor, is_send_last}
use Rattle.redn_recycle.specs.Lapped.{segment_at, start_of, first_of, slots_in_laps, slot_in_laps, names_well, draft_names_well, ref_in_laps}
use Rattle.redn_recycle.proofs.Starts.{first_le, first_few, start_all, gated_below, last_there, slot_there, some_slots}
use Rattle.redn_recycle.proofs.Rings.{is_ring as goes_round}
use Rattle.redn_recycle.proofs.Rising.{placed, placed_inside, refs_differ}
use Rattle.redn_proof_ring.specs.Plans.{Plan, IsLaid, MayWrite, IsOwn, IsBody, is_ring, body_slot}
use Rattle.redn_proof_ring.specs.Apart.{fills_last, written_by}
use Rattle.redn_proof_ring.specs.Layouts.{Layout, plan_of, IsLayout, IsRingLayout, is_named_in, has_sites, leaves_descriptors}
use Rattle.redn_proof_ring.proofs.Named.{both_from, all_from}
use Rattle.redn_proof_ring.proofs.GateSlots.{IsNamed, named}
use Rattle.redn_proof_ring.proofs.RingApart.{local_site, remote_site}
use Rattle.redn_proof_ring.proofs.RingEvents.{events_are, ring_apart}
use Rattle.redn_proof_ring.proofs.RingWrites.{writes_well, laps_unwritten}
use Rattle.redn_proof_ring.proofs.LapSteps.{slice_get_append, some_is}
use Rattle.redn_segment.proofs.Both.{all_append as all_of_both}

-- the drafts of all segments by those of one
pub all_segments : (test : Draft → Bool) (segments : List (List Draft)) → list_all (list_all test) segments ≡ true → list_all test (drafts_of segments) ≡ true
all_segments test [] h = refl
all_segments test (s ∷ rest) h = let parts = and_parts (list_all test s) (list_all (list_all test) rest) h in all_of_both test s (drafts_of rest) parts.0 (all_segments test rest parts.1)

pub all_front : (test : Draft → Bool) (a b : List Draft) → list_all test (a ++ b) ≡ true → (list_all test a ≡ true) × (list_all test b ≡ true)
all_front test [] b h = (refl, h)
all_front test (x ∷ a) b h = let parts = and_parts (test x) (list_all test (a ++ b)) h in let more = all_front test a b parts.1 in (and_from (test x) (list_all test a) parts.0 more.0, more.1)

pub at_place : (test : Draft → Bool) (xs : List Draft) (k : ℕ) (d : Draft) → list_all test xs ≡ true → slice_get xs k ≡ Some d → test d ≡ true
at_place test [] k d h e = absurd (cc)
at_place test (x ∷ xs) zero d h e = let parts = and_parts (test x) (list_all test xs) h in ap test (some_is x d e) ∙ parts.0
at_place test (x ∷ xs) (suc k) d h e = let parts = and_parts (test x) (list_all test xs) h in at_place test xs k d parts.1 e

pub all_in : (test : Draft → Bool) (segments : List (List Draft)) (j k : ℕ) (d : Draft) → list_all test (drafts_of segments) ≡ true → slice_get (segment_at segments j) k ≡ Some d → test d ≡ true
all_in test [] j k d h e = absurd (cc)
all_in test (s ∷ rest) zero k d h e = at_place test s k d (all_front test s (drafts_of rest) h).0 e
all_in test (s ∷ rest) (suc j) k d h e = all_in test rest j k d (all_front test s (drafts_of rest) h).1 e

any_front : (test : Draft → Bool) (a b : List Draft) → list_any test a ≡ true → list_any test (a ++ b) ≡ true
any_front test [] b h = absurd (false≢true h)
any_front test (x ∷ a) b h =
    elim (or_cases (test x) (list_any test a) h) [
      | inl here ↦ or_left (test x) (list_any test (a ++ b)) here
      | inr later ↦ or_right (test x) (list_any test (a ++ b)) (any_front test a b later)
    ]

any_back : (test : Draft → Bool) (a b : List Draft) → list_any test b ≡ true → list_any test (a ++ b) ≡ true
any_back test [] b h = h
any_back test (x ∷ a) b h = or_right (test x) (list_any test (a ++ b)) (any_back test a b h)

any_place : (test : Draft → Bool) (xs : List Draft) (k : ℕ) (d : Draft) → slice_get xs k ≡ Some d → test d ≡ true → list_any test xs ≡ true
any_place test [] k d e h = absurd (cc)
any_place test (x ∷ xs) zero d e h = or_left (test x) (list_any test xs) (ap test (sym (some_is x d e)) ∙ h)
any_place test (x ∷ xs) (suc k) d e h = or_right (test x) (list_any test xs) (any_place test xs k d e h)

any_in : (test : Draft → Bool) (segments : List (List Draft)) (j k : ℕ) (d : Draft) → slice_get (segment_at segments j) k ≡ Some d → test d ≡ true → list_any test (drafts_of segments) ≡ true
any_in test [] j k d e h = absurd (cc)
any_in test (s ∷ rest) zero k d e h = any_front test s (drafts_of rest) (any_place test s k d e h)
any_in test (s ∷ rest) (suc j) k d e h = any_back test s (drafts_of rest) (any_in test rest j k d e h)

any_named : (test : Draft → Bool) (g : Draft → Draft) (xs : List Draft) → list_any test (map g xs) ≡ list_any (λ (d : Draft). test (g d)) xs
any_named test g [] = refl
any_named test g (x ∷ xs) = ap (λ (b : Bool). test (g x) || b) (any_named test g xs)

none_of : (test one other : Draft → Bool) (xs : List Draft) → list_all one xs ≡ true → list_all other xs ≡ true → ((d : Draft) → one d ≡ true → other d ≡ true → test d ≡ false) → list_any test xs ≡ false
none_of test one other [] a b h = refl
none_of test one other (x ∷ xs) a b h =
    let first = and_parts (one x) (list_all one xs) a in
    let second = and_parts (other x) (list_all other xs) b in
    let here = h x first.0 second.0 in
    let rest = none_of test one other xs first.1 second.1 h in
    rw here rest

pub named_at : (g : Draft → Draft) (xs : List Draft) (k : ℕ) (d : Draft) → slice_get (map g xs) k ≡ Some d → (x : Draft) × (slice_get xs k ≡ Some x) × (d ≡ g x)
named_at g [] k d e = absurd (cc)
named_at g (x ∷ xs) zero d e = (x, refl, some_is (g x) d e)
named_at g (x ∷ xs) (suc k) d e = named_at g xs k d e

-- lap requests by their kinds
module _ (number : ℕ) (r : Ring) (some : 2 ≤ r.segments) (P : Draft → Type 0) (waits : (i : ℕ) → i < r.segments → P (raise_wait number r i)) (enables : (i : ℕ) → suc i < r.segments → P (raise_enable number r i)) (descriptor : P (raise_descriptor number r)) where
  of_one : (a d : Draft) (k : ℕ) → P a → slice_get (a ∷ []) k ≡ Some d → P d
  of_one a d zero x e = subst P (sym (some_is a d e)) x
  of_one a d (suc k) x e = absurd (cc)

  of_two : (a b d : Draft) (k : ℕ) → P a → P b → slice_get (a ∷ b ∷ []) k ≡ Some d → P d
  of_two a b d zero x y e = subst P (sym (some_is a d e)) x
  of_two a b d (suc k) x y e = of_one b d k y e

  pub laps_all : (j k : ℕ) (d : Draft) → j < r.segments → slice_get (lap_requests number r j) k ≡ Some d → P d
  laps_all zero k d l = by_test r.sends
    where
      by_test : (b : Bool) → slice_get (cond b (raise_descriptor number r ∷ []) (raise_wait number r (r.segments - 1) ∷ raise_descriptor number r ∷ [])) k ≡ Some d → P d
      by_test true e = of_one (raise_descriptor number r) d k descriptor e
      by_test false e = of_two (raise_wait number r (r.segments - 1)) (raise_descriptor number r) d k (waits (r.segments - 1) (omega arith)) descriptor e
  laps_all (suc j) k d l = by_test (is_send_last number r (suc j))
    where
      by_test : (b : Bool) → slice_get (cond b [] (raise_wait number r j ∷ raise_enable number r j ∷ [])) k ≡ Some d → P d
      by_test true e = absurd (cc)
      by_test false e = of_two (raise_wait number r j) (raise_enable number r j) d k (waits j (omega arith)) (enables j l) e

send_alone : (d : Draft) (op : Opcode) (a : Side) → remote_by d op ≡ Some a → is_send op ≡ false
send_alone d Send a e = absurd (cc)
send_alone d Wait a e = absurd (cc)
send_alone d Enable a e = absurd (cc)
send_alone d (Undefined n) a e = absurd (cc)
send_alone d _ a e = refl

-- the slots that names lead to are the chain's
module _ (segments : List (List Draft)) (some : 2 ≤ length segments) where
  pub lap_slot_inside : (i : ℕ) → i < length segments → (first_of segments (suc i) - 2 < slots_in_laps segments) × (first_of segments (suc i) - 1 < slots_in_laps segments)
  lap_slot_inside i l = let up = first_le segments (suc i) (length segments) (omega arith) in let more = some_slots segments some in (omega (arith, up, more), omega (arith, up, more))

  named_inside : (i : ℕ) → IsNamed segments some i → slot_in_laps segments i < slots_in_laps segments
  named_inside i (inl below) = placed_inside segments some i (placed segments some i below)
  named_inside i (inr last) =
      let there = last_there segments last.0 in
      let same : slot_in_laps segments i ≡ slot_in_laps segments (length (drafts_of segments)) = ap (slot_in_laps segments) last.1 in
      let more = some_slots segments some in
      omega (arith, there, same, more)

  module _ (mine : Space → Bool) (number : ℕ) (slots_mine : (i : ℕ) → i < slots_in_laps segments → mine (space.Slot (slot_of number i)) ≡ true) where
    pub site_mine : (y : Site) → names_well segments number y ≡ true → is_named_in mine y ≡ true → mine (space_of (renamed_site (ref_in_laps segments number) y)) ≡ true
    site_mine (site.Field y) e m =
        let name = named segments some number y.slot e in
        let own : (y.slot.ring == number) ≡ true = eq-eqb y.slot.ring number name.0 in
        let now : (ref_in_laps segments number) y.slot ≡ slot_of number (slot_in_laps segments y.slot.slot) = rw own (ap (λ (k : ℕ). let q : SlotRef = record { ring = k; slot = slot_in_laps segments y.slot.slot } in q) name.0) in
        ap (λ (q : SlotRef). mine (space.Slot q)) now ∙ slots_mine (slot_in_laps segments y.slot.slot) (named_inside y.slot.slot name.1)
    site_mine (site.Cell n) e m = m
    site_mine _ e m = m

module _ (x : Layout) (h : IsLayout x) where
  abbrev c : Plan
  c = plan_of x

  module _ (r : ℕ) (its : is_ring c r ≡ true) where
    abbrev layout : IsRingLayout x r
    layout = h.rings_are r its

    abbrev segments : List (List Draft)
    segments = x.segments r

    abbrev some : 2 ≤ length segments
    some = layout.may.some

    abbrev ring : Ring
    ring = c.ring r

    abbrev f : SlotRef → SlotRef
    f = ref_in_laps segments r

    abbrev all : List Draft
    all = drafts_of segments

    -- every slot is the chain's
    slot_mine : (i : ℕ) → i < slots_in_laps segments → x.mine (space.Slot (slot_of r i)) ≡ true
    slot_mine i l = layout.lie.its i l

    names_all : list_all (draft_names_well segments r) all ≡ true
    names_all = all_segments (draft_names_well segments r) segments layout.may.names

    -- a draft of a segment
    record Own (j k : ℕ) (d : Draft) : Type 0 where
      pub old : Draft
      pub there : slice_get (segment_at segments j) k ≡ Some old
      pub is : d ≡ renamed f old
      pub near : names_well segments r old.local ≡ true
      pub far : names_well segments r old.remote ≡ true
      pub near_mine : x.mine (local_space d) ≡ true
      pub far_mine : is_send d.op ≡ false → x.mine (remote_space d) ≡ true

    own : (j k : ℕ) (d : Draft) → IsOwn c r j k d → Own j k d
    own j k d e =
        let n = named_at (renamed f) (segment_at segments j) k d e in
        let y : Draft = n.0 in
        let names = and_parts (names_well segments r y.local) (names_well segments r y.remote) (all_in (draft_names_well segments r) segments j k y names_all n.1) in
        let sites = and_parts (is_named_in x.mine y.local) (is_send y.op || is_named_in x.mine y.remote) (all_in (has_sites x.mine) segments j k y layout.sites n.1) in
        record {
          old = y;
          there = n.1;
          is = n.2;
          near = names.0;
          far = names.1;
          near_mine = ap (λ (z : Draft). x.mine (local_space z)) n.2 ∙ site_mine segments some x.mine r slot_mine y.local names.0 sites.0;
          far_mine = λ none. ap (λ (z : Draft). x.mine (remote_space z)) n.2 ∙ site_mine segments some x.mine r slot_mine y.remote names.1 (by_send (is_send y.op) (is_named_in x.mine y.remote) sites.1 (ap (λ (z : Draft). is_send z.op) (sym n.2) ∙ none));
        }
      where
        by_send : (s m : Bool) → s || m ≡ true → s ≡ false → m ≡ true
        by_send true m e g = absurd (true≢false g)
        by_send false m e g = e

    -- a body is such a draft or a lap request
    record Sides (d : Draft) : Type 0 where
      pub near : x.mine (local_space d) ≡ true
      pub far : is_send d.op ≡ false → x.mine (remote_space d) ≡ true

    lap_sides : (j i : ℕ) (d : Draft) → j < length segments → slice_get (lap_requests r ring j) i ≡ Some d → Sides d
    lap_sides j i d l e =
        laps_all r ring some Sides (λ k m. record { near = h.scratch.0; far = λ none. slot_mine (wait_of r ring k) (lap_slot_inside segments some k m).0 }) (λ k m. record { near = h.scratch.1; far = λ none. slot_mine (enable_of r ring k) (lap_slot_inside segments some k (omega (arith, m))).1 }) (record { near = h.scratch.1; far = λ none. layout.own }) j i d l e

    body_sides : (j k : ℕ) (d : Draft) → j < length segments → IsBody c r j k d → Sides d
    body_sides j k d l e =
        elim (slice_get_append (ring.drafts j) (lap_requests r ring j) k d e) [
          | inl mine ↦ let o = own j k d mine in record { near = o.near_mine; far = o.far_mine }
          | inr lap ↦ lap_sides j lap.0 d l lap.2
        ]

    placed_sides : (j : ℕ) → j < length segments → list_all (both_sides (λ (a : Side). x.mine (space_of a.site))) (bodies_of r ring j) ≡ true
    placed_sides j l =
        all_from (both_sides (λ (a : Side). x.mine (space_of a.site))) (bodies_of r ring j) (λ k d e.
        let s = body_sides j k d l e in
        both_from d (λ (a : Side). x.mine (space_of a.site)) (λ a of_it. elim of_it [ inl near ↦ ap (λ (y : Site). x.mine (space_of y)) (local_site d d.op a near) ∙ s.near | inr far ↦ ap (λ (y : Site). x.mine (space_of y)) (remote_site d d.op a far) ∙ s.far (send_alone d d.op a far) ]))

    lap_rights : (j i : ℕ) (d : Draft) → j < length segments → slice_get (lap_requests r ring j) i ≡ Some d → Granted x.home Add d
    lap_rights j i d l e =
        laps_all r ring some (Granted x.home Add) (λ k m. record { local = h.written.0; remote = λ t. layout.slots (wait_of r ring k) }) (λ k m. record { local = h.written.1; remote = λ t. layout.slots (enable_of r ring k) }) (record { local = h.written.1; remote = λ t. layout.raised }) j i d l e

    -- the place of a draft among the lapped slots
    lap_unwritten : (j k i : ℕ) → j < length segments → length (ring.drafts j) ≤ k → k < length (bodies_of r ring j) → written_by segments r (first_of segments j + k) i ≡ false
    lap_unwritten j k i l low high =
        any_named (writes_at (space.Slot (slot_of r (first_of segments j + k))) i) (renamed f) all ∙ none_of (λ (d : Draft). writes_at (space.Slot (slot_of r (first_of segments j + k))) i (renamed f d)) (draft_names_well segments r) (both_sides (fills_last segments r)) all names_all layout.fills (λ d names fills. laps_unwritten segments some r x.domain (x.base r) d names fills j k i l low high)

    own_slot : (j k : ℕ) → j < length segments → k < length (segment_at segments j) → slot_of r (first_of segments j + k) ≡ f (slot_of r (start_of segments j + k))
    own_slot j k l m =
        let same : (r == r) ≡ true = eq-eqb r r refl in
        sym (rw same (ap (slot_of r) (slot_there segments j k l m)))

    fixed_at : (j k : ℕ) (d : Draft) → j < length segments → IsBody c r j k d → SparesFixed (written_by segments r (body_slot c r j k)) d
    fixed_at j k d l e =
        elim (slice_get_append (ring.drafts j) (lap_requests r ring j) k d e) [
          | inl mine ↦ λ i fixed. own_fixed (own j k d mine) i fixed
          | inr lap ↦ λ i fixed. let at = lap.1 in lap_unwritten j k i l (omega (arith, at)) (slice_get_within (bodies_of r ring j) k d e)
        ]
      where
        own_fixed : Own j k d → (i : ℕ) → is_fixed d i ≡ true → written_by segments r (body_slot c r j k) i ≡ false
        own_fixed o i fixed =
            let inside = slice_get_within (segment_at segments j) k o.old o.there in
            let same : is_fixed o.old i ≡ is_fixed d i = sym (ap (λ (z : Draft). is_fixed z i) o.is ∙ fixed_named o.old i) in
            ap (λ (q : SlotRef). writes_slot (map (renamed f) all) q i) (own_slot j k l inside) ∙ writes_slot_renamed f (refs_differ segments some r) all (slot_of r (start_of segments j + k)) i ∙ layout.fixed j k o.old l o.there i (same ∙ fixed)
          where
            fixed_named : (y : Draft) (i : ℕ) → is_fixed (renamed f y) i ≡ is_fixed y i
            fixed_named y i = simp (table_renamed f) refl

    writes_at_slot : (j k : ℕ) (d : Draft) (q : SlotRef) (i : ℕ) → j < length segments → IsOwn c r j k d → writes_at (space.Slot q) i d ≡ true → MayWrite c r q i
    writes_at_slot j k d q i l e w =
        let o = own j k d e in
        let names : draft_names_well segments r o.old ≡ true = and_from (names_well segments r o.old.local) (names_well segments r o.old.remote) o.near o.far in
        let fills = all_in (both_sides (fills_last segments r)) segments j k o.old layout.fills o.there in
        let hits : writes_at (space.Slot q) i (renamed f o.old) ≡ true = ap (writes_at (space.Slot q) i) (sym o.is) ∙ w in
        let well = writes_well segments some r x.domain (x.base r) o.old names fills q i hits in
        let whole : q ≡ slot_of r q.slot = ap (λ (n : ℕ). let p : SlotRef = record { ring = n; slot = q.slot } in p) well.ring_is in
        record {
          ring_is = well.ring_is;
          waits = λ g m two. well.waits g m two;
          enables = λ g m two at. well.enables g m two at;
          bodies = λ g n y m body at. any_named (writes_at (space.Slot (slot_of r q.slot)) i) (renamed f) all ∙ any_in (λ (z : Draft). writes_at (space.Slot (slot_of r q.slot)) i (renamed f z)) segments j k o.old o.there (ap (λ (p : SlotRef). writes_at (space.Slot p) i (renamed f o.old)) (sym whole) ∙ hits);
        }

    no_descriptor_at : (j k : ℕ) (d : Draft) (v : ℕ) → IsOwn c r j k d → remote_space d ≢ space.Descriptor v
    no_descriptor_at j k d v e at =
        let o = own j k d e in
        let none : is_descriptor (remote_space o.old) ≡ false = not_true (is_descriptor (remote_space o.old)) (all_in leaves_descriptors segments j k o.old layout.descriptors o.there) in
        false≢true (sym none ∙ sym (descriptor_named o.old.remote) ∙ ap (λ (z : Draft). is_descriptor (remote_space z)) (sym o.is) ∙ ap is_descriptor at)
      where
        descriptor_named : (y : Site) → is_descriptor (space_of (renamed_site f y)) ≡ is_descriptor (space_of y)
        descriptor_named (site.Field y) = refl
        descriptor_named _ = refl

    first_high : (j : ℕ) → j < length segments → 3 * j ≤ first_of segments j
    first_high zero l = omega arith
    first_high (suc j) l = let up = first_high j (omega (arith, l)) in let gates = gated_below segments j l in omega (arith, up, gates)

    bound_at : (slots_in_laps segments ≤ 2 ^ 32) × (length segments ≤ slots_in_laps segments)
    bound_at =
        let few = first_few segments (length segments) in
        let ends = start_all segments in
        let small = layout.may.few in
        let last : ℕ = length segments - 1 in
        let high = first_high last (omega (arith, some)) in
        let up = first_le segments last (length segments) (omega arith) in
        (omega (arith, few, ends, small), omega (arith, high, up, some))

  pub laid : IsLaid (plan_of x)
  laid =
      record {
        rings = λ r its. goes_round (x.segments r) r x.domain (x.base r) (some r its);
        lie = λ r its. (layout r its).lie;
        rows = λ r its. (refl, refl);
        numbered = h.numbered;
        spaces = h.spaces;
        homes = h.homes;
        descriptors = λ r its. (layout r its).own;
        private = h.private;
        ends = h.ends;
        apart = λ r j its l. ring_apart (x.segments r) (some r its) r x.domain (x.base r) j l ((layout r its).leaves j l) x.mine (placed_sides r its j l);
        narrow = λ r j k d its l e. (layout r its).narrow j k d l e;
        fixed = λ r j k d its l e. fixed_at r its j k d l e;
        lap_fixed = λ r j k i its l low high. lap_unwritten r its j k i l low high;
        sides = λ r j k d its l e. (let s = body_sides r its j k d l e in (s.near, s.far));
        lap_granted = λ r j k d its l low e. elim (slice_get_append ((c.ring r).drafts j) (lap_requests r (c.ring r) j) k d e) [ inl mine ↦ absurd (let inside = slice_get_within ((c.ring r).drafts j) k d mine in omega (arith, inside, low)) | inr lap ↦ lap_rights r its j lap.0 d l lap.2 ];
        writes = λ r j k d q i its l e w. writes_at_slot r its j k d q i l e w;
        no_descriptor = λ r j k d v its l e. no_descriptor_at r its j k d v e;
        events = λ r j its l. events_are (x.segments r) (some r its) r x.domain (x.base r) j;
        bound = λ r its. bound_at r its;
        few = h.few;
      }
