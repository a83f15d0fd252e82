-- The windows of rings with laps are orderly.
use Rattle.std.proofs.Common.{◌≡◌, ◌≢◌, ℕ, zero, suc, ◌+◌, ◌-◌, ◌*◌, ◌%◌, ◌^◌, ◌<◌, ◌≤◌, inl, inr, Bool, true, false, cond, ◌==◌, List, [], ◌∷◌, length, refl, sym, ap, ◌∙◌, subst, arith, length-append}
use Rattle.std.specs.Prelude.{nat_le, nat_lt, slice_get, Some, if◌then◌else◌}
use Rattle.std.proofs.lemmas.Bool.{cases_eq, eq-eqb, ne_eqb, eqb-true, and_parts, ltb-true, le-ltb as lt_false}
use Rattle.std.proofs.lemmas.Bool.Decides.{nat_tests}
use Rattle.std.proofs.Math.Nat.{mul-suc, mul_comm, mul-le-mul_right}
use Rattle.redn_words.specs.declared.types.Request.{Request}
use Rattle.redn_words.specs.declared.types.Opcode.TheVariants as op
use Rattle.redn_proof_landing.proofs.Decoding.{ready_flags, number_stands}
use Rattle.redn_proof_landing.proofs.Segments.{length-copies, copy_is, segment_orderly}
use Rattle.redn_proof_landing.specs.Homes.{seen_in}
use Rattle.redn_proof_landing.specs.Segments.{is_table_space, slot_space}
use Rattle.redn_proof_ring.proofs.LapSteps.{goes_through}
use Rattle.redn_proof_ring.specs.Plans.{is_ring, ending_of, Plan, IsLaid, IsBody, part_of, slots_in, body_slot}
use Rattle.redn_proof_ring.specs.Turns.{Meaning, Promises, Turn, Ready, segment_of, window_at}
use Rattle.redn_recycle.specs.Laps.{Ring, IsRing, bodies_of as ring_bodies, lap_requests, gates_of, flags_at, is_send_last, wait_of, enable_of, count_at, limit_at, laps_begun, laps_behind, gate, wait_request, enable_request, last_enable}
use Rattle.redn_segment.specs.Homes.{base_of, room_of, LieApart}
use Rattle.redn_segment.specs.Primed.{covers}
use Rattle.redn_proof_window.proofs.Windows.{signals_more}
use Rattle.redn_proof_window.specs.Stages.{IsEnding, Orderly, Gated}
use Rattle.redn_proof_window.specs.Windows.{Last, By_gates, Opening, bodies_of, slots_of, copy_of, request_of, signals, wait_of as window_wait, enable_of as window_enable}
use Rattle.redn_words.proofs.Slots.{decoded-encoded}
use Rattle.redn_words.specs.Slots.{IsNarrow}
use Rattle.redn_words.specs.declared.limits.TheConstants.{RECEIVE_BASE}
use Rattle.redn_words.specs.Access.{EndsBy}
use Rattle.redn_words.specs.declared.types.Class.TheVariants as ask
use Rattle.redn_words.specs.Requests.{decoded, encoded, opcode_named, opcode_of}
use Rattle.redn_words.specs.Steps.{class_of}
use Rattle.redn_words.proofs.Classes.{class_is}
use Rattle.redn_words.specs.Words.{number}
use Rattle.redn_segment.specs.declared.types.Space.{Space}
use Rattle.redn_segment.specs.declared.types.Draft.{Draft}

-- gates have numbers that fit
pub narrow_gate : (name : ℕ) (r : Ring) (op first second : ℕ) → op < 256 ^ 2 → first < 256 ^ 8 → second < 256 ^ 8 → IsNarrow (gate name r op first second)
narrow_gate name r op first second a b c =
    record { op = a; id = omega arith; lkey = omega arith; rkey = omega arith; local = omega arith; remote = omega arith; len = omega arith; first = b; second = c; flags = omega arith }

-- what fewer segments than slots count up to
pub few_rounds : (s n laps most : ℕ) → s ≤ n → n ≤ 2 ^ 32 → n * laps ≤ most → most ≤ 2 ^ 62 → (s * laps ≤ 2 ^ 62) × (s * suc laps ≤ 2 ^ 62 + 2 ^ 32) × (n * suc laps ≤ 2 ^ 62 + 2 ^ 32)
few_rounds s n laps most h narrow few small =
    let less : s * laps ≤ n * laps = mul-le-mul_right laps h in
    let one : s * suc laps ≡ s * laps + s = mul-suc s laps in
    let other : n * suc laps ≡ n * laps + n = mul-suc n laps in
    (omega arith, omega arith, omega arith)

-- segments follow one another inside the ring
pub first_inside : (name : ℕ) (r : Ring) → IsRing name r → (k j : ℕ) → j + k ≡ r.segments → r.first j ≤ r.row.slots
first_inside name r h zero j e = let at : j ≡ r.segments = omega arith in let end = h.ends in let same : r.first j ≡ r.first r.segments = ap r.first at in omega arith
first_inside name r h (suc k) j e =
    let next = h.follows j (omega arith) in
    let rest = first_inside name r h k (suc j) (omega arith) in
    omega arith

pub end_inside : (name : ℕ) (r : Ring) → IsRing name r → (j : ℕ) → j < r.segments → r.first j + (length (ring_bodies name r j) + gates_of name r j) ≤ r.row.slots
end_inside name r h j l = let next = h.follows j l in let rest = first_inside name r h (r.segments - suc j) (suc j) (omega arith) in omega arith

pub lt_true : (a b : ℕ) → a < b → nat_lt a b ≡ true
lt_true a b h = grind (arith, nat_tests)

-- a segment with gates has lap requests
one_or_two : (b : Bool) (x y z : Draft) → 0 < length (cond b (x ∷ []) (y ∷ z ∷ []))
one_or_two true x y z = omega arith
one_or_two false x y z = omega arith

none_or_two : (b : Bool) (y z : Draft) → ◌≡◌ {A = ℕ} (cond b 0 2) 2 → 0 < length (cond b [] (y ∷ z ∷ []))
none_or_two true y z e = absurd (omega arith)
none_or_two false y z e = omega arith

pub laps_there : (name : ℕ) (r : Ring) (j : ℕ) → gates_of name r j ≡ 2 → 0 < length (lap_requests name r j)
laps_there name r zero e = one_or_two r.sends _ _ _
laps_there name r (suc j) e = none_or_two (is_send_last name r (suc j)) _ _ e

-- a segment without gates is the last, and one with gates ends by them
pub ends_or_gates : (b : Bool) → ((if b then Last else By_gates) ≢ Last → ◌≡◌ {A = ℕ} (cond b 0 2) 2) × ((if b then Last else By_gates) ≡ Last → b ≡ true)
ends_or_gates true = ((λ ne. absurd (ne refl)), λ e. refl)
ends_or_gates false = ((λ ne. refl), λ e. absurd (cc))

flag_at : (name : ℕ) (r : Ring) (j k : ℕ) → flags_at name r j k % 2 ≡ flags_at name r j k
flag_at name r j k = elim (suc k == length (ring_bodies name r j)) as (λ b. (cond b 1 0) % 2 ≡ cond b 1 0) [ true ↦ refl | false ↦ refl ]

wait_named : opcode_named 6 ≡ op.Wait
unfolding opcode_named
wait_named = refl

enable_named : opcode_named 7 ≡ op.Enable
unfolding opcode_named
enable_named = refl

-- the queues of rings have numbers that fit
pub ring_small : (c : Plan) → IsLaid c → (q : ℕ) → is_ring c q ≡ true → q < RECEIVE_BASE
ring_small c laid q e = let parts = and_parts (nat_le c.first_queue q) (nat_lt q (c.first_queue + c.rings)) e in let high = ltb-true q (c.first_queue + c.rings) parts.1 in let all = laid.numbered in omega arith

module _ (c : Plan) (laid : IsLaid c) (G : Meaning c) (promises : Promises c G) where
  module _ (x : Turn c G) (m : List ℕ) (ready : Ready c G x m) where
    abbrev pub r : ℕ
    r = x.ring

    abbrev pub j : ℕ
    j = x.segment

    abbrev pub ring : Ring
    ring = c.ring r

    abbrev pub n : ℕ
    n = x.laps r

    abbrev pub w : Opening
    w = window_at c G x m

    pub is_ring_here : IsRing r ring
    is_ring_here = laid.rings r x.ring_in

    pub here : segment_of c G x r ≡ j
    here = let same : (r == r) ≡ true = eq-eqb r r refl in rw same refl

    pub room : ring.first j + (length (ring_bodies r ring j) + gates_of r ring j) ≤ ring.row.slots
    room = end_inside r ring is_ring_here j x.segment_in

    pub spaces : LieApart c.home c.mine (length m)
    spaces = subst (λ (k : ℕ). LieApart c.home c.mine k) (sym ready.size) laid.spaces

    pub ours_are : (q : Space) (i : ℕ) → c.mine q ≡ true → is_table_space q ≡ false → i < room_of c.home q → c.ours (base_of c.home q + i) ≡ true
    ours_are q i its plain l = laid.private q i (record { its = its; plain = plain }) l

    pub copy_at : (k : ℕ) → k < slots_of w → copy_of w k ≡ seen_in c.home m (slot_space r (ring.first j + k))
    copy_at k l = copy_is c.home c.mine c.regions r ring.row c.ours (laid.lie r x.ring_in) (part_of c r j) (x.laps r) (n * ring.segments + j) m (laid.apart r j x.ring_in x.segment_in) (goes_through c laid G promises x m ready) spaces room ours_are k l

    pub bodies_count : bodies_of w ≡ length (ring_bodies r ring j)
    bodies_count = length-copies c.home r m (ring.first j) (length (ring_bodies r ring j))

    pub gates_count : length w.gates ≡ gates_of r ring j
    gates_count = length-copies c.home r m (ring.first j + length (ring_bodies r ring j)) (gates_of r ring j)

    -- flags of bodies
    body_there : (k : ℕ) → k < length (ring_bodies r ring j) → (d : Draft) × IsBody c r j k d
    body_there k l = nth (ring_bodies r ring j) k l
      where
        nth : (ds : List Draft) (k : ℕ) → k < length ds → (d : Draft) × (slice_get ds k ≡ Some d)
        nth [] k l = absurd (omega arith)
        nth (d ∷ ds) zero l = (d, refl)
        nth (d ∷ ds) (suc k) l = nth ds k (omega arith)

    flags_seen : (k : ℕ) → k < length (ring_bodies r ring j) → (decoded (seen_in c.home m (slot_space r (body_slot c r j k)))).flags % 2 ≡ flags_at r ring j k
    flags_seen k l =
        let body = body_there k l in
        let d : Draft = body.0 in
        let e = body.1 in
        ap (λ (f : ℕ). f % 2) (ready_flags c.home d (flags_at r ring j k) (c.written r (body_slot c r j k)) (seen_in c.home m (slot_space r (body_slot c r j k))) (laid.narrow r j k d x.ring_in x.segment_in e) (ready.drafts r j k d x.ring_in x.segment_in e) (laid.fixed r j k d x.ring_in x.segment_in e)) ∙ flag_at r ring j k

    last_flag : (k : ℕ) → k + 1 ≡ length (ring_bodies r ring j) → (decoded (seen_in c.home m (slot_space r (body_slot c r j k)))).flags % 2 ≡ 1
    last_flag k e = let at : (suc k == length (ring_bodies r ring j)) ≡ true = eq-eqb (suc k) (length (ring_bodies r ring j)) (omega arith) in flags_seen k (omega arith) ∙ rw at refl

    request_flags : (k : ℕ) → k < length (ring_bodies r ring j) → (request_of w k).flags % 2 ≡ flags_at r ring j k
    request_flags k l = ap (λ (copy : List ℕ). (decoded copy).flags % 2) (copy_at k (omega (arith, bodies_count, l))) ∙ flags_seen k l

    no_signal : (k : ℕ) → k < length (ring_bodies r ring j) → signals w k ≡ 0
    no_signal zero l = refl
    no_signal (suc k) l =
        let more : signals w (k + 1) ≡ signals w k + (request_of w k).flags % 2 = signals_more w k (omega (arith, bodies_count, l)) in
        let other : (suc k == length (ring_bodies r ring j)) ≡ false = ne_eqb (suc k) (length (ring_bodies r ring j)) (λ e. omega arith) in
        let none : flags_at r ring j k ≡ 0 = rw other refl in
        let before = no_signal k (omega arith) in
        let flags = request_flags k (omega arith) in
        let at : suc k ≡ k + 1 = omega arith in
        ap (signals w) at ∙ more ∙ omega arith

    pub one_signal : 0 < length (ring_bodies r ring j) → signals w (bodies_of w) ≡ 1
    one_signal some =
        let k : ℕ = length (ring_bodies r ring j) - 1 in
        let at : bodies_of w ≡ k + 1 = omega (arith, bodies_count) in
        let more : signals w (k + 1) ≡ signals w k + (request_of w k).flags % 2 = signals_more w k (omega (arith, bodies_count)) in
        let its : (suc k == length (ring_bodies r ring j)) ≡ true = eq-eqb (suc k) (length (ring_bodies r ring j)) (omega arith) in
        let one : flags_at r ring j k ≡ 1 = rw its refl in
        let before = no_signal k (omega arith) in
        let flags = request_flags k (omega arith) in
        ap (signals w) at ∙ more ∙ omega arith

    -- the gates
    module _ (two : gates_of r ring j ≡ 2) where
      pub some_body : 0 < length (ring_bodies r ring j)
      some_body = let laps = laps_there r ring j two in omega (arith, length-append (ring.drafts j) (lap_requests r ring j))

      rounds : (ring.segments * n ≤ 2 ^ 62) × (ring.segments * suc n ≤ 2 ^ 62 + 2 ^ 32) × (slots_in c r * suc n ≤ 2 ^ 62 + 2 ^ 32)
      rounds = let bound = laid.bound r x.ring_in in few_rounds ring.segments (slots_in c r) n c.most bound.1 bound.0 (ready.few r x.ring_in) laid.few

      small_queue : r < 65536
      small_queue = ring_small c laid r x.ring_in

      pub own_count : count_at r ring n j j ≡ (n * ring.segments + j) + 1
      own_count =
          elim (suc j == ring.segments) as (λ b. suc j == ring.segments ≡ b → cond b (ring.segments * laps_begun r ring n j) (suc j + ring.segments * laps_behind r ring n j j) ≡ (n * ring.segments + j) + 1) [
            | true ↦ λ t.
                let last : suc j ≡ ring.segments = eqb-true (suc j) ring.segments t in
                let some = is_ring_here.some in
                let above : nat_lt 0 j ≡ true = lt_true 0 j (omega arith) in
                let begun : laps_begun r ring n j ≡ suc n = rw above refl in
                ap (λ (k : ℕ). ring.segments * k) begun ∙ mul-suc ring.segments n ∙ omega (arith, mul_comm ring.segments n)
            | false ↦ λ t.
                let not_yet : nat_lt (suc j) j ≡ false = lt_false (suc j) j (omega arith) in
                let behind : laps_behind r ring n j j ≡ n = rw not_yet refl in
                ap (λ (k : ℕ). suc j + ring.segments * k) behind ∙ omega (arith, mul_comm ring.segments n)
          ] refl

      own_count_small : count_at r ring n j j < 256 ^ 8
      own_count_small =
          let all = rounds in
          let inside = x.segment_in in
          let bound = laid.bound r x.ring_in in
          omega (arith, own_count, mul_comm ring.segments n, all.0, bound.0, bound.1)

      wait_place : ring.first j + length (ring_bodies r ring j) ≡ wait_of r ring j
      wait_place = let next = is_ring_here.follows j x.segment_in in omega arith

      enable_place : ring.first j + (length (ring_bodies r ring j) + 1) ≡ enable_of r ring j
      enable_place = let next = is_ring_here.follows j x.segment_in in omega arith

      wait_copy : copy_of w (bodies_of w) ≡ seen_in c.home m (slot_space r (wait_of r ring j))
      wait_copy =
          copy_at (bodies_of w) (omega (arith, gates_count, two)) ∙ ap (λ (k : ℕ). seen_in c.home m (slot_space r (ring.first j + k))) bodies_count ∙ ap (λ (k : ℕ). seen_in c.home m (slot_space r k)) wait_place

      pub wait_is : window_wait w ≡ wait_request r ring (count_at r ring n j j)
      wait_is =
          ap decoded (wait_copy ∙ ready.waits r j x.ring_in x.segment_in two ∙ ap (λ (k : ℕ). encoded (wait_request r ring (count_at r ring n k j))) here) ∙ decoded-encoded (wait_request r ring (count_at r ring n j j)) (narrow_gate r ring 6 r (count_at r ring n j j) (omega arith) (let small = small_queue in omega arith) own_count_small)

      pub enable_copy : copy_of w (bodies_of w + 1) ≡ seen_in c.home m (slot_space r (enable_of r ring j))
      enable_copy =
          copy_at (bodies_of w + 1) (omega (arith, gates_count, two)) ∙ ap (λ (k : ℕ). seen_in c.home m (slot_space r (ring.first j + (k + 1)))) bodies_count ∙ ap (λ (k : ℕ). seen_in c.home m (slot_space r k)) enable_place

      -- an ENABLE before the last opens the next segment
      pub own_limit : limit_at r ring n j j ≡ ring.first (suc (suc j)) + slots_in c r * n
      own_limit =
          let not_yet : nat_lt (suc j) j ≡ false = lt_false (suc j) j (omega arith) in
          let behind : laps_behind r ring n j j ≡ n = rw not_yet refl in
          ap (λ (k : ℕ). ring.first (suc (suc j)) + slots_in c r * k) behind

      limit_small : suc j < ring.segments → limit_at r ring n j j < 256 ^ 8
      limit_small l =
          let inside = first_inside r ring is_ring_here (ring.segments - suc (suc j)) (suc (suc j)) (omega arith) in
          let bound = laid.bound r x.ring_in in
          let few = ready.few r x.ring_in in
          let most = laid.few in
          omega (arith, own_limit, bound.0)

      pub enable_is : suc j < ring.segments → window_enable w ≡ enable_request r ring (limit_at r ring n j j)
      enable_is l =
          ap decoded (enable_copy ∙ ready.enables r j x.ring_in l ∙ ap (λ (k : ℕ). encoded (enable_request r ring (limit_at r ring n k j))) here) ∙ decoded-encoded (enable_request r ring (limit_at r ring n j j)) (narrow_gate r ring 7 r (limit_at r ring n j j) (omega arith) (let small = small_queue in omega arith) (limit_small l))

      -- the last one is an ENABLE, whatever its operands
      last_enables : suc j ≡ ring.segments → class_of (window_enable w) ≡ ask.Raises
      unfolding decoded
      last_enables e =
          let slot : List ℕ = seen_in c.home m (slot_space r (enable_of r ring j)) in
          let narrow : IsNarrow (last_enable r ring) = narrow_gate r ring 7 0 0 (omega arith) (omega arith) (omega arith) in
          class_is (window_enable w) op.Enable (ap (λ (copy : List ℕ). opcode_named (number 2 copy 0)) enable_copy ∙ ap opcode_named (number_stands (covers 40 16) (last_enable r ring) slot (ready.last r j x.ring_in e two) 0 2 (omega arith) (λ i low high. below i high) ∙ ap (λ (q : Request). q.op) (decoded-encoded (last_enable r ring) narrow)) ∙ enable_named)
        where
          below : (i : ℕ) → i < 0 + 2 → covers 40 16 i ≡ false
          below i l = let t : nat_le 40 i ≡ false = grind (arith, nat_tests) in rw t refl

      pub gated : Gated w
      gated =
          record {
            two = gates_count ∙ two;
            waits = class_is (window_wait w) op.Wait (ap opcode_of wait_is ∙ wait_named);
            own = ap (λ (q : Request). q.first) wait_is;
            count = ap (λ (q : Request). q.second) wait_is ∙ own_count ∙ sym (ap (λ (k : ℕ). (n * ring.segments + j) + k) (one_signal some_body));
            enables = elim (cases_eq (suc j) ring.segments) [ inl e ↦ last_enables e | inr ne ↦ class_is (window_enable w) op.Enable (ap opcode_of (enable_is (let l = x.segment_in in omega (arith, ne))) ∙ enable_named) ];
          }

    pub ring_orderly : Orderly w
    ring_orderly =
        segment_orderly c.home c.mine c.regions r ring.row c.ours (laid.lie r x.ring_in) (part_of c r j) (x.laps r) (n * ring.segments + j) m (laid.apart r j x.ring_in x.segment_in) (goes_through c laid G promises x m ready) spaces room ours_are numbered last_flag gates (subst (λ (k : ℕ). EndsBy k c.regions) (sym ready.size) laid.ends)
      where
        numbered : r < RECEIVE_BASE
        numbered = ring_small c laid r x.ring_in

        gates : IsEnding w (ending_of r ring j)
        gates = by_last (is_send_last r ring j) refl
          where
            by_last : (b : Bool) → is_send_last r ring j ≡ b → IsEnding w (if b then Last else By_gates)
            by_last true e = gates_count ∙ ap (λ (t : Bool). cond t 0 2) e
            by_last false e = gated (ap (λ (t : Bool). cond t 0 2) e)
