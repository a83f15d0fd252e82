-- The event's body of a window lands as its draft would on the state of the opening with the tables of its moment; and so memory behind the window shows the spaces after the puts of all bodies.
use Rattle.std.proofs.Common.{◌≡◌, ◌≢◌, ℕ, zero, suc, ◌+◌, ◌-◌, ◌*◌, ◌<◌, ◌≤◌, ◌⊎◌, inl, inr, Bool, true, false, cond, ◌==◌, List, [], ◌∷◌, ◌++◌, map, length, refl, sym, ap, ◌∙◌, subst, arith}
use Rattle.std.specs.Prelude.{slice_get, Option, Some, None}
use Rattle.std.proofs.lemmas.Bool.{false≢true, true≢false, cases_lt, cases_eq, eq-eqb, ne_eqb, false_from_ne_true}
use Rattle.std.proofs.lemmas.Option.{slice_get_within}
use Rattle.std.proofs.lemmas.List.{get_or_past}
use Rattle.redn_segment.proofs.Sides.{IsSide, side_at, LocalSide, RemoteSide, write_local, read_remote, cas_remote, add_remote, send_local}
use Rattle.redn_segment.proofs.SameSpace.{table_space}
use Rattle.redn_segment.proofs.PutSides.{send_none}
use Rattle.redn_words.specs.declared.types.Obs.{Obs}
use Rattle.redn_words.specs.declared.types.Opcode.{Opcode}
use Rattle.redn_words.specs.declared.types.Opcode.TheVariants.{Write, Read, Cas, Add, Send}
use Rattle.redn_proof_landing.proofs.Decoding.{lands_placed}
use Rattle.redn_proof_landing.proofs.Reading.{ReadsSame, acts_same, puts_inside}
use Rattle.redn_proof_landing.proofs.Segments.{lands_silently, written, mine_of, apart_any}
use Rattle.redn_proof_landing.proofs.Showing.{window_shows}
use Rattle.redn_proof_landing.proofs.Sided.{length-seen}
use Rattle.redn_segment.proofs.Touching.{In}
use Rattle.redn_proof_landing.specs.Homes.{seen_in, change_of, LandsAs, LandsWell, reads_by, Inside, puts_of_first}
use Rattle.redn_proof_landing.specs.Segments.{CanLand, is_table_space, IsSet, IsGood, GoesThrough, slot_space}
use Rattle.redn_proof_ring.proofs.LapKept.{body_at}
use Rattle.redn_proof_ring.proofs.LapNext.{seen_index, same_length, seen_short, seen_bytes}
use Rattle.redn_proof_ring.proofs.LapSteps.{slice_get_append, goes_through, set_at}
use Rattle.redn_proof_ring.proofs.LapWindows.{room, spaces, ours_are, bodies_count, copy_at}
use Rattle.redn_proof_ring.specs.Plans.{Plan, IsLaid, IsBody, IsPrivate, part_of, body_slot}
use Rattle.redn_proof_ring.specs.Turns.{Meaning, HasBytes, Promises, Turn, Ready, Leaves, tabled, window_at}
use Rattle.redn_recycle.specs.Laps.{Ring, bodies_of as ring_bodies, lap_requests}
use Rattle.redn_segment.specs.Footprints.{from}
use Rattle.redn_segment.specs.Homes.{Home, IsHome, base_of, room_of}
use Rattle.redn_segment.specs.Orders.{is_send, Follows}
use Rattle.redn_segment.specs.Plain.{Bytes, Put, Outcome, Went, Faults, Bad, acts, opcode_in, local_space, remote_space, local_at, remote_at, local_bytes, remote_bytes, placed}
use Rattle.redn_segment.specs.Primed.{IsBytes}
use Rattle.redn_segment.specs.Sites.{space_of, start_of, is_table}
use Rattle.redn_proof_window.specs.Stages.{Agrees, Standing, all_written, effect}
use Rattle.redn_proof_window.specs.Windows.{Opening, bodies_of, origin_of, landing_on, planned, may_write}
use Rattle.redn_words.proofs.Bytes.{same_range}
use Rattle.redn_words.specs.Landings.{Landing, Change, landing}
use Rattle.redn_words.specs.Requests.{decoded}
use Rattle.redn_words.specs.Words.{bytes_at}
use Rattle.redn_segment.specs.declared.types.Side.{Side}
use Rattle.redn_segment.specs.declared.types.Space.{Space}
use Rattle.redn_segment.specs.declared.types.Space.TheVariants as space
use Rattle.redn_segment.specs.declared.types.Draft.{Draft}

module _ (c : Plan) (laid : IsLaid c) (G : Meaning c) (promises : Promises c G) (x : Turn c G) (m : List ℕ) (ready : Ready c G x m) where
  abbrev r : ℕ
  r = x.ring

  abbrev j : ℕ
  j = x.segment

  abbrev ring : Ring
  ring = c.ring r

  abbrev w : Opening
  w = window_at c G x m

  abbrev home : Space → Home
  home = c.home

  abbrev e_at : ℕ
  e_at = ring.event j

  module _ (t : List ℕ) (bytes : IsBytes t) (agrees : Agrees w t) (d : Draft) (e : IsBody c r j e_at d) where
    abbrev slot : List ℕ
    slot = seen_in home m (slot_space r (body_slot c r j e_at))

    its_set : IsSet home c.regions c.domain (length m) d slot
    its_set = set_at c laid G promises x m ready e_at d e

    inside : e_at < bodies_of w
    inside = let count = bodies_count c laid G promises x m ready in let l = slice_get_within (ring_bodies r ring j) e_at d e in omega arith

    domain_is : ring.row.domain ≡ c.domain
    domain_is = (laid.rows r x.ring_in).0

    private_sides : (is_table d.local ≡ false) × (e_at ≢ e_at → is_table d.remote ≡ false)
    private_sides = (laid.apart r j x.ring_in x.segment_in).private e_at d e

    side_mine : (a : Side) → IsSide d a → c.mine (space_of a.site) ≡ true
    side_mine a its = mine_of home c.mine c.regions r ring.row c.ours (laid.lie r x.ring_in) (part_of c r j) (x.laps r) (x.laps r * ring.segments + j) m (laid.apart r j x.ring_in x.segment_in) (goes_through c laid G promises x m ready) (spaces c laid G promises x m ready) (room c laid G promises x m ready) (ours_are c laid G promises x m ready) e_at d a e its

    -- no other body writes what it reads
    side_spared : (a : Side) (i k : ℕ) → IsSide d a → is_table a.site ≡ false → from a ≤ i → i < from a + a.len → i < room_of home (space_of a.site) → k < bodies_of w → k ≢ e_at → may_write w k (base_of home (space_of a.site) + i) ≡ false
    side_spared a i k its plain low high within l ne =
        let body = body_at c laid G promises x m ready k l in
        let its_byte : In home a (base_of home (space_of a.site) + i) = record { at = i; is = refl; room = within; bounds = λ f. (low, high) } in
        false_from_ne_true (may_write w k (base_of home (space_of a.site) + i)) (λ hit.
        let y = written home c.mine c.regions r ring.row c.ours (laid.lie r x.ring_in) (part_of c r j) (x.laps r) (x.laps r * ring.segments + j) m (laid.apart r j x.ring_in x.segment_in) (goes_through c laid G promises x m ready) (spaces c laid G promises x m ready) (room c laid G promises x m ready) (ours_are c laid G promises x m ready) k (base_of home (space_of a.site) + i) body.0 l body.1 hit in
        apart_any home c.mine c.regions r ring.row c.ours (laid.lie r x.ring_in) (part_of c r j) (x.laps r) (x.laps r * ring.segments + j) m (laid.apart r j x.ring_in x.segment_in) (goes_through c laid G promises x m ready) (spaces c laid G promises x m ready) (room c laid G promises x m ready) (ours_are c laid G promises x m ready) k e_at (base_of home (space_of a.site) + i) body.0 d ne body.1 e y.side a y.its its (inl (y.writes refl)) y.bytes its_byte)

    -- so the range that it reads there is as it was
    side_stands : (a : Side) (len : ℕ) → IsSide d a → is_table a.site ≡ false → len ≤ a.len → bytes_at (seen_in home t (space_of a.site)) (from a) len ≡ bytes_at (seen_in home m (space_of a.site)) (from a) len
    side_stands a len its plain short =
        same_range (seen_in home t (space_of a.site)) (seen_in home m (space_of a.site)) (from a) len (same_length home m t (space_of a.site) agrees.size) (λ i low high. elim (cases_lt i (room_of home (space_of a.site))) [
          | inl within ↦
              let private : IsPrivate c (space_of a.site) = record { its = side_mine a its; plain = sym (table_space a.site) ∙ plain } in
              seen_index home t (space_of a.site) i within ∙ agrees.bytes (base_of home (space_of a.site) + i) (laid.private (space_of a.site) i private within) (λ k l ne. side_spared a i k its plain low (omega arith) within l ne) ∙ sym (seen_index home m (space_of a.site) i within)
          | inr past ↦ get_or_past (seen_in home t (space_of a.site)) i 0 (omega (arith, seen_short home t (space_of a.site))) ∙ sym (get_or_past (seen_in home m (space_of a.site)) i 0 (omega (arith, seen_short home m (space_of a.site))))
        ])

    abbrev moment : Bytes
    moment = tabled (seen_in home m) (seen_in home t)

    plain_space : (p : Space) → is_table_space p ≡ false → moment p ≡ seen_in home m p
    plain_space p f = rw f refl

    table_there : (p : Space) → is_table_space p ≡ true → moment p ≡ seen_in home t p
    table_there p f = rw f refl

    local_same : (n : ℕ) → LocalSide d n false → local_bytes (seen_in home t) d n ≡ local_bytes moment d n
    local_same n y = side_stands (side_at d.local d.local_byte y.len y.written) n (inl y.is) private_sides.0 y.long ∙ ap (λ (b : List ℕ). bytes_at b (local_at d) n) (sym (plain_space (local_space d) (sym (table_space d.local) ∙ private_sides.0)))

    remote_same : (n : ℕ) (v : Bool) → RemoteSide d n v → remote_bytes (seen_in home t) slot d n ≡ remote_bytes moment slot d n
    remote_same n v y =
        elim (is_table d.remote) as (λ b. is_table d.remote ≡ b → remote_bytes (seen_in home t) slot d n ≡ remote_bytes moment slot d n) [
          | true ↦ λ f. ap (λ (l : List ℕ). bytes_at l (remote_at slot d) n) (sym (table_there (remote_space d) (sym (table_space d.remote) ∙ f)))
          | false ↦ λ f.
              let at : remote_at slot d ≡ start_of d.remote + d.remote_byte = rw f refl in
              ap (λ (a : ℕ). bytes_at (seen_in home t (remote_space d)) a n) at ∙ side_stands (side_at d.remote d.remote_byte y.len y.written) n (inr y.is) f y.long ∙ ap (λ (b : List ℕ). bytes_at b (start_of d.remote + d.remote_byte) n) (sym (plain_space (remote_space d) (sym (table_space d.remote) ∙ f))) ∙ ap (λ (a : ℕ). bytes_at (moment (remote_space d)) a n) (sym at)
        ] refl

    reach_same : is_table d.remote ≡ true → length (seen_in home t (remote_space d)) ≡ length (moment (remote_space d))
    reach_same f = ap length (sym (table_there (remote_space d) (sym (table_space d.remote) ∙ f)))

    reads_same : (op : Opcode) → Follows d op → ReadsSame (seen_in home t) moment slot d op
    reads_same Write f = (local_same d.length (write_local d f), reach_same)
    reads_same Read f = (remote_same d.length false (read_remote d f), reach_same)
    reads_same Cas f = remote_same 8 true (cas_remote d f)
    reads_same Add f = remote_same 8 true (add_remote d f)
    reads_same Send f = local_same d.length (send_local d f)
    reads_same _ f = tt

    -- it lands as its draft would on the state of the opening with the tables of its moment
    event_same : acts c.domain (seen_in home t) slot d (opcode_in slot) ≡ acts c.domain moment slot d (opcode_in slot)
    event_same = acts_same c.domain (seen_in home t) moment slot d (opcode_in slot) (reads_same (opcode_in slot) its_set.follows)

    own_draft : slice_get (ring.drafts j) e_at ≡ Some d
    own_draft =
        elim (slice_get_append (ring.drafts j) (lap_requests r ring j) e_at d e) [
          | inl own ↦ own
          | inr lap ↦ let at = lap.1 in absurd (by_place lap.0 at (slice_get_within (ring_bodies r ring j) e_at d e) (laid.events r j x.ring_in x.segment_in))
        ]
      where
        by_place : (i : ℕ) → e_at ≡ length (ring.drafts j) + i → e_at < length (ring_bodies r ring j) → (e_at < length (ring.drafts j)) ⊎ (length (ring_bodies r ring j) ≤ e_at) → ⊥
        by_place i at within (inl f) = omega arith
        by_place i at within (inr f) = omega arith

    pub event_good : IsGood (acts c.domain moment slot d (opcode_in slot))
    event_good =
        promises.good r j e_at d x.ghost moment x.ring_in x.segment_in (promises.tables r j x.ghost (seen_in home m) moment ready.fine (λ k. seen_bytes home t (space.Table k) bytes) (λ p h. plain_space p h.plain)) own_draft

    pub event_lands : LandsAs home (reads_by home d slot (opcode_in slot)) (acts c.domain moment slot d (opcode_in slot)) (landing_on w t e_at)
    event_lands =
        let size : length m ≡ length t = sym agrees.size in
        let set : IsSet home c.regions ring.row.domain (length t) d slot = subst (λ (n : ℕ). IsSet home c.regions ring.row.domain n d slot) size (subst (λ (n : ℕ). IsSet home c.regions n (length m) d slot) (sym domain_is) its_set) in
        let fine : CanLand home c.regions ring.row.domain (length t) d slot (opcode_in slot) = record { from = set.from; local_home = set.local_home; to = set.to; remote_home = set.remote_home; granted = promises.granted r j e_at d x.ghost (seen_in home m) x.ring_in x.segment_in ready.fine own_draft } in
        let lands = lands_placed home c.regions (origin_of w e_at) t d slot fine in
        let real : landing c.regions (origin_of w e_at) t (decoded slot) ≡ landing_on w t e_at = ap (λ (b : List ℕ). landing c.regions (origin_of w e_at) t (decoded b)) (sym (copy_at c laid G promises x m ready e_at (omega (arith, inside)))) in
        subst (λ (o : Outcome). LandsAs home (reads_by home d slot (opcode_in slot)) o (landing_on w t e_at)) event_same (subst (λ (n : ℕ). LandsAs home (reads_by home d slot (opcode_in slot)) (acts n (seen_in home t) slot d (opcode_in slot)) (landing_on w t e_at)) domain_is (subst (λ (l : Landing). LandsAs home (reads_by home d slot (opcode_in slot)) (acts ring.row.domain (seen_in home t) slot d (opcode_in slot)) l) real lands))

    -- where its landing is allowed, it makes puts
    pub record EventPuts : Type 0 where
      pub puts : List Put
      pub events : List Obs
      pub goes : acts c.domain moment slot d (opcode_in slot) ≡ Went puts events
      pub lands : LandsWell home (reads_by home d slot (opcode_in slot)) puts events (landing_on w t e_at)

    pub event_puts : (landing_on w t e_at).allowed ≡ true → EventPuts
    event_puts allowed = by_outcome (acts c.domain moment slot d (opcode_in slot)) refl event_good event_lands
      where
        by_outcome : (o : Outcome) → acts c.domain moment slot d (opcode_in slot) ≡ o → IsGood o → LandsAs home (reads_by home d slot (opcode_in slot)) o (landing_on w t e_at) → EventPuts
        by_outcome (Went us events) f good lands = record { puts = us; events = events; goes = f; lands = lands }
        by_outcome (Faults us events) f good lands = absurd (true≢false (sym allowed ∙ lands.allowed))
        by_outcome Bad f good lands = absurd good

  -- which puts the bodies make: those of the event are given
  abbrev pub puts_of : Outcome → List Put
  puts_of (Went us events) = us
  puts_of _ = []

  abbrev pub outcome_at : ℕ → Draft → Outcome
  outcome_at k d = acts c.domain (seen_in home m) (seen_in home m (slot_space r (body_slot c r j k))) d (opcode_in (seen_in home m (slot_space r (body_slot c r j k))))

  abbrev pub body_puts : ℕ → Option Draft → List Put
  body_puts k None = []
  body_puts k (Some d) = puts_of (outcome_at k d)

  abbrev pub each : List Put → ℕ → List Put
  each its k = cond (k == e_at) its (body_puts k (slice_get (ring_bodies r ring j) k))

  abbrev through : GoesThrough home c.regions r ring.row (part_of c r j) m
  through = goes_through c laid G promises x m ready

  -- another body goes through
  other_goes : (its : List Put) (k : ℕ) (d : Draft) → IsBody c r j k d → k ≢ e_at → outcome_at k d ≡ Went (each its k) []
  other_goes its k d e ne =
      let goes = through.silent k d e ne in
      let domain : ring.row.domain ≡ c.domain = (laid.rows r x.ring_in).0 in
      let done : outcome_at k d ≡ Went goes.0 [] = subst (λ (n : ℕ). acts n (seen_in home m) (seen_in home m (slot_space r (body_slot c r j k))) d (opcode_in (seen_in home m (slot_space r (body_slot c r j k)))) ≡ Went goes.0 []) domain goes.1 in
      let other : (k == e_at) ≡ false = ne_eqb k e_at ne in
      let same : each its k ≡ goes.0 = rw (other, e) (ap puts_of done) in
      done ∙ ap (λ (us : List Put). Went us []) (sym same)

  other_effect : (its : List Put) (event : List Change) (k : ℕ) (d : Draft) → IsBody c r j k d → k < bodies_of w → k ≢ e_at → effect w event k ≡ map (change_of home) (each its k)
  other_effect its event k d e l ne =
      let goes = other_goes its k d e ne in
      let domain : c.domain ≡ ring.row.domain = sym (laid.rows r x.ring_in).0 in
      let done : acts ring.row.domain (seen_in home m) (seen_in home m (slot_space r (body_slot c r j k))) d (opcode_in (seen_in home m (slot_space r (body_slot c r j k)))) ≡ Went (each its k) [] = subst (λ (n : ℕ). acts n (seen_in home m) (seen_in home m (slot_space r (body_slot c r j k))) d (opcode_in (seen_in home m (slot_space r (body_slot c r j k)))) ≡ Went (each its k) []) domain goes in
      let lands = lands_silently home c.mine c.regions r ring.row c.ours (laid.lie r x.ring_in) (part_of c r j) (x.laps r) (x.laps r * ring.segments + j) m (laid.apart r j x.ring_in x.segment_in) through (spaces c laid G promises x m ready) (room c laid G promises x m ready) (ours_are c laid G promises x m ready) k d (each its k) e done l in
      let other : (k == e_at) ≡ false = ne_eqb k e_at ne in
      effect_other k other ∙ lands.writes_are
    where
      effect_other : (k : ℕ) → (k == e_at) ≡ false → effect w event k ≡ (planned w k).writes
      effect_other k f = rw f refl

  sent : (o : Opcode) → is_send o ≡ true → o ≡ Send
  sent Send e = refl
  sent _ e = absurd (false≢true e)

  remote_or_send : (k : ℕ) (d : Draft) (o : Opcode) → IsBody c r j k d → Follows d o → (c.mine (remote_space d) ≡ true) ⊎ (o ≡ Send)
  remote_or_send k d o e f =
      let sides = laid.sides r j k d x.ring_in x.segment_in e in
      elim (is_send d.op) as (λ b. is_send d.op ≡ b → (c.mine (remote_space d) ≡ true) ⊎ (o ≡ Send)) [
        | false ↦ λ t. inl (sides.1 t)
        | true ↦ λ t. elim f [ inl same ↦ inr (same ∙ sent d.op t) | inr turned ↦ absurd (false≢true (ap is_send (sym turned.0) ∙ t)) ]
      ] refl

  pub length_there : (t : List ℕ) (d : Draft) → length t ≡ length m → c.mine (remote_space d) ≡ true → length (seen_in home t (remote_space d)) ≡ room_of home (remote_space d)
  length_there t d e mine = length-seen home c.regions c.domain t (remote_space d) (subst (λ (n : ℕ). IsHome home c.regions c.domain n (remote_space d)) (sym (e ∙ ready.size)) (laid.homes (remote_space d) mine))

  pub body_inside : (k : ℕ) (d : Draft) (u : Bytes) (us : List Put) (events : List Obs) → IsBody c r j k d → (c.mine (remote_space d) ≡ true → is_table d.remote ≡ true → length (u (remote_space d)) ≡ room_of home (remote_space d)) → acts c.domain u (seen_in home m (slot_space r (body_slot c r j k))) d (opcode_in (seen_in home m (slot_space r (body_slot c r j k)))) ≡ Went us events → Inside home c.mine us
  body_inside k d u us events e long goes =
      let sides = laid.sides r j k d x.ring_in x.segment_in e in
      let set = set_at c laid G promises x m ready k d e in
      by_side (remote_or_send k d (opcode_in (seen_in home m (slot_space r (body_slot c r j k)))) e set.follows) sides.0
    where
      by_side : (c.mine (remote_space d) ≡ true) ⊎ (opcode_in (seen_in home m (slot_space r (body_slot c r j k))) ≡ Send) → c.mine (local_space d) ≡ true → Inside home c.mine us
      by_side (inl mine) near = puts_inside home c.mine c.domain u (seen_in home m (slot_space r (body_slot c r j k))) d us events near (long mine) (opcode_in (seen_in home m (slot_space r (body_slot c r j k)))) (inl mine) goes
      by_side (inr send) near = subst (λ (l : List Put). Inside home c.mine l) (sym (send_none c.domain u (seen_in home m (slot_space r (body_slot c r j k))) d us events (ap (acts c.domain u (seen_in home m (slot_space r (body_slot c r j k))) d) (sym send) ∙ goes))) tt

  inside_append : (a b : List Put) → Inside home c.mine a → Inside home c.mine b → Inside home c.mine (a ++ b)
  inside_append [] b h k = k
  inside_append (u ∷ a) b h k = (h.0, inside_append a b h.1 k)

  all_inside : (f : ℕ → List Put) (n : ℕ) → ((k : ℕ) → k < n → Inside home c.mine (f k)) → Inside home c.mine (puts_of_first f n)
  all_inside f zero h = tt
  all_inside f (suc n) h = inside_append (puts_of_first f n) (f n) (all_inside f n (λ k l. h k (omega arith))) (h n (omega arith))

  -- what the event's body made
  pub record EventIs (its : List Put) (event : List Change) (state : Bytes) (events : List Obs) (d : Draft) : Type 0 where
    pub changes : event ≡ map (change_of home) its
    pub goes : acts c.domain (tabled (seen_in home m) state) (seen_in home m (slot_space r (body_slot c r j e_at))) d (opcode_in (seen_in home m (slot_space r (body_slot c r j e_at)))) ≡ Went its events
    pub fits : Inside home c.mine its

  -- what is left, and that the event wrote what its body puts
  pub record Left (n : List ℕ) (event : List Change) : Type 0 where
    pub leaves : Leaves c r j (seen_in home m) (seen_in home n)
    pub made : (d : Draft) → IsBody c r j e_at d → event ≡ map (change_of home) (leaves.each e_at)

  module _ (n : List ℕ) (event : List Change) (last : Standing w n all_written event) (its : List Put) (state : Bytes) (events : List Obs) (tables : HasBytes state) (quiet : length (ring_bodies r ring j) ≤ e_at → events ≡ [])
      (is : (d : Draft) → IsBody c r j e_at d → EventIs its event state events d) where
    effects_are : (k : ℕ) → k < bodies_of w → effect w event k ≡ map (change_of home) (each its k)
    effects_are k l =
        let body = body_at c laid G promises x m ready k l in
        elim (cases_eq k e_at) [
          | inl same ↦
              let here : (k == e_at) ≡ true = eq-eqb k e_at same in
              let event_is = is body.0 (subst (λ (i : ℕ). IsBody c r j i body.0) same body.1) in
              effect_event k here ∙ event_is.changes ∙ ap (map (change_of home)) (sym (each_event k here))
          | inr ne ↦ other_effect its event k body.0 body.1 l ne
        ]
      where
        effect_event : (k : ℕ) → (k == e_at) ≡ true → effect w event k ≡ event
        effect_event k f = rw f refl

        each_event : (k : ℕ) → (k == e_at) ≡ true → each its k ≡ its
        each_event k f = rw f refl

    each_inside : (k : ℕ) → k < bodies_of w → Inside home c.mine (each its k)
    each_inside k l =
        let body = body_at c laid G promises x m ready k l in
        elim (cases_eq k e_at) [
          | inl same ↦
              let here : (k == e_at) ≡ true = eq-eqb k e_at same in
              let event_is = is body.0 (subst (λ (i : ℕ). IsBody c r j i body.0) same body.1) in
              subst (λ (b : Bool). Inside home c.mine (cond b its (body_puts k (slice_get (ring_bodies r ring j) k)))) (sym here) event_is.fits
          | inr ne ↦ body_inside k body.0 (seen_in home m) (each its k) [] body.1 (λ mine t. length_there m body.0 refl mine) (other_goes its k body.0 body.1 ne)
        ]

    each_event_is : each its e_at ≡ its
    each_event_is = let here : (e_at == e_at) ≡ true = eq-eqb e_at e_at refl in rw here refl

    -- memory behind the window shows the spaces after the puts of the bodies
    pub left_by : Left n event
    left_by =
        record {
          leaves = record {
            each = each its;
            tables = state;
            bytes = tables;
            events = events;
            silent = quiet;
            plain = λ k d e ne. other_goes its k d e ne;
            event = λ d e. (is d e).goes ∙ ap (λ (us : List Put). Went us events) (sym each_event_is);
            shows = λ p h.
                window_shows home c.mine w n event last (each its) effects_are (spaces c laid G promises x m ready) (all_inside (each its) (bodies_of w) each_inside) p h.its (λ i low high. private_byte p h i low high) ∙ ap (λ (k : ℕ). placed (seen_in home m) (puts_of_first (each its) k) p) (bodies_count c laid G promises x m ready);
          };
          made = λ d e. (is d e).changes ∙ ap (map (change_of home)) (sym each_event_is);
        }
      where
        private_byte : (p : Space) → IsPrivate c p → (i : ℕ) → base_of home p ≤ i → i < base_of home p + room_of home p → w.ours i ≡ true
        private_byte p h i low high =
            let at : i ≡ base_of home p + (i - base_of home p) = omega (arith, low) in
            ap c.ours at ∙ laid.private p (i - base_of home p) h (omega (arith, low, high))
