-- What memory holds behind a window of a ring with laps: the slots of bodies are ready, and gates and descriptors are as the closed forms say.
use Rattle.std.proofs.Common.{◌≡◌, ◌≢◌, ℕ, suc, ◌+◌, ◌-◌, ◌*◌, ◌%◌, ◌^◌, ◌<◌, ◌≤◌, ◌⊎◌, inl, inr, Bool, true, false, cond, ◌==◌, List, [], ◌∷◌, ◌++◌, length, take, drop, refl, sym, ap, ◌∙◌, subst, arith, length-append, length-take, length-drop, append-nil}
use Rattle.std.specs.Prelude.{nat_lt, slice_get, slice_index}
use Rattle.std.proofs.lemmas.Bool.{false≢true, cases_eq, false_from_ne_true}
use Rattle.std.proofs.lemmas.Option.{slice_get_within}
use Rattle.std.proofs.lemmas.List.{get_or-take, get_or-drop, take_at, drop_at, drop_all}
use Rattle.std.proofs.lemmas.List.Elements.{All-take, All-drop}
use Rattle.std.proofs.Math.Nat.{mul-le-mul_left}
use Rattle.redn_words.specs.declared.types.Request.{Request}
use Rattle.redn_proof_landing.specs.Homes.{seen_in}
use Rattle.redn_proof_landing.specs.Requested.{IsReady}
use Rattle.redn_proof_landing.specs.Segments.{slot_space}
use Rattle.redn_proof_ring.proofs.LapAdvance.{Advance, RaisesWait, count_raised, count_kept, limit_raised, limit_kept, opening_raised, opening_kept, gated_before, lap_target, Gate, Wait_gate, Enable_gate, slot_target, descriptor_target, wait_there, enable_there, descriptor_there}
use Rattle.redn_proof_ring.proofs.LapKept.{spared, body_writes, body_side, kept_byte, kept_space, raised_space}
use Rattle.redn_proof_ring.proofs.LapPlaces.{Place, gates_at, wait_in, enable_in, body_in, places_differ}
use Rattle.redn_proof_ring.proofs.LapSteps.{slice_get_append, wait_raises, enable_raises, descriptor_raises, old_word}
use Rattle.redn_proof_ring.proofs.LapWindows.{ring_small, here, narrow_gate, few_rounds, first_inside}
use Rattle.redn_proof_ring.specs.Plans.{is_ring, Plan, IsLaid, IsBody, IsPrivate, MayWrite, slots_in, body_slot, body_request}
use Rattle.redn_proof_ring.specs.Turns.{Meaning, Promises, Turn, Ready, segment_of, window_at}
use Rattle.redn_recycle.specs.Laps.{Ring, IsRing, slot_of, bodies_of as ring_bodies, lap_requests, gates_of, wait_of, enable_of, raise_wait, raise_enable, raise_descriptor, laps_begun, laps_behind, count_at, limit_at, opening_at, wait_request, enable_request, last_enable, descriptor_bytes}
use Rattle.redn_segment.proofs.Filled.{all_bytes}
use Rattle.redn_segment.specs.Homes.{Home, base_of, room_of}
use Rattle.redn_segment.specs.Primed.{IsBytes, covers, writes_at}
use Rattle.redn_proof_window.proofs.Raised.{second_at}
use Rattle.redn_proof_window.specs.Stages.{Standing, all_written}
use Rattle.redn_proof_window.specs.Windows.{bodies_of, may_write}
use Rattle.redn_words.specs.Bytes.{byte}
use Rattle.redn_words.proofs.Fields.{with_second}
use Rattle.redn_words.proofs.Numbers.{length-spelled, number-spelled}
use Rattle.redn_words.proofs.Slots.{length-encoded}
use Rattle.redn_words.specs.Slots.{IsNarrow}
use Rattle.redn_words.specs.Landings.{Change}
use Rattle.redn_words.specs.Requests.{encoded}
use Rattle.redn_words.specs.Words.{bytes_at, with_bytes_at, word, spelled}
use Rattle.redn_segment.specs.declared.types.SlotRef.{SlotRef}
use Rattle.redn_segment.specs.declared.types.Space.{Space}
use Rattle.redn_segment.specs.declared.types.Space.TheVariants as space
use Rattle.redn_segment.specs.declared.types.Draft.{Draft}

-- a byte of a space
pub seen_index : (home : Space → Home) (m : List ℕ) (p : Space) (i : ℕ) → i < room_of home p → slice_index (seen_in home m p) i ≡ byte m (base_of home p + i)
seen_index home m p i l = get_or-take (room_of home p) (drop (base_of home p) m) i 0 l ∙ get_or-drop (base_of home p) m i 0

pub same_length : (home : Space → Home) (m n : List ℕ) (p : Space) → length n ≡ length m → length (seen_in home n p) ≡ length (seen_in home m p)
same_length home m n p e = omega (arith, e, length-take (room_of home p) (drop (base_of home p) n), length-take (room_of home p) (drop (base_of home p) m), length-drop (base_of home p) n, length-drop (base_of home p) m)

pub seen_short : (home : Space → Home) (m : List ℕ) (p : Space) → length (seen_in home m p) ≤ room_of home p
seen_short home m p = omega (arith, length-take (room_of home p) (drop (base_of home p) m))

-- a space of bytes
pub seen_bytes : (home : Space → Home) (m : List ℕ) (p : Space) → IsBytes m → IsBytes (seen_in home m p)
seen_bytes home m p h = All-take (λ (b : ℕ). b < 256) (room_of home p) (drop (base_of home p) m) (All-drop (λ (b : ℕ). b < 256) (base_of home p) m h)

pub slice_get_behind : {X : Type 0} (a b : List X) (i : ℕ) → slice_get (a ++ b) (length a + i) ≡ slice_get b i
slice_get_behind [] b i = let at : 0 + i ≡ i = omega arith in ap (slice_get b) at
slice_get_behind (y ∷ a) b i = let at : length (y ∷ a) + i ≡ suc (length a + i) = omega arith in ap (slice_get (y ∷ (a ++ b))) at ∙ slice_get_behind a b i

-- the second operand of a request in its bytes
pub second_of : (r : Request) → IsNarrow r → word (bytes_at (encoded r) 48 8) 0 ≡ r.second
second_of r narrow = second_at (encoded r) 0 r narrow (all_bytes (encoded r) 64 (length-encoded r))

-- and of a descriptor
pub limit_of : (queue limit : ℕ) → limit < 256 ^ 8 → word (bytes_at (spelled 8 queue ++ spelled 8 limit) 8 8) 0 ≡ limit
limit_of queue limit small =
    let second : bytes_at (spelled 8 queue ++ spelled 8 limit) 8 8 ≡ spelled 8 limit = ap (take 8) (drop_at (spelled 8 queue) (spelled 8 limit) 8 (length-spelled 8 queue)) ∙ all_bytes (spelled 8 limit) 8 (length-spelled 8 limit) in
    ap (λ (b : List ℕ). word b 0) second ∙ number-spelled 8 limit small

pub with_limit : (queue limit then : ℕ) → with_bytes_at (spelled 8 queue ++ spelled 8 limit) 8 (spelled 8 then) ≡ spelled 8 queue ++ spelled 8 then
with_limit queue limit then =
    let front : take 8 (spelled 8 queue ++ spelled 8 limit) ≡ spelled 8 queue = take_at (spelled 8 queue) (spelled 8 limit) 8 (length-spelled 8 queue) in
    let past : drop (8 + length (spelled 8 then)) (spelled 8 queue ++ spelled 8 limit) ≡ [] = drop_all (8 + length (spelled 8 then)) (spelled 8 queue ++ spelled 8 limit) (omega (arith, length-append (spelled 8 queue) (spelled 8 limit), length-spelled 8 queue, length-spelled 8 limit, length-spelled 8 then)) in
    ap (λ (l : List ℕ). l ++ (spelled 8 then ++ drop (8 + length (spelled 8 then)) (spelled 8 queue ++ spelled 8 limit))) front ∙ ap (λ (l : List ℕ). spelled 8 queue ++ (spelled 8 then ++ l)) past ∙ ap (λ (l : List ℕ). spelled 8 queue ++ l) (simp append-nil refl)

module _ (c : Plan) (laid : IsLaid c) (G : Meaning c) (promises : Promises c G) (x : Turn c G) (m : List ℕ) (ready : Ready c G x m) (n : List ℕ) (event : List Change) (last : Standing (window_at c G x m) n all_written event) where
  abbrev pub r : ℕ
  r = x.ring

  abbrev pub j : ℕ
  j = x.segment

  abbrev pub ring : Ring
  ring = c.ring r

  abbrev pub its_ring : IsRing r ring
  its_ring = laid.rings r x.ring_in

  slot_write : (k : ℕ) (d : Draft) (q : SlotRef) (b : ℕ) → IsBody c r j k d → writes_at (space.Slot q) b d ≡ true → MayWrite c r q b ⊎ ((i : ℕ) × (k ≡ length (ring.drafts j) + i) × (q.ring ≡ r) × Gate r ring its_ring j i q.slot)
  slot_write k d q b e w =
      elim (slice_get_append (ring.drafts j) (lap_requests r ring j) k d e) [
        | inl own ↦ inl (laid.writes r j k d q b x.ring_in x.segment_in own w)
        | inr lap ↦ let t = slot_target r ring its_ring j lap.0 d q b (lap_target r ring its_ring j lap.0 d x.segment_in lap.2) w in inr (lap.0, lap.1, t.0, t.1)
      ]

  -- a slot of a ring is private
  pub slot_private : (v i : ℕ) → is_ring c v ≡ true → i < slots_in c v → IsPrivate c (slot_space v i)
  slot_private v i l inside = record { its = (laid.lie v l).its i inside; plain = refl }

  -- a place in a segment lies in its ring
  pub in_ring : (v g a : ℕ) → (l : is_ring c v ≡ true) → g < (c.ring v).segments → Place v (c.ring v) (laid.rings v l) g a → a < slots_in c v
  in_ring v g a l inside p = let high = p.high in let end = first_inside v (c.ring v) (laid.rings v l) ((c.ring v).segments - suc g) (suc g) (omega arith) in omega arith

  -- bodies lie apart from gates
  not_wait : (g k a : ℕ) (i : ℕ) → i < ring.segments → k < length (ring_bodies r ring i) → a ≡ ring.first i + k → g < ring.segments → gates_of r ring g ≡ 2 → a ≢ wait_of r ring g
  not_wait g k a i l inside at m two e =
      elim (cases_eq i g) [
        | inl same ↦ let gates = gates_at r ring its_ring g m two in let w = gates.wait in let first : ring.first i ≡ ring.first g = ap ring.first same in let long : length (ring_bodies r ring i) ≡ length (ring_bodies r ring g) = ap (λ (s : ℕ). length (ring_bodies r ring s)) same in omega arith
        | inr ne ↦ places_differ r ring its_ring i g (ring.first i + k) (wait_of r ring g) l m (body_in r ring its_ring i k l inside) (wait_in r ring its_ring g m two) ne (sym at ∙ e)
      ]

  not_enable : (g k a : ℕ) (i : ℕ) → i < ring.segments → k < length (ring_bodies r ring i) → a ≡ ring.first i + k → g < ring.segments → gates_of r ring g ≡ 2 → a ≢ enable_of r ring g
  not_enable g k a i l inside at m two e =
      elim (cases_eq i g) [
        | inl same ↦ let gates = gates_at r ring its_ring g m two in let w = gates.enable in let first : ring.first i ≡ ring.first g = ap ring.first same in let long : length (ring_bodies r ring i) ≡ length (ring_bodies r ring g) = ap (λ (s : ℕ). length (ring_bodies r ring s)) same in omega arith
        | inr ne ↦ places_differ r ring its_ring i g (ring.first i + k) (enable_of r ring g) l m (body_in r ring its_ring i k l inside) (enable_in r ring its_ring g m two) ne (sym at ∙ e)
      ]

  gates_differ : (g h : ℕ) → g < ring.segments → h < ring.segments → gates_of r ring g ≡ 2 → gates_of r ring h ≡ 2 → wait_of r ring g ≢ enable_of r ring h
  gates_differ g h l k two too e =
      elim (cases_eq g h) [
        | inl same ↦ let a = gates_at r ring its_ring g l two in let w = a.wait in let b = a.enable in let at : enable_of r ring g ≡ enable_of r ring h = ap (enable_of r ring) same in omega arith
        | inr ne ↦ places_differ r ring its_ring g h (wait_of r ring g) (enable_of r ring h) l k (wait_in r ring its_ring g l two) (enable_in r ring its_ring h k too) ne e
      ]

  waits_same : (g h : ℕ) → g < ring.segments → h < ring.segments → gates_of r ring g ≡ 2 → gates_of r ring h ≡ 2 → wait_of r ring g ≡ wait_of r ring h → g ≡ h
  waits_same g h l k two too e =
      elim (cases_eq g h) [ inl same ↦ same | inr ne ↦ absurd (places_differ r ring its_ring g h (wait_of r ring g) (wait_of r ring h) l k (wait_in r ring its_ring g l two) (wait_in r ring its_ring h k too) ne e) ]

  enables_same : (g h : ℕ) → g < ring.segments → h < ring.segments → gates_of r ring g ≡ 2 → gates_of r ring h ≡ 2 → enable_of r ring g ≡ enable_of r ring h → g ≡ h
  enables_same g h l k two too e =
      elim (cases_eq g h) [ inl same ↦ same | inr ne ↦ absurd (places_differ r ring its_ring g h (enable_of r ring g) (enable_of r ring h) l k (enable_in r ring its_ring g l two) (enable_in r ring its_ring h k too) ne e) ]

  -- the slots of bodies stay ready
  pub drafts_next : (v i k : ℕ) (d : Draft) → is_ring c v ≡ true → i < (c.ring v).segments → IsBody c v i k d → IsReady (c.written v (body_slot c v i k)) (body_request c v i k d) (seen_in c.home n (slot_space v (body_slot c v i k)))
  drafts_next v i k d l inside e =
      let old = ready.drafts v i k d l inside e in
      let small = slice_get_within (ring_bodies v (c.ring v) i) k d e in
      let its = slot_private v (body_slot c v i k) l (in_ring v i (body_slot c v i k) l inside (body_in v (c.ring v) (laid.rings v l) i k inside small)) in
      record {
        len = same_length c.home m n (slot_space v (body_slot c v i k)) last.size ∙ old.len;
        bytes = λ b low none.
            seen_index c.home n (slot_space v (body_slot c v i k)) b low ∙ kept_byte c laid G promises x m ready n event last (slot_space v (body_slot c v i k)) b its low (λ o f within body. spared c laid G promises x m ready o f (slot_space v (body_slot c v i k)) b within body its low (false_from_ne_true (writes_at (slot_space v (body_slot c v i k)) b f) (λ w. never b none (slot_write o f (slot_of v (body_slot c v i k)) b body w)))) ∙ sym (seen_index c.home m (slot_space v (body_slot c v i k)) b low) ∙ old.bytes b low none;
      }
    where
      never : {o : ℕ} (b : ℕ) → c.written v (body_slot c v i k) b ≡ false → MayWrite c r (slot_of v (body_slot c v i k)) b ⊎ ((a : ℕ) × (o ≡ length (ring.drafts j) + a) × (v ≡ r) × Gate r ring its_ring j a (body_slot c v i k)) → ⊥
      never b none (inl may) =
          let same = may.ring_is in
          let there : c.written r (body_slot c v i k) b ≡ true = may.bodies i k d (subst (λ (z : ℕ). i < (c.ring z).segments) same inside) (subst (λ (z : ℕ). IsBody c z i k d) same e) (ap (λ (z : ℕ). body_slot c z i k) same) in
          false≢true (sym none ∙ ap (λ (z : ℕ). c.written z (body_slot c v i k) b) same ∙ there)
      never b none (inr lap) = by_gate lap.3
        where
          same : v ≡ r
          same = lap.2

          here : i < ring.segments
          here = subst (λ (z : ℕ). i < (c.ring z).segments) same inside

          small : k < length (ring_bodies r ring i)
          small = subst (λ (z : ℕ). k < length (ring_bodies z (c.ring z) i)) same (slice_get_within (ring_bodies v (c.ring v) i) k d e)

          at : body_slot c v i k ≡ ring.first i + k
          at = ap (λ (z : ℕ). body_slot c z i k) same

          by_gate : {a : ℕ} → Gate r ring its_ring j a (body_slot c v i k) → ⊥
          by_gate (Wait_gate g f zero_is g_in two raises) = not_wait g k (body_slot c v i k) i here small at g_in two f
          by_gate (Enable_gate g f one_is g_in two raises) = not_enable g k (body_slot c v i k) i here small at g_in two f

  -- what a segment with gates leaves of gates and descriptors
  module _ (gate : gates_of r ring j ≡ 2) (then_n then_j : ℕ) (go : Advance r ring its_ring (x.laps r) j then_n then_j) where
    now_here : segment_of c G x r ≡ j
    now_here = here c laid G promises x m ready

    rounds : (ring.segments * x.laps r ≤ 2 ^ 62) × (ring.segments * suc (x.laps r) ≤ 2 ^ 62 + 2 ^ 32) × (slots_in c r * suc (x.laps r) ≤ 2 ^ 62 + 2 ^ 32)
    rounds = let bound = laid.bound r x.ring_in in few_rounds ring.segments (slots_in c r) (x.laps r) c.most bound.1 bound.0 (ready.few r x.ring_in) laid.few

    pub small_queue : r < 65536
    small_queue = ring_small c laid r x.ring_in

    at_most_one : (b : Bool) (a : ℕ) → cond b (suc a) a ≤ suc a
    at_most_one true a = omega arith
    at_most_one false a = omega arith

    count_small : (g : ℕ) → g < ring.segments → count_at r ring (x.laps r) j g ≤ 2 ^ 62 + 2 ^ 33
    count_small g l =
        let all = rounds in
        let bound = laid.bound r x.ring_in in
        by_last (suc g == ring.segments) (at_most_one (nat_lt 0 j) (x.laps r)) (at_most_one (nat_lt (suc g) j) (x.laps r))
      where
        by_last : (b : Bool) → laps_begun r ring (x.laps r) j ≤ suc (x.laps r) → laps_behind r ring (x.laps r) j g ≤ suc (x.laps r) → cond b (ring.segments * laps_begun r ring (x.laps r) j) (suc g + ring.segments * laps_behind r ring (x.laps r) j g) ≤ 2 ^ 62 + 2 ^ 33
        by_last true e f = let all = rounds in let less : ring.segments * laps_begun r ring (x.laps r) j ≤ ring.segments * suc (x.laps r) = mul-le-mul_left ring.segments e in omega (arith, all.1)
        by_last false e f = let all = rounds in let bound = laid.bound r x.ring_in in let less : ring.segments * laps_behind r ring (x.laps r) j g ≤ ring.segments * suc (x.laps r) = mul-le-mul_left ring.segments f in omega (arith, all.1, bound.0, bound.1)

    limit_small : (g : ℕ) → suc g < ring.segments → limit_at r ring (x.laps r) j g ≤ 2 ^ 62 + 2 ^ 33
    limit_small g l =
        let all = rounds in
        let bound = laid.bound r x.ring_in in
        let less : slots_in c r * laps_behind r ring (x.laps r) j g ≤ slots_in c r * suc (x.laps r) = mul-le-mul_left (slots_in c r) (at_most_one (nat_lt (suc g) j) (x.laps r)) in
        let end = first_inside r ring its_ring (ring.segments - suc (suc g)) (suc (suc g)) (omega arith) in
        omega (arith, all.2, bound.0)

    opening_small : opening_at r ring (x.laps r) j ≤ 2 ^ 62 + 2 ^ 33
    opening_small =
        let all = rounds in
        let bound = laid.bound r x.ring_in in
        let some = its_ring.some in
        let less : slots_in c r * laps_begun r ring (x.laps r) j ≤ slots_in c r * suc (x.laps r) = mul-le-mul_left (slots_in c r) (at_most_one (nat_lt 0 j) (x.laps r)) in
        let end = first_inside r ring its_ring (ring.segments - 1) 1 (omega arith) in
        omega (arith, all.2, bound.0)

    -- the WAITs of the own ring
    wait_now : (g : ℕ) → g < ring.segments → gates_of r ring g ≡ 2 → seen_in c.home m (slot_space r (wait_of r ring g)) ≡ encoded (wait_request r ring (count_at r ring (x.laps r) j g))
    wait_now g l two = ready.waits r g x.ring_in l two ∙ ap (λ (k : ℕ). encoded (wait_request r ring (count_at r ring (x.laps r) k g))) now_here

    wait_private : (g : ℕ) → g < ring.segments → gates_of r ring g ≡ 2 → IsPrivate c (slot_space r (wait_of r ring g))
    wait_private g l two = slot_private r (wait_of r ring g) x.ring_in (in_ring r g (wait_of r ring g) x.ring_in l (wait_in r ring its_ring g l two))

    wait_written : (g k : ℕ) (d : Draft) (b : ℕ) → g < ring.segments → gates_of r ring g ≡ 2 → IsBody c r j k d → writes_at (slot_space r (wait_of r ring g)) b d ≡ true → (k ≡ length (ring.drafts j) + 0) × RaisesWait r ring its_ring (x.laps r) j then_n then_j go g
    wait_written g k d b l two e w = by_kind (slot_write k d (slot_of r (wait_of r ring g)) b e w)
      where
        by_kind : MayWrite c r (slot_of r (wait_of r ring g)) b ⊎ ((i : ℕ) × (k ≡ length (ring.drafts j) + i) × (r ≡ r) × Gate r ring its_ring j i (wait_of r ring g)) → (k ≡ length (ring.drafts j) + 0) × RaisesWait r ring its_ring (x.laps r) j then_n then_j go g
        by_kind (inl may) = absurd (may.waits g l two refl)
        by_kind (inr lap) = by_gate lap.0 lap.1 lap.3
          where
            by_gate : (i : ℕ) → k ≡ length (ring.drafts j) + i → Gate r ring its_ring j i (wait_of r ring g) → (k ≡ length (ring.drafts j) + 0) × RaisesWait r ring its_ring (x.laps r) j then_n then_j go g
            by_gate i at (Wait_gate h f zero_is h_in h_two raises) =
                let same : g ≡ h = waits_same g h l h_in two h_two f in
                (omega arith, subst (λ (a : ℕ). (suc a ≡ j) ⊎ ((j ≡ 0) × (suc a ≡ ring.segments))) (sym same) raises)
            by_gate i at (Enable_gate h f one_is h_in h_two raises) = absurd (gates_differ g h l h_in two h_two f)

    wait_raised : (g : ℕ) → g < ring.segments → gates_of r ring g ≡ 2 → RaisesWait r ring its_ring (x.laps r) j then_n then_j go g → seen_in c.home n (slot_space r (wait_of r ring g)) ≡ encoded (wait_request r ring (count_at r ring then_n then_j g))
    wait_raised g l two raises =
        let p : Space = slot_space r (wait_of r ring g) in
        let count : ℕ = count_at r ring (x.laps r) j g in
        let small = count_small g l in
        let bound = laid.bound r x.ring_in in
        let queue = small_queue in
        let narrow : IsNarrow (wait_request r ring count) = narrow_gate r ring 6 r count (omega arith) (omega arith) (omega arith) in
        let body : IsBody c r j (length (ring.drafts j) + 0) (raise_wait r ring g) = slice_get_behind (ring.drafts j) (lap_requests r ring j) 0 ∙ wait_there r ring its_ring j g l x.segment_in two gate raises in
        let old : old_word p 48 (seen_in c.home m) ≡ count = ap (λ (b : List ℕ). word (bytes_at b 48 8) 0) (wait_now g l two) ∙ second_of (wait_request r ring count) narrow in
        let sum : (old_word p 48 (seen_in c.home m) + ring.segments) % 2 ^ 64 ≡ count + ring.segments = omega (arith, old, bound.0, bound.1) in
        raised_space c laid G promises x m ready n event last p (wait_private g l two) (length (ring.drafts j) + 0) (raise_wait r ring g) body (omega arith) (wait_raises r ring g) refl (omega arith) refl (λ b k d inside within e ne. spared c laid G promises x m ready k d p b within e (wait_private g l two) inside (false_from_ne_true (writes_at p b d) (λ w. let its = wait_written g k d b l two e w in ne its.0))) ∙ ap (λ (v : ℕ). with_bytes_at (seen_in c.home m p) 48 (spelled 8 v)) sum ∙ ap (λ (b : List ℕ). with_bytes_at b 48 (spelled 8 (count + ring.segments))) (wait_now g l two) ∙ with_second (wait_request r ring count) (count + ring.segments) ∙ ap (λ (v : ℕ). encoded (wait_request r ring v)) (sym (count_raised r ring its_ring (x.laps r) j then_n then_j go g l x.segment_in raises))

    pub wait_here : (g : ℕ) → g < ring.segments → gates_of r ring g ≡ 2 → seen_in c.home n (slot_space r (wait_of r ring g)) ≡ encoded (wait_request r ring (count_at r ring then_n then_j g))
    wait_here g l two =
        elim (cases_eq (suc g) j) [
          | inl e ↦ wait_raised g l two (inl e)
          | inr ne ↦
              elim (cases_eq j 0) [
                | inl zero_is ↦ elim (cases_eq (suc g) ring.segments) [ inl f ↦ wait_raised g l two (inr (zero_is, f)) | inr other ↦ kept ne (λ f. absurd (other f)) ]
                | inr later ↦ kept ne (λ f. later)
              ]
        ]
      where
        kept : suc g ≢ j → (suc g ≡ ring.segments → j ≢ 0) → seen_in c.home n (slot_space r (wait_of r ring g)) ≡ encoded (wait_request r ring (count_at r ring then_n then_j g))
        kept ne f =
            kept_space c laid G promises x m ready n event last (slot_space r (wait_of r ring g)) (wait_private g l two) (λ b k d inside within e. spared c laid G promises x m ready k d (slot_space r (wait_of r ring g)) b within e (wait_private g l two) inside (false_from_ne_true (writes_at (slot_space r (wait_of r ring g)) b d) (λ w. not_raised (wait_written g k d b l two e w).1))) ∙ wait_now g l two ∙ ap (λ (v : ℕ). encoded (wait_request r ring v)) (sym (count_kept r ring its_ring (x.laps r) j then_n then_j go g l ne f))
          where
            not_raised : RaisesWait r ring its_ring (x.laps r) j then_n then_j go g → ⊥
            not_raised (inl h) = ne h
            not_raised (inr h) = f h.1 h.0

    -- the ENABLEs before the last
    enable_now : (g : ℕ) → suc g < ring.segments → seen_in c.home m (slot_space r (enable_of r ring g)) ≡ encoded (enable_request r ring (limit_at r ring (x.laps r) j g))
    enable_now g l = ready.enables r g x.ring_in l ∙ ap (λ (k : ℕ). encoded (enable_request r ring (limit_at r ring (x.laps r) k g))) now_here

    enable_private : (g : ℕ) → g < ring.segments → gates_of r ring g ≡ 2 → IsPrivate c (slot_space r (enable_of r ring g))
    enable_private g l two = slot_private r (enable_of r ring g) x.ring_in (in_ring r g (enable_of r ring g) x.ring_in l (enable_in r ring its_ring g l two))

    enable_written : (g k : ℕ) (d : Draft) (b : ℕ) → g < ring.segments → gates_of r ring g ≡ 2 → IsBody c r j k d → writes_at (slot_space r (enable_of r ring g)) b d ≡ true → ((suc g ≡ ring.segments) × (covers 40 16 b ≡ true)) ⊎ ((k ≡ length (ring.drafts j) + 1) × (suc g ≡ j))
    enable_written g k d b l two e w = by_kind (slot_write k d (slot_of r (enable_of r ring g)) b e w)
      where
        by_kind : MayWrite c r (slot_of r (enable_of r ring g)) b ⊎ ((i : ℕ) × (k ≡ length (ring.drafts j) + i) × (r ≡ r) × Gate r ring its_ring j i (enable_of r ring g)) → ((suc g ≡ ring.segments) × (covers 40 16 b ≡ true)) ⊎ ((k ≡ length (ring.drafts j) + 1) × (suc g ≡ j))
        by_kind (inl may) = inl (may.enables g l two refl)
        by_kind (inr lap) = by_gate lap.0 lap.1 lap.3
          where
            by_gate : (i : ℕ) → k ≡ length (ring.drafts j) + i → Gate r ring its_ring j i (enable_of r ring g) → ((suc g ≡ ring.segments) × (covers 40 16 b ≡ true)) ⊎ ((k ≡ length (ring.drafts j) + 1) × (suc g ≡ j))
            by_gate i at (Wait_gate h f zero_is h_in h_two raises) = absurd (gates_differ h g h_in l h_two two (sym f))
            by_gate i at (Enable_gate h f one_is h_in h_two raises) = let same : g ≡ h = enables_same g h l h_in two h_two f in inr (omega arith, omega arith)

    enable_gated : (g : ℕ) → suc g < ring.segments → gates_of r ring g ≡ 2
    enable_gated g l = gated_before r ring its_ring g l

    enable_raised : (g : ℕ) → suc g < ring.segments → suc g ≡ j → seen_in c.home n (slot_space r (enable_of r ring g)) ≡ encoded (enable_request r ring (limit_at r ring then_n then_j g))
    enable_raised g l raises =
        let p : Space = slot_space r (enable_of r ring g) in
        let two = enable_gated g l in
        let g_in : g < ring.segments = omega arith in
        let limit : ℕ = limit_at r ring (x.laps r) j g in
        let small = limit_small g l in
        let bound = laid.bound r x.ring_in in
        let queue = small_queue in
        let narrow : IsNarrow (enable_request r ring limit) = narrow_gate r ring 7 r limit (omega arith) (omega arith) (omega arith) in
        let body : IsBody c r j (length (ring.drafts j) + 1) (raise_enable r ring g) = slice_get_behind (ring.drafts j) (lap_requests r ring j) 1 ∙ enable_there r ring its_ring j g raises gate in
        let old : old_word p 48 (seen_in c.home m) ≡ limit = ap (λ (b : List ℕ). word (bytes_at b 48 8) 0) (enable_now g l) ∙ second_of (enable_request r ring limit) narrow in
        let sum : (old_word p 48 (seen_in c.home m) + slots_in c r) % 2 ^ 64 ≡ limit + slots_in c r = omega (arith, old, bound.0) in
        raised_space c laid G promises x m ready n event last p (enable_private g g_in two) (length (ring.drafts j) + 1) (raise_enable r ring g) body (omega arith) (enable_raises r ring g) refl (omega arith) refl (λ b k d inside within e ne. spared c laid G promises x m ready k d p b within e (enable_private g g_in two) inside (false_from_ne_true (writes_at p b d) (λ w. elim (enable_written g k d b g_in two e w) [ inl f ↦ let end = f.0 in absurd (omega arith) | inr f ↦ ne f.0 ]))) ∙ ap (λ (v : ℕ). with_bytes_at (seen_in c.home m p) 48 (spelled 8 v)) sum ∙ ap (λ (b : List ℕ). with_bytes_at b 48 (spelled 8 (limit + slots_in c r))) (enable_now g l) ∙ with_second (enable_request r ring limit) (limit + slots_in c r) ∙ ap (λ (v : ℕ). encoded (enable_request r ring v)) (sym (limit_raised r ring its_ring (x.laps r) j then_n then_j go g raises))

    pub enable_here : (g : ℕ) → suc g < ring.segments → seen_in c.home n (slot_space r (enable_of r ring g)) ≡ encoded (enable_request r ring (limit_at r ring then_n then_j g))
    enable_here g l =
        elim (cases_eq (suc g) j) [
          | inl e ↦ enable_raised g l e
          | inr ne ↦
              let two = enable_gated g l in
              let g_in : g < ring.segments = omega arith in
              kept_space c laid G promises x m ready n event last (slot_space r (enable_of r ring g)) (enable_private g g_in two) (λ b k d inside within e. spared c laid G promises x m ready k d (slot_space r (enable_of r ring g)) b within e (enable_private g g_in two) inside (false_from_ne_true (writes_at (slot_space r (enable_of r ring g)) b d) (λ w. elim (enable_written g k d b g_in two e w) [ inl f ↦ let end = f.0 in absurd (omega arith) | inr f ↦ ne f.1 ]))) ∙ enable_now g l ∙ ap (λ (v : ℕ). encoded (enable_request r ring v)) (sym (limit_kept r ring its_ring (x.laps r) j then_n then_j go g l ne))
        ]

    -- the last ENABLE, but for its operands
    pub last_here : (g : ℕ) → suc g ≡ ring.segments → gates_of r ring g ≡ 2 → IsReady (covers 40 16) (last_enable r ring) (seen_in c.home n (slot_space r (enable_of r ring g)))
    last_here g end two =
        let old = ready.last r g x.ring_in end two in
        let g_in : g < ring.segments = omega arith in
        let inside = x.segment_in in
        record {
          len = same_length c.home m n (slot_space r (enable_of r ring g)) last.size ∙ old.len;
          bytes = λ b low none.
              seen_index c.home n (slot_space r (enable_of r ring g)) b low ∙ kept_byte c laid G promises x m ready n event last (slot_space r (enable_of r ring g)) b (enable_private g g_in two) low (λ k d within e. spared c laid G promises x m ready k d (slot_space r (enable_of r ring g)) b within e (enable_private g g_in two) low (false_from_ne_true (writes_at (slot_space r (enable_of r ring g)) b d) (λ w. elim (enable_written g k d b g_in two e w) [ inl f ↦ false≢true (sym none ∙ f.1) | inr f ↦ let next = f.1 in absurd (omega arith) ]))) ∙ sym (seen_index c.home m (slot_space r (enable_of r ring g)) b low) ∙ old.bytes b low none;
        }

    -- the own descriptor
    pub descriptor_private : (v : ℕ) → is_ring c v ≡ true → IsPrivate c (space.Descriptor v)
    descriptor_private v l = record { its = laid.descriptors v l; plain = refl }

    descriptor_written : (v k : ℕ) (d : Draft) (b : ℕ) → is_ring c v ≡ true → b < 16 → k < bodies_of (window_at c G x m) → IsBody c r j k d → may_write (window_at c G x m) k (base_of c.home (space.Descriptor v) + b) ≡ true → (v ≡ r) × (k ≡ length (ring.drafts j) + cond ring.sends 0 1) × (j ≡ 0)
    descriptor_written v k d b v_in low within e w =
        elim (slice_get_append (ring.drafts j) (lap_requests r ring j) k d e) [
          | inl own ↦
              elim (body_side c laid G promises x m ready k d (space.Descriptor v) b within e (descriptor_private v v_in) low w) [
                | inl near ↦ absurd (false≢true (sym (promises.keeps r j k d x.ghost (seen_in c.home m) v x.ring_in x.segment_in ready.fine own near.0) ∙ near.1))
                | inr far ↦ absurd (laid.no_descriptor r j k d v x.ring_in x.segment_in own far)
              ]
          | inr lap ↦
              let hit = body_writes c laid G promises x m ready k d (space.Descriptor v) b within e (descriptor_private v v_in) low w in
              let t = descriptor_target r ring its_ring j lap.0 d v b (lap_target r ring its_ring j lap.0 d x.segment_in lap.2) hit in
              let at = lap.1 in
              (t.0, at ∙ ap (λ (i : ℕ). length (ring.drafts j) + i) t.1, t.2)
        ]

    descriptor_now : seen_in c.home m (space.Descriptor r) ≡ descriptor_bytes r ring (opening_at r ring (x.laps r) j)
    descriptor_now = ready.descriptors r x.ring_in ∙ ap (λ (k : ℕ). descriptor_bytes r ring (opening_at r ring (x.laps r) k)) now_here

    descriptor_raised : j ≡ 0 → seen_in c.home n (space.Descriptor r) ≡ descriptor_bytes r ring (opening_at r ring then_n then_j)
    descriptor_raised first =
        let p : Space = space.Descriptor r in
        let limit : ℕ = opening_at r ring (x.laps r) j in
        let small = opening_small in
        let bound = laid.bound r x.ring_in in
        let body : IsBody c r j (length (ring.drafts j) + cond ring.sends 0 1) (raise_descriptor r ring) = slice_get_behind (ring.drafts j) (lap_requests r ring j) (cond ring.sends 0 1) ∙ ap (λ (s : ℕ). slice_get (lap_requests r ring s) (cond ring.sends 0 1)) first ∙ descriptor_there r ring its_ring in
        let old : old_word p 8 (seen_in c.home m) ≡ limit = ap (λ (b : List ℕ). word (bytes_at b 8 8) 0) descriptor_now ∙ limit_of r limit (omega arith) in
        let sum : (old_word p 8 (seen_in c.home m) + slots_in c r) % 2 ^ 64 ≡ limit + slots_in c r = omega (arith, old, bound.0) in
        raised_space c laid G promises x m ready n event last p (descriptor_private r x.ring_in) (length (ring.drafts j) + cond ring.sends 0 1) (raise_descriptor r ring) body (omega arith) (descriptor_raises r ring) refl (omega arith) refl (λ b k d inside within e ne. false_from_ne_true (may_write (window_at c G x m) k (base_of c.home p + b)) (λ w. let its = descriptor_written r k d b x.ring_in inside within e w in ne its.1)) ∙ ap (λ (v : ℕ). with_bytes_at (seen_in c.home m p) 8 (spelled 8 v)) sum ∙ ap (λ (b : List ℕ). with_bytes_at b 8 (spelled 8 (limit + slots_in c r))) descriptor_now ∙ with_limit r limit (limit + slots_in c r) ∙ ap (descriptor_bytes r ring) (sym (opening_raised r ring its_ring (x.laps r) j then_n then_j go first))

    pub descriptor_here : seen_in c.home n (space.Descriptor r) ≡ descriptor_bytes r ring (opening_at r ring then_n then_j)
    descriptor_here =
        elim (cases_eq j 0) [
          | inl first ↦ descriptor_raised first
          | inr later ↦
              kept_space c laid G promises x m ready n event last (space.Descriptor r) (descriptor_private r x.ring_in) (λ b k d inside within e. false_from_ne_true (may_write (window_at c G x m) k (base_of c.home (space.Descriptor r) + b)) (λ w. let its = descriptor_written r k d b x.ring_in inside within e w in later its.2)) ∙ descriptor_now ∙ ap (descriptor_bytes r ring) (sym (opening_kept r ring its_ring (x.laps r) j then_n then_j go later))
        ]

    -- other rings stay as they are
    pub slot_elsewhere : (v i : ℕ) → is_ring c v ≡ true → i < slots_in c v → v ≢ r → seen_in c.home n (slot_space v i) ≡ seen_in c.home m (slot_space v i)
    slot_elsewhere v i l inside ne =
        kept_space c laid G promises x m ready n event last (slot_space v i) (slot_private v i l inside) (λ b k d low within e. spared c laid G promises x m ready k d (slot_space v i) b within e (slot_private v i l inside) low (false_from_ne_true (writes_at (slot_space v i) b d) (λ w. elim (slot_write k d (slot_of v i) b e w) [ inl may ↦ ne may.ring_is | inr lap ↦ ne lap.2 ])))

    pub descriptor_elsewhere : (v : ℕ) → is_ring c v ≡ true → v ≢ r → seen_in c.home n (space.Descriptor v) ≡ seen_in c.home m (space.Descriptor v)
    descriptor_elsewhere v l ne =
        kept_space c laid G promises x m ready n event last (space.Descriptor v) (descriptor_private v l) (λ b k d low within e. false_from_ne_true (may_write (window_at c G x m) k (base_of c.home (space.Descriptor v) + b)) (λ w. ne (descriptor_written v k d b l low within e w).0))
