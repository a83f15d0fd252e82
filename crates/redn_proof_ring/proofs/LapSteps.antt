-- What lap requests do; and so each body of a segment goes through on the memory of its opening.
use Rattle.std.proofs.Common.{◌≡◌, ◌≢◌, ℕ, zero, suc, ◌+◌, ◌-◌, ◌%◌, ◌^◌, ◌≤◌, ◌⊎◌, inl, inr, Bool, true, false, cond, List, [], ◌∷◌, ◌++◌, length, refl, sym, ap, ◌∙◌, subst, arith}
use Rattle.std.specs.Prelude.{slice_get, Some}
use Rattle.std.proofs.lemmas.Bool.{false≢true}
use Rattle.std.proofs.lemmas.Option.{slice_get_within}
use Rattle.std.proofs.lemmas.List.{ext_get_or}
use Rattle.redn_segment.proofs.SameSpace.{table_space}
use Rattle.redn_words.specs.declared.types.Request.{Request}
use Rattle.redn_words.specs.declared.types.Opcode.{Opcode}
use Rattle.redn_words.specs.declared.types.Opcode.TheVariants.{Add}
use Rattle.redn_proof_landing.proofs.Decoding.{ready_local, ready_remote}
use Rattle.redn_proof_landing.specs.Homes.{Granted, seen_in}
use Rattle.redn_proof_landing.specs.Requested.{requested, IsReady}
use Rattle.redn_proof_landing.specs.Segments.{IsSet, is_table_space, IsGood, GoesThrough, slot_space}
use Rattle.redn_proof_ring.specs.Plans.{Plan, IsLaid, IsBody, part_of, body_slot, body_request}
use Rattle.redn_proof_ring.specs.Turns.{Meaning, Promises, Turn, Ready}
use Rattle.redn_recycle.specs.Laps.{Ring, bodies_of, lap_requests, raise_wait, raise_enable, raise_descriptor, wait_of, enable_of, is_send_last, flags_at}
use Rattle.redn_segment.specs.Footprints.{both_sides, ends_inside}
use Rattle.redn_segment.specs.Homes.{Home, IsHome}
use Rattle.redn_segment.specs.Orders.{is_send, Follows}
use Rattle.redn_segment.specs.Plain.{Bytes, Put, put, Outcome, Went, acts, opcode_in, first_in, local_space, remote_space}
use Rattle.redn_segment.specs.Primed.{number_of}
use Rattle.redn_segment.specs.Sites.{is_table}
use Rattle.redn_words.proofs.Slots.{decoded-encoded, length-encoded}
use Rattle.redn_words.specs.Slots.{IsNarrow}
use Rattle.redn_words.specs.Requests.{decoded, encoded, opcode_named}
use Rattle.redn_words.specs.Words.{bytes_at, word, spelled, number}
use Rattle.redn_segment.specs.declared.types.Space.{Space}
use Rattle.redn_segment.specs.declared.types.Space.TheVariants as space
use Rattle.redn_segment.specs.declared.types.Draft.{Draft}
use Rattle.redn_segment.proofs.AnyOrder.{all_at}

-- a slot of which no byte may be written is its request
pub whole_slot : (written : ℕ → Bool) (r : Request) (slot : List ℕ) → IsReady written r slot → ((i : ℕ) → written i ≡ false) → slot ≡ encoded r
whole_slot written r slot h none =
    let long : length (encoded r) ≡ 64 = length-encoded r in
    let size : length slot ≡ 64 = h.len in
    ext_get_or 0 slot (encoded r) (omega arith) (λ i l. h.bytes i (omega arith) (none i))

-- a draft is one of the segment's, or a lap request
pub slice_get_append : {X : Type 0} (a b : List X) (k : ℕ) (x : X) → slice_get (a ++ b) k ≡ Some x → (slice_get a k ≡ Some x) ⊎ ((i : ℕ) × (k ≡ length a + i) × (slice_get b i ≡ Some x))
slice_get_append [] b k x e = inr (k, omega arith, e)
slice_get_append (y ∷ a) b zero x e = inl e
slice_get_append (y ∷ a) b (suc k) x e =
    elim (slice_get_append a b k x e) [ inl h ↦ inl h | inr h ↦ let at = h.1 in inr (h.0, omega arith, h.2) ]

-- the lap requests are of three kinds
pub data LapOf (number : ℕ) (r : Ring) (d : Draft) : Type 0 where
  Raises_wait : (i : ℕ) → d ≡ raise_wait number r i → LapOf number r d
  Raises_enable : (i : ℕ) → d ≡ raise_enable number r i → LapOf number r d
  Raises_descriptor : d ≡ raise_descriptor number r → LapOf number r d

pub some_is : (a b : Draft) → Some a ≡ Some b → b ≡ a
some_is a b e = cc

lap_of_two : (number : ℕ) (r : Ring) (a b d : Draft) (i : ℕ) → LapOf number r a → LapOf number r b → slice_get (a ∷ b ∷ []) i ≡ Some d → LapOf number r d
lap_of_two number r a b d zero x y e = subst (LapOf number r) (sym (some_is a d e)) x
lap_of_two number r a b d (suc zero) x y e = subst (LapOf number r) (sym (some_is b d e)) y
lap_of_two number r a b d (suc (suc i)) x y e = absurd (cc)

lap_of_one : (number : ℕ) (r : Ring) (a d : Draft) (i : ℕ) → LapOf number r a → slice_get (a ∷ []) i ≡ Some d → LapOf number r d
lap_of_one number r a d zero x e = subst (LapOf number r) (sym (some_is a d e)) x
lap_of_one number r a d (suc i) x e = absurd (cc)

pub lap_of : (number : ℕ) (r : Ring) (j i : ℕ) (d : Draft) → slice_get (lap_requests number r j) i ≡ Some d → LapOf number r d
lap_of number r zero i d =
    elim (r.sends) as (λ b. slice_get (cond b (raise_descriptor number r ∷ []) (raise_wait number r (r.segments - 1) ∷ raise_descriptor number r ∷ [])) i ≡ Some d → LapOf number r d) [
      | true ↦ λ e. lap_of_one number r (raise_descriptor number r) d i (Raises_descriptor refl) e
      | false ↦ λ e. lap_of_two number r (raise_wait number r (r.segments - 1)) (raise_descriptor number r) d i (Raises_wait (r.segments - 1) refl) (Raises_descriptor refl) e
    ]
lap_of number r (suc j) i d =
    elim (is_send_last number r (suc j)) as (λ b. slice_get (cond b [] (raise_wait number r j ∷ raise_enable number r j ∷ [])) i ≡ Some d → LapOf number r d) [
      | true ↦ λ e. absurd (cc)
      | false ↦ λ e. lap_of_two number r (raise_wait number r j) (raise_enable number r j) d i (Raises_wait j refl) (Raises_enable j refl) e
    ]

-- each adds to a word, and puts the old one into its scratch word
abbrev pub old_word : Space → ℕ → Bytes → ℕ
old_word target at s = word (bytes_at (s target) at 8) 0

abbrev pub raising : Space → ℕ → ℕ → ℕ → Bytes → List Put
raising target at scratch by s = put target at (spelled 8 ((old_word target at s + by) % 2 ^ 64)) ∷ put (space.Scratch scratch) 0 (spelled 8 (old_word target at s)) ∷ []

pub record Raises (d : Draft) : Type 0 where
  pub target : Space
  pub at : ℕ
  pub scratch : ℕ
  pub plain : is_table d.remote ≡ false
  pub op_is : d.op ≡ Add
  pub remote_is : remote_space d ≡ target
  pub local_is : local_space d ≡ space.Scratch scratch
  pub goes : (chain : ℕ) (s : Bytes) (slot : List ℕ) → acts chain s slot d Add ≡ Went (raising target at scratch (first_in slot) s) []

pub wait_acts : (number : ℕ) (r : Ring) (i : ℕ) (chain : ℕ) (s : Bytes) (slot : List ℕ) → acts chain s slot (raise_wait number r i) Add ≡ Went (raising (slot_space number (wait_of number r i)) 48 2 (first_in slot) s) []
unfolding acts
wait_acts number r i chain s slot = refl

abbrev pub wait_raises : (number : ℕ) (r : Ring) (i : ℕ) → Raises (raise_wait number r i)
wait_raises number r i =
    record { target = slot_space number (wait_of number r i); at = 48; scratch = 2; plain = refl; op_is = refl; remote_is = refl; local_is = refl; goes = wait_acts number r i }

pub enable_acts : (number : ℕ) (r : Ring) (i : ℕ) (chain : ℕ) (s : Bytes) (slot : List ℕ) → acts chain s slot (raise_enable number r i) Add ≡ Went (raising (slot_space number (enable_of number r i)) 48 3 (first_in slot) s) []
unfolding acts
enable_acts number r i chain s slot = refl

abbrev pub enable_raises : (number : ℕ) (r : Ring) (i : ℕ) → Raises (raise_enable number r i)
enable_raises number r i =
    record { target = slot_space number (enable_of number r i); at = 48; scratch = 3; plain = refl; op_is = refl; remote_is = refl; local_is = refl; goes = enable_acts number r i }

pub descriptor_acts : (number : ℕ) (r : Ring) (chain : ℕ) (s : Bytes) (slot : List ℕ) → acts chain s slot (raise_descriptor number r) Add ≡ Went (raising (space.Descriptor number) 8 3 (first_in slot) s) []
unfolding acts
descriptor_acts number r chain s slot = refl

abbrev pub descriptor_raises : (number : ℕ) (r : Ring) → Raises (raise_descriptor number r)
descriptor_raises number r =
    record { target = space.Descriptor number; at = 8; scratch = 3; plain = refl; op_is = refl; remote_is = refl; local_is = refl; goes = descriptor_acts number r }

pub lap_raises : (number : ℕ) (r : Ring) (d : Draft) → LapOf number r d → Raises d
lap_raises number r d (Raises_wait i e) = subst (λ (x : Draft). Raises x) (sym e) (wait_raises number r i)
lap_raises number r d (Raises_enable i e) = subst (λ (x : Draft). Raises x) (sym e) (enable_raises number r i)
lap_raises number r d (Raises_descriptor e) = subst (λ (x : Draft). Raises x) (sym e) (descriptor_raises number r)

number_named : opcode_named 4 ≡ Add
unfolding opcode_named
number_named = refl

-- the slot of a lap request says what it always says
pub says_add : (home : Space → Home) (d : Draft) (flags : ℕ) (slot : List ℕ) → d.op ≡ Add → IsNarrow (requested home d flags) → slot ≡ encoded (requested home d flags) → (opcode_in slot ≡ Add) × (first_in slot ≡ d.first)
unfolding decoded
says_add home d flags slot op narrow e =
    let whole : decoded slot ≡ requested home d flags = ap decoded e ∙ decoded-encoded (requested home d flags) narrow in
    (ap (λ (r : Request). opcode_named r.op) whole ∙ ap (λ (p : Opcode). opcode_named (number_of p)) op ∙ number_named, ap (λ (r : Request). r.first) whole)

module _ (c : Plan) (laid : IsLaid c) (G : Meaning c) (promises : Promises c G) where
  module _ (x : Turn c G) (m : List ℕ) (ready : Ready c G x m) where
    abbrev r : ℕ
    r = x.ring

    abbrev j : ℕ
    j = x.segment

    abbrev now : Bytes
    now = seen_in c.home m

    abbrev slot_now : ℕ → List ℕ
    slot_now k = seen_in c.home m (slot_space r (body_slot c r j k))

    -- each body is a draft of the segment or raises something
    pub own_or_lap : (k : ℕ) (d : Draft) → IsBody c r j k d → (slice_get ((c.ring r).drafts j) k ≡ Some d) ⊎ ((length ((c.ring r).drafts j) ≤ k) × LapOf r (c.ring r) d)
    own_or_lap k d e =
        elim (slice_get_append ((c.ring r).drafts j) (lap_requests r (c.ring r) j) k d e) [
          | inl h ↦ inl h
          | inr h ↦ let at = h.1 in inr (omega arith, lap_of r (c.ring r) j h.0 d h.2)
        ]

    lap_slot : (k : ℕ) (d : Draft) → IsBody c r j k d → length ((c.ring r).drafts j) ≤ k → slot_now k ≡ encoded (body_request c r j k d)
    lap_slot k d e past = whole_slot (c.written r (body_slot c r j k)) (body_request c r j k d) (slot_now k) (ready.drafts r j k d x.ring_in x.segment_in e) (λ i. laid.lap_fixed r j k i x.ring_in x.segment_in past (slice_get_within (bodies_of r (c.ring r) j) k d e))

    lap_says : (k : ℕ) (d : Draft) → IsBody c r j k d → length ((c.ring r).drafts j) ≤ k → d.op ≡ Add → (opcode_in (slot_now k) ≡ Add) × (first_in (slot_now k) ≡ d.first)
    lap_says k d e past op = says_add c.home d (flags_at r (c.ring r) j k) (slot_now k) op (laid.narrow r j k d x.ring_in x.segment_in e) (lap_slot k d e past)

    pub lap_acts : (k : ℕ) (d : Draft) (chain : ℕ) (s : Bytes) → IsBody c r j k d → length ((c.ring r).drafts j) ≤ k → (h : Raises d) → acts chain s (slot_now k) d (opcode_in (slot_now k)) ≡ Went (raising h.target h.at h.scratch d.first s) []
    lap_acts k d chain s e past h =
        let says = lap_says k d e past h.op_is in
        ap (acts chain s (slot_now k) d) says.0 ∙ h.goes chain s (slot_now k) ∙ ap (λ (n : ℕ). Went (raising h.target h.at h.scratch n s) []) says.1

    two_sides : (d : Draft) (op : Opcode) → Follows d op → is_send op ≡ false → is_send d.op ≡ false
    two_sides d op (inl e) h = ap is_send (sym e) ∙ h
    two_sides d op (inr e) h = ap is_send e.0

    -- a slot's opcode is its draft's, or that of a turned NOOP
    follows_at : (k : ℕ) (d : Draft) → IsBody c r j k d → Follows d (opcode_in (slot_now k))
    follows_at k d e =
        elim (own_or_lap k d e) [
          | inl own ↦ promises.follows r j k d x.ghost now x.ring_in x.segment_in ready.fine own
          | inr lap ↦ let raises = lap_raises r (c.ring r) d lap.1 in inl ((lap_says k d e lap.0 raises.op_is).0 ∙ sym raises.op_is)
        ]

    pub set_at : (k : ℕ) (d : Draft) → IsBody c r j k d → IsSet c.home c.regions c.domain (length m) d (slot_now k)
    set_at k d e =
        let spot = ready.drafts r j k d x.ring_in x.segment_in e in
        let narrow = laid.narrow r j k d x.ring_in x.segment_in e in
        let fixed = laid.fixed r j k d x.ring_in x.segment_in e in
        let apart = laid.apart r j x.ring_in x.segment_in in
        let size : c.size ≡ length m = sym ready.size in
        let sides = laid.sides r j k d x.ring_in x.segment_in e in
        let follows = follows_at k d e in
        let two = two_sides d (opcode_in (slot_now k)) follows in
        record {
          from = ready_local c.home d (flags_at r (c.ring r) j k) (c.written r (body_slot c r j k)) (slot_now k) narrow spot fixed;
          local_home = subst (λ (n : ℕ). IsHome c.home c.regions c.domain n (local_space d)) size (laid.homes (local_space d) sides.0);
          to = λ h. ready_remote c.home d (flags_at r (c.ring r) j k) (c.written r (body_slot c r j k)) (slot_now k) narrow spot fixed (two h) (λ t. table_start (remote_space d) (laid.homes (remote_space d) (sides.1 (two h))) (sym (table_space d.remote) ∙ t));
          remote_home = λ h. subst (λ (n : ℕ). IsHome c.home c.regions c.domain n (remote_space d)) size (laid.homes (remote_space d) (sides.1 (two h)));
          follows = follows;
          inside = all_at (both_sides ends_inside) (bodies_of r (c.ring r) j) k d apart.inside e;
        }
      where
        table_start : (p : Space) → IsHome c.home c.regions c.domain c.size p → is_table_space p ≡ true → (c.home p).offset ≡ 0
        table_start (space.Table t) h f = h.told
        table_start _ h f = absurd (false≢true f)

    good_went : (o : Outcome) (us : List Put) → o ≡ Went us [] → IsGood o
    good_went o us e = subst (λ (y : Outcome). IsGood y) (sym e) tt

    granted_at : (k : ℕ) (d : Draft) → IsBody c r j k d → Granted c.home (opcode_in (slot_now k)) d
    granted_at k d e =
        elim (own_or_lap k d e) [
          | inl own ↦ promises.granted r j k d x.ghost now x.ring_in x.segment_in ready.fine own
          | inr lap ↦
              let raises = lap_raises r (c.ring r) d lap.1 in
              let says = lap_says k d e lap.0 raises.op_is in
              subst (λ (op : Opcode). Granted c.home op d) (sym says.0) (laid.lap_granted r j k d x.ring_in x.segment_in lap.0 e)
        ]

    good_at : (k : ℕ) (d : Draft) → IsBody c r j k d → IsGood (acts c.domain now (slot_now k) d (opcode_in (slot_now k)))
    good_at k d e =
        elim (own_or_lap k d e) [
          | inl own ↦ promises.good r j k d x.ghost now x.ring_in x.segment_in ready.fine own
          | inr lap ↦ let raises = lap_raises r (c.ring r) d lap.1 in good_went _ (raising raises.target raises.at raises.scratch d.first now) (lap_acts k d c.domain now e lap.0 raises)
        ]

    silent_at : (k : ℕ) (d : Draft) → IsBody c r j k d → k ≢ (c.ring r).event j → (us : List Put) × (acts c.domain now (slot_now k) d (opcode_in (slot_now k)) ≡ Went us [])
    silent_at k d e ne =
        elim (own_or_lap k d e) [
          | inl own ↦ promises.silent r j k d x.ghost now x.ring_in x.segment_in ready.fine own ne
          | inr lap ↦ let raises = lap_raises r (c.ring r) d lap.1 in (raising raises.target raises.at raises.scratch d.first now, lap_acts k d c.domain now e lap.0 raises)
        ]

    pub goes_through : GoesThrough c.home c.regions r (c.ring r).row (part_of c r j) m
    goes_through =
        let domain : c.domain ≡ (c.ring r).row.domain = sym (laid.rows r x.ring_in).0 in
        record {
          set = λ k d e. subst (λ (n : ℕ). IsSet c.home c.regions n (length m) d (slot_now k)) domain (set_at k d e);
          granted = granted_at;
          good = λ k d e. subst (λ (n : ℕ). IsGood (acts n now (slot_now k) d (opcode_in (slot_now k)))) domain (good_at k d e);
          silent = λ k d e ne. subst (λ (n : ℕ). (us : List Put) × (acts n now (slot_now k) d (opcode_in (slot_now k)) ≡ Went us [])) domain (silent_at k d e ne);
        }
