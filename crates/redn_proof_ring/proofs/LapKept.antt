-- Behind a window of a ring with laps: the spaces that no body writes are as they were, and one that a single lap request raises has its new word.
use Rattle.std.proofs.Common.{◌≡◌, ◌≢◌, ℕ, ◌+◌, ◌-◌, ◌*◌, ◌%◌, ◌^◌, ◌<◌, ◌≤◌, ◌⊎◌, inl, inr, true, false, ◌==◌, List, [], ◌∷◌, map, length, refl, sym, ap, ◌∙◌, subst, arith}
use Rattle.std.specs.Prelude.{nat_le, nat_lt, Some}
use Rattle.std.proofs.lemmas.Bool.{false≢true, ne_eqb, and_parts, or_cases, leb-true, ltb-true, false_from_ne_true}
use Rattle.std.proofs.lemmas.Option.{slice_get_within}
use Rattle.redn_segment.proofs.Sides.{IsSide, side_at}
use Rattle.redn_segment.proofs.SameSpace.{same_space_is}
use Rattle.redn_proof_landing.proofs.Segments.{draft_at, written, mine_of, lands_silently}
use Rattle.redn_proof_landing.proofs.Touching.{OnLocal}
use Rattle.redn_segment.proofs.Touching.{one_space}
use Rattle.redn_proof_landing.specs.Homes.{seen_in, change_of}
use Rattle.redn_proof_landing.specs.Segments.{acts_locally, slot_space}
use Rattle.redn_proof_ring.proofs.LapPlaces.{written_byte}
use Rattle.redn_proof_ring.proofs.LapSteps.{Raises, raising, old_word, goes_through, lap_acts}
use Rattle.redn_proof_ring.proofs.LapWindows.{ring_orderly, room, spaces, ours_are, bodies_count}
use Rattle.redn_proof_ring.specs.Plans.{Plan, IsLaid, IsBody, IsPrivate, part_of, body_slot}
use Rattle.redn_proof_ring.specs.Turns.{Meaning, Promises, Turn, Ready, window_at}
use Rattle.redn_recycle.specs.Laps.{bodies_of as ring_bodies}
use Rattle.redn_segment.specs.Footprints.{local_by, remote_by}
use Rattle.redn_segment.specs.Homes.{Home, base_of, room_of, LieApart}
use Rattle.redn_segment.specs.Plain.{opcode_in, local_space, remote_space}
use Rattle.redn_segment.specs.Primed.{writes_at}
use Rattle.redn_segment.specs.Sites.{space_of, same_space}
use Rattle.redn_proof_window.proofs.Ends.{byte_kept, byte_written}
use Rattle.redn_proof_window.specs.Stages.{Orderly, Standing, all_written, effect}
use Rattle.redn_proof_window.specs.Windows.{Opening, bodies_of, may_write}
use Rattle.redn_words.proofs.Bytes.{over_missed, byte_put, same_range}
use Rattle.redn_words.specs.Bytes.{byte, hits, covers, over, put as put_byte}
use Rattle.redn_words.proofs.Fields.{bytes_at-part}
use Rattle.redn_words.proofs.Numbers.{length-spelled}
use Rattle.redn_words.proofs.Places.{length-with_bytes_at}
use Rattle.redn_words.specs.Landings.{Change, change}
use Rattle.redn_words.specs.Words.{with_bytes_at, spelled}
use Rattle.redn_segment.specs.declared.types.Space.{Space}
use Rattle.redn_segment.specs.declared.types.Space.TheVariants as space
use Rattle.redn_segment.specs.declared.types.Draft.{Draft}
use Rattle.redn_words.specs.declared.types.Opcode.{Opcode}
use Rattle.redn_words.specs.declared.types.Opcode.TheVariants.{Noop, Write, Read, Cas, Add, Send}
use Rattle.redn_segment.specs.declared.types.Side.{Side}

pub some_site : (b a : Side) → Some b ≡ Some a → a.site ≡ b.site
some_site b a e = let same : a ≡ b = cc in ap (λ (x : Side). x.site) same

module _ (c : Plan) (laid : IsLaid c) (G : Meaning c) (promises : Promises c G) (x : Turn c G) (m : List ℕ) (ready : Ready c G x m) where
  abbrev r : ℕ
  r = x.ring

  abbrev j : ℕ
  j = x.segment

  abbrev w : Opening
  w = window_at c G x m

  abbrev ok : Orderly w
  ok = ring_orderly c laid G promises x m ready

  abbrev home : Space → Home
  home = c.home

  apart : LieApart home c.mine (length m)
  apart = spaces c laid G promises x m ready

  pub body_at : (k : ℕ) → k < bodies_of w → (d : Draft) × IsBody c r j k d
  body_at k l = draft_at home c.mine c.regions r (c.ring r).row c.ours (laid.lie r x.ring_in) (part_of c r j) (x.laps r) (x.laps r * (c.ring r).segments + j) m (laid.apart r j x.ring_in x.segment_in) (goes_through c laid G promises x m ready) apart (room c laid G promises x m ready) (ours_are c laid G promises x m ready) k l

  -- a body that may write a byte of a private space writes it by its draft
  pub body_writes : (k : ℕ) (d : Draft) (p : Space) (i : ℕ) → k < bodies_of w → IsBody c r j k d → IsPrivate c p → i < room_of home p → may_write w k (base_of home p + i) ≡ true → writes_at p i d ≡ true
  body_writes k d p i l e its inside h =
      let x_side = written home c.mine c.regions r (c.ring r).row c.ours (laid.lie r x.ring_in) (part_of c r j) (x.laps r) (x.laps r * (c.ring r).segments + j) m (laid.apart r j x.ring_in x.segment_in) (goes_through c laid G promises x m ready) apart (room c laid G promises x m ready) (ours_are c laid G promises x m ready) k (base_of home p + i) d l e h in
      written_byte home c.mine (length m) apart d x_side.side p i (base_of home p + i) x_side.its (x_side.writes refl) (mine_of home c.mine c.regions r (c.ring r).row c.ours (laid.lie r x.ring_in) (part_of c r j) (x.laps r) (x.laps r * (c.ring r).segments + j) m (laid.apart r j x.ring_in x.segment_in) (goes_through c laid G promises x m ready) apart (room c laid G promises x m ready) (ours_are c laid G promises x m ready) k d x_side.side e x_side.its) its.its its.plain x_side.bytes refl inside

  pub spared : (k : ℕ) (d : Draft) (p : Space) (i : ℕ) → k < bodies_of w → IsBody c r j k d → IsPrivate c p → i < room_of home p → writes_at p i d ≡ false → may_write w k (base_of home p + i) ≡ false
  spared k d p i l e its inside none = false_from_ne_true (may_write w k (base_of home p + i)) (λ h. false≢true (sym none ∙ body_writes k d p i l e its inside h))

  -- the side in which a body writes a byte of a private space, and that its opcode writes it
  pub body_side : (k : ℕ) (d : Draft) (p : Space) (i : ℕ) → k < bodies_of w → IsBody c r j k d → IsPrivate c p → i < room_of home p → may_write w k (base_of home p + i) ≡ true → ((local_space d ≡ p) × (acts_locally (opcode_in (seen_in home m (slot_space r (body_slot c r j k)))) ≡ true)) ⊎ (remote_space d ≡ p)
  body_side k d p i l e its inside h =
      let x_side = written home c.mine c.regions r (c.ring r).row c.ours (laid.lie r x.ring_in) (part_of c r j) (x.laps r) (x.laps r * (c.ring r).segments + j) m (laid.apart r j x.ring_in x.segment_in) (goes_through c laid G promises x m ready) apart (room c laid G promises x m ready) (ours_are c laid G promises x m ready) k (base_of home p + i) d l e h in
      let mine = mine_of home c.mine c.regions r (c.ring r).row c.ours (laid.lie r x.ring_in) (part_of c r j) (x.laps r) (x.laps r * (c.ring r).segments + j) m (laid.apart r j x.ring_in x.segment_in) (goes_through c laid G promises x m ready) apart (room c laid G promises x m ready) (ours_are c laid G promises x m ready) k d x_side.side e x_side.its in
      let in_side = x_side.bytes in
      let same : same_space (space_of x_side.side.site) p ≡ true = one_space home c.mine (length m) apart (space_of x_side.side.site) p in_side.at i (base_of home p + i) mine its.its in_side.is in_side.room refl inside in
      by_side x_side.side x_side.its (same_space_is (space_of x_side.side.site) p same) x_side.locally
    where
      local_site : (a : Side) (op : Opcode) → local_by d op ≡ Some a → a.site ≡ d.local
      local_site a Noop f = some_site (side_at d.local d.local_byte d.length true) a f
      local_site a Write f = some_site (side_at d.local d.local_byte d.length false) a f
      local_site a Read f = some_site (side_at d.local d.local_byte d.length true) a f
      local_site a Cas f = some_site (side_at d.local d.local_byte 8 true) a f
      local_site a Add f = some_site (side_at d.local d.local_byte 8 true) a f
      local_site a Send f = some_site (side_at d.local d.local_byte d.length false) a f
      local_site a _ f = absurd (cc)

      remote_site : (a : Side) (op : Opcode) → remote_by d op ≡ Some a → a.site ≡ d.remote
      remote_site a Noop f = some_site (side_at d.remote d.remote_byte d.length true) a f
      remote_site a Write f = some_site (side_at d.remote d.remote_byte d.length true) a f
      remote_site a Read f = some_site (side_at d.remote d.remote_byte d.length false) a f
      remote_site a Cas f = some_site (side_at d.remote d.remote_byte 8 true) a f
      remote_site a Add f = some_site (side_at d.remote d.remote_byte 8 true) a f
      remote_site a _ f = absurd (cc)

      by_side : (a : Side) (of_d : IsSide d a) → space_of a.site ≡ p → OnLocal d a of_d (true ≡ true → acts_locally (opcode_in (seen_in home m (slot_space r (body_slot c r j k)))) ≡ true) → ((local_space d ≡ p) × (acts_locally (opcode_in (seen_in home m (slot_space r (body_slot c r j k)))) ≡ true)) ⊎ (remote_space d ≡ p)
      by_side a (inl f) same locally = inl (ap space_of (sym (local_site a d.op f)) ∙ same, locally refl)
      by_side a (inr f) same locally = inr (ap space_of (sym (remote_site a d.op f)) ∙ same)

  module _ (n : List ℕ) (event : List Change) (last : Standing w n all_written event) where
    pub kept_byte : (p : Space) (i : ℕ) → IsPrivate c p → i < room_of home p → ((k : ℕ) (d : Draft) → k < bodies_of w → IsBody c r j k d → may_write w k (base_of home p + i) ≡ false) → byte n (base_of home p + i) ≡ byte m (base_of home p + i)
    kept_byte p i its inside none =
        byte_kept w ok n event last (base_of home p + i) (laid.private p i its inside) (λ k l. let body = body_at k l in none k body.0 l body.1)

    -- a place in a space by its byte
    by_byte : (p : Space) (P : ℕ → Type 0) → ((i : ℕ) → i < room_of home p → P (base_of home p + i)) → (b : ℕ) → base_of home p ≤ b → b < base_of home p + room_of home p → P b
    by_byte p P each b low high =
        let at : base_of home p + (b - base_of home p) ≡ b = omega arith in
        subst P at (each (b - base_of home p) (omega arith))

    pub kept_space : (p : Space) → IsPrivate c p → ((i k : ℕ) (d : Draft) → i < room_of home p → k < bodies_of w → IsBody c r j k d → may_write w k (base_of home p + i) ≡ false) → seen_in home n p ≡ seen_in home m p
    kept_space p its none =
        same_range n m (base_of home p) (room_of home p) last.size (by_byte p (λ b. byte n b ≡ byte m b) (λ i l. kept_byte p i its l (λ k d small e. none i k d l small e)))

    -- what a body that raises a word writes
    raise_effect : (k : ℕ) (d : Draft) → IsBody c r j k d → length ((c.ring r).drafts j) ≤ k → (h : Raises d) → effect w event k ≡ map (change_of home) (raising h.target h.at h.scratch d.first (seen_in home m))
    raise_effect k d e past h =
        let inside = slice_get_within (ring_bodies r (c.ring r) j) k d e in
        let ne : k ≢ (c.ring r).event j = λ same. no_event same inside (laid.events r j x.ring_in x.segment_in) in
        let other : (k == (c.ring r).event j) ≡ false = ne_eqb k ((c.ring r).event j) ne in
        let goes = lap_acts c laid G promises x m ready k d (c.ring r).row.domain (seen_in home m) e past h in
        let lands = lands_silently home c.mine c.regions r (c.ring r).row c.ours (laid.lie r x.ring_in) (part_of c r j) (x.laps r) (x.laps r * (c.ring r).segments + j) m (laid.apart r j x.ring_in x.segment_in) (goes_through c laid G promises x m ready) apart (room c laid G promises x m ready) (ours_are c laid G promises x m ready) k d (raising h.target h.at h.scratch d.first (seen_in home m)) e goes (let count = bodies_count c laid G promises x m ready in omega arith) in
        rw other lands.writes_are
      where
        no_event : k ≡ (c.ring r).event j → k < length (ring_bodies r (c.ring r) j) → ((c.ring r).event j < length ((c.ring r).drafts j)) ⊎ (length (ring_bodies r (c.ring r) j) ≤ (c.ring r).event j) → ⊥
        no_event same inside (inl f) = omega arith
        no_event same inside (inr f) = omega arith

    -- a space into which one lap request alone writes
    module _ (p : Space) (its : IsPrivate c p) (k : ℕ) (d : Draft) (e : IsBody c r j k d) (past : length ((c.ring r).drafts j) ≤ k) (h : Raises d) (there : h.target ≡ p) (fits : h.at + 8 ≤ room_of home p) (not_scratch : same_space (space.Scratch h.scratch) p ≡ false) (alone : (i l : ℕ) (f : Draft) → i < room_of home p → l < bodies_of w → IsBody c r j l f → l ≢ k → may_write w l (base_of home p + i) ≡ false) where
      abbrev new : ℕ
      new = (old_word p h.at (seen_in home m) + d.first) % 2 ^ 64

      abbrev raised_change : Change
      raised_change = change (base_of home p + h.at) (spelled 8 new)

      abbrev scratch_change : Change
      scratch_change = change (base_of home (space.Scratch h.scratch) + 0) (spelled 8 (old_word p h.at (seen_in home m)))

      effect_is : effect w event k ≡ raised_change ∷ scratch_change ∷ []
      effect_is = raise_effect k d e past h ∙ ap (λ (q : Space). map (change_of home) (raising q h.at h.scratch d.first (seen_in home m))) there

      scratch_misses : (i : ℕ) → i < room_of home p → hits (scratch_change ∷ []) (base_of home p + i) ≡ false
      scratch_misses i l =
          false_from_ne_true (hits (scratch_change ∷ []) (base_of home p + i)) (λ hit. elim (or_cases (covers scratch_change (base_of home p + i)) false hit) [
            | inl f ↦
                let parts = and_parts (nat_le scratch_change.at (base_of home p + i)) (nat_lt (base_of home p + i) (scratch_change.at + length scratch_change.bytes)) f in
                let low = leb-true scratch_change.at (base_of home p + i) parts.0 in
                let high = ltb-true (base_of home p + i) (scratch_change.at + length scratch_change.bytes) parts.1 in
                let long = length-spelled 8 (old_word p h.at (seen_in home m)) in
                let sides = laid.sides r j k d x.ring_in x.segment_in e in
                let mine : c.mine (space.Scratch h.scratch) ≡ true = ap c.mine (sym h.local_is) ∙ sides.0 in
                absurd (by_side (apart.apart (space.Scratch h.scratch) p mine its.its not_scratch) low high long)
            | inr f ↦ absurd (false≢true f)
          ])
        where
          by_side : (base_of home (space.Scratch h.scratch) + 8 ≤ base_of home p) ⊎ (base_of home p + room_of home p ≤ base_of home (space.Scratch h.scratch)) → scratch_change.at ≤ base_of home p + i → base_of home p + i < scratch_change.at + length scratch_change.bytes → length scratch_change.bytes ≡ 8 → ⊥
          by_side (inl f) low high long = omega arith
          by_side (inr f) low high long = omega arith

      raised_byte : (i : ℕ) → i < room_of home p → byte n (base_of home p + i) ≡ put_byte raised_change (base_of home p + i) (byte m (base_of home p + i))
      raised_byte i l =
          let count = bodies_count c laid G promises x m ready in
          let inside = slice_get_within (ring_bodies r (c.ring r) j) k d e in
          byte_written w ok n event last (base_of home p + i) (laid.private p i its l) k (omega arith) (λ o small ne. let body = body_at o small in alone i o body.0 l small body.1 ne) ∙ ap (λ (changes : List Change). over changes (base_of home p + i) (byte m (base_of home p + i))) effect_is ∙ over_missed (scratch_change ∷ []) (base_of home p + i) (put_byte raised_change (base_of home p + i) (byte m (base_of home p + i))) (scratch_misses i l)

      pub raised_space : seen_in home n p ≡ with_bytes_at (seen_in home m p) h.at (spelled 8 new)
      raised_space =
          let whole = apart.inside p its.its in
          let long = length-spelled 8 new in
          let inside : (base_of home p + h.at) + length (spelled 8 new) ≤ length m = omega arith in
          let size : length n ≡ length (with_bytes_at m (base_of home p + h.at) (spelled 8 new)) = last.size ∙ sym (length-with_bytes_at m (spelled 8 new) (base_of home p + h.at) inside) in
          same_range n (with_bytes_at m (base_of home p + h.at) (spelled 8 new)) (base_of home p) (room_of home p) size (by_byte p (λ b. byte n b ≡ byte (with_bytes_at m (base_of home p + h.at) (spelled 8 new)) b) (λ i l. raised_byte i l ∙ sym (byte_put m raised_change (base_of home p + i) inside))) ∙ bytes_at-part m (spelled 8 new) (base_of home p) (room_of home p) h.at whole (omega arith)
