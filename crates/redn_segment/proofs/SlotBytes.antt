-- The bytes of a slot behind a step.
use Rattle.std.proofs.Common.{◌≡◌, inl, inr, ℕ, ◌+◌, ◌<◌, ◌≤◌, Bool, true, false, not, ◌&&◌, ◌||◌, ◌==◌, Some, List, [], ◌∷◌, ◌++◌, length, take, refl, sym, ap, ◌∙◌, subst, arith}
use Rattle.std.specs.Prelude.{nat_le, nat_lt, slice_index}
use Rattle.std.proofs.lemmas.Bool.{false≢true, false_from_ne_true, and_parts, and_from, or_left, or_right, le-leb, lt-ltb, leb-true, ltb-true, eq-eqb}
use Rattle.std.proofs.lemmas.List.{take-take}
use Rattle.redn_words.specs.declared.types.Obs.{Obs}
use Rattle.redn_words.specs.declared.types.Opcode.{Opcode}
use Rattle.redn_words.specs.declared.types.Opcode.TheVariants.{Noop, Write, Read, Cas, Add, Send}
use Rattle.redn_words.specs.Words.{bytes_at, with_bytes_at, word, spelled}
use Rattle.redn_words.specs.Requests.{opcode_named}
use Rattle.redn_words.specs.Landings.{change}
use Rattle.redn_words.proofs.Numbers.{number_same, length-spelled}
use Rattle.redn_words.proofs.Places.{length-with_bytes_at, bytes_at-same}
use Rattle.redn_words.proofs.Bytes.{byte_put}
use Rattle.redn_words.specs.Bytes.{covers as in_change}
use Rattle.redn_segment.specs.declared.types.SlotRef.{SlotRef}
use Rattle.redn_segment.specs.declared.types.Site.{Site}
use Rattle.redn_segment.specs.declared.types.Site.TheVariants as site
use Rattle.redn_segment.specs.declared.types.Side.{Side}
use Rattle.redn_segment.specs.declared.types.Space.{Space}
use Rattle.redn_segment.specs.declared.types.Space.TheVariants as space
use Rattle.redn_segment.specs.declared.types.Draft.{Draft}
use Rattle.redn_segment.specs.Sites.{space_of, start_of, is_table, inside, same_space}
use Rattle.redn_segment.specs.Plain.{Bytes, Put, put, with_put, placed, Went, acts, opcode_in, local_space, remote_space, local_bytes, remote_bytes, fits, reaches, is_atomic, to_local, to_remote, first_in, swap}
use Rattle.redn_segment.specs.Primed.{covers, writes_local, writes_remote, writes_at}
use Rattle.redn_segment.specs.Footprints.{local_by, remote_by, both_sides, ends_inside, from}
use Rattle.redn_segment.specs.Opcodes.{word_opcode}
use Rattle.redn_segment.proofs.SameSpace.{same_space_is, is_table_space, table_space}
use Rattle.redn_segment.proofs.Sides.{IsSide, side_at, side_test}
use Rattle.redn_segment.proofs.Pieces.{with_put_here, with_put_there}
use Rattle.redn_segment.proofs.Filled.{opcode_clear}
use Rattle.redn_segment.proofs.PutSides.{PutIn, AllIn, with_event_puts, went_if, went_reach}

pub same_self : (q : SlotRef) → same_space (space.Slot q) (space.Slot q) ≡ true
same_self q = and_from (q.ring == q.ring) (q.slot == q.slot) (eq-eqb q.ring q.ring refl) (eq-eqb q.slot q.slot refl)

-- a side of a slot ends inside it
field_room : (x : Site) (byte len : ℕ) (q : SlotRef) → space_of x ≡ space.Slot q → inside x byte len ≡ true → (start_of x + byte) + len ≤ 64
field_room (site.Field f) byte len q e h =
    let parts = and_parts (nat_le (byte + len) f.len) (nat_le (f.byte + f.len) 64) h in
    let a = leb-true (byte + len) f.len parts.0 in
    let b = leb-true (f.byte + f.len) 64 parts.1 in
    omega arith
field_room (site.Cell c) byte len q e h = absurd (cc)
field_room _ byte len q e h = absurd (cc)

module _ (e : Draft) where
  -- a written side has as many bytes as its draft may write there
  record AsWritten (a : Side) (x : Site) (byte len : ℕ) : Type 0 where
    site_is : x ≡ a.site
    byte_is : byte ≡ a.byte
    len_is : len ≡ a.len

  as_written : (a : Side) (x : Site) (byte len : ℕ) (w : Bool) → Some (record { site = x; byte = byte; len = len; writes = w }) ≡ Some a → AsWritten a x byte len
  as_written a x byte len w h =
      let is : side_at x byte len w ≡ a = cc in record { site_is = ap (λ (b : Side). b.site) is; byte_is = ap (λ (b : Side). b.byte) is; len_is = ap (λ (b : Side). b.len) is }

  unwritten : (a : Side) (x : Site) (byte len : ℕ) → Some (record { site = x; byte = byte; len = len; writes = false }) ≡ Some a → a.writes ≡ true → ⊥
  unwritten a x byte len h w = let is : side_at x byte len false ≡ a = cc in false≢true (ap (λ (b : Side). b.writes) is ∙ w)

  local_written : (op : Opcode) (a : Side) → local_by e op ≡ Some a → a.writes ≡ true → AsWritten a e.local e.local_byte (writes_local e op)
  local_written Noop a h w = as_written a e.local e.local_byte e.length true h
  local_written Write a h w = absurd (unwritten a e.local e.local_byte e.length h w)
  local_written Read a h w = as_written a e.local e.local_byte e.length true h
  local_written Cas a h w = as_written a e.local e.local_byte 8 true h
  local_written Add a h w = as_written a e.local e.local_byte 8 true h
  local_written Send a h w = absurd (unwritten a e.local e.local_byte e.length h w)
  local_written _ a h w = absurd (cc)

  remote_written : (op : Opcode) (a : Side) → remote_by e op ≡ Some a → a.writes ≡ true → AsWritten a e.remote e.remote_byte (writes_remote e op)
  remote_written Noop a h w = as_written a e.remote e.remote_byte e.length true h
  remote_written Write a h w = as_written a e.remote e.remote_byte e.length true h
  remote_written Read a h w = absurd (unwritten a e.remote e.remote_byte e.length h w)
  remote_written Cas a h w = as_written a e.remote e.remote_byte 8 true h
  remote_written Add a h w = as_written a e.remote e.remote_byte 8 true h
  remote_written _ a h w = absurd (cc)

  covered : (at len i : ℕ) → at ≤ i → i < at + len → covers at len i ≡ true
  covered at len i low high = and_from (nat_le at i) (nat_lt i (at + len)) (le-leb at i low) (lt-ltb i (at + len) high)

  -- a byte that a put hits is one that the draft may write
  may_write : (q : SlotRef) (u : Put) (i : ℕ) → PutIn e u → same_space u.space (space.Slot q) ≡ true → u.at ≤ i → i < u.at + length u.bytes → writes_at (space.Slot q) i e ≡ true
  may_write q u i h same low high = by_side h.side h.its h.writes h.space_is h.bounds
    where
      by_side : (a : Side) → IsSide e a → a.writes ≡ true → u.space ≡ space_of a.site → (is_table a.site ≡ false → (from a ≤ u.at) × (u.at + length u.bytes ≤ from a + a.len)) → writes_at (space.Slot q) i e ≡ true
      by_side a its w space_is bounds =
          let is : space_of a.site ≡ space.Slot q = sym space_is ∙ same_space_is u.space (space.Slot q) same in
          let plain : is_table a.site ≡ false = table_space a.site ∙ ap is_table_space is in
          let room = bounds plain in
          let there : same_space (space_of a.site) (space.Slot q) ≡ true = ap (λ (p : Space). same_space p (space.Slot q)) (sym space_is) ∙ same in
          let inside_it : covers (start_of a.site + a.byte) a.len i ≡ true = covered (start_of a.site + a.byte) a.len i (omega (arith, room.0)) (omega (arith, room.1)) in
          by_which a its w there inside_it
        where
          by_which : (a : Side) → IsSide e a → a.writes ≡ true → same_space (space_of a.site) (space.Slot q) ≡ true → covers (start_of a.site + a.byte) a.len i ≡ true → writes_at (space.Slot q) i e ≡ true
          by_which a (inl l) w there c =
              let x = local_written e.op a l w in
              or_left (same_space (local_space e) (space.Slot q) && covers (start_of e.local + e.local_byte) (writes_local e e.op) i) _ (and_from (same_space (local_space e) (space.Slot q)) _ (ap (λ (y : Site). same_space (space_of y) (space.Slot q)) x.site_is ∙ there) ((λ j. covers (start_of (x.site_is j) + x.byte_is j) (x.len_is j) i) ∙ c))
          by_which a (inr r) w there c =
              let x = remote_written e.op a r w in
              or_right (same_space (local_space e) (space.Slot q) && covers (start_of e.local + e.local_byte) (writes_local e e.op) i) _ (and_from (same_space (remote_space e) (space.Slot q)) _ (ap (λ (y : Site). same_space (space_of y) (space.Slot q)) x.site_is ∙ there) ((λ j. covers (start_of (x.site_is j) + x.byte_is j) (x.len_is j) i) ∙ c))

  module _ (ends : both_sides ends_inside e ≡ true) where
    put_room : (q : SlotRef) (u : Put) → PutIn e u → same_space u.space (space.Slot q) ≡ true → u.at + length u.bytes ≤ 64
    put_room q u h same =
        let a : Side = h.side in
        let is : space_of a.site ≡ space.Slot q = sym h.space_is ∙ same_space_is u.space (space.Slot q) same in
        let plain : is_table a.site ≡ false = table_space a.site ∙ ap is_table_space is in
        let test : (is_table a.site || inside a.site a.byte a.len) ≡ true = side_test e ends_inside a ends h.its in
        let fits_it : inside a.site a.byte a.len ≡ true = subst (λ (b : Bool). (b || inside a.site a.byte a.len) ≡ true) plain test in
        let room = field_room a.site a.byte a.len q is fits_it in
        let bounds = h.bounds plain in
        omega (arith, bounds.1)

    -- other bytes of a slot stay
    abbrev pub Stays : Bytes → Bytes → SlotRef → Type 0
    Stays s t q = (length (t (space.Slot q)) ≡ 64) × ((i : ℕ) → writes_at (space.Slot q) i e ≡ false → slice_index (t (space.Slot q)) i ≡ slice_index (s (space.Slot q)) i)

    one_stays : (u : Put) (s : Bytes) (q : SlotRef) → length (s (space.Slot q)) ≡ 64 → PutIn e u → Stays s (with_put s u) q
    one_stays u s q long h =
        elim (same_space u.space (space.Slot q)) as (λ b. same_space u.space (space.Slot q) ≡ b → Stays s (with_put s u) q) [
          | false ↦ λ t. let there = with_put_there s u (space.Slot q) t in (ap length there ∙ long, λ i w. ap (λ (l : List ℕ). slice_index l i) there)
          | true ↦ λ t.
              let here = with_put_here s u (space.Slot q) t in
              let room : u.at + length u.bytes ≤ length (s (space.Slot q)) = let r = put_room q u h t in omega (arith, long, r) in (
                ap length here ∙ length-with_bytes_at (s (space.Slot q)) u.bytes u.at room ∙ long,
                λ i w.
                    let missed : in_change (change u.at u.bytes) i ≡ false = false_from_ne_true (in_change (change u.at u.bytes) i) (λ hit.
                    let parts = and_parts (nat_le u.at i) (nat_lt i (u.at + length u.bytes)) hit in
                    false≢true (sym w ∙ may_write q u i h t (leb-true u.at i parts.0) (ltb-true i (u.at + length u.bytes) parts.1))) in
                    ap (λ (l : List ℕ). slice_index l i) here ∙ (byte_put (s (space.Slot q)) (change u.at u.bytes) i room ∙ rw missed refl),
              )
        ] refl

    pub all_stay : (us : List Put) (s : Bytes) (q : SlotRef) → length (s (space.Slot q)) ≡ 64 → AllIn e us → Stays s (placed s us) q
    all_stay [] s q long h = (long, λ i w. refl)
    all_stay (u ∷ us) s q long h =
        let one = one_stays u s q long h.0 in
        let rest = all_stay us (with_put s u) q one.0 h.1 in
        (rest.0, λ i w. rest.1 i w ∙ one.1 i w)

  -- a space that no side writes stays
  abbrev pub spares_space : Space → Side → Bool
  spares_space p a = not (a.writes && same_space (space_of a.site) p)

  pub space_stays : (p : Space) (us : List Put) (s : Bytes) → both_sides (spares_space p) e ≡ true → AllIn e us → placed s us p ≡ s p
  space_stays p [] s h all = refl
  space_stays p (u ∷ us) s h all =
      let test = side_test e (spares_space p) all.0.side h all.0.its in
      let apart : same_space u.space p ≡ false = false_from_ne_true (same_space u.space p) (λ t. false≢true (sym (ap not (and_from all.0.side.writes _ all.0.writes (ap (λ (r : Space). same_space r p) (sym all.0.space_is) ∙ t))) ∙ test)) in
      space_stays p us (with_put s u) h all.1 ∙ with_put_there s u p apart

first_two : (b w : List ℕ) → bytes_at b 0 8 ≡ w → bytes_at b 0 2 ≡ bytes_at w 0 2
first_two b w e = sym (take-take 2 8 b (omega arith)) ∙ ap (take 2) e

-- an opcode stands in two bytes
pub opcode_by : (a b : List ℕ) → bytes_at a 0 2 ≡ bytes_at b 0 2 → opcode_in a ≡ opcode_in b
opcode_by a b e = ap opcode_named (number_same 2 a b 0 0 e)

module _ (chain : ℕ) (s : Bytes) (slot : List ℕ) (e : Draft) (us : List Put) (shown : List Obs) where
  pub write_puts : acts chain s slot e Write ≡ Went us shown → us ≡ to_remote slot e (local_bytes s e e.length) ∷ []
  unfolding acts
  write_puts h =
      let a = went_if (fits e e.length) _ us shown h in
      let b = went_reach (reaches s slot e e.length) chain slot e _ us shown a.1 in
      sym (with_event_puts (to_remote slot e (local_bytes s e e.length) ∷ []) us _ shown b.1)

  pub cas_puts : acts chain s slot e Cas ≡ Went us shown → us ≡ swap slot e (word (remote_bytes s slot e 8) 0 == first_in slot) ++ to_local e (spelled 8 (word (remote_bytes s slot e 8) 0)) ∷ []
  unfolding acts
  cas_puts h =
      let a = went_if (fits e 8 && is_atomic e) _ us shown h in
      sym (with_event_puts (swap slot e (word (remote_bytes s slot e 8) 0 == first_in slot) ++ to_local e (spelled 8 (word (remote_bytes s slot e 8) 0)) ∷ []) us _ shown a.1)

  pub noop_puts : acts chain s slot e Noop ≡ Went us shown → us ≡ []
  unfolding acts
  noop_puts h = let a : [] ≡ us = cc in sym a

module _ (s : Bytes) (q : SlotRef) (long : length (s (space.Slot q)) ≡ 64) where
  -- two cleared bytes
  pub cleared_opcode : opcode_in (with_put s (put (space.Slot q) 0 (0 ∷ 0 ∷ [])) (space.Slot q)) ≡ Noop
  cleared_opcode =
      opcode_clear _ (ap (λ (l : List ℕ). bytes_at l 0 2) (with_put_here s (put (space.Slot q) 0 (0 ∷ 0 ∷ [])) (space.Slot q) (same_self q)) ∙ bytes_at-same (s (space.Slot q)) (0 ∷ 0 ∷ []) 0 (omega (arith, long)))

  -- and a first word
  pub swapped_opcode : (w : ℕ) → opcode_in (with_put s (put (space.Slot q) 0 (spelled 8 w)) (space.Slot q)) ≡ word_opcode w
  swapped_opcode w =
      let eight : length (spelled 8 w) ≡ 8 = length-spelled 8 w in
      let new : List ℕ = with_bytes_at (s (space.Slot q)) 0 (spelled 8 w) in
      let read : bytes_at new 0 8 ≡ spelled 8 w = ap (λ (n : ℕ). bytes_at new 0 n) (sym eight) ∙ bytes_at-same (s (space.Slot q)) (spelled 8 w) 0 (omega (arith, long, eight)) in
      ap opcode_in (with_put_here s (put (space.Slot q) 0 (spelled 8 w)) (space.Slot q) (same_self q)) ∙ opcode_by new (spelled 8 w) (first_two new (spelled 8 w) read)
