-- The numbers of a ring's requests fit their fields.
use Rattle.std.proofs.Common.{◌≡◌, ℕ, ◌+◌, ◌^◌, ◌<◌, ◌≤◌, inl, inr, Bool, true, false, ◌&&◌, ◌||◌, List, length, map, refl, sym, subst, arith}
use Rattle.std.specs.Prelude.{Some, slice_get, nat_lt, nat_le}
use Rattle.std.specs.List.{list_all}
use Rattle.std.proofs.lemmas.Bool.{and_parts, ltb-true, leb-true, true≢false}
use Rattle.redn_words.specs.declared.types.Opcode.{Opcode}
use Rattle.redn_words.specs.declared.types.Opcode.TheVariants.{Send}
use Rattle.redn_words.specs.Slots.{IsNarrow}
use Rattle.redn_segment.specs.declared.types.SlotRef.{SlotRef}
use Rattle.redn_segment.specs.declared.types.Space.{Space}
use Rattle.redn_segment.specs.declared.types.Space.TheVariants as space
use Rattle.redn_segment.specs.declared.types.Draft.{Draft}
use Rattle.redn_segment.specs.Building.{drafts_of}
use Rattle.redn_segment.specs.Sites.{start_of as start_in}
use Rattle.redn_segment.specs.Plain.{local_space, remote_space, local_at}
use Rattle.redn_segment.specs.Primed.{number_of}
use Rattle.redn_segment.specs.Homes.{Home}
use Rattle.redn_segment.specs.Orders.{is_send}
use Rattle.redn_segment.specs.Renaming.{renamed, renamed_site}
use Rattle.redn_segment.proofs.Renamed.{start_renamed}
use Rattle.redn_proof_landing.specs.Requested.{requested, remote_key, remote_offset}
use Rattle.redn_recycle.specs.Laps.{Ring, slot_of, bodies_of, lap_requests, wait_of, enable_of}
use Rattle.redn_recycle.specs.Lapped.{MayGoRound, segment_at, slots_in_laps, names_well, draft_names_well, ref_in_laps, ring_of}
use Rattle.redn_recycle.proofs.Starts.{first_few, start_all}
use Rattle.redn_proof_ring.specs.Layouts.{is_named_in, has_sites}
use Rattle.redn_proof_ring.proofs.LapSteps.{slice_get_append}
use Rattle.redn_proof_ring.proofs.Laying.{all_segments, all_in, named_at, laps_all, lap_slot_inside, site_mine}

-- the numbers of a draft are small
abbrev pub is_small : Draft → Bool
is_small d =
    nat_lt (number_of d.op) 6 && (nat_le (local_at d) 128 && (nat_le (start_in d.remote + d.remote_byte) 128 && (nat_le d.length 64 && (nat_lt d.first (2 ^ 64) && nat_lt d.second (2 ^ 64)))))

pub record IsSmall (d : Draft) : Type 0 where
  pub op : number_of d.op < 6
  pub near : local_at d ≤ 128
  pub far : start_in d.remote + d.remote_byte ≤ 128
  pub len : d.length ≤ 64
  pub first : d.first < 2 ^ 64
  pub second : d.second < 2 ^ 64

small_is : (d : Draft) → is_small d ≡ true → IsSmall d
small_is d h =
    let a = and_parts (nat_lt (number_of d.op) 6) _ h in
    let b = and_parts (nat_le (local_at d) 128) _ a.1 in
    let e = and_parts (nat_le (start_in d.remote + d.remote_byte) 128) _ b.1 in
    let f = and_parts (nat_le d.length 64) _ e.1 in
    let g = and_parts (nat_lt d.first (2 ^ 64)) (nat_lt d.second (2 ^ 64)) f.1 in
    record {
      op = ltb-true (number_of d.op) 6 a.0;
      near = leb-true (local_at d) 128 b.0;
      far = leb-true (start_in d.remote + d.remote_byte) 128 e.0;
      len = leb-true d.length 64 f.0;
      first = ltb-true d.first (2 ^ 64) g.0;
      second = ltb-true d.second (2 ^ 64) g.1;
    }

module _ (home : Space → Home) (mine : Space → Bool) (bound : (p : Space) → mine p ≡ true → (home p).offset ≤ 33554432) (keys : (p : Space) → (home p).region.key < 2 ^ 32) where
  -- of one request
  key_by : (d : Draft) (op : Opcode) → remote_key home d op < 2 ^ 32
  key_by d Send = omega arith
  key_by d _ = keys (remote_space d)

  offset_by : (d : Draft) (op : Opcode) → (is_send op ≡ false → (home (remote_space d)).offset + (start_in d.remote + d.remote_byte) < 256 ^ 8) → remote_offset home d op < 256 ^ 8
  offset_by d Send f = omega arith
  offset_by d _ f = f refl

  pub one_narrow : (d : Draft) (flags : ℕ) → IsSmall d → mine (local_space d) ≡ true → (is_send d.op ≡ false → mine (remote_space d) ≡ true) → flags < 2 → IsNarrow (requested home d flags)
  one_narrow d flags s near far l =
      let a = s.op in
      let b = s.near in
      let e = s.len in
      let k = keys (local_space d) in
      let o = bound (local_space d) near in
      record {
        op = omega (arith, a);
        id = omega arith;
        lkey = omega (arith, k);
        rkey = (let r = key_by d d.op in omega (arith, r));
        local = omega (arith, b, o);
        remote = offset_by d d.op (λ none. let f = s.far in let q = bound (remote_space d) (far none) in omega (arith, f, q));
        len = omega (arith, e);
        first = (let f = s.first in omega (arith, f));
        second = (let f = s.second in omega (arith, f));
        flags = omega (arith, l);
      }

  module _ (segs : List (List Draft)) (number domain base : ℕ) (may : MayGoRound segs number) (slots_mine : (i : ℕ) → i < slots_in_laps segs → mine (space.Slot (slot_of number i)) ≡ true) (own : mine (space.Descriptor number) ≡ true) (scratch : (mine (space.Scratch 2) ≡ true) × (mine (space.Scratch 3) ≡ true)) (sites : list_all (has_sites mine) (drafts_of segs) ≡ true) (small : list_all is_small (drafts_of segs) ≡ true) where
    abbrev ring : Ring
    ring = ring_of segs number domain base

    abbrev f : SlotRef → SlotRef
    f = ref_in_laps segs number

    some : 2 ≤ length segs
    some = may.some

    -- what is asked of a body
    record Body (d : Draft) : Type 0 where
      pub is : IsSmall d
      pub near : mine (local_space d) ≡ true
      pub far : is_send d.op ≡ false → mine (remote_space d) ≡ true

    renamed_body : (y : Draft) → is_small y ≡ true → draft_names_well segs number y ≡ true → has_sites mine y ≡ true → Body (renamed f y)
    renamed_body y s names have =
        let is = small_is y s in
        let named = and_parts (names_well segs number y.local) (names_well segs number y.remote) names in
        let parts = and_parts (is_named_in mine y.local) (is_send y.op || is_named_in mine y.remote) have in
        let a : start_in (renamed_site f y.local) ≡ start_in y.local = start_renamed f y.local in
        let b : start_in (renamed_site f y.remote) ≡ start_in y.remote = start_renamed f y.remote in
        let near = is.near in
        let far = is.far in
        record {
          is = record { op = is.op; near = omega (arith, a, near); far = omega (arith, b, far); len = is.len; first = is.first; second = is.second };
          near = site_mine segs some mine number slots_mine y.local named.0 parts.0;
          far = λ none. site_mine segs some mine number slots_mine y.remote named.1 (by_send (is_send y.op) (is_named_in mine y.remote) parts.1 none);
        }
      where
        by_send : (s m : Bool) → s || m ≡ true → s ≡ false → m ≡ true
        by_send true m e g = absurd (true≢false g)
        by_send false m e g = e

    slots_few : slots_in_laps segs < 2 ^ 34
    slots_few =
        let few = first_few segs (length segs) in
        let ends = start_all segs in
        let low = may.few in
        omega (arith, few, ends, low)

    lap_body : (j k : ℕ) (d : Draft) → j < length segs → slice_get (lap_requests number ring j) k ≡ Some d → Body d
    lap_body j k d l e =
        let many = slots_few in
        let few = may.few in
        laps_all number ring some Body (λ i m. record { is = record { op = omega arith; near = omega arith; far = omega arith; len = omega arith; first = omega (arith, few); second = omega arith }; near = scratch.0; far = λ none. slots_mine (wait_of number ring i) (lap_slot_inside segs some i m).0 }) (λ i m. record { is = record { op = omega arith; near = omega arith; far = omega arith; len = omega arith; first = omega (arith, many); second = omega arith }; near = scratch.1; far = λ none. slots_mine (enable_of number ring i) (lap_slot_inside segs some i (omega (arith, m))).1 }) (record { is = record { op = omega arith; near = omega arith; far = omega arith; len = omega arith; first = omega (arith, many); second = omega arith }; near = scratch.1; far = λ none. own }) j k d l e

    own_body : (j k : ℕ) (d : Draft) → slice_get (map (renamed f) (segment_at segs j)) k ≡ Some d → Body d
    own_body j k d e =
        let n = named_at (renamed f) (segment_at segs j) k d e in
        subst Body (sym n.2) (renamed_body n.0 (all_in is_small segs j k n.0 small n.1) (all_in (draft_names_well segs number) segs j k n.0 (all_segments (draft_names_well segs number) segs may.names) n.1) (all_in (has_sites mine) segs j k n.0 sites n.1))

    pub all_narrow : (j k : ℕ) (d : Draft) (flags : ℕ) → j < length segs → slice_get (bodies_of number ring j) k ≡ Some d → flags < 2 → IsNarrow (requested home d flags)
    all_narrow j k d flags l e m =
        elim (slice_get_append (ring.drafts j) (lap_requests number ring j) k d e) [
          | inl mine_d ↦ let b = own_body j k d mine_d in one_narrow d flags b.is b.near b.far m
          | inr lap ↦ let b = lap_body j lap.0 d l lap.2 in one_narrow d flags b.is b.near b.far m
        ]
