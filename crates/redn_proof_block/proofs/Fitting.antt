-- What runs put lies in the spaces that it is put to, so spaces keep their sizes.
use Rattle.std.proofs.Common.{◌≡◌, ℕ, ◌+◌, ◌<◌, ◌≤◌, Bool, true, false, not, ◌&&◌, ◌==◌, List, [], ◌∷◌, ◌++◌, length, refl, sym, ◌∙◌, subst, arith, length-take, inl, inr, drop}
use Rattle.std.specs.Prelude.{if◌then◌else◌, nat_lt}
use Rattle.std.proofs.lemmas.Bool.{and_parts, or_cases, true≢false, ltb-true}
use Rattle.redn_words.specs.declared.types.Obs.{Obs}
use Rattle.redn_words.specs.declared.types.Opcode.{Opcode}
use Rattle.redn_words.specs.declared.types.Opcode.TheVariants.{Noop, Write, Read, Cas, Add, Send}
use Rattle.redn_words.specs.Words.{with_bytes_at, bytes_at, spelled, word}
use Rattle.redn_words.specs.Landings.{sum_of}
use Rattle.redn_words.proofs.Places.{length-with_bytes_at}
use Rattle.redn_words.proofs.Numbers.{length-spelled}
use Rattle.redn_segment.specs.declared.types.SlotRef.{SlotRef}
use Rattle.redn_segment.specs.declared.types.Space.{Space}
use Rattle.redn_segment.specs.declared.types.Space.TheVariants as space
use Rattle.redn_segment.specs.declared.types.Draft.{Draft}
use Rattle.redn_segment.specs.Sites.{same_space, next_slot, is_table, inside, start_of}
use Rattle.redn_segment.specs.Homes.{Home, room_of}
use Rattle.redn_segment.specs.Plain.{Bytes, View, seeing, Put, with_put, placed, after, Outcome, Went, Faults, Bad, follow, step, runs, acts, opcode_in, local_space, remote_space, local_at, remote_at, local_bytes, remote_bytes, with_event, to_local, to_remote, swap, first_in, second_in, fits, is_length, is_atomic, reaches, request_of}
use Rattle.redn_segment.proofs.Kept.{not_true}
use Rattle.redn_segment.proofs.SameSpace.{same_space_is, table_space}
use Rattle.redn_segment.proofs.Sides.{inside_space}
use Rattle.redn_segment.proofs.PutSides.{with_event_puts, went_if, went_reach}
use Rattle.redn_proof_landing.specs.Segments.{is_table_space}

module _ (home : Space → Home) where
  abbrev pub PutFits : Put → Type 0
  PutFits u = is_table_space u.space ≡ false → u.at + length u.bytes ≤ room_of home u.space

  abbrev pub AllFit : List Put → Type 0
  AllFit [] = Unit {0}
  AllFit (u ∷ us) = PutFits u × AllFit us

  -- one draft
  short : (b : List ℕ) (o n : ℕ) → length (bytes_at b o n) ≤ n
  short b o n = omega (arith, length-take n (drop o b))

  word_short : (v : ℕ) → length (spelled 8 v) ≤ 8
  word_short v = omega (arith, length-spelled 8 v)

  -- both sides of a length that fits
  record Fit (d : Draft) (len : ℕ) : Type 0 where
    some : 0 < len
    flat : is_table d.local ≡ false
    near : inside d.local d.local_byte len ≡ true
    far : is_table d.remote ≡ false → inside d.remote d.remote_byte len ≡ true

  fit_of : (d : Draft) (len : ℕ) → fits d len ≡ true → Fit d len
  fit_of d len e =
      let a = and_parts (is_length len) _ e in
      let n = and_parts (nat_lt 0 len) _ a.0 in
      let b = and_parts (not (is_table d.local)) _ a.1 in
      let c = and_parts (inside d.local d.local_byte len) _ b.1 in
      record {
        some = ltb-true 0 len n.0;
        flat = not_true (is_table d.local) b.0;
        near = c.0;
        far = λ t. elim (or_cases (is_table d.remote) (inside d.remote d.remote_byte len) c.1) [ inl table ↦ absurd (true≢false (sym table ∙ t)) | inr there ↦ there ];
      }

  module _ (slot : List ℕ) (d : Draft) (len : ℕ) (f : Fit d len) (b : List ℕ) (small : length b ≤ len) where
    local_fits : PutFits (to_local d b)
    local_fits t = let room = inside_space home d.local d.local_byte len f.flat f.some f.near in omega (arith, room, small)

    remote_fits : PutFits (to_remote slot d b)
    remote_fits t =
        let flat : is_table d.remote ≡ false = table_space d.remote ∙ t in
        let room = inside_space home d.remote d.remote_byte len flat f.some (f.far flat) in
        let at : remote_at slot d ≡ start_of d.remote + d.remote_byte = rw flat refl in
        omega (arith, room, small, at)

  module _ (chain : ℕ) (s : Bytes) (slot : List ℕ) (d : Draft) (us : List Put) (events : List Obs) where
    only : (vs : List Put) (o : Obs) → AllFit vs → with_event vs o ≡ Went us events → AllFit us
    only vs o h e = subst (λ (l : List Put). AllFit l) (with_event_puts vs us o events e) h

    swapped : Fit d 8 → (b : Bool) (vs : List Put) → AllFit vs → AllFit (swap slot d b ++ vs)
    swapped f true vs h = (remote_fits slot d 8 f (spelled 8 (second_in slot)) (word_short (second_in slot)), h)
    swapped f false vs h = h

    acts_fit : (op : Opcode) → acts chain s slot d op ≡ Went us events → AllFit us
    unfolding acts
    acts_fit Noop e = let none : [] ≡ us = cc in subst (λ (l : List Put). AllFit l) none tt
    acts_fit Write e =
        let a = went_if (fits d d.length) _ us events e in
        let b = went_reach (reaches s slot d d.length) chain slot d _ us events a.1 in
        only (to_remote slot d (local_bytes s d d.length) ∷ []) _ (remote_fits slot d d.length (fit_of d d.length a.0) (local_bytes s d d.length) (short (s (local_space d)) (local_at d) d.length), tt) b.1
    acts_fit Read e =
        let a = went_if (fits d d.length) _ us events e in
        let b = went_reach (reaches s slot d d.length) chain slot d _ us events a.1 in
        only (to_local d (remote_bytes s slot d d.length) ∷ []) _ (local_fits slot d d.length (fit_of d d.length a.0) (remote_bytes s slot d d.length) (short (s (remote_space d)) (remote_at slot d) d.length), tt) b.1
    acts_fit Cas e =
        let a = went_if (fits d 8 && is_atomic d) _ us events e in
        let f = fit_of d 8 (and_parts (fits d 8) (is_atomic d) a.0).0 in
        let old : ℕ = word (remote_bytes s slot d 8) 0 in
        only (swap slot d (old == first_in slot) ++ to_local d (spelled 8 old) ∷ []) _ (swapped f (old == first_in slot) (to_local d (spelled 8 old) ∷ []) (local_fits slot d 8 f (spelled 8 old) (word_short old), tt)) a.1
    acts_fit Add e =
        let a = went_if (fits d 8 && is_atomic d) _ us events e in
        let f = fit_of d 8 (and_parts (fits d 8) (is_atomic d) a.0).0 in
        let old : ℕ = word (remote_bytes s slot d 8) 0 in
        let sum : ℕ = sum_of (request_of slot d) old in
        only (to_remote slot d (spelled 8 sum) ∷ to_local d (spelled 8 old) ∷ []) _ (remote_fits slot d 8 f (spelled 8 sum) (word_short sum), (local_fits slot d 8 f (spelled 8 old) (word_short old), tt)) a.1
    acts_fit Send e =
        let a = went_if (is_length d.length && (not (is_table d.local) && inside d.local d.local_byte d.length)) _ us events e in
        only [] _ tt a.1
    acts_fit _ e = absurd (cc)

  -- a run
  all_both : (us vs : List Put) → AllFit us → AllFit vs → AllFit (us ++ vs)
  all_both [] vs h k = k
  all_both (u ∷ us) vs h k = (h.0, all_both us vs h.1 k)

  after_went : (us : List Put) (before : List Obs) (o : Outcome) (vs : List Put) (events : List Obs) → AllFit us → ((ws : List Put) (shown : List Obs) → o ≡ Went ws shown → AllFit ws) → after us before o ≡ Went vs events → AllFit vs
  after_went us before (Went ws shown) vs events h k e = let same : us ++ ws ≡ vs = cc in subst (λ (l : List Put). AllFit l) same (all_both us ws h (k ws shown refl))
  after_went us before _ vs events h k e = absurd (cc)

  pub run_fits : (v : View) (ds : List Draft) (at : SlotRef) (s : Bytes) (us : List Put) (events : List Obs) → runs v at ds s ≡ Went us events → AllFit us
  run_fits v [] at s us events goes = let none : [] ≡ us = cc in subst (λ (l : List Put). AllFit l) none tt
  run_fits v (d ∷ ds) at s us events goes =
      by_first (step v at d s) refl (λ ws xs seen k. run_fits v ds (next_slot at) (placed s ws) xs seen k) goes
    where
      by_first : (o : Outcome) → step v at d s ≡ o → ((ws xs : List Put) (seen : List Obs) → runs v (next_slot at) ds (placed s ws) ≡ Went xs seen → AllFit xs) → follow o (λ (ws : List Put). runs v (next_slot at) ds (placed s ws)) ≡ Went us events → AllFit us
      by_first (Went ws shown) is rest goes =
          after_went ws shown (runs v (next_slot at) ds (placed s ws)) us events (acts_fit v.number (seeing (v.tables at) s) (s (space.Slot at)) d ws shown (opcode_in (s (space.Slot at))) is) (rest ws) goes
      by_first (Faults ws shown) is rest goes = absurd (cc)
      by_first Bad is rest goes = absurd (cc)

  -- so sizes stay
  pub sizes_stay : (us : List Put) (s : Bytes) (p : Space) → AllFit us → is_table_space p ≡ false → length (s p) ≡ room_of home p → length (placed s us p) ≡ room_of home p
  sizes_stay [] s p h plain long = long
  sizes_stay (u ∷ us) s p h plain long = sizes_stay us (with_put s u) p h.1 plain (one (same_space u.space p) refl)
    where
      one : (b : Bool) → same_space u.space p ≡ b → length (if b then with_bytes_at (s p) u.at u.bytes else s p) ≡ room_of home p
      one false e = long
      one true e =
          let is : u.space ≡ p = same_space_is u.space p e in
          let room : u.at + length u.bytes ≤ room_of home p = subst (λ (q : Space). is_table_space q ≡ false → u.at + length u.bytes ≤ room_of home q) is h.0 plain in
          length-with_bytes_at (s p) u.bytes u.at (omega (arith, room, long)) ∙ long
