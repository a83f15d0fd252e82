-- What a step puts goes to the written sides of its draft.
use Rattle.std.proofs.Common.{◌≡◌, inl, inr, ℕ, ◌+◌, ◌≤◌, Bool, true, false, not, cond, ◌&&◌, ◌==◌, List, [], ◌∷◌, ◌++◌, length, drop, refl, sym, subst, arith, length-take}
use Rattle.redn_words.specs.declared.types.Obs.{Obs}
use Rattle.redn_words.specs.declared.types.Obs.TheVariants as shows
use Rattle.redn_words.specs.declared.types.Opcode.{Opcode}
use Rattle.redn_words.specs.declared.types.Opcode.TheVariants.{Noop, Write, Read, Cas, Add, Send}
use Rattle.redn_words.specs.Words.{bytes_at, number, word, spelled}
use Rattle.redn_words.specs.Landings.{sum_of}
use Rattle.redn_words.proofs.Numbers.{length-spelled}
use Rattle.redn_segment.specs.declared.types.Side.{Side}
use Rattle.redn_segment.specs.declared.types.Space.{Space}
use Rattle.redn_segment.specs.declared.types.Space.TheVariants as space
use Rattle.redn_segment.specs.declared.types.Draft.{Draft}
use Rattle.redn_segment.specs.Sites.{space_of, start_of, is_table, inside}
use Rattle.redn_segment.specs.Plain.{Bytes, Put, Outcome, Went, Faults, Bad, acts, with_event, local_space, remote_space, local_at, remote_at, local_bytes, remote_bytes, first_in, request_of, fits, is_length, reaches, past_table, is_atomic, to_local, to_remote, swap}
use Rattle.redn_segment.specs.Footprints.{from}
use Rattle.redn_segment.specs.Orders.{Follows}
use Rattle.redn_segment.proofs.Sides.{IsSide, LocalSide, RemoteSide, side_at, write_remote, read_local, cas_local, cas_remote, add_local, add_remote}

-- what an event carries along are its puts
pub with_event_puts : (us vs : List Put) (o : Obs) (events : List Obs) → with_event us o ≡ Went vs events → us ≡ vs
with_event_puts us vs (shows.Fault c t o) events e = absurd (cc)
with_event_puts us vs (shows.Stale q i) events e = absurd (cc)
with_event_puts us vs (shows.Undefined q i) events e = absurd (cc)
with_event_puts us vs (shows.Refused q i) events e = absurd (cc)
with_event_puts us vs (shows.Odd q i) events e = absurd (cc)
with_event_puts us vs _ events e = cc

-- a step that goes through passed its tests
pub went_if : (b : Bool) (o : Outcome) (us : List Put) (events : List Obs) → cond (not b) Bad o ≡ Went us events → (b ≡ true) × (o ≡ Went us events)
went_if true o us events e = (refl, e)
went_if false o us events e = absurd (cc)

pub not_past : (chain : ℕ) (slot : List ℕ) (d : Draft) (p : Space) (us : List Put) (events : List Obs) → past_table chain slot d p ≡ Went us events → ⊥
not_past chain slot d (space.Table t) us events e = by_length (d.length == 8) e
  where
    by_length : (b : Bool) → cond b (Faults [] (shows.Fault chain t (remote_at slot d) ∷ [])) Bad ≡ Went us events → ⊥
    by_length true f = cc
    by_length false f = cc
not_past chain slot d _ us events e = cc

pub went_reach : (b : Bool) (chain : ℕ) (slot : List ℕ) (d : Draft) (o : Outcome) (us : List Put) (events : List Obs) → cond (not b) (past_table chain slot d (remote_space d)) o ≡ Went us events → (b ≡ true) × (o ≡ Went us events)
went_reach true chain slot d o us events e = (refl, e)
went_reach false chain slot d o us events e = absurd (not_past chain slot d (remote_space d) us events e)

-- a SEND puts nothing
pub send_none : (chain : ℕ) (s : Bytes) (slot : List ℕ) (d : Draft) (us : List Put) (events : List Obs) → acts chain s slot d Send ≡ Went us events → us ≡ []
unfolding acts
send_none chain s slot d us events e =
    let a = went_if (is_length d.length && (not (is_table d.local) && inside d.local d.local_byte d.length)) _ us events e in
    sym (with_event_puts [] us _ events a.1)

-- a put goes to a written side of a draft
pub record PutIn (d : Draft) (u : Put) : Type 0 where
  pub side : Side
  pub its : IsSide d side
  pub writes : side.writes ≡ true
  pub space_is : u.space ≡ space_of side.site
  pub bounds : is_table side.site ≡ false → (from side ≤ u.at) × (u.at + length u.bytes ≤ from side + side.len)

abbrev pub AllIn : Draft → List Put → Type 0
AllIn d [] = Unit {0}
AllIn d (u ∷ us) = PutIn d u × AllIn d us

module _ (d : Draft) (slot : List ℕ) where
  local_put : (n : ℕ) (b : List ℕ) → LocalSide d n true → length b ≤ n → PutIn d (to_local d b)
  local_put n b y l = let long = y.long in record { side = side_at d.local d.local_byte y.len y.written; its = inl y.is; writes = y.writes refl; space_is = refl; bounds = λ t. (omega arith, omega arith) }

  remote_put : (n : ℕ) (b : List ℕ) → RemoteSide d n true → length b ≤ n → PutIn d (to_remote slot d b)
  remote_put n b y l =
      let long = y.long in
      record {
        side = side_at d.remote d.remote_byte y.len y.written;
        its = inr y.is;
        writes = y.writes refl;
        space_is = refl;
        bounds = λ t. let at : remote_at slot d ≡ start_of d.remote + d.remote_byte = rw t refl in (omega (arith, at), omega (arith, at));
      }

  short : (b : List ℕ) (o n : ℕ) → length (bytes_at b o n) ≤ n
  short b o n = omega (arith, length-take n (drop o b))

  word_short : (v : ℕ) → length (spelled 8 v) ≤ 8
  word_short v = omega (arith, length-spelled 8 v)

  -- what a step puts goes to its written sides
  pub puts_in : (chain : ℕ) (s : Bytes) (op : Opcode) (us : List Put) (events : List Obs) → Follows d op → acts chain s slot d op ≡ Went us events → AllIn d us
  unfolding acts
  puts_in chain s Noop us events f e = let none : [] ≡ us = cc in subst (λ (l : List Put). AllIn d l) none tt
  puts_in chain s Write us events f e =
      let a = went_if (fits d d.length) _ us events e in
      let b = went_reach (reaches s slot d d.length) chain slot d _ us events a.1 in
      subst (λ (l : List Put). AllIn d l) (with_event_puts (to_remote slot d (local_bytes s d d.length) ∷ []) us _ events b.1) (remote_put d.length (local_bytes s d d.length) (write_remote d f) (short (s (local_space d)) (local_at d) d.length), tt)
  puts_in chain s Read us events f e =
      let a = went_if (fits d d.length) _ us events e in
      let b = went_reach (reaches s slot d d.length) chain slot d _ us events a.1 in
      subst (λ (l : List Put). AllIn d l) (with_event_puts (to_local d (remote_bytes s slot d d.length) ∷ []) us _ events b.1) (local_put d.length (remote_bytes s slot d d.length) (read_local d f) (short (s (remote_space d)) (remote_at slot d) d.length), tt)
  puts_in chain s Cas us events f e =
      let a = went_if (fits d 8 && is_atomic d) _ us events e in
      let old : ℕ = word (remote_bytes s slot d 8) 0 in
      subst (λ (l : List Put). AllIn d l) (with_event_puts (swap slot d (old == first_in slot) ++ to_local d (spelled 8 old) ∷ []) us _ events a.1) (swapped (old == first_in slot) (to_local d (spelled 8 old) ∷ []) (local_put 8 (spelled 8 old) (cas_local d f) (word_short old), tt))
    where
      swapped : (b : Bool) (vs : List Put) → AllIn d vs → AllIn d (swap slot d b ++ vs)
      swapped true vs h = (remote_put 8 (spelled 8 (number 8 slot 48)) (cas_remote d f) (word_short (number 8 slot 48)), h)
      swapped false vs h = h
  puts_in chain s Add us events f e =
      let a = went_if (fits d 8 && is_atomic d) _ us events e in
      let old : ℕ = word (remote_bytes s slot d 8) 0 in
      let sum : ℕ = sum_of (request_of slot d) old in
      subst (λ (l : List Put). AllIn d l) (with_event_puts (to_remote slot d (spelled 8 sum) ∷ to_local d (spelled 8 old) ∷ []) us _ events a.1) (remote_put 8 (spelled 8 sum) (add_remote d f) (word_short sum), (local_put 8 (spelled 8 old) (add_local d f) (word_short old), tt))
  puts_in chain s Send us events f e = subst (λ (l : List Put). AllIn d l) (sym (send_none chain s slot d us events e)) tt
  puts_in chain s _ us events f e = absurd (cc)
