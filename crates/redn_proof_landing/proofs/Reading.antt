-- What a draft does depends on its slot, on what it reads, and on the length of its table.
use Rattle.std.proofs.Common.{◌≡◌, ◌⊎◌, inl, inr, ℕ, ◌+◌, ◌<◌, ◌≤◌, Bool, true, false, not, cond, ◌&&◌, ◌||◌, ◌==◌, List, [], ◌∷◌, ◌++◌, length, drop, length-take, refl, ap, ◌∙◌, subst, arith}
use Rattle.std.specs.Prelude.{nat_le}
use Rattle.std.proofs.lemmas.Bool.{and_parts, leb-true}
use Rattle.redn_segment.proofs.PutSides.{with_event_puts, went_if, went_reach}
use Rattle.redn_words.specs.declared.types.Obs.{Obs}
use Rattle.redn_words.specs.declared.types.Opcode.{Opcode}
use Rattle.redn_words.specs.declared.types.Opcode.TheVariants.{Noop, Write, Read, Cas, Add, Send, Wait, Enable, Undefined}
use Rattle.redn_proof_landing.proofs.Sided.{length_is}
use Rattle.redn_proof_landing.specs.Homes.{Inside}
use Rattle.redn_segment.proofs.Kept.{not_true}
use Rattle.redn_segment.proofs.Sides.{inside_space}
use Rattle.redn_segment.specs.Homes.{Home, room_of}
use Rattle.redn_segment.specs.Plain.{Bytes, seeing, Put, Went, Bad, acts, with_event, local_space, remote_space, local_at, remote_at, remote_in, local_bytes, remote_bytes, first_in, request_of, origin, fits, is_length, reaches, past_table, is_atomic, to_local, to_remote, swap}
use Rattle.redn_segment.specs.Sites.{start_of, kind_of, is_table, inside}
use Rattle.redn_words.proofs.Numbers.{length-spelled}
use Rattle.redn_words.specs.Landings.{write_shows, read_shows, cas_shows, add_shows, send_shows, sum_of}
use Rattle.redn_words.specs.Words.{bytes_at, number, word, spelled}
use Rattle.redn_segment.specs.declared.types.Space.{Space}
use Rattle.redn_segment.specs.declared.types.Space.TheVariants as space
use Rattle.redn_segment.specs.declared.types.Draft.{Draft}

abbrev pub SameReach : Bytes → Bytes → Draft → Type 0
SameReach s t d = is_table d.remote ≡ true → length (s (remote_space d)) ≡ length (t (remote_space d))

abbrev pub ReadsSame : Bytes → Bytes → List ℕ → Draft → Opcode → Type 0
ReadsSame s t slot d Write = (local_bytes s d d.length ≡ local_bytes t d d.length) × SameReach s t d
ReadsSame s t slot d Read = (remote_bytes s slot d d.length ≡ remote_bytes t slot d d.length) × SameReach s t d
ReadsSame s t slot d Cas = remote_bytes s slot d 8 ≡ remote_bytes t slot d 8
ReadsSame s t slot d Add = remote_bytes s slot d 8 ≡ remote_bytes t slot d 8
ReadsSame s t slot d Send = local_bytes s d d.length ≡ local_bytes t d d.length
ReadsSame s t slot d _ = Unit {0}

module _ (chain : ℕ) (s t : Bytes) (slot : List ℕ) (d : Draft) where
  reach_same : (len : ℕ) → SameReach s t d → reaches s slot d len ≡ reaches t slot d len
  reach_same len h =
      elim (is_table d.remote) as (λ b. is_table d.remote ≡ b → cond b (nat_le (cond b (remote_in slot) (start_of d.remote + d.remote_byte) + len) (length (s (remote_space d)))) true ≡ cond b (nat_le (cond b (remote_in slot) (start_of d.remote + d.remote_byte) + len) (length (t (remote_space d)))) true) [
        | true ↦ λ e. ap (λ (n : ℕ). nat_le (remote_in slot + len) n) (h e)
        | false ↦ λ e. refl
      ] refl

  pub acts_same : (op : Opcode) → ReadsSame s t slot d op → acts chain s slot d op ≡ acts chain t slot d op
  unfolding acts
  acts_same Write h =
      let reach : reaches s slot d d.length ≡ reaches t slot d d.length = reach_same d.length h.1 in
      ap (λ (b : List ℕ). cond (not (fits d d.length)) Bad (cond (not (reaches s slot d d.length)) (past_table chain slot d (remote_space d)) (with_event (to_remote slot d b ∷ []) (write_shows (origin chain) (request_of slot d) (word b 0) (kind_of (local_space d)) (kind_of (remote_space d)))))) h.0 ∙ ap (λ (q : Bool). cond (not (fits d d.length)) Bad (cond (not q) (past_table chain slot d (remote_space d)) (with_event (to_remote slot d (local_bytes t d d.length) ∷ []) (write_shows (origin chain) (request_of slot d) (word (local_bytes t d d.length) 0) (kind_of (local_space d)) (kind_of (remote_space d)))))) reach
  acts_same Read h =
      let reach : reaches s slot d d.length ≡ reaches t slot d d.length = reach_same d.length h.1 in
      ap (λ (b : List ℕ). cond (not (fits d d.length)) Bad (cond (not (reaches s slot d d.length)) (past_table chain slot d (remote_space d)) (with_event (to_local d b ∷ []) (read_shows (origin chain) (request_of slot d) (word b 0) (kind_of (local_space d)) (kind_of (remote_space d)))))) h.0 ∙ ap (λ (q : Bool). cond (not (fits d d.length)) Bad (cond (not q) (past_table chain slot d (remote_space d)) (with_event (to_local d (remote_bytes t slot d d.length) ∷ []) (read_shows (origin chain) (request_of slot d) (word (remote_bytes t slot d d.length) 0) (kind_of (local_space d)) (kind_of (remote_space d)))))) reach
  acts_same Cas h =
      ap (λ (b : List ℕ). cond (not (fits d 8 && is_atomic d)) Bad (with_event (swap slot d (word b 0 == first_in slot) ++ to_local d (spelled 8 (word b 0)) ∷ []) (cas_shows (origin chain) (kind_of (local_space d)) (kind_of (remote_space d))))) h
  acts_same Add h =
      ap (λ (b : List ℕ). cond (not (fits d 8 && is_atomic d)) Bad (with_event (to_remote slot d (spelled 8 (sum_of (request_of slot d) (word b 0))) ∷ to_local d (spelled 8 (word b 0)) ∷ []) (add_shows (origin chain) (request_of slot d) (sum_of (request_of slot d) (word b 0)) (kind_of (local_space d)) (kind_of (remote_space d))))) h
  acts_same Send h =
      ap (λ (b : List ℕ). cond (not (is_length d.length && (not (is_table d.local) && inside d.local d.local_byte d.length))) Bad (with_event [] (send_shows (origin chain) (request_of slot d) b (kind_of (local_space d))))) h
  acts_same _ h = refl

-- with the tables that it sees in place of its own it reads the same too
module _ (tables : ℕ → List ℕ) (s t : Bytes) (slot : List ℕ) (d : Draft) where
  seen_part : (p : Space) (at n : ℕ) → bytes_at (s p) at n ≡ bytes_at (t p) at n → bytes_at (seeing tables s p) at n ≡ bytes_at (seeing tables t p) at n
  seen_part (space.Table i) at n h = refl
  seen_part _ at n h = h

  seen_length : (p : Space) → length (s p) ≡ length (t p) → length (seeing tables s p) ≡ length (seeing tables t p)
  seen_length (space.Table i) h = refl
  seen_length _ h = h

  seen_reach : SameReach s t d → SameReach (seeing tables s) (seeing tables t) d
  seen_reach h table = seen_length (remote_space d) (h table)

  pub seen_same : (op : Opcode) → ReadsSame s t slot d op → ReadsSame (seeing tables s) (seeing tables t) slot d op
  seen_same Write h = (seen_part (local_space d) (local_at d) d.length h.0, seen_reach h.1)
  seen_same Read h = (seen_part (remote_space d) (remote_at slot d) d.length h.0, seen_reach h.1)
  seen_same Cas h = seen_part (remote_space d) (remote_at slot d) 8 h
  seen_same Add h = seen_part (remote_space d) (remote_at slot d) 8 h
  seen_same Send h = seen_part (local_space d) (local_at d) d.length h
  seen_same _ h = tt

module _ (home : Space → Home) (mine : Space → Bool) (chain : ℕ) (s : Bytes) (slot : List ℕ) (d : Draft) (us : List Put) (events : List Obs) (local_mine : mine (local_space d) ≡ true) (sized : is_table d.remote ≡ true → length (s (remote_space d)) ≡ room_of home (remote_space d)) where
  remote_room : (len : ℕ) → 0 < len → (is_table d.remote || inside d.remote d.remote_byte len) ≡ true → reaches s slot d len ≡ true → remote_at slot d + len ≤ room_of home (remote_space d)
  remote_room len l fine reach =
      elim (is_table d.remote) as (λ b. is_table d.remote ≡ b → (b || inside d.remote d.remote_byte len) ≡ true → cond b (nat_le (cond b (remote_in slot) (start_of d.remote + d.remote_byte) + len) (length (s (remote_space d)))) true ≡ true → cond b (remote_in slot) (start_of d.remote + d.remote_byte) + len ≤ room_of home (remote_space d)) [
        | true ↦ λ t f q. let long = sized t in let h = leb-true (remote_in slot + len) (length (s (remote_space d))) q in omega arith
        | false ↦ λ t f q. inside_space home d.remote d.remote_byte len t l f
      ] refl fine reach

  record Fit (len : ℕ) : Type 0 where
    some : 0 < len
    near : local_at d + len ≤ room_of home (local_space d)
    far : (is_table d.remote || inside d.remote d.remote_byte len) ≡ true

  fit : (len : ℕ) → fits d len ≡ true → Fit len
  fit len f =
      let a = and_parts (is_length len) (not (is_table d.local) && (inside d.local d.local_byte len && (is_table d.remote || inside d.remote d.remote_byte len))) f in
      let b = and_parts (not (is_table d.local)) (inside d.local d.local_byte len && (is_table d.remote || inside d.remote d.remote_byte len)) a.1 in
      let c = and_parts (inside d.local d.local_byte len) (is_table d.remote || inside d.remote d.remote_byte len) b.1 in
      let l = (length_is len a.0).0 in
      record { some = l; near = inside_space home d.local d.local_byte len (not_true (is_table d.local) b.0) l c.0; far = c.1 }

  short : (b : List ℕ) (o n : ℕ) → length (bytes_at b o n) ≤ n
  short b o n = omega (arith, length-take n (drop o b))

  same_inside : (vs : List Put) (o : Obs) → Inside home mine vs → with_event vs o ≡ Went us events → Inside home mine us
  same_inside vs o h e = subst (λ (l : List Put). Inside home mine l) (with_event_puts vs us o events e) h

  atomic_reach : is_atomic d ≡ true → reaches s slot d 8 ≡ true
  atomic_reach e = let parts = and_parts (not (is_table d.remote)) _ e in let plain : is_table d.remote ≡ false = not_true (is_table d.remote) parts.0 in rw plain refl

  -- the puts of a step that goes through lie in spaces of the chain
  pub puts_inside : (op : Opcode) → (mine (remote_space d) ≡ true) ⊎ (op ≡ Send) → acts chain s slot d op ≡ Went us events → Inside home mine us
  unfolding acts
  puts_inside Noop v e = let none : [] ≡ us = cc in subst (λ (l : List Put). Inside home mine l) none tt
  puts_inside Write (inr never) e = absurd (cc)
  puts_inside Write (inl remote_mine) e =
      let a = went_if (fits d d.length) _ us events e in
      let b = went_reach (reaches s slot d d.length) chain slot d _ us events a.1 in
      let f = fit d.length a.0 in
      let far = remote_room d.length f.some f.far b.0 in
      let few = short (s (local_space d)) (local_at d) d.length in
      same_inside (to_remote slot d (local_bytes s d d.length) ∷ []) _ ((remote_mine, omega arith), tt) b.1
  puts_inside Read (inr never) e = absurd (cc)
  puts_inside Read (inl remote_mine) e =
      let a = went_if (fits d d.length) _ us events e in
      let b = went_reach (reaches s slot d d.length) chain slot d _ us events a.1 in
      let f = fit d.length a.0 in
      let near = f.near in
      let few = short (s (remote_space d)) (remote_at slot d) d.length in
      same_inside (to_local d (remote_bytes s slot d d.length) ∷ []) _ ((local_mine, omega arith), tt) b.1
  puts_inside Cas (inr never) e = absurd (cc)
  puts_inside Cas (inl remote_mine) e =
      let a = went_if (fits d 8 && is_atomic d) _ us events e in
      let parts = and_parts (fits d 8) (is_atomic d) a.0 in
      let f = fit 8 parts.0 in
      let near = f.near in
      let far = remote_room 8 f.some f.far (atomic_reach parts.1) in
      let old : ℕ = word (remote_bytes s slot d 8) 0 in
      let long = length-spelled 8 old in
      same_inside (swap slot d (old == first_in slot) ++ to_local d (spelled 8 old) ∷ []) _ (swapped (old == first_in slot) (to_local d (spelled 8 old) ∷ []) far ((local_mine, omega arith), tt)) a.1
    where
      swapped : (b : Bool) (vs : List Put) → remote_at slot d + 8 ≤ room_of home (remote_space d) → Inside home mine vs → Inside home mine (swap slot d b ++ vs)
      swapped true vs far h = ((remote_mine, (let l = length-spelled 8 (number 8 slot 48) in omega arith)), h)
      swapped false vs far h = h
  puts_inside Add (inr never) e = absurd (cc)
  puts_inside Add (inl remote_mine) e =
      let a = went_if (fits d 8 && is_atomic d) _ us events e in
      let parts = and_parts (fits d 8) (is_atomic d) a.0 in
      let f = fit 8 parts.0 in
      let near = f.near in
      let far = remote_room 8 f.some f.far (atomic_reach parts.1) in
      let old : ℕ = word (remote_bytes s slot d 8) 0 in
      let sum : ℕ = sum_of (request_of slot d) old in
      let long = length-spelled 8 old in
      let more = length-spelled 8 sum in
      same_inside (to_remote slot d (spelled 8 sum) ∷ to_local d (spelled 8 old) ∷ []) _ ((remote_mine, omega arith), ((local_mine, omega arith), tt)) a.1
  puts_inside Send v e =
      let a = went_if (is_length d.length && (not (is_table d.local) && inside d.local d.local_byte d.length)) _ us events e in
      same_inside [] _ tt a.1
  puts_inside Wait v e = absurd (cc)
  puts_inside Enable v e = absurd (cc)
  puts_inside (Undefined n) v e = absurd (cc)
