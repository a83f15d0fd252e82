-- The bytes of memory that a placed draft reads and may write lie in its sides; and drafts that are free of one another touch no byte in common that one of them writes.
use Rattle.std.proofs.Common.{◌≡◌, ℕ, ◌+◌, ◌-◌, ◌<◌, ◌≤◌, ◌⊎◌, inl, inr, Bool, true, false, not, ◌&&◌, ◌||◌, List, [], ◌∷◌, ◌++◌, refl, sym, ap, ◌∙◌, subst, arith}
use Rattle.std.specs.Prelude.{nat_lt, min, max, Ok, Err}
use Rattle.std.proofs.lemmas.Bool.{false≢true, and_from, or_left, or_right, or_cases, lt-ltb}
use Rattle.redn_words.specs.declared.types.Region.{Region}
use Rattle.redn_words.specs.declared.types.Request.{Request}
use Rattle.redn_words.specs.declared.types.Origin.{Origin}
use Rattle.redn_words.specs.declared.types.Need.{Need}
use Rattle.redn_words.specs.declared.types.Spot.{Spot}
use Rattle.redn_words.specs.declared.types.Opcode.{Opcode}
use Rattle.redn_words.specs.declared.types.Opcode.TheVariants.{Noop, Write, Read, Cas, Add, Send, Wait, Enable, Undefined}
use Rattle.redn_words.specs.Requests.{decoded, opcode_of}
use Rattle.redn_words.specs.Access.{access, region_of}
use Rattle.redn_words.specs.Landings.{Place, landing, local_side, remote_side}
use Rattle.redn_words.proofs.Footprints.{by_landing}
use Rattle.redn_words.specs.Footprints.{footprint, written_by, place_at}
use Rattle.redn_words.specs.Ranges.{holds, within}
use Rattle.redn_words.proofs.Ranges.{holds_bounds}
use Rattle.redn_segment.specs.declared.types.Side.{Side}
use Rattle.redn_segment.specs.declared.types.Space.{Space}
use Rattle.redn_segment.specs.declared.types.Space.TheVariants as space
use Rattle.redn_segment.specs.declared.types.Draft.{Draft}
use Rattle.redn_segment.specs.Sites.{space_of, is_table, inside, same_space}
use Rattle.redn_segment.specs.Plain.{local_at, remote_at, opcode_in}
use Rattle.redn_segment.specs.Footprints.{both_sides, ends_inside, from, meet, is_free}
use Rattle.redn_segment.specs.Homes.{Home, IsHome, IsTold, LieApart, base_of, room_of}
use Rattle.redn_segment.specs.Orders.{Follows, IsPlaced, is_send}
use Rattle.redn_segment.proofs.SameSpace.{same_space_is, is_table_space, table_space}
use Rattle.redn_segment.proofs.Sides.{access_spot, inside_space, side_at, LocalSide, RemoteSide, IsSide, side_test, write_local, write_remote, read_local, read_remote, cas_local, cas_remote, add_local, add_remote, send_local}

-- opcodes are read in the same place
pub opcode_read : (slot : List ℕ) → opcode_of (decoded slot) ≡ opcode_in slot
unfolding decoded
opcode_read slot = refl

-- where a request reads, whatever stands there
abbrev pub read_by : List Region → ℕ → Request → Opcode → List Place
read_by regions domain r Write = place_at (local_side regions domain Write r) r.length
read_by regions domain r Read = place_at (remote_side regions domain Read r) r.length
read_by regions domain r Cas = place_at (remote_side regions domain Cas r) 8
read_by regions domain r Add = place_at (remote_side regions domain Add r) 8
read_by regions domain r Send = place_at (local_side regions domain Send r) r.length
read_by regions domain r _ = []

module _ (regions : List Region) (o : Origin) (r : Request) (memory : List ℕ) (p : ℕ) where
  none : holds (record { at = 0; len = 0 }) p ≡ true → ⊥
  none h = let bounds = holds_bounds (record { at = 0; len = 0 }) p h in let high = bounds.1 in omega arith

  pub landing_reads : holds (landing regions o memory r).reads p ≡ true → within (read_by regions o.chain r (opcode_of r)) p ≡ true
  landing_reads =
      by_landing regions o r (λ op l. holds l.reads p ≡ true → within (read_by regions o.chain r op) p ≡ true) memory record {
        refuse = λ op shown h. absurd (none h);
        noop = λ shown h. absurd (none h);
        write = λ l d a b h. rw a (or_left (holds (record { at = l.at; len = r.length }) p) false h);
        read = λ l d a b h. rw b (or_left (holds (record { at = d.at; len = r.length }) p) false h);
        cas = λ l d a b h. rw b (or_left (holds (record { at = d.at; len = 8 }) p) false h);
        add = λ l d a b h. rw b (or_left (holds (record { at = d.at; len = 8 }) p) false h);
        send = λ l a h. rw a (or_left (holds (record { at = l.at; len = r.length }) p) false h);
      }

-- a side that is no table lies in its space
pub plain_room : (home : Space → Home) (d : Draft) → both_sides ends_inside d ≡ true → (a : Side) (n : ℕ) → IsSide d a → n ≤ a.len → is_table a.site ≡ false → 0 < n → from a + n ≤ room_of home (space_of a.site)
plain_room home d fits a n its short t l =
    let test : (is_table a.site || inside a.site a.byte a.len) ≡ true = side_test d ends_inside a fits its in
    let ends : inside a.site a.byte a.len ≡ true = subst (λ (b : Bool). (b || inside a.site a.byte a.len) ≡ true) t test in
    let room = inside_space home a.site a.byte a.len t (omega arith) ends in
    omega arith

pub one_place : (s : Spot) (n p : ℕ) → within (place_at (Ok s) n) p ≡ true → holds (record { at = s.at; len = n }) p ≡ true
one_place s n p h = elim (or_cases (holds (record { at = s.at; len = n }) p) false h) [ inl e ↦ e | inr e ↦ absurd (false≢true e) ]

module _ (home : Space → Home) where
  -- a byte of memory lies in a side; of a table's side it is known only that it lies in the table
  pub record In (a : Side) (p : ℕ) : Type 0 where
    pub at : ℕ
    pub is : p ≡ base_of home (space_of a.site) + at
    pub room : at < room_of home (space_of a.site)
    pub bounds : is_table a.site ≡ false → (from a ≤ at) × (at < from a + a.len)

  module _ (mine : Space → Bool) (size : ℕ) (apart : LieApart home mine size) where
    -- a byte of memory is in one space
    pub one_space : (q r : Space) (i j p : ℕ) → mine q ≡ true → mine r ≡ true → p ≡ base_of home q + i → i < room_of home q → p ≡ base_of home r + j → j < room_of home r → same_space q r ≡ true
    one_space q r i j p its others e l f k =
        elim (same_space q r) as (λ b. same_space q r ≡ b → b ≡ true) [
          | true ↦ λ t. refl
          | false ↦ λ t. absurd (by_side (apart.apart q r its others t))
        ] refl
      where
        by_side : (base_of home q + room_of home q ≤ base_of home r) ⊎ (base_of home r + room_of home r ≤ base_of home q) → ⊥
        by_side (inl h) = omega arith
        by_side (inr h) = omega arith

    in_both : (a b : Side) (p : ℕ) → mine (space_of a.site) ≡ true → mine (space_of b.site) ≡ true → In a p → In b p → meet a b ≡ true
    in_both a b p its others x y =
        let same : same_space (space_of a.site) (space_of b.site) ≡ true = one_space (space_of a.site) (space_of b.site) x.at y.at p its others x.is x.room y.is y.room in
        let is : space_of a.site ≡ space_of b.site = same_space_is (space_of a.site) (space_of b.site) same in
        and_from (same_space (space_of a.site) (space_of b.site)) _ same (elim (is_table a.site) as (λ t. is_table a.site ≡ t → (t || nat_lt (max (from a) (from b)) (min (from a + a.len) (from b + b.len))) ≡ true) [
          | true ↦ λ t. refl
          | false ↦ λ t.
              let plain : is_table b.site ≡ false = table_space b.site ∙ ap is_table_space (sym is) ∙ sym (table_space a.site) ∙ t in
              let base : base_of home (space_of a.site) ≡ base_of home (space_of b.site) = ap (base_of home) is in
              let first = x.bounds t in
              let second = y.bounds plain in
              let e = x.is in
              let f = y.is in
              lt-ltb (max (from a) (from b)) (min (from a + a.len) (from b + b.len)) (omega (arith, first.0, first.1, second.0, second.1))
        ] refl)

    -- free sides have no byte in common
    pub free_apart : (a b : Side) (p : ℕ) → mine (space_of a.site) ≡ true → mine (space_of b.site) ≡ true → is_free a b ≡ true → (a.writes || b.writes) ≡ true → In a p → In b p → ⊥
    free_apart a b p its others free w x y =
        let m : meet a b ≡ true = in_both a b p its others x y in
        let both : ((a.writes || b.writes) && meet a b) ≡ true = and_from (a.writes || b.writes) (meet a b) w m in
        false≢true (ap not (sym both) ∙ free)

  -- a table fills its region
  pub table_fills : (q : Space) → is_table_space q ≡ true → IsTold q (home q).offset → ((home q).offset ≡ 0) × (room_of home q ≡ (home q).region.len)
  table_fills (space.Table n) e told = (told, refl)
  table_fills _ e told = absurd (false≢true e)

  module _ (mine : Space → Bool) (regions : List Region) (domain size : ℕ) (d : Draft) (slot : List ℕ) (set : IsPlaced home mine regions domain size d slot) (fits : both_sides ends_inside d ≡ true) where
    -- a byte of a side of the draft
    pub record InSide (w : Bool) (p : ℕ) : Type 0 where
      pub side : Side
      pub its : IsSide d side
      pub its_space : mine (space_of side.site) ≡ true
      pub writes : w ≡ true → side.writes ≡ true
      pub bytes : In side p

    abbrev r : Request
    r = decoded slot

    -- a byte of the place of an access that begins where a side does
    access_in_side : (a : Side) (key off at n : ℕ) (need : Need) (w : Bool) (p : ℕ) → IsSide d a → mine (space_of a.site) ≡ true → (w ≡ true → a.writes ≡ true) → n ≤ a.len → IsHome home regions domain size (space_of a.site) → key ≡ (home (space_of a.site)).region.key → off ≡ (home (space_of a.site)).offset + at → (is_table a.site ≡ false → at ≡ from a) → within (place_at (access regions domain key off n need) n) p ≡ true → InSide w p
    access_in_side a key off at n need w p its its_space writes short its_home key_is off_is start =
        elim (access regions domain key off n need) as (λ o. access regions domain key off n need ≡ o → within (place_at o n) p ≡ true → InSide w p) [
          | Err e ↦ λ f h. absurd (false≢true h)
          | Ok s ↦ λ f h.
              let spot = access_spot regions domain key off n need (home (space_of a.site)).region s (ap (region_of regions) key_is ∙ its_home.found) f in
              let there = spot.0 in
              let ends = spot.1 in
              let bounds = holds_bounds (record { at = s.at; len = n }) p (one_place s n p h) in
              let low = bounds.0 in
              let high = bounds.1 in
              record {
                side = a;
                its = its;
                its_space = its_space;
                writes = writes;
                bytes = record {
                  at = p - base_of home (space_of a.site);
                  is = omega arith;
                  room = elim (is_table a.site) as (λ t. is_table a.site ≡ t → p - base_of home (space_of a.site) < room_of home (space_of a.site)) [
                    | true ↦ λ t. let full = table_fills (space_of a.site) (sym (table_space a.site) ∙ t) its_home.told in omega (arith, full.0, full.1)
                    | false ↦ λ t. let e = start t in let room = plain_room home d fits a n its short t (omega arith) in omega arith
                  ] refl;
                  bounds = λ t. let e = start t in (omega arith, omega arith);
                };
              }
        ] refl

    -- what an access to the local side may touch
    local_in : (n : ℕ) (w : Bool) (need : Need) (p : ℕ) → LocalSide d n w → within (place_at (access regions domain r.lkey r.local n need) n) p ≡ true → InSide w p
    local_in n w need p x =
        access_in_side (side_at d.local d.local_byte x.len x.written) r.lkey r.local (local_at d) n need w p (inl x.is) set.local_mine x.writes x.long set.local_home set.from.key set.from.offset (λ t. refl)

    remote_in : is_send (opcode_in slot) ≡ false → (n : ℕ) (w : Bool) (need : Need) (p : ℕ) → RemoteSide d n w → within (place_at (access regions domain r.rkey r.remote n need) n) p ≡ true → InSide w p
    remote_in two n w need p x =
        let to = set.to two in
        access_in_side (side_at d.remote d.remote_byte x.len x.written) r.rkey r.remote (remote_at slot d) n need w p (inr x.is) (set.remote_mine two) x.writes x.long (set.remote_home two) to.key to.offset (λ t. rw t refl)

    -- the two places of a CAS or an ADD
    two_places : (a b : List Place) (p : ℕ) → within (a ++ b) p ≡ true → (within a p ≡ true) ⊎ (within b p ≡ true)
    two_places [] b p h = inr h
    two_places (c ∷ a) b p h =
        elim (or_cases (holds c p) (within (a ++ b) p) h) [
          | inl e ↦ inl (or_left (holds c p) (within a p) e)
          | inr e ↦ elim (two_places a b p e) [ inl f ↦ inl (or_right (holds c p) (within a p) f) | inr f ↦ inr f ]
        ]

    follows : (op : Opcode) → opcode_in slot ≡ op → Follows d op
    follows op e = subst (λ (x : Opcode). Follows d x) e set.follows

    two_sided : (op : Opcode) → opcode_in slot ≡ op → is_send op ≡ false → is_send (opcode_in slot) ≡ false
    two_sided op e f = ap is_send e ∙ f

    length_is : r.length ≡ d.length
    length_is = set.from.len

    -- a byte that the draft's landing may write lies in a side that is written
    pub writes_in : (p : ℕ) → within (footprint regions domain (decoded slot)) p ≡ true → InSide true p
    writes_in p h = by_op (opcode_in slot) refl (ap (λ (op : Opcode). within (written_by regions domain r op) p) (sym (opcode_read slot)) ∙ h)
      where
        by_op : (op : Opcode) → opcode_in slot ≡ op → within (written_by regions domain r op) p ≡ true → InSide true p
        by_op Noop e g = absurd (false≢true g)
        by_op Write e g = remote_in (two_sided Write e refl) r.length true _ p (subst (λ (n : ℕ). RemoteSide d n true) (sym length_is) (write_remote d (follows Write e))) g
        by_op Read e g = local_in r.length true _ p (subst (λ (n : ℕ). LocalSide d n true) (sym length_is) (read_local d (follows Read e))) g
        by_op Cas e g = elim (two_places (place_at (remote_side regions domain Cas r) 8) (place_at (local_side regions domain Cas r) 8) p g) [
          | inl f ↦ remote_in (two_sided Cas e refl) 8 true _ p (cas_remote d (follows Cas e)) f
          | inr f ↦ local_in 8 true _ p (cas_local d (follows Cas e)) f
        ]
        by_op Add e g = elim (two_places (place_at (remote_side regions domain Add r) 8) (place_at (local_side regions domain Add r) 8) p g) [
          | inl f ↦ remote_in (two_sided Add e refl) 8 true _ p (add_remote d (follows Add e)) f
          | inr f ↦ local_in 8 true _ p (add_local d (follows Add e)) f
        ]
        by_op Send e g = absurd (false≢true g)
        by_op Wait e g = absurd (false≢true g)
        by_op Enable e g = absurd (false≢true g)
        by_op (Undefined n) e g = absurd (false≢true g)

    unasked : (n : ℕ) → RemoteSide d n true → RemoteSide d n false
    unasked n x = record { len = x.len; written = x.written; is = x.is; long = x.long; writes = λ e. absurd (false≢true e) }

    -- and one that it reads lies in a side
    pub reads_in : (p : ℕ) → within (read_by regions domain (decoded slot) (opcode_of (decoded slot))) p ≡ true → InSide false p
    reads_in p h = by_op (opcode_in slot) refl (ap (λ (op : Opcode). within (read_by regions domain r op) p) (sym (opcode_read slot)) ∙ h)
      where
        by_op : (op : Opcode) → opcode_in slot ≡ op → within (read_by regions domain r op) p ≡ true → InSide false p
        by_op Noop e g = absurd (false≢true g)
        by_op Write e g = local_in r.length false _ p (subst (λ (n : ℕ). LocalSide d n false) (sym length_is) (write_local d (follows Write e))) g
        by_op Read e g = remote_in (two_sided Read e refl) r.length false _ p (subst (λ (n : ℕ). RemoteSide d n false) (sym length_is) (read_remote d (follows Read e))) g
        by_op Cas e g = remote_in (two_sided Cas e refl) 8 false _ p (unasked 8 (cas_remote d (follows Cas e))) g
        by_op Add e g = remote_in (two_sided Add e refl) 8 false _ p (unasked 8 (add_remote d (follows Add e))) g
        by_op Send e g = local_in r.length false _ p (subst (λ (n : ℕ). LocalSide d n false) (sym length_is) (send_local d (follows Send e))) g
        by_op Wait e g = absurd (false≢true g)
        by_op Enable e g = absurd (false≢true g)
        by_op (Undefined n) e g = absurd (false≢true g)
