-- The bytes of memory that a placed draft reads and may write lie in its sides; and drafts that are free of one another touch no byte in common that one of them writes.
use Rattle.std.proofs.Common.{◌≡◌, ℕ, ◌+◌, ◌-◌, ◌<◌, ◌≤◌, ◌⊎◌, inl, inr, Bool, true, false, List, [], ◌∷◌, ◌++◌, refl, sym, ap, ◌∙◌, subst, arith}
use Rattle.std.specs.Prelude.{Ok, Err}
use Rattle.std.proofs.lemmas.Bool.{false≢true, or_left, or_right, or_cases}
use Rattle.redn_words.specs.declared.types.Region.{Region}
use Rattle.redn_words.specs.declared.types.Request.{Request}
use Rattle.redn_words.specs.declared.types.Need.{Need}
use Rattle.redn_words.specs.declared.types.Opcode.{Opcode}
use Rattle.redn_words.specs.declared.types.Opcode.TheVariants.{Noop, Write, Read, Cas, Add, Send}
use Rattle.redn_proof_landing.specs.Homes.{HasTarget, range_of, reads_by}
use Rattle.redn_proof_landing.specs.Segments.{acts_locally, IsSet}
use Rattle.redn_segment.proofs.SameSpace.{table_space}
use Rattle.redn_segment.proofs.Sides.{IsSide, LocalSide, RemoteSide, access_spot, write_remote, side_at, read_local, write_local, cas_remote, read_remote, cas_local, add_remote, add_local, send_local}
use Rattle.redn_segment.specs.Footprints.{from}
use Rattle.redn_segment.specs.Homes.{Home, IsHome, base_of, room_of}
use Rattle.redn_segment.specs.Orders.{is_send, Follows}
use Rattle.redn_segment.specs.Plain.{local_space, remote_space, local_at, remote_at, opcode_in}
use Rattle.redn_segment.specs.Sites.{space_of, start_of, is_table}
use Rattle.redn_words.specs.Footprints.{footprint, written_by, place_at}
use Rattle.redn_words.proofs.Ranges.{holds_bounds}
use Rattle.redn_words.specs.Access.{access, region_of}
use Rattle.redn_words.specs.Landings.{Place, local_side, remote_side}
use Rattle.redn_words.specs.Ranges.{holds, within}
use Rattle.redn_words.specs.Requests.{decoded}
use Rattle.redn_segment.specs.declared.types.Side.{Side}
use Rattle.redn_segment.specs.declared.types.Space.{Space}
use Rattle.redn_segment.specs.declared.types.Draft.{Draft}
use Rattle.redn_segment.proofs.Touching.{In, opcode_read, plain_room, one_place, table_fills}

module _ (d : Draft) where
  -- of the local side alone
  abbrev pub OnLocal : (a : Side) → IsSide d a → Type 0 → Type 0
  OnLocal a (inl is) X = X
  OnLocal a (inr is) X = Unit {0}

module _ (home : Space → Home) where
  module _ (regions : List Region) (domain size : ℕ) (d : Draft) (slot : List ℕ) (set : IsSet home regions domain size d slot) where
    -- a byte of a side of the draft
    pub record InSide (w : Bool) (p : ℕ) : Type 0 where
      pub side : Side
      pub its : IsSide d side
      pub writes : w ≡ true → side.writes ≡ true
      pub bytes : In home side p
      pub locally : OnLocal d side its (w ≡ true → acts_locally (opcode_in slot) ≡ true)

    -- a byte of a range that begins where a side does
    range_in : (w : Bool) (a : Side) (at n p : ℕ) (its : IsSide d a) → (w ≡ true → a.writes ≡ true) → n ≤ a.len → (is_table a.site ≡ false → at ≡ from a) → (is_table a.site ≡ true → at + n ≤ room_of home (space_of a.site)) → OnLocal d a its (w ≡ true → acts_locally (opcode_in slot) ≡ true) → holds (range_of home (space_of a.site) at n) p ≡ true → InSide w p
    range_in w a at n p its writes short start ends locally h =
        let bounds = holds_bounds (range_of home (space_of a.site) at n) p h in
        let low = bounds.0 in
        let high = bounds.1 in
        record {
          side = a;
          its = its;
          writes = writes;
          locally = locally;
          bytes = record {
            at = p - base_of home (space_of a.site);
            is = omega arith;
            room = elim (is_table a.site) as (λ t. is_table a.site ≡ t → p - base_of home (space_of a.site) < room_of home (space_of a.site)) [
              | true ↦ λ t. let e = ends t in omega arith
              | false ↦ λ t. let e = start t in let room = plain_room home d set.inside a n its short t (omega arith) in omega arith
            ] refl;
            bounds = λ t. let e = start t in (omega arith, omega arith);
          };
        }

    abbrev r : Request
    r = decoded slot

    -- what an access to the local side may touch
    local_in : (n : ℕ) (w : Bool) (need : Need) (p : ℕ) → LocalSide d n w → (w ≡ true → acts_locally (opcode_in slot) ≡ true) → is_table d.local ≡ false → within (place_at (access regions domain r.lkey r.local n need) n) p ≡ true → InSide w p
    local_in n w need p x locally plain =
        elim (access regions domain r.lkey r.local n need) as (λ o. access regions domain r.lkey r.local n need ≡ o → within (place_at o n) p ≡ true → InSide w p) [
          | Err e ↦ λ f h. absurd (false≢true h)
          | Ok s ↦ λ f h.
              let spot = access_spot regions domain r.lkey r.local n need (home (local_space d)).region s (ap (region_of regions) set.from.key ∙ set.local_home.found) f in
              let offset = set.from.offset in
              let at : s.at ≡ base_of home (local_space d) + local_at d = let e = spot.0 in omega arith in
              range_in w (side_at d.local d.local_byte x.len x.written) (local_at d) n p (inl x.is) x.writes x.long (λ t. refl) (λ t. absurd (false≢true (sym plain ∙ t))) locally (ap (λ (a : ℕ). holds (record { at = a; len = n }) p) (sym at) ∙ one_place s n p h)
        ] refl

    module _ (two : is_send (opcode_in slot) ≡ false) where
      to : HasTarget home (decoded slot) d slot
      to = set.to two

      remote_home : IsHome home regions domain size (remote_space d)
      remote_home = set.remote_home two

      plain_at : is_table d.remote ≡ false → remote_at slot d ≡ start_of d.remote + d.remote_byte
      plain_at t = rw t refl

      remote_in_side : (n : ℕ) (w : Bool) (need : Need) (p : ℕ) → RemoteSide d n w → within (place_at (access regions domain r.rkey r.remote n need) n) p ≡ true → InSide w p
      remote_in_side n w need p x =
          elim (access regions domain r.rkey r.remote n need) as (λ o. access regions domain r.rkey r.remote n need ≡ o → within (place_at o n) p ≡ true → InSide w p) [
            | Err e ↦ λ f h. absurd (false≢true h)
            | Ok s ↦ λ f h.
                let spot = access_spot regions domain r.rkey r.remote n need (home (remote_space d)).region s (ap (region_of regions) to.key ∙ remote_home.found) f in
                let offset = to.offset in
                let at : s.at ≡ base_of home (remote_space d) + remote_at slot d = let e = spot.0 in omega arith in
                range_in w (side_at d.remote d.remote_byte x.len x.written) (remote_at slot d) n p (inr x.is) x.writes x.long plain_at (λ t. let full = table_fills home (remote_space d) (sym (table_space d.remote) ∙ t) remote_home.told in let e = spot.1 in omega (arith, full.0, full.1)) tt (ap (λ (a : ℕ). holds (record { at = a; len = n }) p) (sym at) ∙ one_place s n p h)
          ] refl

    -- the two places of a CAS or an ADD
    two_places : (a b : List Place) (p : ℕ) → within (a ++ b) p ≡ true → (within a p ≡ true) ⊎ (within b p ≡ true)
    two_places [] b p h = inr h
    two_places (c ∷ a) b p h =
        elim (or_cases (holds c p) (within (a ++ b) p) h) [
          | inl e ↦ inl (or_left (holds c p) (within a p) e)
          | inr e ↦ elim (two_places a b p e) [ inl f ↦ inl (or_right (holds c p) (within a p) f) | inr f ↦ inr f ]
        ]

    -- a byte that the draft's landing may write lies in a side that is written
    pub writes_in : is_table d.local ≡ false → (p : ℕ) → within (footprint regions domain (decoded slot)) p ≡ true → InSide true p
    writes_in plain p h = by_op (opcode_in slot) refl (ap (λ (op : Opcode). within (written_by regions domain r op) p) (sym (opcode_read slot)) ∙ h)
      where
        follows : (op : Opcode) → opcode_in slot ≡ op → Follows d op
        follows op e = subst (λ (x : Opcode). Follows d x) e set.follows

        two_sided : (op : Opcode) → opcode_in slot ≡ op → is_send op ≡ false → is_send (opcode_in slot) ≡ false
        two_sided op e f = ap is_send e ∙ f

        length_is : r.length ≡ d.length
        length_is = set.from.len

        by_op : (op : Opcode) → opcode_in slot ≡ op → within (written_by regions domain r op) p ≡ true → InSide true p
        by_op Noop e g = absurd (false≢true g)
        by_op Write e g = remote_in_side (two_sided Write e refl) r.length true _ p (subst (λ (n : ℕ). RemoteSide d n true) (sym length_is) (write_remote d (follows Write e))) g
        by_op Read e g = local_in r.length true _ p (subst (λ (n : ℕ). LocalSide d n true) (sym length_is) (read_local d (follows Read e))) (λ t. ap acts_locally e) plain g
        by_op Cas e g = elim (two_places (place_at (remote_side regions domain Cas r) 8) (place_at (local_side regions domain Cas r) 8) p g) [
          | inl f ↦ remote_in_side (two_sided Cas e refl) 8 true _ p (cas_remote d (follows Cas e)) f
          | inr f ↦ local_in 8 true _ p (cas_local d (follows Cas e)) (λ t. ap acts_locally e) plain f
        ]
        by_op Add e g = elim (two_places (place_at (remote_side regions domain Add r) 8) (place_at (local_side regions domain Add r) 8) p g) [
          | inl f ↦ remote_in_side (two_sided Add e refl) 8 true _ p (add_remote d (follows Add e)) f
          | inr f ↦ local_in 8 true _ p (add_local d (follows Add e)) (λ t. ap acts_locally e) plain f
        ]
        by_op Send e g = absurd (false≢true g)
        by_op _ e g = absurd (false≢true g)

    -- and one that it reads lies in a side, where its step goes through
    pub reads_in : is_table d.local ≡ false → is_table d.remote ≡ false → (p : ℕ) → holds (reads_by home d slot (opcode_in slot)) p ≡ true → InSide false p
    reads_in plain plain_remote p h = by_op (opcode_in slot) refl h
      where
        follows : (op : Opcode) → opcode_in slot ≡ op → Follows d op
        follows op e = subst (λ (x : Opcode). Follows d x) e set.follows

        none : (x : ℕ) → holds (record { at = 0; len = 0 }) x ≡ true → ⊥
        none x e = let bounds = holds_bounds (record { at = 0; len = 0 }) x e in let high = bounds.1 in omega arith

        local_range : (n : ℕ) → LocalSide d n false → holds (range_of home (local_space d) (local_at d) n) p ≡ true → InSide false p
        local_range n x g = range_in false (side_at d.local d.local_byte x.len x.written) (local_at d) n p (inl x.is) x.writes x.long (λ t. refl) (λ t. absurd (false≢true (sym plain ∙ t))) (λ t. absurd (false≢true t)) g

        remote_range : (n : ℕ) → RemoteSide d n false → holds (range_of home (remote_space d) (remote_at slot d) n) p ≡ true → InSide false p
        remote_range n x g = range_in false (side_at d.remote d.remote_byte x.len x.written) (remote_at slot d) n p (inr x.is) x.writes x.long (λ t. rw t refl) (λ t. absurd (false≢true (sym plain_remote ∙ t))) tt g

        unasked : (n : ℕ) → RemoteSide d n true → RemoteSide d n false
        unasked n x = record { len = x.len; written = x.written; is = x.is; long = x.long; writes = λ e. absurd (false≢true e) }

        by_op : (op : Opcode) → opcode_in slot ≡ op → holds (reads_by home d slot op) p ≡ true → InSide false p
        by_op Write e g = local_range d.length (write_local d (follows Write e)) g
        by_op Read e g = remote_range d.length (read_remote d (follows Read e)) g
        by_op Cas e g = remote_range 8 (unasked 8 (cas_remote d (follows Cas e))) g
        by_op Add e g = remote_range 8 (unasked 8 (add_remote d (follows Add e))) g
        by_op Send e g = local_range d.length (send_local d (follows Send e)) g
        by_op _ e g = absurd (none p g)
