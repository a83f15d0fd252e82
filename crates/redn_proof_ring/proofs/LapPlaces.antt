-- Where the slots of a ring with laps lie, and which bytes the bodies of a segment may write.
use Rattle.std.proofs.Common.{◌≡◌, ◌≢◌, ℕ, zero, suc, ◌+◌, ◌-◌, ◌<◌, ◌≤◌, inl, inr, Bool, true, false, length, refl, ap, ◌∙◌, subst, arith}
use Rattle.std.specs.Prelude.{nat_le, Some}
use Rattle.std.proofs.lemmas.Bool.{false≢true, cases_lt, and_from, or_left, or_right, le-leb, lt-ltb}
use Rattle.redn_segment.proofs.Sides.{IsSide, side_at}
use Rattle.redn_segment.proofs.SameSpace.{same_space_is, table_space}
use Rattle.redn_words.specs.declared.types.Opcode.{Opcode}
use Rattle.redn_words.specs.declared.types.Opcode.TheVariants.{Noop, Write, Read, Cas, Add, Send}
use Rattle.redn_segment.specs.declared.types.Side.{Side}
use Rattle.redn_segment.specs.declared.types.Space.{Space}
use Rattle.redn_segment.specs.declared.types.Draft.{Draft}
use Rattle.redn_segment.proofs.Touching.{In, one_space}
use Rattle.redn_proof_landing.specs.Segments.{is_table_space}
use Rattle.redn_recycle.specs.Laps.{Ring, IsRing, bodies_of as ring_bodies, gates_of, wait_of, enable_of}
use Rattle.redn_segment.specs.Footprints.{local_by, remote_by, from}
use Rattle.redn_segment.specs.Homes.{Home, base_of, room_of, LieApart}
use Rattle.redn_segment.specs.Plain.{local_space, remote_space}
use Rattle.redn_segment.specs.Primed.{writes_at, writes_local, writes_remote}
use Rattle.redn_segment.specs.Sites.{space_of, start_of, is_table, same_space}

module _ (name : ℕ) (r : Ring) (h : IsRing name r) where
  -- a segment begins behind the one before it
  pub behind : (k i : ℕ) → i + suc k ≤ r.segments → r.first (suc i) ≤ r.first (i + suc k)
  behind zero i l = let at : i + 1 ≡ suc i = omega arith in let same : r.first (i + 1) ≡ r.first (suc i) = ap r.first at in omega arith
  behind (suc k) i l =
      let rest = behind k i (omega arith) in
      let next = h.follows (i + suc k) (omega arith) in
      let at : i + suc (suc k) ≡ suc (i + suc k) = omega arith in
      let same : r.first (i + suc (suc k)) ≡ r.first (suc (i + suc k)) = ap r.first at in
      omega arith

  pub before : (i j : ℕ) → i < j → j ≤ r.segments → r.first (suc i) ≤ r.first j
  before i j l m =
      let at : i + suc (j - suc i) ≡ j = omega arith in
      let h : r.first (suc i) ≤ r.first (i + suc (j - suc i)) = behind (j - suc i) i (omega arith) in
      subst (λ (k : ℕ). r.first (suc i) ≤ r.first k) at h

  pub record GatesAt (j : ℕ) : Type 0 where
    pub wait : wait_of name r j ≡ r.first j + length (ring_bodies name r j)
    pub enable : enable_of name r j ≡ r.first j + length (ring_bodies name r j) + 1
    pub next : r.first (suc j) ≡ r.first j + length (ring_bodies name r j) + 2

  pub gates_at : (j : ℕ) → j < r.segments → gates_of name r j ≡ 2 → GatesAt j
  gates_at j l two = let next = h.follows j l in record { wait = omega arith; enable = omega arith; next = omega arith }

  -- places in different segments differ
  pub apart_places : (i j a b : ℕ) → i < r.segments → j < r.segments → i ≢ j → r.first i ≤ a → a < r.first (suc i) → r.first j ≤ b → b < r.first (suc j) → a ≢ b
  apart_places i j a b l m ne low high least most e =
      elim (cases_lt i j) [
        | inl lt ↦ let f = before i j lt (omega arith) in omega arith
        | inr ge ↦ let f = before j i (omega (arith, ne)) (omega arith) in omega arith
      ]

  pub record Place (j a : ℕ) : Type 0 where
    pub low : r.first j ≤ a
    pub high : a < r.first (suc j)

  pub wait_in : (j : ℕ) → j < r.segments → gates_of name r j ≡ 2 → Place j (wait_of name r j)
  wait_in j l two = let g = gates_at j l two in let a = g.wait in let b = g.next in record { low = omega arith; high = omega arith }

  pub enable_in : (j : ℕ) → j < r.segments → gates_of name r j ≡ 2 → Place j (enable_of name r j)
  enable_in j l two = let g = gates_at j l two in let a = g.enable in let b = g.next in record { low = omega arith; high = omega arith }

  pub body_in : (j k : ℕ) → j < r.segments → k < length (ring_bodies name r j) → Place j (r.first j + k)
  body_in j k l m = let next = h.follows j l in record { low = omega arith; high = omega arith }

  -- so slots in different places differ
  pub places_differ : (i j a b : ℕ) → i < r.segments → j < r.segments → Place i a → Place j b → i ≢ j → a ≢ b
  places_differ i j a b l m x y ne e = apart_places i j a b l m ne x.low x.high y.low y.high e

-- which byte a written side has
side_writes : (d : Draft) (a : Side) (p : Space) (i : ℕ) → IsSide d a → a.writes ≡ true → same_space (space_of a.site) p ≡ true → from a ≤ i → i < from a + a.len → writes_at p i d ≡ true
side_writes d a p i (inl is) w same low high = by_op d.op is refl
  where
    local_hit : (len : ℕ) (v : Bool) → Some (side_at d.local d.local_byte len v) ≡ Some a → writes_local d d.op ≡ len → writes_at p i d ≡ true
    local_hit len v e f =
        let its : side_at d.local d.local_byte len v ≡ a = cc in
        let here : same_space (local_space d) p ≡ true = ap (λ (x : Side). same_space (space_of x.site) p) its ∙ same in
        let start : start_of d.local + d.local_byte ≡ from a = ap (λ (x : Side). from x) its in
        let long : len ≡ a.len = ap (λ (x : Side). x.len) its in
        or_left _ _ (and_from (same_space (local_space d) p) _ here (and_from (nat_le (start_of d.local + d.local_byte) i) _ (le-leb (start_of d.local + d.local_byte) i (omega arith)) (lt-ltb i (start_of d.local + d.local_byte + writes_local d d.op) (omega arith))))

    unwritten : (len : ℕ) → Some (side_at d.local d.local_byte len false) ≡ Some a → ⊥
    unwritten len e = let its : side_at d.local d.local_byte len false ≡ a = cc in false≢true (ap (λ (x : Side). x.writes) its ∙ w)

    by_op : (op : Opcode) → local_by d op ≡ Some a → d.op ≡ op → writes_at p i d ≡ true
    by_op Noop e f = local_hit d.length true e (ap (writes_local d) f)
    by_op Write e f = absurd (unwritten d.length e)
    by_op Read e f = local_hit d.length true e (ap (writes_local d) f)
    by_op Cas e f = local_hit 8 true e (ap (writes_local d) f)
    by_op Add e f = local_hit 8 true e (ap (writes_local d) f)
    by_op Send e f = absurd (unwritten d.length e)
    by_op _ e f = absurd (cc)
side_writes d a p i (inr is) w same low high = by_op d.op is refl
  where
    remote_hit : (len : ℕ) (v : Bool) → Some (side_at d.remote d.remote_byte len v) ≡ Some a → writes_remote d d.op ≡ len → writes_at p i d ≡ true
    remote_hit len v e f =
        let its : side_at d.remote d.remote_byte len v ≡ a = cc in
        let here : same_space (remote_space d) p ≡ true = ap (λ (x : Side). same_space (space_of x.site) p) its ∙ same in
        let start : start_of d.remote + d.remote_byte ≡ from a = ap (λ (x : Side). from x) its in
        let long : len ≡ a.len = ap (λ (x : Side). x.len) its in
        or_right _ _ (and_from (same_space (remote_space d) p) _ here (and_from (nat_le (start_of d.remote + d.remote_byte) i) _ (le-leb (start_of d.remote + d.remote_byte) i (omega arith)) (lt-ltb i (start_of d.remote + d.remote_byte + writes_remote d d.op) (omega arith))))

    unwritten : (len : ℕ) → Some (side_at d.remote d.remote_byte len false) ≡ Some a → ⊥
    unwritten len e = let its : side_at d.remote d.remote_byte len false ≡ a = cc in false≢true (ap (λ (x : Side). x.writes) its ∙ w)

    by_op : (op : Opcode) → remote_by d op ≡ Some a → d.op ≡ op → writes_at p i d ≡ true
    by_op Noop e f = remote_hit d.length true e (ap (writes_remote d) f)
    by_op Write e f = remote_hit d.length true e (ap (writes_remote d) f)
    by_op Read e f = absurd (unwritten d.length e)
    by_op Cas e f = remote_hit 8 true e (ap (writes_remote d) f)
    by_op Add e f = remote_hit 8 true e (ap (writes_remote d) f)
    by_op _ e f = absurd (cc)

-- a written byte of memory that lies in a private space is one that the draft may write there
pub written_byte : (home : Space → Home) (mine : Space → Bool) (size : ℕ) → LieApart home mine size → (d : Draft) (a : Side) (p : Space) (i b : ℕ) → IsSide d a → a.writes ≡ true → mine (space_of a.site) ≡ true → mine p ≡ true → is_table_space p ≡ false → In home a b → b ≡ base_of home p + i → i < room_of home p → writes_at p i d ≡ true
written_byte home mine size apart d a p i b its w mine_a mine_p plain x e l =
    let same : same_space (space_of a.site) p ≡ true = one_space home mine size apart (space_of a.site) p x.at i b mine_a mine_p x.is x.room e l in
    let is : space_of a.site ≡ p = same_space_is (space_of a.site) p same in
    let flat : is_table a.site ≡ false = table_space a.site ∙ ap is_table_space is ∙ plain in
    let bounds = x.bounds flat in
    let base : base_of home (space_of a.site) ≡ base_of home p = ap (base_of home) is in
    let at = x.is in
    side_writes d a p i its w same (omega (arith, bounds.0, bounds.1)) (omega (arith, bounds.0, bounds.1))
