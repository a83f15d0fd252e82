-- Where the spaces of a chain lie in memory.
use Rattle.std.specs.Prelude.{◌≡◌, ℕ, ◌+◌, ◌*◌, ◌%◌, ◌≤◌, ◌⊎◌, Bool, true, false, List, Some}
use Rattle.redn_words.specs.declared.types.Region.{Region}
use Rattle.redn_words.specs.declared.types.Request.{Request}
use Rattle.redn_words.specs.Access.{region_of}
use Rattle.redn_kernel.specs.declared.types.Cell.{Cell}
use Rattle.redn_kernel.specs.declared.types.Cell.TheVariants.{Var}
use Rattle.redn_segment.specs.declared.types.Space.{Space}
use Rattle.redn_segment.specs.declared.types.Space.TheVariants as space
use Rattle.redn_segment.specs.declared.types.Draft.{Draft}
use Rattle.redn_segment.specs.Sites.{kind_of, same_space}
use Rattle.redn_segment.specs.Plain.{local_space, remote_space, local_at, remote_at}

-- the region of a space, and where in it the space begins
pub record Home : Type 0 where
  pub region : Region
  pub offset : ℕ

-- events tell offsets of variables and in tables
abbrev pub IsToldCell : Cell → ℕ → Type 0
IsToldCell (Var i) offset = offset ≡ 8 * i
IsToldCell _ offset = Unit {0}

abbrev pub IsTold : Space → ℕ → Type 0
IsTold (space.Cell c) offset = IsToldCell c offset
IsTold (space.Table t) offset = offset ≡ 0
IsTold _ offset = Unit {0}

module _ (home : Space → Home) where
  abbrev pub base_of : Space → ℕ
  base_of p = (home p).region.base + (home p).offset

  -- how many bytes a space has; a table fills its region
  abbrev pub room_of : Space → ℕ
  room_of (space.Cell c) = 8
  room_of space.Reply = 64
  room_of space.Key = 8
  room_of (space.Scratch i) = 8
  room_of (space.Descriptor ring) = 16
  room_of (space.Slot q) = 64
  room_of (space.Table t) = (home (space.Table t)).region.len

  -- a space lies in its region, which is in memory and of the right kind and domain
  pub record IsHome (regions : List Region) (domain size : ℕ) (p : Space) : Type 0 where
    pub found : region_of regions (home p).region.key ≡ Some (home p).region
    pub domain_is : (home p).region.domain ≡ domain
    pub kind_is : (home p).region.kind ≡ kind_of p
    pub inside : (home p).offset + room_of p ≤ (home p).region.len
    pub ends : (home p).region.base + (home p).region.len ≤ size
    pub aligned : (home p).offset % 8 ≡ 0
    pub told : IsTold p (home p).offset

  -- a request has the local side of a draft, and its length
  pub record HasLocal (r : Request) (d : Draft) : Type 0 where
    pub key : r.lkey ≡ (home (local_space d)).region.key
    pub offset : r.local ≡ (home (local_space d)).offset + local_at d
    pub len : r.length ≡ d.length

  -- and the remote side as its slot says it now
  pub record HasRemote (r : Request) (d : Draft) (slot : List ℕ) : Type 0 where
    pub key : r.rkey ≡ (home (remote_space d)).region.key
    pub offset : r.remote ≡ (home (remote_space d)).offset + remote_at slot d

  -- these spaces lie apart, and inside a memory of this size
  pub record LieApart (mine : Space → Bool) (size : ℕ) : Type 0 where
    pub inside : (p : Space) → mine p ≡ true → base_of p + room_of p ≤ size
    pub apart : (p q : Space) → mine p ≡ true → mine q ≡ true → same_space p q ≡ false
        → (base_of p + room_of p ≤ base_of q) ⊎ (base_of q + room_of q ≤ base_of p)
