-- The requests of a segment land in any order.
use Rattle.std.specs.Prelude.{◌≡◌, ℕ, ◌+◌, ◌<◌, ◌≤◌, ◌⊎◌, true, false, Bool, List, [], ◌∷◌, length, Some, slice_get, IsPermutation}
use Rattle.std.specs.List.{range_with_len, All}
use Rattle.redn_words.specs.declared.types.Opcode.{Opcode}
use Rattle.redn_words.specs.declared.types.Opcode.TheVariants.{Noop, Send}
use Rattle.redn_words.specs.declared.types.Region.{Region}
use Rattle.redn_words.specs.Words.{bytes_at}
use Rattle.redn_words.specs.Requests.{decoded}
use Rattle.redn_words.specs.Landings.{Landing, changed, landing}
use Rattle.redn_segment.specs.declared.types.SlotRef.{SlotRef}
use Rattle.redn_segment.specs.declared.types.Space.{Space}
use Rattle.redn_segment.specs.declared.types.Space.TheVariants as space
use Rattle.redn_segment.specs.declared.types.Draft.{Draft}
use Rattle.redn_segment.specs.Plain.{local_space, remote_space, opcode_in}
use Rattle.redn_segment.specs.Effects.{slot_behind}
use Rattle.redn_segment.specs.Homes.{Home, IsHome, HasLocal, HasRemote, LieApart, base_of}

-- a slot's opcode is its draft's, or the draft is a NOOP that was turned, and its sides have a word each
abbrev pub Follows : Draft → Opcode → Type 0
Follows d op = (op ≡ d.op) ⊎ ((d.op ≡ Noop) × (8 ≤ d.length))

abbrev pub is_send : Opcode → Bool
is_send Send = true
is_send _ = false

module _ (home : Space → Home) (mine : Space → Bool) (regions : List Region) (domain : ℕ) where
  -- a slot's request has the places of its draft's sites. A SEND has no remote side
  pub record IsPlaced (size : ℕ) (d : Draft) (slot : List ℕ) : Type 0 where
    pub follows : Follows d (opcode_in slot)
    pub from : HasLocal home (decoded slot) d
    pub local_home : IsHome home regions domain size (local_space d)
    pub local_mine : mine (local_space d) ≡ true
    pub to : is_send (opcode_in slot) ≡ false → HasRemote home (decoded slot) d slot
    pub remote_home : is_send (opcode_in slot) ≡ false → IsHome home regions domain size (remote_space d)
    pub remote_mine : is_send (opcode_in slot) ≡ false → mine (remote_space d) ≡ true

  module _ (queue index : ℕ) (first : SlotRef) where
    -- the bytes that slot k of the segment has now
    abbrev pub slot_now : List ℕ → ℕ → List ℕ
    slot_now memory k = bytes_at memory (base_of home (space.Slot (slot_behind first k))) 64

    -- the landing of the request that stands in slot k now
    abbrev pub landing_now : List ℕ → ℕ → Landing
    landing_now memory k = landing regions (record { chain = domain; queue = queue; index = index + k }) memory (decoded (slot_now memory k))

    -- what stands in memory after some landings, the first one first
    abbrev pub landed : List ℕ → List ℕ → List ℕ
    landed memory [] = memory
    landed memory (k ∷ ks) = landed (changed memory (landing_now memory k).writes) ks

    -- each of them reads, writes and shows what it would at the start, and so do slots keep their bytes
    abbrev pub LandAlike : List ℕ → List ℕ → List ℕ → Type 0
    LandAlike start memory [] = Unit {0}
    LandAlike start memory (k ∷ ks) =
        (slot_now memory k ≡ slot_now start k) × (landing_now memory k ≡ landing_now start k)
        × LandAlike start (changed memory (landing_now memory k).writes) ks

    -- drafts stand in the slots of a segment, and all spaces that they name lie apart
    pub record ArePlaced (ds : List Draft) (memory : List ℕ) : Type 0 where
      pub regions_end : All (λ (r : Region). r.base + r.len ≤ length memory) regions
      pub apart : LieApart home mine (length memory)
      pub slots : (k : ℕ) → k < length ds → mine (space.Slot (slot_behind first k)) ≡ true
      pub each : (k : ℕ) (d : Draft) → slice_get ds k ≡ Some d → IsPlaced (length memory) d (slot_now memory k)

    -- the order doesn't matter: each landing is the same, and so is what they leave
    abbrev pub OrderIsFree : List Draft → List ℕ → Type 0
    OrderIsFree ds memory =
        (order : List ℕ) → IsPermutation (range_with_len 0 (length ds)) order
        → LandAlike memory memory order × (landed memory order ≡ landed memory (range_with_len 0 (length ds)))

-- wherever these drafts are placed so from this slot on, they land in any order
abbrev pub LandInAnyOrder : List Draft → SlotRef → Type 0
LandInAnyOrder ds first =
    (home : Space → Home) (mine : Space → Bool) (regions : List Region) (domain queue index : ℕ) (memory : List ℕ)
    → ArePlaced home mine regions domain queue index first ds memory → OrderIsFree home mine regions domain queue index first ds memory
