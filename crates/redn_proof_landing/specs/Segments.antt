-- Segments of rings that lie in memory, and their windows.
use Rattle.std.specs.Prelude.{◌≡◌, ◌≢◌, ℕ, zero, suc, ◌+◌, ◌*◌, ◌<◌, Bool, true, false, List, [], ◌∷◌, length, slice_get, Some, None}
use Rattle.std.specs.List.{list_all}
use Rattle.redn_words.specs.declared.types.Region.{Region}
use Rattle.redn_words.specs.declared.types.QueueRow.{QueueRow}
use Rattle.redn_words.specs.declared.types.Opcode.{Opcode}
use Rattle.redn_words.specs.declared.types.Opcode.TheVariants.{Read, Cas, Add}
use Rattle.redn_words.specs.Requests.{decoded}
use Rattle.redn_segment.specs.declared.types.Side.{Side}
use Rattle.redn_segment.specs.declared.types.Space.{Space}
use Rattle.redn_segment.specs.declared.types.Space.TheVariants as space
use Rattle.redn_segment.specs.declared.types.Draft.{Draft}
use Rattle.redn_segment.specs.Sites.{space_of, is_table}
use Rattle.redn_segment.specs.Plain.{Put, Outcome, Went, Bad, acts, opcode_in, local_space, remote_space}
use Rattle.redn_segment.specs.Footprints.{both_sides, ends_inside, all_free, spares}
use Rattle.redn_segment.specs.Homes.{Home, IsHome, HasLocal, base_of}
use Rattle.redn_segment.specs.Orders.{Follows, is_send}
use Rattle.redn_proof_window.specs.Windows.{Ending, Opening}
use Rattle.redn_proof_landing.specs.Homes.{HasTarget, Granted, seen_in}

-- tables by their spaces
abbrev pub is_table_space : Space → Bool
is_table_space (space.Table t) = true
is_table_space _ = false

-- whether an opcode writes its local side
abbrev pub acts_locally : Opcode → Bool
acts_locally Read = true
acts_locally Cas = true
acts_locally Add = true
acts_locally _ = false

-- what drafts of a compiled chain come to
abbrev pub IsGood : Outcome → Type 0
IsGood Bad = ⊥
IsGood _ = Unit {0}

-- what holds of a draft's slot, so that its bytes are known
pub record IsSet (home : Space → Home) (regions : List Region) (domain size : ℕ) (d : Draft) (slot : List ℕ) : Type 0 where
  pub from : HasLocal home (decoded slot) d
  pub local_home : IsHome home regions domain size (local_space d)
  pub to : is_send (opcode_in slot) ≡ false → HasTarget home (decoded slot) d slot
  pub remote_home : is_send (opcode_in slot) ≡ false → IsHome home regions domain size (remote_space d)
  pub follows : Follows d (opcode_in slot)
  pub inside : both_sides ends_inside d ≡ true

-- what a slot needs to land by its opcode
pub record CanLand (home : Space → Home) (regions : List Region) (domain size : ℕ) (d : Draft) (slot : List ℕ) (op : Opcode) : Type 0 where
  pub from : HasLocal home (decoded slot) d
  pub local_home : IsHome home regions domain size (local_space d)
  pub to : is_send op ≡ false → HasTarget home (decoded slot) d slot
  pub remote_home : is_send op ≡ false → IsHome home regions domain size (remote_space d)
  pub granted : Granted home op d

abbrev pub slot_space : ℕ → ℕ → Space
slot_space ring i = space.Slot (record { ring = ring; slot = i })

-- the bytes of n slots of a ring, from one on
abbrev pub copies : (Space → Home) → ℕ → List ℕ → ℕ → ℕ → List (List ℕ)
copies home ring m first zero = []
copies home ring m first (suc n) = seen_in home m (slot_space ring first) ∷ copies home ring m (first + 1) n

-- a ring that lies in memory
pub record Lying (home : Space → Home) (mine : Space → Bool) (ring : ℕ) (row : QueueRow) : Type 0 where
  pub at : (i : ℕ) → i < row.slots → base_of home (slot_space ring i) ≡ row.base + 64 * i
  pub its : (i : ℕ) → i < row.slots → mine (slot_space ring i) ≡ true

-- a segment of a ring, as it is opened in a lap
pub record Part : Type 0 where
  pub first : ℕ  -- its first slot
  pub drafts : List Draft  -- with its lap requests
  pub gates : ℕ  -- how many gates it has
  pub ending : Ending
  pub event : ℕ  -- the place of the draft that may show an event

-- the window that opens such a segment, in a lap
abbrev pub segment_window : (Space → Home) → List Region → ℕ → QueueRow → (ℕ → Bool) → Part → ℕ → ℕ → List ℕ → Opening
segment_window home regions ring row ours g lap counter m =
    record {
      regions = regions;
      queue = ring;
      row = row;
      from = lap * row.slots + g.first;
      first_gate = None;
      bodies = copies home ring m g.first (length g.drafts);
      gates = copies home ring m (g.first + length g.drafts) g.gates;
      ending = g.ending;
      counter = counter;
      memory = m;
      event = g.event;
      ours = ours;
    }

abbrev pub slot_bytes : (Space → Home) → ℕ → Part → List ℕ → ℕ → List ℕ
slot_bytes home ring g m k = seen_in home m (slot_space ring (g.first + k))

-- what a segment's tests say
pub record IsApart (mine : Space → Bool) (ring : ℕ) (g : Part) : Type 0 where
  pub inside : list_all (both_sides ends_inside) g.drafts ≡ true
  pub free : all_free g.drafts ≡ true
  pub spared : list_all (both_sides (spares (record { ring = ring; slot = g.first }) (length g.drafts + g.gates))) g.drafts ≡ true
  pub placed : list_all (both_sides (λ (a : Side). mine (space_of a.site))) g.drafts ≡ true
  pub private : (k : ℕ) (d : Draft) → slice_get g.drafts k ≡ Some d → (is_table d.local ≡ false) × (k ≢ g.event → is_table d.remote ≡ false)

-- what its drafts do on the memory of the opening: the event's whatever tables hold
pub record GoesThrough (home : Space → Home) (regions : List Region) (ring : ℕ) (row : QueueRow) (g : Part) (m : List ℕ) : Type 0 where
  pub set : (k : ℕ) (d : Draft) → slice_get g.drafts k ≡ Some d → IsSet home regions row.domain (length m) d (slot_bytes home ring g m k)
  pub granted : (k : ℕ) (d : Draft) → slice_get g.drafts k ≡ Some d → Granted home (opcode_in (slot_bytes home ring g m k)) d
  pub good : (k : ℕ) (d : Draft) → slice_get g.drafts k ≡ Some d
      → IsGood (acts row.domain (seen_in home m) (slot_bytes home ring g m k) d (opcode_in (slot_bytes home ring g m k)))
  pub silent : (k : ℕ) (d : Draft) → slice_get g.drafts k ≡ Some d → k ≢ g.event
      → (us : List Put) × (acts row.domain (seen_in home m) (slot_bytes home ring g m k) d (opcode_in (slot_bytes home ring g m k)) ≡ Went us [])
