-- The rings of a chain as they are laid out in memory. A ring is named by the number of its queue.
use Rattle.std.specs.Prelude.{◌≡◌, ◌≢◌, ℕ, suc, ◌+◌, ◌^◌, ◌<◌, ◌≤◌, ◌⊎◌, Bool, true, false, ◌&&◌, List, length, slice_get, Some, nat_le, nat_lt, if◌then◌else◌}
use Rattle.redn_words.specs.declared.types.Region.{Region}
use Rattle.redn_words.specs.declared.types.Request.{Request}
use Rattle.redn_words.specs.declared.types.Opcode.TheVariants.{Add}
use Rattle.redn_words.specs.declared.limits.TheConstants.{RECEIVE_BASE}
use Rattle.redn_words.specs.Access.{EndsBy}
use Rattle.redn_words.specs.Slots.{IsNarrow}
use Rattle.redn_segment.specs.declared.types.SlotRef.{SlotRef}
use Rattle.redn_segment.specs.declared.types.Space.{Space}
use Rattle.redn_segment.specs.declared.types.Space.TheVariants as space
use Rattle.redn_segment.specs.declared.types.Draft.{Draft}
use Rattle.redn_segment.specs.Plain.{local_space, remote_space}
use Rattle.redn_segment.specs.Primed.{covers, writes_at}
use Rattle.redn_segment.specs.Homes.{Home, IsHome, LieApart, base_of, room_of}
use Rattle.redn_segment.specs.Orders.{is_send}
use Rattle.redn_proof_landing.specs.Homes.{Granted}
use Rattle.redn_proof_landing.specs.Requested.{requested, SparesFixed}
use Rattle.redn_proof_landing.specs.Segments.{Lying, Part, IsApart, is_table_space}
use Rattle.redn_proof_window.specs.Windows.{Ending, Last, By_gates}
use Rattle.redn_recycle.specs.Laps.{Ring, IsRing, is_send_last, bodies_of, gates_of, flags_at, wait_of, enable_of}

-- the segment of a last SEND is the last of all
abbrev pub ending_of : ℕ → Ring → ℕ → Ending
ending_of number r j = if is_send_last number r j then Last else By_gates

-- the queues of the rings follow one another
pub record Plan : Type 0 where
  pub regions : List Region
  pub domain : ℕ
  pub home : Space → Home
  pub mine : Space → Bool  -- the spaces that the chain names
  pub ours : ℕ → Bool  -- the bytes that no other chain writes
  pub size : ℕ  -- of memory
  pub first_queue : ℕ
  pub rings : ℕ
  pub ring : ℕ → Ring
  pub written : ℕ → ℕ → ℕ → Bool  -- whether a draft may write a byte of a slot of a ring
  pub most : ℕ  -- no index is above this one

module _ (c : Plan) where
  abbrev pub is_ring : ℕ → Bool
  is_ring q = nat_le c.first_queue q && nat_lt q (c.first_queue + c.rings)

  abbrev pub slots_in : ℕ → ℕ
  slots_in r = (c.ring r).row.slots

  abbrev pub part_of : ℕ → ℕ → Part
  part_of r j =
      record {
        first = (c.ring r).first j;
        drafts = bodies_of r (c.ring r) j;
        gates = gates_of r (c.ring r) j;
        ending = ending_of r (c.ring r) j;
        event = (c.ring r).event j;
      }

  abbrev pub body_slot : ℕ → ℕ → ℕ → ℕ
  body_slot r j k = (c.ring r).first j + k

  abbrev pub body_request : ℕ → ℕ → ℕ → Draft → Request
  body_request r j k d = requested c.home d (flags_at r (c.ring r) j k)

  -- a draft of a segment; a draft or lap request of it
  abbrev pub IsOwn : ℕ → ℕ → ℕ → Draft → Type 0
  IsOwn r j k d = slice_get ((c.ring r).drafts j) k ≡ Some d

  abbrev pub IsBody : ℕ → ℕ → ℕ → Draft → Type 0
  IsBody r j k d = slice_get (bodies_of r (c.ring r) j) k ≡ Some d

  -- a space of the chain that no other chain has
  pub record IsPrivate (p : Space) : Type 0 where
    pub its : c.mine p ≡ true
    pub plain : is_table_space p ≡ false

  -- where a written byte of a slot may lie: in the own ring, in no WAIT, in no ENABLE but the operands of the last, and in a slot of a body only
  -- where drafts may write
  pub record MayWrite (r : ℕ) (q : SlotRef) (i : ℕ) : Type 0 where
    pub ring_is : q.ring ≡ r
    pub waits : (j : ℕ) → j < (c.ring r).segments → gates_of r (c.ring r) j ≡ 2 → q.slot ≢ wait_of r (c.ring r) j
    pub enables : (j : ℕ) → j < (c.ring r).segments → gates_of r (c.ring r) j ≡ 2 → q.slot ≡ enable_of r (c.ring r) j
        → (suc j ≡ (c.ring r).segments) × (covers 40 16 i ≡ true)
    pub bodies : (j k : ℕ) (d : Draft) → j < (c.ring r).segments → IsBody r j k d → q.slot ≡ body_slot r j k → c.written r q.slot i ≡ true

  -- what a compiler lays out
  pub record IsLaid : Type 0 where
    pub rings : (r : ℕ) → is_ring r ≡ true → IsRing r (c.ring r)
    pub lie : (r : ℕ) → is_ring r ≡ true → Lying c.home c.mine r (c.ring r).row
    pub rows : (r : ℕ) → is_ring r ≡ true → ((c.ring r).row.domain ≡ c.domain) × ((c.ring r).row.managed ≡ true)
    pub numbered : c.first_queue + c.rings ≤ RECEIVE_BASE
    pub spaces : LieApart c.home c.mine c.size
    pub homes : (p : Space) → c.mine p ≡ true → IsHome c.home c.regions c.domain c.size p
    pub descriptors : (r : ℕ) → is_ring r ≡ true → c.mine (space.Descriptor r) ≡ true
    pub private : (p : Space) (i : ℕ) → IsPrivate p → i < room_of c.home p → c.ours (base_of c.home p + i) ≡ true
    pub ends : EndsBy c.size c.regions
    pub apart : (r j : ℕ) → is_ring r ≡ true → j < (c.ring r).segments → IsApart c.mine r (part_of r j)
    pub narrow : (r j k : ℕ) (d : Draft) → is_ring r ≡ true → j < (c.ring r).segments → IsBody r j k d → IsNarrow (body_request r j k d)
    pub fixed : (r j k : ℕ) (d : Draft) → is_ring r ≡ true → j < (c.ring r).segments → IsBody r j k d → SparesFixed (c.written r (body_slot r j k)) d
    pub lap_fixed : (r j k i : ℕ) → is_ring r ≡ true → j < (c.ring r).segments → length ((c.ring r).drafts j) ≤ k
        → k < length (bodies_of r (c.ring r) j) → c.written r (body_slot r j k) i ≡ false
    pub sides : (r j k : ℕ) (d : Draft) → is_ring r ≡ true → j < (c.ring r).segments → IsBody r j k d
        → (c.mine (local_space d) ≡ true) × (is_send d.op ≡ false → c.mine (remote_space d) ≡ true)
    pub lap_granted : (r j k : ℕ) (d : Draft) → is_ring r ≡ true → j < (c.ring r).segments → length ((c.ring r).drafts j) ≤ k → IsBody r j k d
        → Granted c.home Add d
    pub writes : (r j k : ℕ) (d : Draft) (q : SlotRef) (i : ℕ) → is_ring r ≡ true → j < (c.ring r).segments → IsOwn r j k d
        → writes_at (space.Slot q) i d ≡ true → MayWrite r q i
    pub no_descriptor : (r j k : ℕ) (d : Draft) (v : ℕ) → is_ring r ≡ true → j < (c.ring r).segments → IsOwn r j k d → remote_space d ≢ space.Descriptor v
    pub events : (r j : ℕ) → is_ring r ≡ true → j < (c.ring r).segments
        → ((c.ring r).event j < length ((c.ring r).drafts j)) ⊎ (length (bodies_of r (c.ring r) j) ≤ (c.ring r).event j)
    pub bound : (r : ℕ) → is_ring r ≡ true → (slots_in r ≤ 2 ^ 32) × ((c.ring r).segments ≤ slots_in r)
    pub few : c.most ≤ 2 ^ 62
