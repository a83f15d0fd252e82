-- Where a chain is in its rings, and what memory holds when a window opens there.
use Rattle.std.specs.Prelude.{◌≡◌, ◌≢◌, ℕ, suc, ◌+◌, ◌*◌, ◌<◌, ◌≤◌, ◌⊎◌, true, false, ◌==◌, List, [], length, if◌then◌else◌}
use Rattle.redn_words.specs.declared.types.QueueRow.{QueueRow}
use Rattle.redn_words.specs.declared.types.Obs.{Obs}
use Rattle.redn_words.specs.Words.{bytes_at}
use Rattle.redn_words.specs.Requests.{encoded}
use Rattle.redn_segment.specs.declared.types.Space.{Space}
use Rattle.redn_segment.specs.declared.types.Space.TheVariants as space
use Rattle.redn_segment.specs.declared.types.Draft.{Draft}
use Rattle.redn_segment.specs.Plain.{Bytes, Put, Went, acts, opcode_in, local_space, placed}
use Rattle.redn_segment.specs.Primed.{IsBytes, covers}
use Rattle.redn_segment.specs.Orders.{Follows}
use Rattle.redn_proof_window.specs.Windows.{Opening}
use Rattle.redn_proof_window.specs.Scripts.{Script}
use Rattle.redn_proof_landing.specs.Homes.{Granted, seen_in, puts_of_first}
use Rattle.redn_proof_landing.specs.Requested.{IsReady}
use Rattle.redn_proof_landing.specs.Segments.{IsGood, slot_space, segment_window, is_table_space, acts_locally}
use Rattle.redn_recycle.specs.Laps.{Ring, bodies_of, gates_of, wait_of, enable_of, count_at, limit_at, opening_at, wait_request, enable_request, last_enable, descriptor_bytes}
use Rattle.redn_proof_ring.specs.Plans.{Plan, is_ring, slots_in, part_of, body_slot, body_request, IsOwn, IsBody, IsPrivate}

-- a state with other tables
abbrev pub tabled : Bytes → Bytes → Bytes
tabled s u p = if is_table_space p then u p else s p

-- the tables hold bytes
abbrev pub HasBytes : Bytes → Type 0
HasBytes s = (k : ℕ) → IsBytes (s (space.Table k))

module _ (c : Plan) where
  -- the slot of a body in a state, and what the body does
  abbrev pub slot_in : Bytes → ℕ → ℕ → ℕ → List ℕ
  slot_in s r j k = s (slot_space r (body_slot c r j k))

  -- what a segment leaves: the puts of its bodies, the event's by the tables of its moment, and what the event showed
  pub record Leaves (r j : ℕ) (s t : Bytes) : Type 0 where
    pub each : ℕ → List Put
    pub tables : Bytes
    pub bytes : HasBytes tables
    pub events : List Obs
    pub plain : (k : ℕ) (d : Draft) → IsBody c r j k d → k ≢ (c.ring r).event j
        → acts c.domain s (slot_in s r j k) d (opcode_in (slot_in s r j k)) ≡ Went (each k) []
    pub event : (d : Draft) → IsBody c r j ((c.ring r).event j) d
        → acts c.domain (tabled s tables) (slot_in s r j ((c.ring r).event j)) d (opcode_in (slot_in s r j ((c.ring r).event j)))
        ≡ Went (each ((c.ring r).event j)) events
    pub silent : length (bodies_of r (c.ring r) j) ≤ (c.ring r).event j → events ≡ []
    pub shows : (p : Space) → IsPrivate c p → t p ≡ placed s (puts_of_first each (length (bodies_of r (c.ring r) j))) p

-- what a chain is at besides the places of its rings: a ghost, which states are fine before a segment of a ring, and which ghost follows behind it
pub record Meaning (c : Plan) : Type 1 where
  pub Ghost : Type 0
  pub Fine : ℕ → ℕ → Ghost → Bytes → Type 0
  pub Then : (r j : ℕ) (y : Ghost) (s t : Bytes) → Leaves c r j s t → Ghost → Type 0

module _ (c : Plan) (G : Meaning c) where
  -- what the drafts of a ring promise of the states before its segments. A lap request promises nothing: it is seen here what it does
  pub record Promises : Type 0 where
    pub follows : (r j k : ℕ) (d : Draft) (y : G.Ghost) (s : Bytes) → is_ring c r ≡ true → j < (c.ring r).segments → G.Fine r j y s → IsOwn c r j k d
        → Follows d (opcode_in (slot_in c s r j k))
    pub granted : (r j k : ℕ) (d : Draft) (y : G.Ghost) (s : Bytes) → is_ring c r ≡ true → j < (c.ring r).segments → G.Fine r j y s → IsOwn c r j k d
        → Granted c.home (opcode_in (slot_in c s r j k)) d
    pub good : (r j k : ℕ) (d : Draft) (y : G.Ghost) (s : Bytes) → is_ring c r ≡ true → j < (c.ring r).segments → G.Fine r j y s → IsOwn c r j k d
        → IsGood (acts c.domain s (slot_in c s r j k) d (opcode_in (slot_in c s r j k)))
    pub silent : (r j k : ℕ) (d : Draft) (y : G.Ghost) (s : Bytes) → is_ring c r ≡ true → j < (c.ring r).segments → G.Fine r j y s → IsOwn c r j k d
        → k ≢ (c.ring r).event j → (us : List Put) × (acts c.domain s (slot_in c s r j k) d (opcode_in (slot_in c s r j k)) ≡ Went us [])
    pub keeps : (r j k : ℕ) (d : Draft) (y : G.Ghost) (s : Bytes) (v : ℕ) → is_ring c r ≡ true → j < (c.ring r).segments → G.Fine r j y s
        → IsOwn c r j k d → local_space d ≡ space.Descriptor v → acts_locally (opcode_in (slot_in c s r j k)) ≡ false
    pub tables : (r j : ℕ) (y : G.Ghost) (s t : Bytes) → G.Fine r j y s → HasBytes t → ((p : Space) → IsPrivate c p → t p ≡ s p) → G.Fine r j y t
    pub onward : (r j : ℕ) (y : G.Ghost) (s t : Bytes) → is_ring c r ≡ true → suc j < (c.ring r).segments → G.Fine r j y s → HasBytes t
        → (l : Leaves c r j s t) → (z : G.Ghost) × G.Then r j y s t l z × G.Fine r (suc j) z t
    pub target : (r j : ℕ) (y : G.Ghost) (s : Bytes) → is_ring c r ≡ true → suc j ≡ (c.ring r).segments → gates_of r (c.ring r) j ≡ 2
        → G.Fine r j y s → (v : ℕ) × (is_ring c v ≡ true) × (bytes_at (s (slot_space r (enable_of r (c.ring r) j))) 40 16 ≡ s (space.Descriptor v))
        × ((t : Bytes) → HasBytes t → (l : Leaves c r j s t) → (z : G.Ghost) × G.Then r j y s t l z × G.Fine v 0 z t)

  -- where the chain is: before a segment of a ring, and before which lap each ring is
  pub record Turn : Type 0 where
    pub ring : ℕ
    pub segment : ℕ
    pub laps : ℕ → ℕ
    pub ghost : G.Ghost
    pub ring_in : is_ring c ring ≡ true
    pub segment_in : segment < (c.ring ring).segments

  -- a ring at rest is before its first segment
  abbrev pub segment_of : Turn → ℕ → ℕ
  segment_of x r = if r == x.ring then x.segment else 0

  abbrev pub window_at : Turn → List ℕ → Opening
  window_at x m =
      let r : Ring = c.ring x.ring in
      segment_window c.home c.regions x.ring r.row c.ours (part_of c x.ring x.segment) (x.laps x.ring) (x.laps x.ring * r.segments + x.segment) m

  -- each slot is its request, but for what drafts write; gates and descriptors are those of their laps
  pub record Ready (x : Turn) (m : List ℕ) : Type 0 where
    pub size : length m ≡ c.size
    pub few : (r : ℕ) → is_ring c r ≡ true → slots_in c r * x.laps r ≤ c.most
    pub drafts : (r j k : ℕ) (d : Draft) → is_ring c r ≡ true → j < (c.ring r).segments → IsBody c r j k d
        → IsReady (c.written r (body_slot c r j k)) (body_request c r j k d) (seen_in c.home m (slot_space r (body_slot c r j k)))
    pub waits : (r j : ℕ) → is_ring c r ≡ true → j < (c.ring r).segments → gates_of r (c.ring r) j ≡ 2
        → seen_in c.home m (slot_space r (wait_of r (c.ring r) j))
        ≡ encoded (wait_request r (c.ring r) (count_at r (c.ring r) (x.laps r) (segment_of x r) j))
    pub enables : (r j : ℕ) → is_ring c r ≡ true → suc j < (c.ring r).segments
        → seen_in c.home m (slot_space r (enable_of r (c.ring r) j))
        ≡ encoded (enable_request r (c.ring r) (limit_at r (c.ring r) (x.laps r) (segment_of x r) j))
    pub last : (r j : ℕ) → is_ring c r ≡ true → suc j ≡ (c.ring r).segments → gates_of r (c.ring r) j ≡ 2
        → IsReady (covers 40 16) (last_enable r (c.ring r)) (seen_in c.home m (slot_space r (enable_of r (c.ring r) j)))
    pub descriptors : (r : ℕ) → is_ring c r ≡ true
        → seen_in c.home m (space.Descriptor r) ≡ descriptor_bytes r (c.ring r) (opening_at r (c.ring r) (x.laps r) (segment_of x r))
    pub fine : G.Fine x.ring x.segment x.ghost (seen_in c.home m)

  -- how a chain goes on behind a window with gates: to the next segment of its ring, or to the first of the ring whose descriptor the last ENABLE
  -- has; and to which ghost
  pub record GoesTo (x y : Turn) (m n : List ℕ) : Type 0 where
    pub leaves : Leaves c x.ring x.segment (seen_in c.home m) (seen_in c.home n)
    pub follows : G.Then x.ring x.segment x.ghost (seen_in c.home m) (seen_in c.home n) leaves y.ghost
    pub way : ((y.ring ≡ x.ring) × (y.segment ≡ suc x.segment)) ⊎ ((suc x.segment ≡ (c.ring x.ring).segments) × (y.segment ≡ 0)
        × (bytes_at (seen_in c.home m (slot_space x.ring (enable_of x.ring (c.ring x.ring) x.segment))) 40 16
        ≡ seen_in c.home m (space.Descriptor y.ring)))

  -- where the queues of the rings at rest stand
  abbrev pub row_at : ℕ → QueueRow
  row_at q = (c.ring q).row

  abbrev pub head_at : Turn → ℕ → ℕ
  head_at x q = if is_ring c q then x.laps q * slots_in c q + (c.ring q).first (segment_of x q) else 0

  abbrev pub counted_at : Turn → ℕ → ℕ
  counted_at x q = if is_ring c q then x.laps q * (c.ring q).segments + segment_of x q else 0

  -- the windows of the rings, one after the other
  abbrev pub script_of : Script
  script_of = record { Point = Turn; window = window_at; Ready = Ready; ring = is_ring c; row = row_at; at = head_at; counted = counted_at; most = c.most }
