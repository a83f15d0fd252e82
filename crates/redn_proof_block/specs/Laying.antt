-- A chain's graph in rings: each block has the ring of its number, with laps.
use Rattle.std.specs.Prelude.{◌≡◌, ℕ, ◌+◌, ◌-◌, ◌≤◌, Bool, true, false, ◌==◌, List, [], length, slice_get, get_or, Some, All}
use Rattle.std.specs.List.{list_any}
use Rattle.redn_words.specs.declared.types.Need.{Need}
use Rattle.redn_words.specs.declared.types.Opcode.{Opcode}
use Rattle.redn_words.specs.declared.types.Opcode.TheVariants.{Read, Add}
use Rattle.redn_words.specs.declared.types.Obs.{Obs}
use Rattle.redn_words.specs.Access.{grants}
use Rattle.redn_kernel.specs.Program.{is_writable}
use Rattle.redn_graph.specs.declared.types.Block.{Block}
use Rattle.redn_graph.specs.declared.types.End.TheVariants as end
use Rattle.redn_graph.specs.Fits.{Things, FitsBlock}
use Rattle.redn_segment.specs.declared.types.Space.{Space}
use Rattle.redn_segment.specs.declared.types.Space.TheVariants as space
use Rattle.redn_segment.specs.declared.types.Draft.{Draft}
use Rattle.redn_segment.specs.Sites.{kind_of, is_table}
use Rattle.redn_segment.specs.Building.{drafts_of}
use Rattle.redn_segment.specs.Plain.{Bytes}
use Rattle.redn_segment.specs.Primed.{Primed}
use Rattle.redn_segment.specs.Homes.{room_of}
use Rattle.redn_segment.specs.Opcodes.{MayHave}
use Rattle.redn_segment.specs.Orders.{is_send}
use Rattle.redn_segment.specs.Rights.{allows}
use Rattle.redn_recycle.specs.Laps.{slot_of}
use Rattle.redn_recycle.specs.Lapped.{segment_at, start_of}
use Rattle.redn_proof_ring.specs.Plans.{Plan, is_ring, IsPrivate}
use Rattle.redn_proof_ring.specs.Layouts.{Layout, plan_of, IsLayout}
use Rattle.redn_proof_block.specs.Names.{Rings}
use Rattle.redn_proof_block.specs.Laps.{Mirrors, LapsStand}
use Rattle.redn_block.specs.Blocks.{block_segments, BlockWords}
use Rattle.redn_proof_block.specs.Truth.{IsTrueBy}
use Rattle.redn_proof_block.specs.Left.{Course, Falls}
use Rattle.redn_proof_block.specs.Parts.{Round, drafts, begins}
use Rattle.redn_proof_block.specs.Shares.{counts_of, place_in, begins_in, closes_in}
use Rattle.redn_proof_block.specs.Stages as stages
use Rattle.redn_proof_block.specs.Stages.{Ghost, Starts, Later}

-- where the rings lie, the chain's course, what its graph names, and the tables that it may store into
pub record Laying : Type 0 where
  pub layout : Layout
  pub course : Course
  pub things : Things
  pub written : List ℕ

abbrev pub no_block : Block
no_block = record { instrs = []; end = end.Jump 0 }

-- an opcode of a draft's slot: only tables are read, and a slot is turned into no SEND
pub record Turned (d : Draft) (op : Opcode) : Type 0 where
  pub reads : op ≡ Read → is_table d.remote ≡ true
  pub sends : is_send op ≡ is_send d.op

module _ (l : Laying) where
  abbrev pub plan : Plan
  plan = plan_of l.layout

  abbrev pub segments : ℕ → List (List Draft)
  segments r = l.layout.segments r

  abbrev pub rings_of : Rings
  rings_of = record { is_ring = is_ring plan; segments = segments }

  -- the number of the block of a ring, and the block with that ring
  abbrev pub number_at : ℕ → ℕ
  number_at r = r - l.layout.first_queue

  abbrev pub block_at : ℕ → Block
  block_at r = get_or l.course.graph.blocks (number_at r) no_block

  abbrev pub round_at : ℕ → Round
  round_at r = record { course = l.course; things = l.things; first = l.layout.first_queue; number = number_at r; block = block_at r; ring = r }

  -- each block is a ring of the layout, fits, and stores only into tables that may be written; and the regions of the chain's spaces grant what
  -- drafts may need there
  pub record IsLaying : Type 0 where
    pub laid : IsLayout l.layout
    pub number : l.course.number ≡ l.layout.domain
    pub many : l.layout.rings ≡ length l.course.graph.blocks
    pub blocks : l.things.blocks ≡ l.layout.rings
    pub fits : All (FitsBlock l.things) l.course.graph.blocks
    pub small : All BlockWords l.course.graph.blocks
    pub segments_are : (r : ℕ) → is_ring plan r ≡ true → segments r ≡ block_segments l.layout.first_queue r (block_at r)
    pub writes : (t : ℕ) → is_writable (slice_get l.things.tables t) ≡ true → list_any (λ (u : ℕ). u == t) l.written ≡ true
    pub rights : (p : Space) (need : Need) → l.layout.mine p ≡ true → allows l.written (kind_of p) need ≡ true
        → grants (l.layout.home p).region.rights need ≡ true

  -- an opcode that a slot of a ring may have: one that its draft may have, or a lap request's own
  pub record Takes (r j k : ℕ) (op : Opcode) : Type 0 where
    pub own : (d : Draft) → slice_get (segment_at (segments r) j) k ≡ Some d → MayHave (drafts_of (segments r)) (slot_of r (start_of (segments r) j + k)) d op
    pub lap : length (segment_at (segments r) j) ≤ k → op ≡ Add

  -- how many segments each instruction of a ring's block has, and the end
  abbrev pub counts_at : ℕ → List ℕ
  counts_at r = counts_of l.layout.first_queue r (block_at r)

  -- whether a segment is the first one of its instruction or end, the place of that in the block, and whether the segment is the last one
  abbrev pub opens_at : ℕ → ℕ → Bool
  opens_at r j = begins_in (counts_at r) j

  abbrev pub place_at : ℕ → ℕ → ℕ
  place_at r j = place_in (counts_at r) j

  abbrev pub closes_at : ℕ → ℕ → Bool
  closes_at r j = closes_in (counts_at r) j

  abbrev pub AreTrue : Bytes → List Obs → Type 0
  AreTrue u events = All (IsTrueBy (λ (t : ℕ). u (space.Table t))) events

  -- the run of a segment over some tables makes the graph's steps that show the same, or ends by the fault that they end by. What it shows is true of
  -- those tables; and at the first segment of an instruction or end the graph is there, and not ahead
  pub record Tells (r j : ℕ) (u : Bytes) (y : Ghost) (events : List Obs) (z : Ghost) : Type 0 where
    pub starts : Starts (round_at r) (opens_at r j) (place_at r j) y
    pub steps : stages.Tells l.course (closes_at r j) y events z
    pub seen : AreTrue u events

  pub record Fails (r j : ℕ) (u : Bytes) (y : Ghost) (events : List Obs) : Type 0 where
    pub starts : Starts (round_at r) (opens_at r j) (place_at r j) y
    pub falls : Falls l.course y.ahead y.state events
    pub seen : AreTrue u events

  -- a ring is entered: the graph is at the beginning of its block, in a state that a state without laps mirrors; in that one the slots of all rings are primed
  pub record Entry (v : ℕ) (y : Ghost) (s : Bytes) : Type 0 where
    pub plain : Bytes
    pub here : Later (round_at v) plain 0 y.state plain
    pub ahead_not : y.ahead ≡ false
    pub mirrors : Mirrors rings_of v l.layout.domain (l.layout.base v) 0 plain s
    pub primed : (r : ℕ) → is_ring plan r ≡ true → Primed (drafts (round_at r)) (begins (round_at r)) (drafts (round_at r)) plain
    pub laps : (r : ℕ) → is_ring plan r ≡ true → LapsStand rings_of r l.layout.domain (l.layout.base r) s
    pub sized : (p : Space) → IsPrivate plan p → length (s p) ≡ room_of l.layout.home p
