-- A block between two of its instructions, and at its end.
use Rattle.std.specs.Prelude.{◌≡◌, ℕ, suc, ◌<◌, Bool, true, false, List, [], ◌∷◌, ◌++◌, length, slice_get, Some}
use Rattle.redn_graph.specs.declared.types.Block.{Block}
use Rattle.redn_graph.specs.declared.types.End.{End}
use Rattle.redn_graph.specs.declared.types.End.TheVariants.{Reply}
use Rattle.redn_graph.specs.Fits.{Things, FitsBlock}
use Rattle.redn_graph.specs.Run.{GraphState, in_hand}
use Rattle.redn_segment.specs.declared.types.SlotRef.{SlotRef}
use Rattle.redn_segment.specs.declared.types.Draft.{Draft}
use Rattle.redn_segment.specs.declared.types.Space.TheVariants as space
use Rattle.redn_segment.specs.Building.{drafts_of}
use Rattle.redn_segment.specs.Plain.{Bytes}
use Rattle.redn_segment.specs.Primed.{Primed, IsWhole, HasRoom}
use Rattle.redn_segment.specs.Effects.{slot_behind}
use Rattle.redn_block.specs.Blocks.{Part, parts_of, part_segments, part_size, block_segments, ring_start, BlockFits, BlockWords}
use Rattle.redn_block.specs.Matches.{Same, IsAt, Chooses}
use Rattle.redn_proof_block.specs.Left.{Course}

-- a chain's course, what its graph names, and one of its blocks with the ring that it has
pub record Round : Type 0 where
  pub course : Course
  pub things : Things
  pub first : ℕ
  pub number : ℕ  -- of the block
  pub block : Block
  pub ring : ℕ

-- the block is the graph's, and fits
pub record IsRound (most : ℕ) (r : Round) : Type 0 where
  pub there : slice_get r.course.graph.blocks r.number ≡ Some r.block
  pub fits : FitsBlock r.things r.block
  pub small : BlockWords r.block
  pub targets : BlockFits most r.first r.block

abbrev pub is_last : List (List Draft) → Bool
is_last [] = true
is_last (ds ∷ rest) = false

-- where a segment is: the place of its instruction or end in the block, and whether it is the first one there, and the last
pub record Mark : Type 0 where
  pub place : ℕ
  pub opens : Bool
  pub closes : Bool

abbrev pub marks_of : ℕ → Bool → List (List Draft) → List Mark
marks_of place opens [] = []
marks_of place opens (ds ∷ rest) = record { place = place; opens = opens; closes = is_last rest } ∷ marks_of place false rest

-- those of parts that follow one another
abbrev pub all_marks : ℕ → SlotRef → List Part → List Mark
all_marks place at [] = []
all_marks place at (p ∷ ps) = marks_of place true (part_segments at p) ++ all_marks (suc place) (slot_behind at (part_size at p)) ps

module _ (r : Round) where
  abbrev pub segments : List (List Draft)
  segments = block_segments r.first r.ring r.block

  abbrev pub drafts : List Draft
  drafts = drafts_of segments

  abbrev pub begins : SlotRef
  begins = ring_start r.ring

  abbrev pub last : SlotRef
  last = slot_behind begins (length drafts)

  abbrev pub marks : List Mark
  marks = all_marks 0 begins (parts_of r.first r.block)

  -- what holds between any two parts of the block, which began with the state b
  pub record Stands (b t : Bytes) : Type 0 where
    pub whole : IsWhole t
    pub room : HasRoom t
    pub primed : Primed drafts begins drafts t
    pub descriptors : (ring : ℕ) → t (space.Descriptor ring) ≡ b (space.Descriptor ring)

  pub record AtPart (b : Bytes) (place : ℕ) (x : GraphState) (t : Bytes) : Type 0 where
    pub is_at : IsAt r.number place x
    pub same : Same r.things (in_hand r.course.mail x) x.cells t
    pub stands : Stands b t

  -- the graph is at the beginning of one of its blocks, and the last ENABLE has the descriptor of that block's ring
  pub record GoesOn (b : Bytes) (z : GraphState) (t : Bytes) : Type 0 where
    pub inside : z.block < r.things.blocks
    pub is_at : IsAt z.block 0 z
    pub chooses : Chooses r.first last b t z

  -- a reply ends its chain, and every other end goes on
  abbrev pub EndsAs : End → Bytes → GraphState → Bytes → Type 0
  EndsAs (Reply words) b z t = z.ended ≡ true
  EndsAs _ b z t = GoesOn b z t

  -- after the end of the block
  pub record AtEnd (b : Bytes) (z : GraphState) (t : Bytes) : Type 0 where
    pub same : Same r.things (in_hand r.course.mail z) z.cells t
    pub over : EndsAs r.block.end b z t
    pub stands : Stands b t
