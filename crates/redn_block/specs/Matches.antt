-- What drafts do beside what a graph does.
use Rattle.std.specs.Prelude.{◌≡◌, ℕ, true, false, List, length, Some, slice_get}
use Rattle.redn_words.specs.Words.{bytes_at}
use Rattle.redn_kernel.specs.declared.types.Cell.{Cell}
use Rattle.redn_kernel.specs.CoreRun.{Cells, held}
use Rattle.redn_graph.specs.declared.types.Block.{Block}
use Rattle.redn_graph.specs.declared.types.Graph.{Graph}
use Rattle.redn_graph.specs.Fits.{Things, IsCell, FitsBlock}
use Rattle.redn_graph.specs.Run.{Mail, GraphState, in_hand}
use Rattle.redn_segment.specs.declared.types.SlotRef.{SlotRef}
use Rattle.redn_segment.specs.declared.types.Draft.{Draft}
use Rattle.redn_segment.specs.declared.types.Space.TheVariants as space
use Rattle.redn_segment.specs.Building.{drafts_of}
use Rattle.redn_segment.specs.Plain.{Bytes, View, placed, Outcome, Went, Faults, Bad, runs}
use Rattle.redn_segment.specs.Primed.{Primed, IsWhole, HasRoom, SeesBytes}
use Rattle.redn_segment.specs.Effects.{word_of, slot_behind}
use Rattle.redn_block.specs.Plays.{Played}
use Rattle.redn_block.specs.Blocks.{IsWord, block_segments, ring_of, ring_start}

-- the words of a site state are those that a graph's cells hold
pub record Same (n : Things) (words : List ℕ) (c : Cells) (s : Bytes) : Type 0 where
  pub many : length c.vars ≡ n.vars
  pub cells : (a : Cell) → IsCell n a → IsWord a → word_of s a ≡ held words c a

-- before an instruction or an end
pub record IsAt (block place : ℕ) (x : GraphState) : Type 0 where
  pub block_is : x.block ≡ block
  pub place_is : x.place ≡ place
  pub taking_not : x.taking ≡ false
  pub runs_on : x.ended ≡ false

-- the last ENABLE of a ring, whose operands are the descriptor of the block where a graph goes on; a graph that has ended goes nowhere
abbrev pub Chooses : ℕ → SlotRef → Bytes → Bytes → GraphState → Type 0
Chooses first last s t z = bytes_at (t (space.Slot last)) 40 16 ≡ s (space.Descriptor (ring_of first z.block))

-- a block has ended: the graph is at the beginning of the block whose ring the last ENABLE names, or its chain has ended
pub data IsOver (first : ℕ) (last : SlotRef) (s : Bytes) (z : GraphState) (t : Bytes) : Type 0 where
  Onward : (block : ℕ) → IsAt block 0 z → Chooses first last s t z → IsOver first last s z t
  Ended : z.ended ≡ true → IsOver first last s z t

module _ (chain : ℕ) (mail : Mail) (g : Graph) (n : Things) where
  -- drafts leave what the steps of the graph leave that show the same, or both end by a fault
  abbrev pub Beside : GraphState → (GraphState → Bytes → Type 0) → Bytes → Outcome → Type 0
  Beside x Then s (Went us events) =
      (z : GraphState) × Played chain mail g x events z × Same n (in_hand mail z) z.cells (placed s us) × Then z (placed s us)
  Beside x Then s (Faults us events) = (z : GraphState) × Played chain mail g x events z × (z.ended ≡ true)
  Beside x Then s Bad = ⊥

  -- from every state in which their slots are primed, the drafts of a block do what the graph's steps do from its beginning on
  abbrev pub DraftsFollow : ℕ → ℕ → ℕ → Block → Type 0
  DraftsFollow first ring block b =
      let ds : List Draft = drafts_of (block_segments first ring b) in
      (view : View) → view.number ≡ chain → SeesBytes view → (s : Bytes) → IsWhole s → HasRoom s → Primed ds (ring_start ring) ds s
      → (x : GraphState) → IsAt block 0 x → Same n (in_hand mail x) x.cells s
      → Beside x (IsOver first (slot_behind (ring_start ring) (length ds)) s) s (runs view (ring_start ring) ds s)

-- so for each block of a graph, whatever its chain's number and mail are
abbrev pub BlockFollows : ℕ → ℕ → Block → Type 0
BlockFollows first ring b =
    (chain : ℕ) (mail : Mail) (g : Graph) (n : Things) (block : ℕ) → slice_get g.blocks block ≡ Some b → FitsBlock n b
    → DraftsFollow chain mail g n first ring block b
