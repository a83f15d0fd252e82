-- Blocks that were found, and their new numbers.
use Rattle.std.specs.Prelude.{◌≡◌, ℕ, ◌+◌, ◌<◌, ◌≤◌, ◌^◌, nat_lt, false, if◌then◌else◌, List, [], ◌∷◌, length, sum_by, Option, Some, None, slice_get}
use Rattle.std.specs.Prelude.{slice_index, slice_index_or}
use Rattle.redn_kernel.specs.declared.types.ChainInit.{ChainInit}
use Rattle.redn_kernel.specs.CoreRun.{Cells}
use Rattle.redn_graph.specs.declared.types.End.{End}
use Rattle.redn_graph.specs.declared.types.Block.{Block}
use Rattle.redn_graph.specs.declared.reach.Found.{Found}
use Rattle.redn_graph.specs.declared.types.Graph.{Graph}
use Rattle.redn_graph.specs.Run.{GraphState}
use Rattle.redn_graph.specs.Follows.{Follows}
use Rattle.redn_graph.specs.Slots.{block_slots, all_slots}
use Rattle.redn_graph.specs.Idle.{idle_at}
use Rattle.redn_graph.specs.Reached.{CanGoTo, renumbered, Was, EachReached}

-- a block that wasn't found has the number of all blocks
abbrev pub unseen : ℕ → ℕ → ℕ
unseen n v = if nat_lt v n then 0 else 1

pub record IsFound (f : Found) : Type 0 where
  pub few : length f.numbers.items < 2 ^ 32
  pub back : (t : ℕ) → t < length f.numbers.items → slice_index f.numbers.items t < length f.numbers.items →
      slice_get f.order.items (slice_index f.numbers.items t) ≡ Some t
  pub within : (k t : ℕ) → slice_get f.order.items k ≡ Some t → t < length f.numbers.items
  pub counted : length f.order.items + sum_by (unseen (length f.numbers.items)) f.numbers.items ≡ length f.numbers.items

-- the slots of blocks that weren't found, and of those that were
abbrev pub unseen_slots : ℕ → List ℕ → List Block → ℕ
unseen_slots n [] blocks = 0
unseen_slots n (v ∷ numbers) [] = 0
unseen_slots n (v ∷ numbers) (b ∷ blocks) = (if nat_lt v n then 0 else block_slots b) + unseen_slots n numbers blocks

abbrev pub slots_or_none : Option Block → ℕ
slots_or_none None = 0
slots_or_none (Some b) = block_slots b

abbrev pub slots_at : List Block → ℕ → ℕ
slots_at blocks t = slots_or_none (slice_get blocks t)

abbrev pub slots_in : List Block → Found → ℕ
slots_in blocks f = sum_by (slots_at blocks) f.order.items + unseen_slots (length f.numbers.items) f.numbers.items blocks

-- some more were found, and all their slots are still counted
pub record More (old new : Found) : Type 0 where
  pub same_count : length new.numbers.items ≡ length old.numbers.items
  pub longer : length old.order.items ≤ length new.order.items
  pub kept : (k t : ℕ) → slice_get old.order.items k ≡ Some t → slice_get new.order.items k ≡ Some t
  pub slots : (blocks : List Block) → length blocks ≡ length old.numbers.items → slots_in blocks new ≡ slots_in blocks old

-- a block has this number, and none was found but it
pub record Numbered (old new : Found) (block l : ℕ) : Type 0 where
  pub more : More old new
  pub there : slice_get new.order.items l ≡ Some block
  pub own : (k : ℕ) → length old.order.items ≤ k → k < length new.order.items → k ≡ l

-- the old number of a block
abbrev pub was_at : Found → ℕ → ℕ
was_at f k = slice_index_or f.order.items k (length f.numbers.items)

-- an end has the new numbers of its targets, and none was found but they
pub record Renamed (old new : Found) (end now : End) : Type 0 where
  pub more : More old new
  pub same : end ≡ renumbered (was_at new) now
  pub within : (l : ℕ) → CanGoTo now l → l < length new.order.items
  pub own : (k : ℕ) → length old.order.items ≤ k → k < length new.order.items → CanGoTo now k

-- an end's targets are there
abbrev pub TargetsThere : ℕ → End → Type 0
TargetsThere n end = (l : ℕ) → CanGoTo end l → l < n

abbrev pub EachThere : List Block → Type 0
EachThere blocks = (k : ℕ) (b : Block) → slice_get blocks k ≡ Some b → TargetsThere (length blocks) b.end

-- all blocks that can be reached, under new numbers, and no others
pub record Kept (g h : Graph) : Type 0 where
  pub at : ℕ → ℕ
  pub was : (k : ℕ) (b : Block) → slice_get h.blocks k ≡ Some b → Was g.blocks at k b
  pub past : (k : ℕ) → slice_get h.blocks k ≡ None → slice_get g.blocks (at k) ≡ None
  pub entry : at h.entry ≡ g.entry
  pub there : h.entry < length h.blocks
  pub targets : EachThere h.blocks
  pub reached : EachReached h
  pub slots : all_slots h.blocks ≤ all_slots g.blocks
  pub hidden : h.hidden ≡ g.hidden

-- at the start of a block
abbrev pub at_block : ℕ → Cells → GraphState
at_block l s = record { block = l; place = 0; taking = false; cells = s; ended = false }

-- blocks follow a chain, and one that does nothing leads where no more may be spent than at its own start
pub record FollowsIdly (chain : ChainInit) (g : Graph) : Type 0 where
  pub follows : Follows chain g
  pub idly : (k l : ℕ) (s : Cells) → idle_at g.blocks k ≡ Some l → follows.worth (at_block l s) ≤ follows.worth (at_block k s)
