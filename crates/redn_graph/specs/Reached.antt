-- Which blocks can be reached.
use Rattle.std.specs.Prelude.{◌≡◌, ℕ, ◌<◌, ◌⊎◌, List, [], ◌∷◌, length, Some, slice_get}
use Rattle.redn_graph.specs.declared.types.End.{End}
use Rattle.redn_graph.specs.declared.types.End.TheVariants.{Jump, Test48, Test64, Probe, Reply}
use Rattle.redn_graph.specs.declared.types.Block.{Block}
use Rattle.redn_graph.specs.declared.types.Graph.{Graph}

-- an end can lead to this block
abbrev pub CanGoTo : End → ℕ → Type 0
CanGoTo (Jump to) l = l ≡ to
CanGoTo (Test48 left right met unmet) l = (l ≡ met) ⊎ (l ≡ unmet)
CanGoTo (Test64 left right met unmet) l = (l ≡ met) ⊎ (l ≡ unmet)
CanGoTo (Probe to table offset key hit miss) l = (l ≡ hit) ⊎ (l ≡ miss)
CanGoTo (Reply words) l = ⊥

-- one block leads to another
pub record LeadsTo (blocks : List Block) (k l : ℕ) : Type 0 where
  pub block : Block
  pub there : slice_get blocks k ≡ Some block
  pub target : CanGoTo block.end l

-- and that to others, the last of which is this
abbrev pub IsPath : List Block → ℕ → List ℕ → ℕ → Type 0
IsPath blocks k [] l = k ≡ l
IsPath blocks k (m ∷ path) l = LeadsTo blocks k m × IsPath blocks m path l

-- from the entry each block can be reached
abbrev pub EachReached : Graph → Type 0
EachReached g = (l : ℕ) → l < length g.blocks → (path : List ℕ) × IsPath g.blocks g.entry path l

-- an end with other numbers of blocks
abbrev pub renumbered : (ℕ → ℕ) → End → End
renumbered f (Jump to) = Jump (f to)
renumbered f (Test48 left right met unmet) = Test48 left right (f met) (f unmet)
renumbered f (Test64 left right met unmet) = Test64 left right (f met) (f unmet)
renumbered f (Probe to table offset key hit miss) = Probe to table offset key (f hit) (f miss)
renumbered f (Reply words) = Reply words

-- a block of new blocks is one of old ones, its targets under other numbers
pub record Was (old : List Block) (f : ℕ → ℕ) (k : ℕ) (now : Block) : Type 0 where
  pub block : Block
  pub there : slice_get old (f k) ≡ Some block
  pub instrs : block.instrs ≡ now.instrs
  pub end : block.end ≡ renumbered f now.end
