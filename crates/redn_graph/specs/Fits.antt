-- That blocks name only what there is.
use Rattle.std.specs.Prelude.{◌≡◌, ℕ, ◌<◌, ◌≤◌, true, List, length, Some, slice_get, All}
use Rattle.redn_kernel.specs.declared.types.TableInit.{TableInit}
use Rattle.redn_kernel.specs.declared.types.Kernel.{Kernel, every-Kernel}
use Rattle.redn_kernel.specs.declared.types.Cell.{Cell}
use Rattle.redn_kernel.specs.declared.types.Cell.TheVariants as cell
use Rattle.redn_kernel.specs.Program.{is_writable, IsSoundStatement}
use Rattle.redn_graph.specs.declared.types.Instr.{Instr}
use Rattle.redn_graph.specs.declared.types.Instr.TheVariants.{Set, Move, Add, Load, Store}
use Rattle.redn_graph.specs.declared.types.End.{End}
use Rattle.redn_graph.specs.declared.types.End.TheVariants.{Jump, Test48, Test64, Probe, Reply}
use Rattle.redn_kernel.specs.declared.types.ChainInit.{ChainInit}
use Rattle.redn_graph.specs.declared.types.Block.{Block}
use Rattle.redn_graph.specs.declared.types.Graph.{Graph}
use Rattle.redn_graph.specs.declared.build.Builder.{Builder}
use Rattle.redn_graph.specs.declared.build.Tail.{Tail}
use Rattle.redn_graph.specs.declared.build.Tail.TheVariants as tail

-- what there is
pub record Things : Type 0 where
  pub blocks : ℕ
  pub hidden : ℕ
  pub vars : ℕ
  pub args : ℕ
  pub tables : List TableInit

module _ (n : Things) where
  abbrev pub IsCell : Cell → Type 0
  IsCell (cell.Var x) = x < n.vars
  IsCell (cell.Hidden k) = k < n.hidden
  IsCell (cell.Argument i) = i < n.args
  IsCell (cell.Num v) = Unit {0}

  -- a variable or a hidden cell
  abbrev pub IsTarget : Cell → Type 0
  IsTarget (cell.Var x) = x < n.vars
  IsTarget (cell.Hidden k) = k < n.hidden
  IsTarget _ = ⊥

  -- a table that is stored into is writable
  abbrev pub FitsInstr : Instr → Type 0
  FitsInstr (Set to v) = IsTarget to
  FitsInstr (Move to from) = IsTarget to × IsCell from
  FitsInstr (Add to by) = IsTarget to × IsCell by
  FitsInstr (Load to table offset) = IsTarget to × (table < length n.tables) × IsCell offset
  FitsInstr (Store table offset from) = (is_writable (slice_get n.tables table) ≡ true) × IsCell offset × IsCell from

  abbrev pub FitsEnd : End → Type 0
  FitsEnd (Jump to) = to < n.blocks
  FitsEnd (Test48 left right met unmet) = IsCell left × IsCell right × (met < n.blocks) × (unmet < n.blocks)
  FitsEnd (Test64 left right met unmet) = IsCell left × IsCell right × (met < n.blocks) × (unmet < n.blocks)
  FitsEnd (Probe to table offset key hit miss) = IsTarget to × (table < length n.tables) × IsCell offset × IsCell key × (hit < n.blocks) × (miss < n.blocks)
  FitsEnd (Reply cells) = All IsCell cells × (1 ≤ length cells) × (length cells ≤ 8)

  -- a jump stands behind an instruction, so no block is empty
  abbrev pub IsFull : List Instr → End → Type 0
  IsFull instrs (Jump to) = 1 ≤ length instrs
  IsFull instrs _ = Unit {0}

  pub record FitsCode (instrs : List Instr) (end : End) : Type 0 where
    pub instrs_fit : All FitsInstr instrs
    pub end_fits : FitsEnd end
    pub full : IsFull instrs end

  abbrev pub FitsBlock : Block → Type 0
  FitsBlock b = FitsCode b.instrs b.end

  abbrev pub FitsTail : Tail → Type 0
  FitsTail (tail.To l) = l < n.blocks
  FitsTail (tail.Open instrs end) = FitsCode instrs.items end

  -- blocks were added that fit, and the others are as they were
  pub record Fitted (old new : List Block) : Type 0 where
    pub longer : length old ≤ length new
    pub kept : (l : ℕ) → l < length old → slice_get new l ≡ slice_get old l
    pub added : (l : ℕ) (b : Block) → length old ≤ l → l < length new → slice_get new l ≡ Some b → FitsBlock b

  -- there are as many as the builder has, and the hidden cells of searches
  pub record IsWithin (b : Builder) : Type 0 where
    pub few_blocks : length b.blocks ≤ n.blocks
    pub few_hidden : b.hidden ≤ n.hidden
    pub searches : 2 ≤ n.hidden

  abbrev pub IsWell : Kernel → Type 0
  IsWell statement = every-Kernel (IsSoundStatement n.tables n.vars) statement

  abbrev pub AllWell : List Kernel → Type 0
  AllWell body = All IsWell body

-- what a chain and its blocks have
abbrev pub things_of : List TableInit → ChainInit → Graph → Things
things_of tables c g =
    record { blocks = length g.blocks; hidden = g.hidden; vars = length c.vars; args = c.args; tables = tables }

-- every block fits, and the entry is one of them
pub record FitsGraph (tables : List TableInit) (c : ChainInit) (g : Graph) : Type 0 where
  pub entry : g.entry < length g.blocks
  pub each : All (FitsBlock (things_of tables c g)) g.blocks

-- that of a chain whose statements are sound with these tables
abbrev pub FitsChain : List TableInit → ChainInit → Graph → Type 0
FitsChain tables c g = c.args ≤ length c.vars → AllWell (things_of tables c g) c.body → FitsGraph tables c g
