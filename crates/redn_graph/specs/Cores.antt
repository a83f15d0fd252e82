-- Code of core statements: what it does.
use Rattle.std.specs.Prelude.{◌≡◌, ℕ, ◌<◌, ◌≤◌, false, true, List, ◌++◌, length, reverse, All}
use Rattle.redn_kernel.specs.declared.types.Cell.{Cell}
use Rattle.redn_kernel.specs.declared.types.Cell.TheVariants as cell
use Rattle.redn_kernel.specs.declared.types.Core.{Core, every-Core}
use Rattle.redn_kernel.specs.declared.types.Core.TheOpen.{Core-F}
use Rattle.redn_kernel.specs.CoreRun.{with_hidden}
use Rattle.redn_kernel.specs.Costs.{search_worth, jump_worth}
use Rattle.redn_kernel.specs.Composes.{Remains, Point, DoesHere, branch, opens}
use Rattle.redn_graph.specs.declared.types.Instr.{Instr}
use Rattle.redn_graph.specs.declared.types.Instr.TheVariants.{Set, Move}
use Rattle.redn_graph.specs.declared.types.Block.{Block}
use Rattle.redn_graph.specs.declared.build.Tail.{Tail}
use Rattle.redn_graph.specs.declared.build.Tail.TheVariants as tail
use Rattle.redn_graph.specs.Code.{Meaning, Leads, Label, InstrRuns, Serves, Extends, Means, Compiled, meaning_at, worth_at}
use Rattle.redn_graph.specs.Idle.{same_hidden}

-- a cell is moved to a variable or hidden cell
abbrev pub cell_move : Cell → Cell → Instr
cell_move to (cell.Num n) = Set to n
cell_move to from = Move to from

-- a variable, or a hidden cell of searches
abbrev pub IsOwnTarget : Cell → Type 0
IsOwnTarget (cell.Var x) = Unit {0}
IsOwnTarget (cell.Hidden k) = k < 2
IsOwnTarget _ = ⊥

-- a core statement has such a target and does something, and a loop's body begins a block
unfoldable pub IsPlainCore : Core-F Core → Type 0
IsPlainCore (Core-F.Move to from) = IsOwnTarget to × (same_hidden to from ≡ false)
IsPlainCore (Core-F.Add to by) = IsOwnTarget to
IsPlainCore (Core-F.Load to table offset) = IsOwnTarget to
IsPlainCore (Core-F.Loop body) = opens body ≡ true
IsPlainCore (Core-F.Probe to table offset key hit miss) = IsOwnTarget to
IsPlainCore _ = Unit {0}

abbrev pub AllPlain : List Core → Type 0
AllPlain cores = All (every-Core IsPlainCore) cores

-- what is left of a statement, before what follows it
abbrev pub left_then : Remains → Meaning → Meaning
left_then r m h = r h ++ m h

-- whatever the hidden cells of searches hold
abbrev pub IgnoresSearches : Meaning → Type 0
IgnoresSearches m = (h : ℕ → ℕ) (k v : ℕ) → k < 2 → m (with_hidden h k v) ≡ m h

-- what follows does what the items say, where so much may be spent. It leads to blocks of the search or behind it
abbrev pub TailDoes : List Label → ℕ → Tail → Meaning → Type 0
TailDoes all worth (tail.To l) m = (worth_at all l ≤ search_worth) × ((h : ℕ → ℕ) → Leads 0 (m h) (meaning_at all l h))
TailDoes all worth (tail.Open instrs end) m = Serves all search_worth end (reverse instrs.items) m worth

abbrev pub PaysJump : ℕ → Tail → Type 0
PaysJump worth (tail.To l) = jump_worth ≤ worth
PaysJump worth (tail.Open instrs end) = Unit {0}

-- an instruction stands before what follows
abbrev pub Continues : Instr → Tail → Tail → Type 0
Continues instr before after =
    (all : List Label) (m next : Meaning) (worth left : ℕ) → InstrRuns instr m next worth left → PaysJump left before → TailDoes all left before next →
    TailDoes all worth after m

-- blocks were added, and code before what follows does what is left at a point
pub record CoresDo (old new : List Block) (exit : ℕ) (some : List Label) (p : Point) (m : Meaning) (after : Tail) : Type 0 where
  pub code : Compiled old new some 0 search_worth (tail.To exit) (left_then p.out m)
  pub does : (all : List Label) → Extends code.table all → TailDoes all p.worth after (left_then p.here m)

-- whatever the point and what follows mean. A `Leave` leads to the block of this number
abbrev pub CoresCompile : List Block → List Block → ℕ → List Core → Tail → Tail → Type 0
CoresCompile old new exit cores before after =
    (n : ℕ) (p : Point) (some : List Label) (m : Meaning) → DoesHere n p → p.cores ≡ cores → IgnoresSearches m → length some ≡ length old →
    Means some 0 search_worth before (left_then p.behind m) → Means some 0 search_worth (tail.To exit) (left_then p.out m) → CoresDo old new exit some p m after

-- two branches lead to blocks of these numbers
pub record ForksDo (old new : List Block) (exit : ℕ) (some : List Label) (out if_met if_unmet : Remains) (m : Meaning) (yes_block no_block : ℕ) : Type 0 where
  pub code : Compiled old new some 0 search_worth (tail.To exit) (left_then out m)
  pub met : Means code.table 0 search_worth (tail.To yes_block) (left_then if_met m)
  pub unmet : Means code.table 0 search_worth (tail.To no_block) (left_then if_unmet m)

abbrev pub Forks : List Block → List Block → ℕ → List Core → List Core → Tail → ℕ → ℕ → Type 0
Forks old new exit met unmet before yes_block no_block =
    (n : ℕ) (p : Point) (if_met if_unmet done : Remains) (some : List Label) (m : Meaning) → DoesHere n (branch p met if_met done) →
    DoesHere n (branch p unmet if_unmet done) → IgnoresSearches m → length some ≡ length old →
    Means some 0 search_worth before (left_then done m) → Means some 0 search_worth (tail.To exit) (left_then p.out m) →
    ForksDo old new exit some p.out if_met if_unmet m yes_block no_block
