-- Which hidden words core statements use.
use Rattle.std.specs.Prelude.{ℕ, ◌<◌, List, All}
use Rattle.redn_kernel.specs.declared.types.Cell.{Cell}
use Rattle.redn_kernel.specs.declared.types.Cell.TheVariants as cell
use Rattle.redn_kernel.specs.declared.types.Core.{Core, every-Core}
use Rattle.redn_kernel.specs.declared.types.Core.TheOpen.{Core-F}

-- those below n, and no word of the message
module _ (n : ℕ) where
  abbrev pub IsBelow : Cell → Type 0
  IsBelow (cell.Var x) = Unit {0}
  IsBelow (cell.Hidden k) = k < n
  IsBelow (cell.Argument i) = ⊥
  IsBelow (cell.Num v) = Unit {0}

  -- of a statement without its blocks
  abbrev pub UsesBelow : Core-F Core → Type 0
  UsesBelow (Core-F.Move to from) = IsBelow to × IsBelow from
  UsesBelow (Core-F.Add to by) = IsBelow to × IsBelow by
  UsesBelow (Core-F.Load to table offset) = IsBelow to × IsBelow offset
  UsesBelow (Core-F.If wide left right met unmet) = IsBelow left × IsBelow right
  UsesBelow (Core-F.Loop body) = Unit {0}
  UsesBelow Core-F.Leave = Unit {0}
  UsesBelow (Core-F.Probe to table offset key hit miss) = IsBelow to × IsBelow offset × IsBelow key

  -- of each statement, and of all in their blocks
  abbrev pub AllBelow : List Core → Type 0
  AllBelow cores = All (every-Core UsesBelow) cores
