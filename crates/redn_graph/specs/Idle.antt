-- Blocks that do nothing but lead on.
use Rattle.std.specs.Prelude.{◌≡◌, ℕ, zero, suc, Bool, false, ◌==◌, if◌then◌else◌, List, [], ◌∷◌, length, map, All, Option, Some, None, unwrap_or, slice_get}
use Rattle.redn_kernel.specs.declared.types.Cell.{Cell}
use Rattle.redn_kernel.specs.declared.types.Cell.TheVariants as cell
use Rattle.redn_graph.specs.declared.types.Instr.{Instr}
use Rattle.redn_graph.specs.declared.types.Instr.TheVariants.{Move}
use Rattle.redn_graph.specs.declared.types.End.{End}
use Rattle.redn_graph.specs.declared.types.End.TheVariants.{Jump}
use Rattle.redn_graph.specs.declared.types.Block.{Block}
use Rattle.redn_graph.specs.declared.types.Graph.{Graph}
use Rattle.redn_graph.specs.Reached.{renumbered}

abbrev pub same_hidden : Cell → Cell → Bool
same_hidden (cell.Hidden j) (cell.Hidden k) = j == k
same_hidden _ _ = false

-- whether an instruction puts a hidden cell's own word back
abbrev pub puts_back : Instr → Bool
puts_back (Move to from) = same_hidden to from
puts_back _ = false

abbrev pub only_puts_back : List Instr → Bool
only_puts_back (i ∷ []) = puts_back i
only_puts_back _ = false

abbrev pub jump_of : End → Option ℕ
jump_of (Jump to) = Some to
jump_of _ = None

-- where code leads that does nothing else
abbrev pub idle_code : List Instr → End → Option ℕ
idle_code instrs end = if only_puts_back instrs then jump_of end else None

abbrev pub idle_block : Option Block → Option ℕ
idle_block None = None
idle_block (Some b) = idle_code b.instrs b.end

abbrev pub idle_at : List Block → ℕ → Option ℕ
idle_at blocks k = idle_block (slice_get blocks k)

-- each block does something
abbrev pub NoneIdle : List Block → Type 0
NoneIdle blocks = All (λ b. idle_code b.instrs b.end ≡ None) blocks

-- where a block leads, by at most so many that do nothing
abbrev pub jumps : List Block → ℕ → ℕ → ℕ
jumps blocks zero k = k
jumps blocks (suc n) k = jumps blocks n (unwrap_or (idle_at blocks k) k)

abbrev pub past_idle : List Block → ℕ → ℕ
past_idle blocks k = jumps blocks (length blocks) k

-- blocks that lead past those that do nothing
abbrev pub passed : Graph → Graph
passed g = record g { blocks = map (λ (b : Block). record b { end = renumbered (past_idle g.blocks) b.end }) g.blocks; entry = past_idle g.blocks g.entry }
