-- Cells for words of the source, and tests.
use Rattle.std.specs.Prelude.{ℕ, Bool, true, false}
use Rattle.redn_kernel.specs.declared.types.Word.{Word}
use Rattle.redn_kernel.specs.declared.types.Word.TheVariants.{Var, Num}
use Rattle.redn_kernel.specs.declared.types.Cell.{Cell}
use Rattle.redn_kernel.specs.declared.types.Cell.TheVariants as cell
use Rattle.redn_graph.specs.declared.types.Instr.{Instr}
use Rattle.redn_graph.specs.declared.types.Instr.TheVariants.{Move, Set, Add}
use Rattle.redn_graph.specs.declared.types.End.{End}
use Rattle.redn_graph.specs.declared.types.End.TheVariants.{Test48, Test64}

abbrev pub test_end : Bool → Cell → Cell → ℕ → ℕ → End
test_end true left right met unmet = Test64 left right met unmet
test_end false left right met unmet = Test48 left right met unmet

-- a word is moved to a variable
abbrev pub move_of : ℕ → Word → Instr
move_of x (Var y) = Move (cell.Var x) (cell.Var y)
move_of x (Num n) = Set (cell.Var x) n

-- a hidden cell counts one more
abbrev pub counts : ℕ → Instr
counts counter = Add (cell.Hidden counter) (cell.Num 1)

-- and ends a body that is done so many times
abbrev pub counted : ℕ → ℕ → ℕ → ℕ → End
counted counter count out head = Test48 (cell.Hidden counter) (cell.Num count) out head
