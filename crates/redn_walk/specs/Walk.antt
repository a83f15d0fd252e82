-- Walks, and the core statements for one.
use Rattle.std.specs.Prelude.{◌≡◌, ℕ, ◌≤◌, true, false, List, [], ◌∷◌}
use Rattle.redn_kernel.specs.declared.types.Word.{Word}
use Rattle.redn_kernel.specs.declared.types.Cell.TheVariants as cell
use Rattle.redn_kernel.specs.declared.types.Kernel.{Kernel}
use Rattle.redn_kernel.specs.declared.types.Kernel.TheVariants as k
use Rattle.redn_kernel.specs.declared.types.Core.{Core}
use Rattle.redn_kernel.specs.declared.types.Core.TheVariants as core
use Rattle.redn_kernel.specs.CoreRun.{cell_of}

pub record IsWalk (statement : Kernel) : Type 0 where
  pub to : ℕ
  pub table : ℕ
  pub offset : Word
  pub key : Word
  pub nodes : ℕ
  pub is : statement ≡ k.Walk to table offset key nodes
  pub some : 1 ≤ nodes

abbrev pub leave_of : List Core
leave_of = core.Leave ∷ []

-- hidden word 0 has the offset, and hidden word 1 counts
abbrev pub turn_of : Core
turn_of = core.If true (cell.Hidden 0) (cell.Num 0) leave_of []

abbrev pub step_of : ℕ → List Core
step_of table = core.Add (cell.Hidden 0) (cell.Num 16) ∷ core.Load (cell.Hidden 0) table (cell.Hidden 0) ∷ turn_of ∷ []

abbrev pub miss_of : ℕ → ℕ → List Core
miss_of table count = core.Add (cell.Hidden 1) (cell.Num 1) ∷ core.If false (cell.Hidden 1) (cell.Num count) leave_of (step_of table) ∷ []

abbrev pub body_of : ℕ → ℕ → Word → ℕ → List Core
body_of to table key count = core.Probe (cell.Var to) table (cell.Hidden 0) (cell_of key) leave_of (miss_of table count) ∷ []

abbrev pub cores_of : ℕ → ℕ → Word → Word → ℕ → List Core
cores_of to table offset key count = core.Move (cell.Hidden 0) (cell_of offset) ∷ core.Move (cell.Hidden 1) (cell.Num 0) ∷ core.Loop (body_of to table key count) ∷ []
