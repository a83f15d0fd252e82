-- Lookups, and the core statements for one.
use Rattle.std.specs.Prelude.{◌≡◌, ℕ, zero, suc, ◌≤◌, List, [], ◌∷◌}
use Rattle.redn_kernel.specs.declared.types.Word.{Word}
use Rattle.redn_kernel.specs.declared.types.Cell.{Cell}
use Rattle.redn_kernel.specs.declared.types.Cell.TheVariants as cell
use Rattle.redn_kernel.specs.declared.types.Kernel.{Kernel}
use Rattle.redn_kernel.specs.declared.types.Kernel.TheVariants as k
use Rattle.redn_kernel.specs.declared.types.Core.{Core}
use Rattle.redn_kernel.specs.declared.types.Core.TheVariants as core
use Rattle.redn_kernel.specs.CoreRun.{cell_of}

pub record IsLookup (statement : Kernel) : Type 0 where
  pub to : ℕ
  pub table : ℕ
  pub offset : Word
  pub key : Word
  pub probes : ℕ
  pub is : statement ≡ k.Lookup to table offset key probes
  pub some : 1 ≤ probes

-- hidden word 0 has the offset
abbrev pub bucket_of : ℕ → ℕ → Cell → List Core → Core
bucket_of to table key miss = core.Probe (cell.Var to) table (cell.Hidden 0) key [] miss

abbrev pub misses_of : ℕ → ℕ → Cell → ℕ → List Core
misses_of to table key zero = []
misses_of to table key (suc n) = core.Add (cell.Hidden 0) (cell.Num 16) ∷ bucket_of to table key (misses_of to table key n) ∷ []

-- of one bucket and so many more
abbrev pub cores_of : ℕ → ℕ → Word → Word → ℕ → List Core
cores_of to table offset key more = core.Move (cell.Hidden 0) (cell_of offset) ∷ bucket_of to table (cell_of key) (misses_of to table (cell_of key) more) ∷ []
