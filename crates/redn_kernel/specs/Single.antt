-- A program of one chain.
use Rattle.std.specs.Prelude.{ℕ, List, [], ◌∷◌}
use Rattle.redn_kernel.specs.declared.types.Kernel.{Kernel}
use Rattle.redn_kernel.specs.declared.types.TableInit.{TableInit}
use Rattle.redn_kernel.specs.declared.types.Program.{Program}

abbrev pub one : List TableInit → ℕ → List ℕ → List Kernel → Program
one tables args vars body = record { tables = tables; chains = record { serve = 1; args = args; vars = vars; body = body } ∷ [] }
