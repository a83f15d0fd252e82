-- Which statements are one instruction, and which look for a key.
use Rattle.std.specs.Prelude.{Bool, true, false, ◌∷◌}
use Rattle.redn_kernel.specs.declared.types.Kernel.{Kernel, out-Kernel}
use Rattle.redn_kernel.specs.declared.types.Kernel.TheOpen.{Kernel-F}
use Rattle.redn_kernel.specs.Costs.{statement_worth, jump_worth}
use Rattle.redn_kernel.specs.Source.{Do}
use Rattle.redn_graph.specs.declared.types.Instr.{Instr}
use Rattle.redn_graph.specs.Code.{Meaning, InstrRuns}

abbrev pub acts_once : {A : Type 0} → Kernel-F A → Bool
acts_once (Kernel-F.Move to from) = true
acts_once (Kernel-F.Add to by) = true
acts_once (Kernel-F.Load to table offset) = true
acts_once (Kernel-F.Store table offset from) = true
acts_once _ = false

-- whether it is one instruction
abbrev pub is_plain : Kernel → Bool
is_plain statement = acts_once (out-Kernel statement)

abbrev pub searches : {A : Type 0} → Kernel-F A → Bool
searches (Kernel-F.Lookup to table offset key probes) = true
searches (Kernel-F.Walk to table offset key nodes) = true
searches _ = false

-- whether it looks for a key in a table
abbrev pub is_search : Kernel → Bool
is_search statement = searches (out-Kernel statement)

-- an instruction does what a statement does, whatever follows
abbrev pub DoesStatement : Kernel → Instr → Type 0
DoesStatement statement instr = (m : Meaning) → InstrRuns instr (λ h. Do statement ∷ m h) m statement_worth jump_worth
