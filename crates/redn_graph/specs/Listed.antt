-- Statements have code: what it does, and what it takes.
use Rattle.std.specs.Prelude.{◌≡◌, ℕ, ◌+◌, ◌*◌, ◌<◌, List, length}
use Rattle.redn_kernel.specs.declared.types.Kernel.{Kernel}
use Rattle.redn_kernel.specs.Program.{weight_of_all, is_idle_body, breaks_idly}
use Rattle.redn_graph.specs.declared.build.Builder.{Builder}
use Rattle.redn_graph.specs.declared.build.Tail.{Tail}
use Rattle.redn_graph.specs.Code.{Compiles}
use Rattle.redn_graph.specs.Slots.{SlotsWithin, Sized}
use Rattle.redn_graph.specs.Growth.{Grown, AllSound}
use Rattle.redn_graph.specs.Hidden.{repeats_in_all}
use Rattle.redn_graph.specs.Fits.{Things, FitsTail, Fitted, IsWithin, AllWell}
use Rattle.redn_graph.specs.Onward.{LeadsOn}

-- these statements have code before a tail. A break leads to `exit`
pub record Listed (old new : Builder) (exit : ℕ) (before : Tail) (body : List Kernel) (after : Tail) : Type 0 where
  pub compiles : Compiles old.blocks new.blocks old.hidden exit body before after
  pub slots : SlotsWithin old.blocks new.blocks before after (37 * weight_of_all body)
  pub grown : Grown old new (weight_of_all body)
  pub hidden : AllSound body → new.hidden ≡ old.hidden + repeats_in_all body
  pub fits : (n : Things) → IsWithin n new → exit < n.blocks → AllWell n body → FitsTail n before → Fitted n old.blocks new.blocks × FitsTail n after
  pub size : Sized old.blocks new.blocks before after (weight_of_all body)
  pub leads : AllSound body → exit < length old.blocks → LeadsOn old.blocks new.blocks exit before after (is_idle_body body) (breaks_idly body)
