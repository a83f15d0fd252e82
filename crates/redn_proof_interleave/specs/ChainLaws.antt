-- Laws of all chains side by side.
use Rattle.std.specs.Prelude.{ℕ, ◌≤◌, List, length}
use Rattle.redn_words.specs.declared.types.Action.{Action}
use Rattle.redn_words.specs.Runs.{AllPossible}
use Rattle.redn_kernel.specs.declared.types.Program.{Program}
use Rattle.redn_image.specs.Rules.{Image}
use Rattle.redn_image.specs.Faithful.{AreMessages}
use Rattle.redn_proof_interleave.specs.Machines.{Many}
use Rattle.redn_proof_interleave.specs.Forms.{World}
use Rattle.redn_proof_interleave.specs.Explains.{ExplainsAll}
use Rattle.redn_proof_interleave.specs.Sources.{Sourced}
use Rattle.redn_proof_interleave.specs.Compiled.{Messages, IsCompiled}

-- every list of possible actions is explained by a run of the machines, which take turns
abbrev pub EveryOrder : (g : World) → Many g.M → Type 0
EveryOrder g machines = (acts : List Action) → length acts ≤ g.most → AllPossible g.begin acts → (turns : List ℕ) × ExplainsAll g machines acts turns

-- for each choice of messages the compiled form keeps its promises
abbrev pub AllCompiled : Program → Image → (Messages → Sourced) → Type 0
AllCompiled p i sourced = (messages : Messages) → AreMessages p.chains messages → IsCompiled p i messages (sourced messages)
