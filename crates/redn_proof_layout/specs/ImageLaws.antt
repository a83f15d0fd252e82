-- What is true of an image of graphs.
use Rattle.std.specs.Prelude.{ℕ, ◌^◌, ◌<◌, List, All}
use Rattle.redn_kernel.specs.declared.types.ChainInit.{ChainInit}
use Rattle.redn_kernel.specs.declared.types.TableInit.{TableInit}
use Rattle.redn_kernel.specs.declared.types.Program.{Program}
use Rattle.redn_graph.specs.declared.types.Graph.{Graph}
use Rattle.redn_proof_window.specs.Scripts.{IsBytes}
use Rattle.redn_image.specs.Rules.{Image}
use Rattle.redn_image.specs.Agreement.{Fits}
use Rattle.redn_image.specs.Faithful.{AreMessages, Faithful}
use Rattle.redn_emit.specs.Placed.{IsPlaced}
use Rattle.redn_proof_layout.specs.PlacedLaws.{AreSound}
use Rattle.redn_proof_interleave.specs.Compiled.{Messages}
use Rattle.redn_proof_interleave.specs.FaithfulToGraphs.{FaithfulToGraphs}
use Rattle.redn_proof_interleave.specs.RingSides.{AllFollow}
use Rattle.redn_proof_chain.specs.Sides.{IsImage}
use Rattle.redn_proof_layout.specs.Chains.{AllHaveEntries, together}

-- the numbers of a program fit their types: the first values of variables are words, and tables hold bytes
pub record HasNumbers (p : Program) : Type 0 where
  pub values : All (λ (c : ChainInit). All (λ (v : ℕ). v < 2 ^ 64) c.vars) p.chains
  pub bytes : All (λ (t : TableInit). IsBytes t.bytes) p.tables

-- an image of a sound program's graphs has a place for all that the program names
abbrev pub EmittedFit : Type 0
EmittedFit = (p : Program) (graphs : List Graph) (i : Image) → AreSound p graphs → IsPlaced p graphs i → Fits p i

-- each chain has its entry at a ring
abbrev pub EmittedHaveEntries : Type 0
EmittedHaveEntries = (p : Program) (graphs : List Graph) → AreSound p graphs → AllHaveEntries p graphs

-- and whatever the messages, its chains stand side by side as rings of their graphs
abbrev pub EmittedStandTogether : Type 0
EmittedStandTogether =
    (p : Program) (graphs : List Graph) (i : Image) → AreSound p graphs → HasNumbers p → IsPlaced p graphs i
    → (entries : AllHaveEntries p graphs) (messages : Messages) → AreMessages p.chains messages
    → IsImage p i graphs messages (together p graphs i entries messages)

-- so the image does what its graphs do
abbrev pub EmittedAreFaithfulToGraphs : Type 0
EmittedAreFaithfulToGraphs = (p : Program) (graphs : List Graph) (i : Image) → AreSound p graphs → HasNumbers p → IsPlaced p graphs i → FaithfulToGraphs p graphs i

-- and where each graph follows its chain, the image does what the program says
abbrev pub EmittedAreFaithful : Type 0
EmittedAreFaithful =
    (p : Program) (graphs : List Graph) (i : Image) → AreSound p graphs → HasNumbers p → AllFollow p.chains graphs → IsPlaced p graphs i → Faithful p i
