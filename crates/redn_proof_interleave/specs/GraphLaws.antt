-- Laws of graphs as machines.
use Rattle.std.specs.Prelude.{◌≡◌, ℕ, List}
use Rattle.redn_words.specs.declared.types.Obs.TheVariants as shows
use Rattle.redn_kernel.specs.declared.types.Program.{Program}
use Rattle.redn_graph.specs.declared.types.Graph.{Graph}
use Rattle.redn_graph.specs.Run.{Mail, GraphState, graph_step, graph_start}
use Rattle.redn_image.specs.Rules.{Image}
use Rattle.redn_image.specs.Faithful.{AreMessages}
use Rattle.redn_proof_interleave.specs.Compiled.{Messages}
use Rattle.redn_proof_interleave.specs.GraphMachines.{graph_machine, RunsGraph}
use Rattle.redn_proof_interleave.specs.RingSides.{Graphed, RingSide}

-- for each choice of messages the rings run as the graphs do
abbrev pub AllRingSides : Program → Image → List Graph → (Messages → Graphed) → Type 0
AllRingSides p i gs graphed = (messages : Messages) → AreMessages p.chains messages → RingSide p i gs messages (graphed messages)

-- a graph is a machine that runs as the graph does
abbrev pub GraphsRunThemselves : Type 0
GraphsRunThemselves = (c : ℕ) (mail : Mail) (g : Graph) (vars : List ℕ)
    → RunsGraph GraphState (graph_machine c mail g) (graph_start g vars) (λ x. x) c mail g vars

-- a step of a graph that shows nothing is the same step on any tables, and changes neither them nor a variable
pub record IsSilent (c : ℕ) (mail : Mail) (g : Graph) (t u : List (List ℕ)) (x : GraphState) : Type 0 where
  pub tables : (graph_step c mail t x g).tables ≡ t
  pub again : graph_step c mail u x g ≡ record { tables = u; state = (graph_step c mail t x g).state; event = shows.Nothing }
  pub vars : (graph_step c mail t x g).state.cells.vars ≡ x.cells.vars

abbrev pub SilentAnywhere : Type 0
SilentAnywhere = (c : ℕ) (mail : Mail) (g : Graph) (t u : List (List ℕ)) (x : GraphState) → (graph_step c mail t x g).event ≡ shows.Nothing
    → IsSilent c mail g t u x
