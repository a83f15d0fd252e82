-- When an image does what the graphs of its chains do, under every order of the adapter's actions.
use Rattle.std.specs.Prelude.{◌≡◌, ℕ, ◌+◌, ◌^◌, ◌<◌, ◌≤◌, Bool, true, ◌==◌, if◌then◌else◌, List, [], ◌∷◌, length, get_or, is_some}
use Rattle.std.specs.List.{All}
use Rattle.redn_words.specs.declared.types.Action.{Action}
use Rattle.redn_words.specs.declared.types.Obs.{Obs}
use Rattle.redn_words.specs.declared.types.Region.{Region}
use Rattle.redn_words.specs.States.{State}
use Rattle.redn_words.specs.Runs.{AllPossible, reached, all_shown, useful_for}
use Rattle.redn_words.specs.Words.{bytes_at}
use Rattle.redn_kernel.specs.Costs.{entry_cost}
use Rattle.redn_kernel.specs.declared.types.ChainInit.{ChainInit}
use Rattle.redn_kernel.specs.declared.types.Program.{Program}
use Rattle.redn_kernel.specs.Source.{bytes_of}
use Rattle.redn_graph.specs.declared.types.Graph.{Graph}
use Rattle.redn_graph.specs.Run.{GraphState, graph_start}
use Rattle.redn_image.specs.Rules.{Image}
use Rattle.redn_image.specs.Agreement.{Fits, HoldsVariables, variables_of, places_of}
use Rattle.redn_image.specs.Faithful.{AreMessages, CanGoOn, IsClean, start_of}
use Rattle.redn_image.proofs.Simulation.{AllRun, told}
use Rattle.redn_proof_interleave.specs.Machines.{Machine, Many, many_running, many_step, many_tells, many_credit, many_after}
use Rattle.redn_proof_interleave.specs.Compiled.{Messages}
use Rattle.redn_proof_interleave.specs.GraphMachines.{graph_machine, mail_in}
use Rattle.redn_proof_interleave.specs.RingSides.{first_tables, message_at}

-- what stands where there is no chain
abbrev pub no_init : ChainInit
no_init = record { serve = 1; args = 0; vars = []; body = [] }

abbrev pub no_blocks : Graph
no_blocks = record { hidden = 0; entry = 0; blocks = [] }

module _ (p : Program) (gs : List Graph) (messages : Messages) where
  abbrev pub init_at : ℕ → ChainInit
  init_at c = get_or p.chains c no_init

  abbrev pub graph_at : ℕ → Graph
  graph_at c = get_or gs c no_blocks

  -- a chain's blocks, with its mail
  abbrev pub blocks_of : ℕ → Machine GraphState
  blocks_of c = graph_machine c (mail_in (init_at c) (message_at messages c)) (graph_at c)

  -- they run only where there is a message
  abbrev pub woken : ℕ → Bool
  woken c = is_some (message_at messages c)

  -- all graphs, before their first step
  abbrev pub graphs_begin : Many GraphState
  graphs_begin = record { tables = first_tables p; at = λ c. graph_start (graph_at c) (init_at c).vars }

  -- after each has made its steps, as they take turns
  abbrev pub graphs_after : List ℕ → Many GraphState
  graphs_after turns = many_after GraphState blocks_of woken graphs_begin turns

  abbrev pub GraphsRun : List ℕ → Type 0
  GraphsRun turns =
      AllRun (Many GraphState) (many_running GraphState blocks_of woken) (many_step GraphState blocks_of woken) (many_tells GraphState blocks_of woken)
      (many_credit GraphState blocks_of woken) graphs_begin turns

  -- what they show
  abbrev pub graphs_tell : List ℕ → List Obs
  graphs_tell turns =
      told (Many GraphState) (many_running GraphState blocks_of woken) (many_step GraphState blocks_of woken) (many_tells GraphState blocks_of woken)
      (many_credit GraphState blocks_of woken) graphs_begin turns

  -- the costs of a chain's steps, up to and with the one in hand
  abbrev pub costs_from : ℕ → Many GraphState → List ℕ → ℕ
  costs_from c z [] = (blocks_of c).cost (z.at c)
  costs_from c z (d ∷ turns) = (if d == c then (blocks_of d).cost (z.at d) else 0) + costs_from c (many_step GraphState blocks_of woken z d) turns

  -- a run of the graphs accounts for a run of the adapter
  pub record ExplainsGraphs (first : State) (acts : List Action) (turns : List ℕ) : Type 0 where
    pub runs : GraphsRun turns
    pub shows_events : all_shown first acts ≡ graphs_tell turns
    pub tables : (n : ℕ) →
        All (λ (r : Region). bytes_at (reached first acts).memory r.base r.len ≡ bytes_of (graphs_after turns).tables n) (places_of n first.regions)
    pub variables : (c : ℕ) → c < length p.chains →
        All (HoldsVariables (reached first acts).memory ((graphs_after turns).at c).cells.vars) (variables_of c first.regions)
    pub clean : All IsClean (all_shown first acts)
    pub few : (c : ℕ) → c < length p.chains → useful_for c first acts ≤ entry_cost + costs_from c graphs_begin turns
    pub none : (c : ℕ) → length p.chains ≤ c → useful_for c first acts ≡ 0
    pub goes_on : (c : ℕ) → many_running GraphState blocks_of woken (graphs_after turns) c ≡ true → CanGoOn (reached first acts) c

-- every run of the adapter is explained by one of the graphs, whatever the messages
pub record FaithfulToGraphs (p : Program) (gs : List Graph) (i : Image) : Type 0 where
  pub fits : Fits p i
  pub explained : (messages : Messages) → AreMessages p.chains messages → (acts : List Action) → length acts < 2 ^ 62 → AllPossible (start_of i messages) acts
      → (turns : List ℕ) × ExplainsGraphs p gs messages (start_of i messages) acts turns
