-- That a chain's blocks do what the chain does.
use Rattle.std.specs.Prelude.{◌≡◌, ℕ, ◌+◌, ◌*◌, ◌≤◌, false, List, ◌++◌, Some}
use Rattle.redn_kernel.specs.declared.types.ChainInit.{ChainInit}
use Rattle.redn_kernel.specs.Source.{ChainState, Turn, take_arguments, do_all}
use Rattle.redn_kernel.specs.Costs.{step_worth, statement_worth}
use Rattle.redn_kernel.specs.Steps.{Steps, unchanged}
use Rattle.redn_graph.specs.declared.types.Graph.{Graph}
use Rattle.redn_graph.specs.Run.{Mail, GraphState, in_hand, GraphTurn, graph_step, graph_start, step_cost}

-- what a turn of the blocks is for the chain
abbrev pub turn_by : (GraphState → ChainState) → GraphTurn → Turn
turn_by here turn = record { tables = turn.tables; chain = here turn.state; event = turn.event }

-- one step of the blocks is so many of the chain, which pay for it
pub record IsMatched (c : ℕ) (mail : Mail) (g : Graph) (here : GraphState → ChainState) (worth : GraphState → ℕ) (tables : List (List ℕ))
    (x : GraphState) : Type 0 where
  pub count : ℕ
  pub steps : Steps c tables (here x) count (turn_by here (graph_step c mail tables x g))
  pub within : step_cost g x ≤ worth x
  pub paid : step_cost g x + worth (graph_step c mail tables x g).state ≤ worth x + step_worth * count

-- a chain that has just taken its message
abbrev pub chain_start : ChainInit → List ℕ → ChainState
chain_start c words =
    record { vars = c.vars; message = Some words; items = take_arguments 0 c.args ++ do_all c.body; ended = false }

-- with the message that is in hand where its blocks begin
abbrev pub chain_first : ChainInit → Graph → Mail → ChainState
chain_first chain g mail = chain_start chain (in_hand mail (graph_start g chain.vars))

-- what each state of the blocks is for the chain, under any feed of tables, and what may be spent there
pub record Follows (chain : ChainInit) (g : Graph) : Type 0 where
  pub here : Mail → GraphState → ChainState
  pub worth : GraphState → ℕ
  pub vars : (mail : Mail) (x : GraphState) → (here mail x).vars ≡ x.cells.vars
  pub ended : (mail : Mail) (x : GraphState) → (here mail x).ended ≡ x.ended
  pub starts : (c : ℕ) (mail : Mail) (tables : List (List ℕ)) →
      (n : ℕ) × Steps c tables (chain_first chain g mail) n (unchanged tables (here mail (graph_start g chain.vars)))
  pub entry : worth (graph_start g chain.vars) ≤ statement_worth  -- so a step of the chain also pays for the entry
  pub matched : (c : ℕ) (mail : Mail) (tables : List (List ℕ)) (x : GraphState) → IsMatched c mail g (here mail) worth tables x
