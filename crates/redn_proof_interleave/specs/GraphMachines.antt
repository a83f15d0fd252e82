-- A chain's graph as a machine.
use Rattle.std.specs.Prelude.{◌≡◌, ℕ, ◌-◌, ◌≤◌, true, false, List, [], Option, Some, None}
use Rattle.redn_words.specs.Arguments.{argument_words}
use Rattle.redn_kernel.specs.declared.types.ChainInit.{ChainInit}
use Rattle.redn_kernel.specs.Source.{ChainState}
use Rattle.redn_graph.specs.declared.types.Graph.{Graph}
use Rattle.redn_graph.specs.Run.{Mail, GraphState, in_hand, graph_step, graph_start, step_cost}
use Rattle.redn_graph.specs.Follows.{Follows}
use Rattle.redn_proof_interleave.specs.Machines.{Contents, MachineTurn, Machine}

abbrev pub graph_turn_of : ℕ → Mail → Graph → Contents → GraphState → MachineTurn GraphState
graph_turn_of c mail g t x =
    record { tables = (graph_step c mail t x g).tables; state = (graph_step c mail t x g).state; event = (graph_step c mail t x g).event }

-- the blocks of chain c, with its mail
abbrev pub graph_machine : ℕ → Mail → Graph → Machine GraphState
graph_machine c mail g = record { step = graph_turn_of c mail g; ended = λ x. x.ended; cost = step_cost g }

-- a chain with a graph that follows it
pub record Followed : Type 0 where
  pub chain : ChainInit
  pub graph : Graph
  pub follows : Follows chain graph

-- the mail of the blocks. Without a message they don't run
abbrev pub mail_in : ChainInit → Option (List ℕ) → Mail
mail_in chain None = record { words = [] }
mail_in chain (Some bytes) = record { words = argument_words bytes 0 chain.args }

-- what a state of the blocks stands for, what is left of its worth once its step is paid, and what holds of all states that are reached
abbrev pub here_of : Option Followed → Option (List ℕ) → GraphState → ChainState
here_of None message x = record { vars = x.cells.vars; message = None; items = []; ended = true }
here_of (Some f) message x = f.follows.here (mail_in f.chain message) x

abbrev pub kept_of : Option Followed → GraphState → ℕ → ℕ
kept_of None x cost = 0
kept_of (Some f) x cost = f.follows.worth x - cost

abbrev pub HasWords : Option Followed → Option (List ℕ) → GraphState → Type 0
HasWords None message x = Unit {0}
HasWords (Some f) message x = (f.follows.here (mail_in f.chain message) x).message ≡ Some (in_hand (mail_in f.chain message) x)

-- a machine that runs as the blocks do. It may know more than they, and cost less
pub record RunsGraph (M : Type 0) (k : Machine M) (begin : M) (as_graph : M → GraphState) (c : ℕ) (mail : Mail) (g : Graph) (vars : List ℕ) : Type 0 where
  pub first : as_graph begin ≡ graph_start g vars
  pub tables : (x : M) (t : Contents) → k.ended x ≡ false → (k.step t x).tables ≡ (graph_step c mail t (as_graph x) g).tables
  pub state : (x : M) (t : Contents) → k.ended x ≡ false → as_graph (k.step t x).state ≡ (graph_step c mail t (as_graph x) g).state
  pub event : (x : M) (t : Contents) → k.ended x ≡ false → (k.step t x).event ≡ (graph_step c mail t (as_graph x) g).event
  pub ended : (x : M) → k.ended x ≡ (as_graph x).ended
  pub cost : (x : M) → k.cost x ≤ step_cost g (as_graph x)
