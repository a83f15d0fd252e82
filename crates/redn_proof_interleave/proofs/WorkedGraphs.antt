-- The two chains once more, with the graphs of their programs.
use Rattle.std.proofs.Common.{◌≡◌, ℕ, zero, suc, ◌+◌, ◌*◌, ◌<◌, ◌≤◌, inr, Bool, true, false, List, [], ◌∷◌, Option, Some, None, length, refl, sym, ap, subst, ◌∙◌, arith}
use Rattle.std.specs.Prelude.{slice_get, nat_le}
use Rattle.std.proofs.lemmas.Bool.{true≢false}
use Rattle.std.proofs.lemmas.Bool.Decides.{nat_tests}
use Rattle.std.proofs.lemmas.Option.{same_Some}
use Rattle.redn_words.specs.declared.types.Obs.TheVariants as shows
use Rattle.redn_kernel.specs.Costs.{step_worth}
use Rattle.redn_kernel.specs.declared.types.Cell.TheVariants as cell
use Rattle.redn_kernel.specs.declared.types.ChainInit.{ChainInit}
use Rattle.redn_kernel.specs.declared.types.Kernel.{Kernel}
use Rattle.redn_kernel.specs.declared.types.Kernel.TheVariants.{outs-Store, outs-Reply}
use Rattle.redn_kernel.specs.declared.types.Kernel.TheOpen.{Kernel-F}
use Rattle.redn_kernel.specs.declared.types.Word.TheVariants.{Num}
use Rattle.redn_kernel.specs.Source.{ChainState, Turn as SourceTurn, Item, Do, has_word, with_word_in, eight, chain_runs, first_does, statement_does, item_does}
use Rattle.redn_graph.specs.declared.types.Instr.TheVariants.{Store}
use Rattle.redn_graph.specs.declared.types.End.TheVariants.{Reply}
use Rattle.redn_graph.specs.declared.types.Graph.{Graph}
use Rattle.redn_kernel.specs.CoreRun.{Cells}
use Rattle.redn_graph.specs.Run.{Mail, GraphState, in_hand, GraphTurn, graph_step, step_cost, instr_does, end_does, instr_cost, end_cost}
use Rattle.redn_kernel.specs.Steps.{Steps, silently}
use Rattle.redn_graph.specs.Follows.{IsMatched, Follows, turn_by}
use Rattle.redn_image.specs.Faithful.{AreMessages, Faithful}
use Rattle.redn_proof_interleave.specs.Machines.{Contents}
use Rattle.redn_proof_interleave.specs.GraphMachines.{RunsGraph, mail_in}
use Rattle.redn_proof_interleave.specs.RingSides.{AllFollow, Graphed, RingSide, message_at}
use Rattle.redn_proof_interleave.specs.FaithfulToGraphs.{FaithfulToGraphs, costs_from, graphs_begin, woken}
use Rattle.redn_proof_interleave.proofs.GraphHeadline.{graphs_are_faithful}
use Rattle.redn_proof_interleave.proofs.GraphOrders.{faithful_to_graphs}
use Rattle.redn_proof_interleave.proofs.WorkedWorld.{Messages, pick, world, step, cost, both, first_state, two_chains, machines, machines_begin}
use Rattle.redn_proof_interleave.proofs.WorkedFaithful.{stores, replies, says, two_program, two_image, two_fits, are_short, tables_agree, first_is}

abbrev graph_of : ℕ → Graph
graph_of c =
    record { blocks = record { instrs = Store 0 (cell.Num 0) (cell.Num (7 + c)) ∷ []; end = Reply (cell.Num (7 + c) ∷ []) } ∷ []; entry = 0; hidden = 0 }

-- what is left to do at a place
items_at : ℕ → ℕ → ℕ → List Item
items_at c zero zero = Do (stores c) ∷ Do (replies c) ∷ []
items_at c zero (suc k) = Do (replies c) ∷ []
items_at c (suc l) k = []

abbrev here : ℕ → Mail → GraphState → ChainState
here c mail x = record { vars = x.cells.vars; message = Some (in_hand mail x); items = items_at c x.block x.place; ended = x.ended }

-- one step of the source
one_step : (c : ℕ) (t : Contents) (w : ChainState) (turn : SourceTurn) → chain_runs w ≡ true → first_does c t w w.items ≡ turn → Steps c t w 1 turn
one_step c t w turn more is = (more, inr (sym (ap (λ (r : SourceTurn). r.event) is), sym (ap silently is)))

-- of chain d, which may run as any chain c
module _ (d c : ℕ) (t : Contents) (w : ChainState) where
  store_is : first_does c t w (Do (stores d) ∷ Do (replies d) ∷ []) ≡ statement_does c t w (Kernel-F.Store 0 (Num 0) (Num (7 + d))) (Do (replies d) ∷ [])
  unfolding item_does
  store_is = ap (λ (k : Kernel-F Kernel). statement_does c t w k (Do (replies d) ∷ [])) (outs-Store 0 (Num 0) (Num (7 + d)))

  reply_is : first_does c t w (Do (replies d) ∷ []) ≡ record { tables = t; chain = record w { ended = true }; event = shows.Reply c 1 (eight ((7 + d) ∷ [])) }
  unfolding item_does statement_does
  reply_is = ap (λ (k : Kernel-F Kernel). statement_does c t w k []) (outs-Reply (Num (7 + d) ∷ []))

  stores_there : has_word t 0 0 ≡ true → first_does c t w (Do (stores d) ∷ Do (replies d) ∷ []) ≡ record { tables = with_word_in t 0 0 (7 + d); chain = record w { items = Do (replies d) ∷ [] }; event = shows.Store c 0 0 (7 + d) }
  unfolding statement_does
  stores_there e = store_is ∙ rw e refl

  faults_there : has_word t 0 0 ≡ false → first_does c t w (Do (stores d) ∷ Do (replies d) ∷ []) ≡ record { tables = t; chain = record w { ended = true }; event = shows.Fault c 0 0 }
  unfolding statement_does
  faults_there e = store_is ∙ rw e refl

abbrev at : ℕ → ℕ → Bool → Cells → Bool → GraphState
at block place taking cells ended = record { block = block; place = place; taking = taking; cells = cells; ended = ended }

module _ (d c : ℕ) (mail : Mail) (t : Contents) where
  unfolds_store : (taking : Bool) (cells : Cells) → has_word t 0 0 ≡ true →
      graph_step c mail t (at 0 0 taking cells false) (graph_of d) ≡ record { tables = with_word_in t 0 0 (7 + d); state = at 0 1 false cells false; event = shows.Store c 0 0 (7 + d) }
  unfolding graph_step instr_does
  unfolds_store taking cells e = rw e refl

  unfolds_fault : (taking : Bool) (cells : Cells) → has_word t 0 0 ≡ false → graph_step c mail t (at 0 0 taking cells false) (graph_of d) ≡ record { tables = t; state = at 0 0 taking cells true; event = shows.Fault c 0 0 }
  unfolding graph_step instr_does
  unfolds_fault taking cells e = rw e refl

  unfolds_reply : (k : ℕ) (taking : Bool) (cells : Cells) → graph_step c mail t (at 0 (suc k) taking cells false) (graph_of d) ≡ record { tables = t; state = at 0 (suc k) taking cells true; event = shows.Reply c 1 (eight ((7 + d) ∷ [])) }
  unfolding graph_step end_does
  unfolds_reply k false cells = refl
  unfolds_reply k true cells = refl

  unfolds_far : (l place : ℕ) (taking : Bool) (cells : Cells) → graph_step c mail t (at (suc l) place taking cells false) (graph_of d) ≡ record { tables = t; state = at (suc l) place taking cells false; event = shows.Nothing }
  unfolding graph_step
  unfolds_far l place taking cells = refl

  unfolds_ended : (block place : ℕ) (taking : Bool) (cells : Cells) → graph_step c mail t (at block place taking cells true) (graph_of d) ≡ record { tables = t; state = at block place taking cells true; event = shows.Nothing }
  unfolding graph_step
  unfolds_ended block place taking cells = refl

  step_costs : (block place : ℕ) (taking : Bool) (cells : Cells) (ended : Bool) → step_cost (graph_of d) (at block place taking cells ended) ≤ 48
  unfolding step_cost instr_cost end_cost
  step_costs block place taking cells true = omega arith
  step_costs (suc l) place taking cells false = omega arith
  step_costs zero zero taking cells false = omega arith
  step_costs zero (suc k) false cells false = omega arith
  step_costs zero (suc k) true cells false = omega arith

  idle_cost : (l place : ℕ) (taking : Bool) (cells : Cells) → step_cost (graph_of d) (at (suc l) place taking cells false) ≡ 0
  unfolding step_cost
  idle_cost l place taking cells = refl

  ended_cost : (block place : ℕ) (taking : Bool) (cells : Cells) → step_cost (graph_of d) (at block place taking cells true) ≡ 0
  unfolding step_cost
  ended_cost block place taking cells = refl

  matched_by : (x : GraphState) (n : ℕ) (turn : GraphTurn) → graph_step c mail t x (graph_of d) ≡ turn → Steps c t (here d mail x) n (turn_by (here d mail) turn) → step_cost (graph_of d) x ≤ 48 → step_cost (graph_of d) x ≤ step_worth * n →
      IsMatched c mail (graph_of d) (here d mail) (λ x. 48) t x
  matched_by x n turn is steps within paid =
      record { count = n; steps = subst (λ (r : GraphTurn). Steps c t (here d mail x) n (turn_by (here d mail) r)) (sym is) steps; within = within; paid = omega (arith, paid) }

  matched : (block place : ℕ) (taking : Bool) (cells : Cells) (ended : Bool) → IsMatched c mail (graph_of d) (here d mail) (λ x. 48) t (at block place taking cells ended)
  unfolding items_at
  matched block place taking cells true =
      let none = ended_cost block place taking cells in
      matched_by (at block place taking cells true) 0 _ (unfolds_ended block place taking cells) refl (omega (arith, none)) (omega (arith, none))
  matched (suc l) place taking cells false =
      let none = idle_cost l place taking cells in
      matched_by (at (suc l) place taking cells false) 0 _ (unfolds_far l place taking cells) refl (omega (arith, none)) (omega (arith, none))
  matched zero zero taking cells false = by_room (has_word t 0 0) refl
    where
      by_room : (b : Bool) → has_word t 0 0 ≡ b → IsMatched c mail (graph_of d) (here d mail) (λ x. 48) t (at 0 0 taking cells false)
      by_room true e =
          let most = step_costs 0 0 taking cells false in
          matched_by (at 0 0 taking cells false) 1 _ (unfolds_store taking cells e) (one_step c t (here d mail (at 0 0 taking cells false)) _ refl (stores_there d c t (here d mail (at 0 0 taking cells false)) e)) most (omega (arith, most))
      by_room false e =
          let most = step_costs 0 0 taking cells false in
          matched_by (at 0 0 taking cells false) 1 _ (unfolds_fault taking cells e) (one_step c t (here d mail (at 0 0 taking cells false)) _ refl (faults_there d c t (here d mail (at 0 0 taking cells false)) e)) most (omega (arith, most))
  matched zero (suc k) taking cells false =
      let most = step_costs 0 (suc k) taking cells false in
      matched_by (at 0 (suc k) taking cells false) 1 _ (unfolds_reply k taking cells) (one_step c t (here d mail (at 0 (suc k) taking cells false)) _ refl (reply_is d c t (here d mail (at 0 (suc k) taking cells false)))) most
      (omega (arith, most))

follows : (d : ℕ) → Follows (says d) (graph_of d)
unfolding items_at
follows d =
    record {
      here = here d;
      worth = λ x. 48;
      vars = λ mail x. refl;
      ended = λ mail x. refl;
      starts = λ c mail t. (0, refl);
      entry = omega arith;
      matched = λ c mail t x. matched d c mail t x.block x.place x.taking x.cells x.ended;
    }

-- the machine of the two chains runs as the graphs do
abbrev no_cells : Cells
no_cells = record { vars = []; hidden = λ _. 0 }

as_graph : ℕ → GraphState
as_graph zero = at 0 0 false no_cells false
as_graph (suc zero) = at 0 1 false no_cells false
as_graph (suc (suc zero)) = at 0 1 false no_cells true
as_graph (suc (suc (suc x))) = at 0 0 false no_cells true

module _ (c : ℕ) (mail : Mail) where
  abbrev Alike : ℕ → Contents → Type 0
  Alike x t =
      ((step c t x).tables ≡ (graph_step c mail t (as_graph x) (graph_of c)).tables)
      × ((as_graph (step c t x).state ≡ (graph_step c mail t (as_graph x) (graph_of c)).state) × ((step c t x).event ≡ (graph_step c mail t (as_graph x) (graph_of c)).event))

  alike : (x : ℕ) (t : Contents) → nat_le 2 x ≡ false → Alike x t
  unfolding step as_graph
  alike zero t more = by_room (has_word t 0 0) refl
    where
      by_room : (b : Bool) → has_word t 0 0 ≡ b → Alike 0 t
      by_room true e = let is = unfolds_store c c mail t false no_cells e in rw (e, is) (refl, (refl, refl))
      by_room false e = let is = unfolds_fault c c mail t false no_cells e in rw (e, is) (refl, (refl, refl))
  alike (suc zero) t more = let is = unfolds_reply c c mail t 0 false no_cells in rw is (refl, (refl, refl))
  alike (suc (suc x)) t more = absurd (let over : nat_le 2 (suc (suc x)) ≡ true = grind (arith, nat_tests) in true≢false (sym over ∙ more))

  ends_alike : (x : ℕ) → nat_le 2 x ≡ (as_graph x).ended
  unfolding as_graph
  ends_alike zero = refl
  ends_alike (suc zero) = refl
  ends_alike (suc (suc zero)) = refl
  ends_alike (suc (suc (suc x))) = grind (arith, nat_tests)

  costs_less : (x : ℕ) → cost x ≤ step_cost (graph_of c) (as_graph x)
  unfolding as_graph cost step_cost instr_cost end_cost
  costs_less zero = omega arith
  costs_less (suc zero) = omega arith
  costs_less (suc (suc x)) = omega arith

  runs_graph : RunsGraph ℕ (both c) 0 as_graph c mail (graph_of c) []
  unfolding as_graph
  runs_graph =
      record {
        first = refl;
        tables = λ x t more. (alike x t more).0;
        state = λ x t more. (alike x t more).1.0;
        event = λ x t more. (alike x t more).1.1;
        ended = ends_alike;
        cost = costs_less;
      }

abbrev graphs : List Graph
graphs = graph_of 0 ∷ graph_of 1 ∷ []

all_follow_them : AllFollow two_program.chains graphs
unfolding two_program
all_follow_them = (follows 0, (follows 1, tt))

abbrev graphed : Messages → Graphed
graphed messages = record { world = world messages; as_graph = λ c. as_graph }

abbrev AtGraph : Messages → ℕ → ChainInit → Graph → Type 0
AtGraph messages c chain g = RunsGraph ℕ ((world messages).form c).machine ((world messages).form c).begin as_graph c (mail_in chain (message_at messages c)) g chain.vars

runs_there : (messages : Messages) (c : ℕ) (chain : ChainInit) (g : Graph) → slice_get two_program.chains c ≡ Some chain → slice_get graphs c ≡ Some g → AtGraph messages c chain g
unfolding two_program
runs_there messages zero chain g e h =
    subst (λ (k : ChainInit). AtGraph messages 0 k g) (same_Some (says 0) chain e) (subst (AtGraph messages 0 (says 0)) (same_Some (graph_of 0) g h) (runs_graph 0 (mail_in (says 0) (message_at messages 0))))
runs_there messages (suc zero) chain g e h =
    subst (λ (k : ChainInit). AtGraph messages 1 k g) (same_Some (says 1) chain e) (subst (AtGraph messages 1 (says 1)) (same_Some (graph_of 1) g h) (runs_graph 1 (mail_in (says 1) (message_at messages 1))))
runs_there messages (suc (suc c)) chain g e h = absurd (cc)

no_variables : (x : ℕ) → (as_graph x).cells.vars ≡ []
unfolding as_graph
no_variables zero = refl
no_variables (suc zero) = refl
no_variables (suc (suc zero)) = refl
no_variables (suc (suc (suc x))) = refl

module _ (a b : Option (List ℕ)) (short : (c : ℕ) (bytes : List ℕ) → c < 2 → pick (a ∷ b ∷ []) c ≡ Some bytes → bytes ≡ []) where
  ring_side : RingSide two_program two_image graphs (a ∷ b ∷ []) (graphed (a ∷ b ∷ []))
  unfolding first_state two_program machines
  ring_side =
      record {
        begin = first_is a b short;
        most = refl;
        promises = two_chains (a ∷ b ∷ []) short;
        runs_graph = runs_there (a ∷ b ∷ []);
        has_tables = (machines_begin (a ∷ b ∷ []) short).tables;
        tables = λ t m n has. tables_agree t m n has;
        variables = λ c y m l h k d i. record { words = λ x less. let none = ap length (no_variables y) in absurd (omega (arith, none)) };
      }

ring_sides : (messages : Messages) → AreMessages two_program.chains messages → RingSide two_program two_image graphs messages (graphed messages)
unfolding two_program
ring_sides [] are = absurd are
ring_sides (a ∷ []) are = absurd are.1
ring_sides (a ∷ b ∷ []) are = ring_side a b (are_short a b are)
ring_sides (a ∷ b ∷ d ∷ messages) are = absurd are.1.1

two_graphs_are_faithful : Faithful two_program two_image
two_graphs_are_faithful = graphs_are_faithful two_program two_image graphs graphed all_follow_them two_fits ring_sides

two_are_faithful_to_graphs : FaithfulToGraphs two_program graphs two_image
unfolding two_program
two_are_faithful_to_graphs = faithful_to_graphs two_program two_image graphs graphed refl two_fits ring_sides

-- only the first chain has a message
abbrev first_alone : Messages
first_alone = Some [] ∷ None ∷ []

-- it may run, and the other may not
first_runs : (woken two_program graphs first_alone 0 ≡ true) × (woken two_program graphs first_alone 1 ≡ false)
first_runs = (refl, refl)

-- its first step costs 32 and its second 48
costs_first : costs_from two_program graphs first_alone 0 (graphs_begin two_program graphs first_alone) [] ≡ 32
unfolding two_program step_cost instr_cost
costs_first = refl

costs_other : costs_from two_program graphs first_alone 1 (graphs_begin two_program graphs first_alone) (0 ∷ []) ≡ 32
unfolding two_program step_cost instr_cost graph_step instr_does
costs_other = refl
