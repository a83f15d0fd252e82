-- A chain's graph as a machine, each of whose steps is some steps of the source chain.
use Rattle.std.proofs.Common.{◌≡◌, ℕ, zero, suc, ◌+◌, ◌≤◌, inl, inr, Bool, true, false, not, ◌&&◌, List, [], Option, Some, None, refl, sym, ap, subst, ◌∙◌, arith}
use Rattle.std.specs.Prelude.{is_some}
use Rattle.redn_words.specs.declared.types.Obs.{Obs}
use Rattle.redn_words.specs.Runs.{shown_then}
use Rattle.redn_kernel.specs.Costs.{step_worth, entry_cost}
use Rattle.redn_kernel.specs.Source.{ChainState, Turn, first_does, chain_runs, fresh_chain}
use Rattle.redn_graph.specs.declared.types.Graph.{Graph}
use Rattle.redn_graph.specs.Run.{Mail, GraphState, in_hand, graph_step, graph_start}
use Rattle.redn_kernel.specs.Steps.{Steps, unchanged, silently}
use Rattle.redn_graph.specs.Follows.{turn_by, chain_start}
use Rattle.redn_proof_interleave.specs.Machines.{Contents, Machine, Goes, AllGo, run_tables, run_state, run_events}
use Rattle.redn_proof_interleave.specs.Sources.{source_machine}
use Rattle.redn_proof_interleave.specs.GraphMachines.{graph_machine, Followed, mail_in, here_of, kept_of, HasWords, RunsGraph}
use Rattle.redn_proof_interleave.proofs.Messages.{first_keeps}
use Rattle.redn_proof_interleave.proofs.Sources.{source_cost as steps_pay}

-- what steps of the source are for its machine
pub record SourceGoes (c : ℕ) (t : Contents) (w : ChainState) (n : ℕ) (turn : Turn) : Type 0 where
  pub go : AllGo ChainState (source_machine c) n t w
  pub telling : run_events ChainState (source_machine c) n t w ≡ shown_then turn.event []
  pub tables : run_tables ChainState (source_machine c) n t w ≡ turn.tables
  pub state : run_state ChainState (source_machine c) n t w ≡ turn.chain
  pub message : turn.chain.message ≡ w.message

pub steps_go : (c n : ℕ) (t : Contents) (w : ChainState) (turn : Turn) → Steps c t w n turn → SourceGoes c t w n turn
unfolding source_machine
steps_go c zero t w turn steps =
    record {
      go = tt;
      telling = sym (ap (λ (r : Turn). shown_then r.event []) steps);
      tables = sym (ap (λ (r : Turn). r.tables) steps);
      state = sym (ap (λ (r : Turn). r.chain) steps);
      message = ap (λ (r : Turn). r.chain.message) steps;
    }
steps_go c (suc n) t w turn (more, inl (silent, steps)) =
    let rest = steps_go c n (first_does c t w w.items).tables (first_does c t w w.items).chain turn steps in
    record {
      go = (ap not more, rest.go);
      telling = ap (λ (e : Obs). shown_then e (run_events ChainState (source_machine c) n (first_does c t w w.items).tables (first_does c t w w.items).chain)) silent ∙ rest.telling;
      tables = rest.tables;
      state = rest.state;
      message = rest.message ∙ first_keeps c t w w.items;
    }
steps_go c (suc n) t w turn (more, inr (shows, steps)) =
    let rest = steps_go c n (first_does c t w w.items).tables (first_does c t w w.items).chain (silently turn) steps in
    record {
      go = (ap not more, rest.go);
      telling = ap (shown_then (first_does c t w w.items).event) rest.telling ∙ ap (λ (e : Obs). shown_then e []) (sym shows);
      tables = rest.tables;
      state = rest.state;
      message = rest.message ∙ first_keeps c t w w.items;
    }

pub here_vars : (o : Option Followed) (message : Option (List ℕ)) (x : GraphState) → (here_of o message x).vars ≡ x.cells.vars
here_vars None message x = refl
here_vars (Some f) message x = f.follows.vars (mail_in f.chain message) x

-- the blocks themselves do
pub itself_runs : (c : ℕ) (mail : Mail) (g : Graph) (vars : List ℕ) → RunsGraph GraphState (graph_machine c mail g) (graph_start g vars) (λ x. x) c mail g vars
itself_runs c mail g vars =
    record { first = refl; tables = λ x t more. refl; state = λ x t more. refl; event = λ x t more. refl; ended = λ x. refl; cost = λ x. omega arith }

-- the contract between a machine and a source chain, of one chain
pub record TranslatesOne (M : Type 0) (c : ℕ) (k : Machine M) (begin : M) (here : M → ChainState) (kept : M → ℕ) (Fine : M → Type 0) : Type 0 where
  pub step : (x : M) (t : Contents) → Fine x → k.ended x ≡ false → Goes ChainState (source_machine c) t (here x) (shown_then (k.step t x).event []) (k.step t x).tables (here (k.step t x).state) (k.cost (k.step t x).state + kept (k.step t x).state) (kept x)
  pub fine : (x : M) (t : Contents) → Fine x → k.ended x ≡ false → Fine (k.step t x).state
  pub runs : (x : M) → Fine x → chain_runs (here x) ≡ not (k.ended x)
  pub pays : entry_cost + (k.cost begin + kept begin) ≤ step_worth

-- and of a source chain that is at the first state, or some silent steps before it
pub record StandOne (M : Type 0) (c : ℕ) (awake ended : Bool) (here : M → ChainState) (Fine : M → Type 0) (w : ChainState) (x : M) : Type 0 where
  pub vars : w.vars ≡ (here x).vars
  pub runs : chain_runs w ≡ (awake && not ended)
  pub leads : awake ≡ true → (t : Contents) → Goes ChainState (source_machine c) t w [] t (here x) 0 0
  pub fine : Fine x

first_goes : (c : ℕ) (f : Followed) (mail : Mail) (t : Contents) →
    SourceGoes c t (chain_start f.chain (in_hand mail (graph_start f.graph f.chain.vars))) (f.follows.starts c mail t).0 (unchanged t (f.follows.here mail (graph_start f.graph f.chain.vars)))
first_goes c f mail t = let starts = f.follows.starts c mail t in steps_go c starts.0 t (chain_start f.chain (in_hand mail (graph_start f.graph f.chain.vars))) (unchanged t (f.follows.here mail (graph_start f.graph f.chain.vars))) starts.1

-- a chain begins at the first state of its blocks, or some silent steps before it
begins_there : (c : ℕ) (f : Followed) (message : Option (List ℕ)) → StandOne GraphState c (is_some message) false (here_of (Some f) message) (HasWords (Some f) message) (fresh_chain f.chain message) (graph_start f.graph f.chain.vars)
begins_there c f None =
    record {
      vars = sym (f.follows.vars (mail_in f.chain None) (graph_start f.graph f.chain.vars));
      runs = refl;
      leads = λ woken t. absurd (cc (woken));
      fine = (first_goes c f (mail_in f.chain None) []).message;
    }
begins_there c f (Some bytes) =
    record {
      vars = sym (f.follows.vars (mail_in f.chain (Some bytes)) (graph_start f.graph f.chain.vars));
      runs = refl;
      leads = λ woken t.
          let goes = first_goes c f (mail_in f.chain (Some bytes)) t in
          record { steps = (f.follows.starts c (mail_in f.chain (Some bytes)) t).0; go = goes.go; telling = goes.telling; tables = goes.tables; state = goes.state; enough = omega arith };
      fine = (first_goes c f (mail_in f.chain (Some bytes)) []).message;
    }

module _ (c : ℕ) (f : Followed) (message : Option (List ℕ)) (M : Type 0) (k : Machine M) (begin : M) (as_graph : M → GraphState) (r : RunsGraph M k begin as_graph c (mail_in f.chain message) f.graph f.chain.vars) where
  abbrev mail : Mail
  mail = mail_in f.chain message

  abbrev here : M → ChainState
  here x = here_of (Some f) message (as_graph x)

  abbrev kept : M → ℕ
  kept x = kept_of (Some f) (as_graph x) (k.cost x)

  abbrev Fine : M → Type 0
  Fine x = HasWords (Some f) message (as_graph x)

  matched_goes : (t : Contents) (x : GraphState) → SourceGoes c t (f.follows.here mail x) (f.follows.matched c mail t x).count (turn_by (f.follows.here mail) (graph_step c mail t x f.graph))
  matched_goes t x = let m = f.follows.matched c mail t x in steps_go c m.count t (f.follows.here mail x) (turn_by (f.follows.here mail) (graph_step c mail t x f.graph)) m.steps

  -- a state's worth is its step's cost and what is kept
  worth_is : (x : M) → k.cost x + kept x ≡ f.follows.worth (as_graph x)
  worth_is x =
      let within = (f.follows.matched c mail [] (as_graph x)).within in
      let cost = r.cost x in
      omega (arith, within, cost)

  step_goes : (x : M) (t : Contents) → k.ended x ≡ false → Goes ChainState (source_machine c) t (here x) (shown_then (k.step t x).event []) (k.step t x).tables (here (k.step t x).state) (k.cost (k.step t x).state + kept (k.step t x).state) (kept x)
  step_goes x t more =
      let m = f.follows.matched c mail t (as_graph x) in
      let goes = matched_goes t (as_graph x) in
      record {
        steps = m.count;
        go = goes.go;
        telling = goes.telling ∙ sym (ap (λ (e : Obs). shown_then e []) (r.event x t more));
        tables = goes.tables ∙ sym (r.tables x t more);
        state = goes.state ∙ sym (ap (f.follows.here mail) (r.state x t more));
        enough =
            let paid = m.paid in
            let now = worth_is x in
            let next = worth_is (k.step t x).state in
            let same = ap f.follows.worth (r.state x t more) in
            let cheap = r.cost x in
            let cost = steps_pay c m.count t (here x) in
            omega (arith, paid, now, next, same, cheap, cost);
      }

  pub graph_translates : TranslatesOne M c k begin here kept Fine
  graph_translates =
      record {
        step = λ x t fine more. step_goes x t more;
        fine = λ x t fine more. ap (λ (y : GraphState). (f.follows.here mail y).message) (r.state x t more) ∙ (matched_goes t (as_graph x)).message ∙ fine;
        runs = λ x fine. let same = r.ended x in let ended = f.follows.ended mail (as_graph x) in rw (fine, ended, same) refl;
        pays =
            let low = f.follows.entry in
            let now = worth_is begin in
            let same = ap f.follows.worth r.first in
            omega (arith, low, now, same);
      }

  pub graph_stands : StandOne M c (is_some message) (k.ended begin) here Fine (fresh_chain f.chain message) begin
  graph_stands =
      let ended : k.ended begin ≡ false = r.ended begin ∙ ap (λ (y : GraphState). y.ended) r.first in
      let one : StandOne GraphState c (is_some message) false (here_of (Some f) message) (HasWords (Some f) message) (fresh_chain f.chain message) (as_graph begin) = subst (StandOne GraphState c (is_some message) false (here_of (Some f) message) (HasWords (Some f) message) (fresh_chain f.chain message)) (sym r.first) (begins_there c f message) in
      record { vars = one.vars; runs = one.runs ∙ sym (ap (λ (b : Bool). is_some message && not b) ended); leads = one.leads; fine = one.fine }
