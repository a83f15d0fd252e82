-- An image whose rings are forms of the graphs of a program's chains is faithful: what is left is the ring side alone.
use Rattle.std.proofs.Common.{◌≡◌, ℕ, zero, suc, ◌<◌, Bool, not, ◌&&◌, List, [], ◌∷◌, Option, Some, None, length, refl, sym, ap, subst, ◌∙◌, arith}
use Rattle.std.specs.Prelude.{slice_get, is_some}
use Rattle.std.specs.List.{All}
use Rattle.std.specs.Option.{option_map}
use Rattle.std.proofs.lemmas.List.{length-map}
use Rattle.std.proofs.lemmas.Option.{slice_get-map, slice_get_past}
use Rattle.redn_words.specs.States.{State, start, fresh_chain}
use Rattle.redn_kernel.specs.declared.types.ChainInit.{ChainInit}
use Rattle.redn_kernel.specs.declared.types.Program.{Program}
use Rattle.redn_kernel.specs.Source as source
use Rattle.redn_kernel.specs.Source.{ChainState, source_start, fresh_chains, bytes_of, chain_runs}
use Rattle.redn_graph.specs.declared.types.Graph.{Graph}
use Rattle.redn_graph.specs.Run.{GraphState}
use Rattle.redn_image.specs.Rules.{Image}
use Rattle.redn_image.specs.Agreement.{Fits, HoldsVariables, variables_of}
use Rattle.redn_image.specs.Faithful.{AreMessages, Faithful, start_of}
use Rattle.redn_proof_interleave.specs.Machines.{Machine, Many}
use Rattle.redn_proof_interleave.specs.Forms.{World, chains_of, message, message_in, awake}
use Rattle.redn_proof_interleave.specs.Sources.{Sourced, Translates, Stand, Same}
use Rattle.redn_proof_interleave.specs.Compiled.{Messages, IsCompiled}
use Rattle.redn_proof_interleave.proofs.Headline.{compiled_is_faithful}
use Rattle.redn_proof_interleave.specs.GraphMachines.{Followed, RunsGraph, mail_in, here_of, kept_of, HasWords}
use Rattle.redn_proof_interleave.proofs.GraphMachines.{here_vars, TranslatesOne, StandOne, graph_translates, graph_stands}
use Rattle.redn_proof_interleave.specs.RingSides.{AllFollow, followed, or_none, message_at, first_tables, Graphed, RingSide}

-- a chain, with what stands at its number in each list
record Chosen (cs : List ChainInit) (gs : List Graph) (all : List Followed) (messages : Messages) (c : ℕ) : Type 0 where
  pub f : Followed
  pub chain : slice_get cs c ≡ Some f.chain
  pub graph : slice_get gs c ≡ Some f.graph
  pub there : slice_get all c ≡ Some f
  pub begins : slice_get (fresh_chains cs messages) c ≡ Some (source.fresh_chain f.chain (message_at messages c))

chosen : (cs : List ChainInit) (gs : List Graph) (h : AllFollow cs gs) (messages : Messages) → AreMessages cs messages → (c : ℕ) → c < length cs → Chosen cs gs (followed cs gs h) messages c
chosen [] gs h messages are c l = absurd (omega arith)
chosen (k ∷ cs) [] h messages are c l = absurd h
chosen (k ∷ cs) (g ∷ gs) h [] are c l = absurd are
chosen (k ∷ cs) (g ∷ gs) h (m ∷ messages) are zero l = record { f = record { chain = k; graph = g; follows = h.0 }; chain = refl; graph = refl; there = refl; begins = refl }
chosen (k ∷ cs) (g ∷ gs) h (m ∷ messages) are (suc c) l =
    let rest = chosen cs gs h.1 messages are.1 c (omega arith) in
    record { f = rest.f; chain = rest.chain; graph = rest.graph; there = rest.there; begins = rest.begins }

pub one_each : (cs : List ChainInit) (messages : Messages) → AreMessages cs messages → length messages ≡ length cs
one_each [] [] are = refl
one_each [] (m ∷ messages) are = absurd are
one_each (c ∷ cs) [] are = absurd are
one_each (c ∷ cs) (m ∷ messages) are = ap suc (one_each cs messages are.1)

fresh_length : (cs : List ChainInit) (messages : Messages) → length (fresh_chains cs messages) ≡ length cs
fresh_length [] messages = refl
fresh_length (c ∷ cs) [] = ap suc (fresh_length cs [])
fresh_length (c ∷ cs) (m ∷ messages) = ap suc (fresh_length cs messages)

pub message_first : (o : Option (Option (List ℕ))) → message_in (option_map fresh_chain o) ≡ or_none o
message_first None = refl
message_first (Some None) = refl
message_first (Some _) = refl

module _ (i : Image) (messages : Messages) where
  pub first_message : (c : ℕ) → message_in (slice_get (start_of i messages).chains c) ≡ message_at messages c
  unfolding start
  first_message c = ap message_in (slice_get-map fresh_chain messages c) ∙ message_first (slice_get messages c)

  pub first_length : length (start_of i messages).chains ≡ length messages
  unfolding start
  first_length = length-map messages fresh_chain

source_tables : (p : Program) (messages : Messages) → (source_start p messages).tables ≡ first_tables p
unfolding source_start
source_tables p messages = refl

source_chains : (p : Program) (messages : Messages) → (source_start p messages).chains ≡ fresh_chains p.chains messages
unfolding source_start
source_chains p messages = refl

module _ (p : Program) (i : Image) (gs : List Graph) (graphed : Messages → Graphed) where
  module _ (h : AllFollow p.chains gs) where
    abbrev all : List Followed
    all = followed p.chains gs h

    -- what the states of the machines stand for in the source
    abbrev sourced : Messages → Sourced
    sourced messages =
        record {
          world = (graphed messages).world;
          here = λ c x. here_of (slice_get all c) (message_at messages c) ((graphed messages).as_graph c x);
          kept = λ c x. kept_of (slice_get all c) ((graphed messages).as_graph c x) (((graphed messages).world.form c).machine.cost x);
          Fine = λ c x. HasWords (slice_get all c) (message_at messages c) ((graphed messages).as_graph c x);
        }

    module _ (messages : Messages) (are : AreMessages p.chains messages) (r : RingSide p i gs messages (graphed messages)) where
      abbrev g : World
      g = (graphed messages).world

      abbrev M : Type 0
      M = g.M

      many : chains_of g ≡ length p.chains
      many = ap (λ (s : State). length s.chains) r.begin ∙ first_length i messages ∙ one_each p.chains messages are

      message_is : (c : ℕ) → message g c ≡ message_at messages c
      message_is c = ap (λ (s : State). message_in (slice_get s.chains c)) r.begin ∙ first_message i messages c

      module _ (c : ℕ) (l : c < chains_of g) where
        it : Chosen p.chains gs all messages c
        it = let same = many in chosen p.chains gs h messages are c (omega (arith, same, l))

        abbrev k : Machine M
        k = (g.form c).machine

        abbrev begin : M
        begin = (g.form c).begin

        abbrev at : M → GraphState
        at = (graphed messages).as_graph c

        abbrev m : Option (List ℕ)
        m = message_at messages c

        its_graph : RunsGraph M k begin at c (mail_in it.f.chain m) it.f.graph it.f.chain.vars
        its_graph = r.runs_graph c it.f.chain it.f.graph it.chain it.graph

        one_translates : TranslatesOne M c k begin ((sourced messages).here c) ((sourced messages).kept c) ((sourced messages).Fine c)
        one_translates =
            subst (λ (o : Option Followed). TranslatesOne M c k begin (λ (x : M). here_of o m (at x)) (λ (x : M). kept_of o (at x) (k.cost x)) (λ (x : M). HasWords o m (at x))) (sym it.there) (graph_translates c it.f m M k begin at its_graph)

        translates : Translates (sourced messages) c
        translates =
            let one = one_translates in
            record { step = λ x t fine woken more. one.step x t fine more; fine = one.fine; runs = λ x fine woken. one.runs x fine; pays = one.pays }

        one_stands : StandOne M c (is_some m) (k.ended begin) ((sourced messages).here c) ((sourced messages).Fine c) (source.fresh_chain it.f.chain m) begin
        one_stands =
            subst (λ (o : Option Followed). StandOne M c (is_some m) (k.ended begin) (λ (x : M). here_of o m (at x)) (λ (x : M). HasWords o m (at x)) (source.fresh_chain it.f.chain m) begin) (sym it.there) (graph_stands c it.f m M k begin at its_graph)

        awake_is : awake g c ≡ is_some m
        awake_is = ap is_some (message_is c)

        stands : Stand (sourced messages) c (source.fresh_chain it.f.chain m) begin
        stands =
            let one = one_stands in
            record { vars = one.vars; runs = one.runs ∙ sym (ap (λ (b : Bool). b && not (k.ended begin)) awake_is); leads = λ woken t. one.leads (sym awake_is ∙ woken) t; fine = one.fine }

      machines : Many M
      machines = record { tables = first_tables p; at = λ c. (g.form c).begin }

      same_first : Same (sourced messages) machines (source_start p messages)
      unfolding machines
      same_first =
          record {
            tables = source_tables p messages;
            each = λ c l. (source.fresh_chain (it c l).f.chain (message_at messages c), ap (λ (cs : List ChainState). slice_get cs c) (source_chains p messages) ∙ (it c l).begins, stands c l);
            past = λ c far.
                let same = many in
                let length_is = ap length (source_chains p messages) ∙ fresh_length p.chains messages in
                slice_get_past (source_start p messages).chains c (omega (arith, same, length_is, far));
          }

      pub compiled : IsCompiled p i messages (sourced messages)
      unfolding machines
      compiled =
          record {
            begin = r.begin;
            most = r.most;
            promises = r.promises;
            machines = machines;
            begins = record { at = λ c. refl; tables = r.has_tables };
            same = same_first;
            translates = λ c l. translates c l;
            tables = r.tables;
            variables = λ c y m l holds. subst (λ (vars : List ℕ). All (HoldsVariables m vars) (variables_of c g.begin.regions)) (sym (here_vars (slice_get all c) (message_at messages c) ((graphed messages).as_graph c y))) (r.variables c y m l holds);
          }

  -- so what graphs give is taken once for all programs, and rings have to say nothing of the source
  pub graphs_are_faithful : AllFollow p.chains gs → Fits p i → ((messages : Messages) → AreMessages p.chains messages → RingSide p i gs messages (graphed messages)) → Faithful p i
  graphs_are_faithful h fits rings = compiled_is_faithful p i (sourced h) fits (λ messages are. compiled h messages are (rings messages are))
