-- Rings side by side run as the graphs of a program's chains.
use Rattle.std.proofs.Common.{◌≡◌, ℕ, ◌+◌, ◌*◌, ◌<◌, List, length, sym, ap, ◌∙◌, subst, arith}
use Rattle.std.specs.Prelude.{slice_index}
use Rattle.redn_words.specs.declared.types.Region.{Region}
use Rattle.redn_words.specs.Words.{bytes_at}
use Rattle.redn_kernel.specs.declared.types.Program.{Program}
use Rattle.redn_kernel.specs.Source.{bytes_of}
use Rattle.redn_graph.specs.declared.types.Graph.{Graph}
use Rattle.redn_graph.specs.Run.{Mail, GraphState, graph_start}
use Rattle.redn_segment.proofs.Kept.{word_is}
use Rattle.redn_image.specs.Rules.{Image}
use Rattle.redn_image.specs.Agreement.{HoldsVariables}
use Rattle.redn_proof_interleave.specs.Machines.{Contents}
use Rattle.redn_proof_interleave.specs.Forms.{AllPromise}
use Rattle.redn_proof_interleave.specs.Compiled.{Messages}
use Rattle.redn_proof_interleave.specs.GraphMachines.{graph_machine, RunsGraph}
use Rattle.redn_proof_interleave.specs.RingSides.{RingSide}
use Rattle.redn_proof_interleave.proofs.GraphMachines.{itself_runs}
use Rattle.redn_proof_chain.specs.Together.{Together, Begun, Shelves, HasTables, HasVars, world_of}
use Rattle.redn_proof_chain.specs.Sides.{IsImage, IsShelf, HasCells, graphed_of}
use Rattle.redn_proof_chain.proofs.Shelved.{shelves_hold}
use Rattle.redn_proof_chain.proofs.Promising.{rings_promise}

-- a graph runs itself, by other names for its chain
runs_as : (c k : ℕ) (w v : Mail) (g h : Graph) (us vs : List ℕ) → k ≡ c → w ≡ v → g ≡ h → us ≡ vs → RunsGraph GraphState (graph_machine k w g) (graph_start g us) (λ x. x) c v h vs
runs_as c k w v g h us vs number mail graph vars =
    subst (λ (n : ℕ). RunsGraph GraphState (graph_machine n w g) (graph_start g us) (λ x. x) c v h vs) (sym number)
    (subst (λ (l : Mail). RunsGraph GraphState (graph_machine c l g) (graph_start g us) (λ x. x) c v h vs) (sym mail)
    (subst (λ (r : Graph). RunsGraph GraphState (graph_machine c v r) (graph_start r us) (λ x. x) c v h vs) (sym graph) (subst (λ (l : List ℕ). RunsGraph GraphState (graph_machine c v h) (graph_start h l) (λ x. x) c v h vs) (sym vars) (itself_runs c v h vs))))

-- a table in its region
on_shelf : (s : Shelves) (t : Contents) (m : List ℕ) (n : ℕ) (r : Region) → HasTables s t m → IsShelf s n r → bytes_at m r.base r.len ≡ bytes_of t n
on_shelf s t m n r has its = ap (λ (a : ℕ). bytes_at m a r.len) (sym its.at) ∙ ap (bytes_at m (s.at n)) (sym its.len) ∙ has.each n its.inside

-- variables in their region
held : (b : Begun) (y : GraphState) (m : List ℕ) (r : Region) → HasVars b y m → HasCells b r → HoldsVariables m y.cells.vars r
held b y m r has cells =
    record {
      words = λ k l.
          let many = has.many in
          let small : k < length b.vars = omega (arith, l, many) in
          let at = has.each k small in
          word_is 8 (slice_index y.cells.vars k) (r.base + 8 * k) m (ap (λ (p : ℕ). bytes_at m p 8) (sym (cells k small)) ∙ at.0) at.1;
    }

module _ (p : Program) (i : Image) (gs : List Graph) (messages : Messages) (g : Together) (h : IsImage p i gs messages g) where
  all_promise : AllPromise (world_of g)
  all_promise =
      record {
        each = λ c l. rings_promise g c (h.among c l);
        rows = h.rows;
        heads = h.heads;
        ends = h.ends;
        sound = h.sound;
        tables_same = λ t m n size bytes has. (shelves_hold g.shelves t m has).same n size bytes;
      }

  pub ring_side : RingSide p i gs messages (graphed_of g)
  ring_side =
      record {
        begin = h.begin;
        most = h.most;
        promises = all_promise;
        runs_graph = λ c chain graph there graph_there. let its = h.chains c chain graph there graph_there in runs_as c _ _ _ _ graph _ chain.vars its.number its.mail_is its.graph_is its.vars_are;
        has_tables = h.tables;
        tables = λ t m n has k d small. on_shelf g.shelves t m n _ has (h.shelves n k d small);
        variables = λ c y m l has k d small. held (g.chain c) y m _ has (h.cells c l k d small);
      }
