-- The chain at each place of a program, with its graph and its plan.
use Rattle.std.proofs.Common.{◌≡◌, ℕ, ◌+◌, ◌<◌, ◌≤◌, inl, inr, true, List, length, Some, refl, sym, subst, arith}
use Rattle.std.specs.Prelude.{slice_get}
use Rattle.std.proofs.lemmas.Bool.{cases_lt}
use Rattle.std.proofs.lemmas.Option.{slice_get-get_or, get_or_from_slice_get}
use Rattle.std.proofs.lemmas.List.{get_or_past}
use Rattle.redn_kernel.specs.declared.types.Cell.TheVariants.{Var, Hidden, Argument}
use Rattle.redn_kernel.specs.declared.types.ChainInit.{ChainInit}
use Rattle.redn_kernel.specs.declared.types.Program.{Program}
use Rattle.redn_graph.specs.declared.types.Graph.{Graph}
use Rattle.redn_graph.specs.Fits.{things_of}
use Rattle.redn_segment.specs.declared.types.Space.TheVariants as space
use Rattle.redn_recycle.specs.Laps.{IsRing}
use Rattle.redn_proof_ring.specs.Plans.{is_ring}
use Rattle.redn_emit.specs.Layout.{ChainPlan, has_space}
use Rattle.redn_emit.specs.Placed.{plans}
use Rattle.redn_proof_layout.specs.Layouts.{layout_of}
use Rattle.redn_proof_layout.specs.PlacedLaws.{AreSound}
use Rattle.redn_proof_layout.specs.Beginning.{plan_for}
use Rattle.redn_proof_layout.specs.Rings.{IsBlockRing, HasGraph}
use Rattle.redn_proof_layout.proofs.Lengths.{count}
use Rattle.redn_proof_layout.proofs.Whole.{laid_out}
use Rattle.redn_proof_layout.proofs.RingBlocks.{has_graph}
use Rattle.redn_proof_layout.proofs.Queues.{entered}
use Rattle.redn_proof_ring.proofs.Laying.{laid}
use Rattle.redn_proof_layout.specs.Chains.{no_plan, no_chain, no_graph, HasEntry, plan_at, init_at, graph_at, AllHaveEntries}

-- a plan, with the chain and the graph of its place
pub record Its (p : Program) (graphs : List Graph) (i : ℕ) (c : ChainPlan) (init : ChainInit) (g : Graph) : Type 0 where
  pub there : slice_get (plans p graphs) i ≡ Some c
  pub init_there : slice_get p.chains i ≡ Some init
  pub graph_there : slice_get graphs i ≡ Some g
  pub number : c.number ≡ i
  pub vars : c.vars ≡ length init.vars
  pub values : c.values ≡ init.vars
  pub args : c.args ≡ init.args
  pub hidden : c.hidden ≡ g.hidden
  pub entry : c.entry ≡ g.entry
  pub tables : c.tables ≡ length p.tables
  pub many : length c.rings ≡ length g.blocks
  pub rings : (r : ℕ) → is_ring (plan_for p graphs c) r ≡ true → IsBlockRing (things_of p.tables init g) g c r
  pub has_vars : (x : ℕ) → x < length init.vars → has_space c (space.Cell (Var x)) ≡ true
  pub has_hidden : (k : ℕ) → k < g.hidden → has_space c (space.Cell (Hidden k)) ≡ true
  pub has_args : (k : ℕ) → k < init.args → has_space c (space.Cell (Argument k)) ≡ true

from_graph : (p : Program) (graphs : List Graph) (i : ℕ) (c : ChainPlan) → slice_get (plans p graphs) i ≡ Some c → (h : HasGraph p graphs i c) → Its p graphs i c h.init h.graph
from_graph p graphs i c there h =
    record {
      there = there;
      init_there = h.init_at;
      graph_there = h.graph_at;
      number = h.number;
      vars = h.vars;
      values = h.values;
      args = h.args;
      hidden = h.hidden;
      entry = h.entry;
      tables = h.tables;
      many = h.many;
      rings = h.rings;
      has_vars = h.has_vars;
      has_hidden = h.has_hidden;
      has_args = h.has_args;
    }

module _ (p : Program) (graphs : List Graph) (are : AreSound p graphs) where
  pub its : (i : ℕ) → i < length p.chains → Its p graphs i (plan_at p graphs i) (init_at p graphs i) (graph_at p graphs i)
  its i l =
      let many = count p graphs are in
      let there : slice_get (plans p graphs) i ≡ Some (plan_at p graphs i) = slice_get-get_or (plans p graphs) i no_plan (omega (arith, l, many)) in
      let h : HasGraph p graphs i (plan_at p graphs i) = has_graph p graphs are i (plan_at p graphs i) there in
      let its_init : h.init ≡ init_at p graphs i = sym (get_or_from_slice_get p.chains i h.init no_chain h.init_at) in
      let its_graph : h.graph ≡ graph_at p graphs i = sym (get_or_from_slice_get graphs i h.graph no_graph h.graph_at) in
      subst (λ (x : ChainInit). Its p graphs i (plan_at p graphs i) x (graph_at p graphs i)) its_init (subst (λ (x : Graph). Its p graphs i (plan_at p graphs i) h.init x) its_graph (from_graph p graphs i (plan_at p graphs i) there h))

  -- each chain is entered at a ring with a segment, those that stand nowhere too
  entry_at : (i : ℕ) (c : ChainPlan) (init : ChainInit) (g : Graph) → Its p graphs i c init g → HasEntry p graphs c init g
  entry_at i c init g h =
      let e = entered p graphs are i c h.there in
      let ring : is_ring (plan_for p graphs c) (c.first + g.entry) ≡ true = subst (λ (n : ℕ). is_ring (plan_for p graphs c) (c.first + n) ≡ true) h.entry e.ring in
      let made : IsRing (c.first + g.entry) ((plan_for p graphs c).ring (c.first + g.entry)) = (laid (layout_of p graphs c) (laid_out p graphs are i c h.there)).rings (c.first + g.entry) ring in
      let some = made.some in
      record { ring_in = ring; segment_in = omega (arith, some) }

  nowhere : (i : ℕ) → length p.chains ≤ i → HasEntry p graphs (plan_at p graphs i) (init_at p graphs i) (graph_at p graphs i)
  nowhere i past =
      let many = count p graphs are in
      let same = are.each.count in
      subst (λ (c : ChainPlan). HasEntry p graphs c (init_at p graphs i) (graph_at p graphs i)) (sym (get_or_past (plans p graphs) i no_plan (omega (arith, past, many)))) (subst (λ (x : ChainInit). HasEntry p graphs no_plan x (graph_at p graphs i)) (sym (get_or_past p.chains i no_chain past)) (subst (λ (x : Graph). HasEntry p graphs no_plan no_chain x) (sym (get_or_past graphs i no_graph (omega (arith, past, same)))) (record { ring_in = refl; segment_in = omega arith })))

  pub all_have_entries : AllHaveEntries p graphs
  all_have_entries i =
      elim (cases_lt i (length p.chains)) [
        | inl low ↦ entry_at i (plan_at p graphs i) (init_at p graphs i) (graph_at p graphs i) (its i low)
        | inr past ↦ nowhere i past
      ]
