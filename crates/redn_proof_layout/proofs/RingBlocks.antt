-- Each ring of a placed chain is a block of its graph.
use Rattle.std.proofs.Common.{◌≡◌, ℕ, ◌+◌, true, List, length, Some, ap, ◌∙◌, arith}
use Rattle.std.specs.Prelude.{slice_get}
use Rattle.redn_kernel.specs.declared.types.Program.{Program}
use Rattle.redn_graph.specs.declared.types.Graph.{Graph}
use Rattle.redn_graph.specs.Fits.{things_of}
use Rattle.redn_emit.specs.Layout.{ChainPlan, has_ring}
use Rattle.redn_emit.specs.Placed.{plans}
use Rattle.redn_emit.proofs.Counts.{length-rings}
use Rattle.redn_proof_layout.specs.PlacedLaws.{AreSound}
use Rattle.redn_proof_layout.specs.Rings.{IsBlockRing, HasGraph, AllHaveGraphs}
use Rattle.redn_proof_layout.proofs.Chains.{IsChain}
use Rattle.redn_proof_layout.proofs.Whole.{chain, placed, rings_are, has_things, one, segs_are, block_fits, block_named_well, block_words}

module _ (p : Program) (graphs : List Graph) (are : AreSound p graphs) (i : ℕ) (c : ChainPlan) (there : slice_get (plans p graphs) i ≡ Some c) where
  abbrev its : IsChain (length p.tables) (0 + i) (length p.chains) p.chains graphs i c
  its = chain p graphs are i c there

  ring_block : (r : ℕ) → has_ring c r ≡ true → IsBlockRing (things_of p.tables its.init its.graph) its.graph c r
  ring_block r h =
      record {
        block = (one p graphs are i c there r h).block;
        there = (one p graphs are i c there r h).block_at;
        segments_are = segs_are p graphs are i c there r h;
        fits = block_named_well p graphs are i c there r h;
        small = block_words p graphs are i c there r h;
        targets = block_fits p graphs are i c there r h;
      }

  pub has_graph : HasGraph p graphs i c
  has_graph =
      record {
        init = its.init;
        graph = its.graph;
        init_at = its.init_at;
        graph_at = its.graph_at;
        number = (let n : c.number ≡ 0 + i = ap (λ (x : ChainPlan). x.number) its.is in omega (arith, n));
        vars = ap (λ (x : ChainPlan). x.vars) its.is;
        values = ap (λ (x : ChainPlan). x.values) its.is;
        args = ap (λ (x : ChainPlan). x.args) its.is;
        hidden = ap (λ (x : ChainPlan). x.hidden) its.is;
        entry = ap (λ (x : ChainPlan). x.entry) its.is;
        tables = (placed p graphs are i c there).tables_are;
        many = ap length (rings_are p graphs are i c there) ∙ length-rings c.first c.first its.graph.blocks;
        rings = ring_block;
        has_vars = (has_things p graphs are i c there).vars;
        has_hidden = (has_things p graphs are i c there).hidden;
        has_args = (has_things p graphs are i c there).args;
      }

pub all_have_graphs : AllHaveGraphs
all_have_graphs p graphs are i c there = has_graph p graphs are i c there
