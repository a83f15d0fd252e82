-- Which ring of a placed chain is which block of its graph.
use Rattle.std.specs.Prelude.{◌≡◌, ℕ, ◌-◌, ◌^◌, ◌<◌, true, List, length, Some, slice_get}
use Rattle.redn_kernel.specs.declared.types.Cell.TheVariants.{Var, Hidden, Argument}
use Rattle.redn_kernel.specs.declared.types.ChainInit.{ChainInit}
use Rattle.redn_kernel.specs.declared.types.Program.{Program}
use Rattle.redn_graph.specs.declared.types.Block.{Block}
use Rattle.redn_graph.specs.declared.types.Graph.{Graph}
use Rattle.redn_graph.specs.Fits.{Things, FitsBlock, things_of}
use Rattle.redn_segment.specs.declared.types.Space.TheVariants as space
use Rattle.redn_block.specs.Blocks.{BlockWords, BlockFits, block_segments}
use Rattle.redn_proof_ring.specs.Plans.{is_ring}
use Rattle.redn_emit.specs.Layout.{ChainPlan, has_space}
use Rattle.redn_emit.specs.Placed.{plans}
use Rattle.redn_proof_layout.specs.Layouts.{segments_named}
use Rattle.redn_proof_layout.specs.PlacedLaws.{AreSound}
use Rattle.redn_proof_layout.specs.Beginning.{plan_for}

-- a ring has the segments of its block, which names what there is, has words for numbers, and jumps to rings
pub record IsBlockRing (things : Things) (g : Graph) (c : ChainPlan) (r : ℕ) : Type 0 where
  pub block : Block
  pub there : slice_get g.blocks (r - c.first) ≡ Some block
  pub segments_are : segments_named c r ≡ block_segments c.first r block
  pub fits : FitsBlock things block
  pub small : BlockWords block
  pub targets : BlockFits (2 ^ 32) c.first block

-- a placed chain is that of the program at its place, with the graph there; it has what that graph names
pub record HasGraph (p : Program) (graphs : List Graph) (i : ℕ) (c : ChainPlan) : Type 0 where
  pub init : ChainInit
  pub graph : Graph
  pub init_at : slice_get p.chains i ≡ Some init
  pub graph_at : slice_get graphs i ≡ Some graph
  pub number : c.number ≡ i
  pub vars : c.vars ≡ length init.vars
  pub values : c.values ≡ init.vars
  pub args : c.args ≡ init.args
  pub hidden : c.hidden ≡ graph.hidden
  pub entry : c.entry ≡ graph.entry
  pub tables : c.tables ≡ length p.tables
  pub many : length c.rings ≡ length graph.blocks
  pub rings : (r : ℕ) → is_ring (plan_for p graphs c) r ≡ true → IsBlockRing (things_of p.tables init graph) graph c r
  pub has_vars : (x : ℕ) → x < length init.vars → has_space c (space.Cell (Var x)) ≡ true
  pub has_hidden : (k : ℕ) → k < graph.hidden → has_space c (space.Cell (Hidden k)) ≡ true
  pub has_args : (k : ℕ) → k < init.args → has_space c (space.Cell (Argument k)) ≡ true

abbrev pub AllHaveGraphs : Type 0
AllHaveGraphs =
    (p : Program) (graphs : List Graph) → AreSound p graphs → (i : ℕ) (c : ChainPlan) → slice_get (plans p graphs) i ≡ Some c → HasGraph p graphs i c
