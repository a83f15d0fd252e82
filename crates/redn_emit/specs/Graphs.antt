-- The graphs of a program's chains.
use Rattle.std.specs.Prelude.{◌≡◌, ℕ, ◌*◌, ◌≤◌, List, length, Some, slice_get, All}
use Rattle.redn_kernel.specs.declared.types.TableInit.{TableInit}
use Rattle.redn_kernel.specs.declared.types.ChainInit.{ChainInit}
use Rattle.redn_kernel.specs.declared.types.Program.{Program}
use Rattle.redn_kernel.specs.Program.{chain_weight}
use Rattle.redn_graph.specs.declared.types.Graph.{Graph}
use Rattle.redn_graph.specs.Fits.{FitsGraph}
use Rattle.redn_graph.specs.Slots.{AreSmall, all_slots}
use Rattle.redn_block.specs.Blocks.{BlockWords}

-- a graph fits its chain, and takes no more slots than the chain's weight allows
pub record IsGraphOf (tables : List TableInit) (c : ChainInit) (g : Graph) : Type 0 where
  pub fits : FitsGraph tables c g
  pub slots : all_slots g.blocks ≤ 64 * chain_weight c
  pub small : AreSmall 65536 g.blocks

-- a graph for each chain, in their order
pub record AreGraphs (p : Program) (graphs : List Graph) : Type 0 where
  pub count : length graphs ≡ length p.chains
  pub each : (i : ℕ) (c : ChainInit) (g : Graph) → slice_get p.chains i ≡ Some c → slice_get graphs i ≡ Some g → IsGraphOf p.tables c g

-- the numbers of a graph fit their types: words, and 16 bits for the count of hidden cells
pub record HasWords (g : Graph) : Type 0 where
  pub blocks : All BlockWords g.blocks
  pub hidden : g.hidden ≤ 65535

abbrev pub AllHaveWords : List Graph → Type 0
AllHaveWords graphs = All HasWords graphs
