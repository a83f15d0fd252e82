-- Laws of a chain's rings beside its graph.
use Rattle.std.specs.Prelude.{◌≡◌, ◌≢◌, ℕ, ◌+◌, ◌<◌, ◌≤◌, Bool, true, List, length, slice_get, Some}
use Rattle.redn_words.specs.declared.types.Obs.{Obs}
use Rattle.redn_words.specs.declared.types.Obs.TheVariants as shows
use Rattle.redn_words.specs.Landings.{Change}
use Rattle.redn_words.specs.Words.{with_bytes_at, spelled}
use Rattle.redn_words.specs.Bytes.{byte}
use Rattle.redn_kernel.specs.Source.{has_word, with_word_in}
use Rattle.redn_graph.specs.declared.types.Block.{Block}
use Rattle.redn_graph.specs.declared.types.Graph.{Graph}
use Rattle.redn_graph.specs.Run.{GraphState, step_cost}
use Rattle.redn_block.specs.Blocks.{block_segments}
use Rattle.redn_block.specs.Matches.{IsAt}
use Rattle.redn_block.specs.Blocks.{EndFits}
use Rattle.redn_recycle.specs.Lapped.{ring_of}
use Rattle.redn_proof_block.specs.Left.{Course, Tells}
use Rattle.redn_proof_interleave.specs.Machines.{Contents}
use Rattle.redn_proof_interleave.specs.Forms.{Promises}
use Rattle.redn_proof_block.specs.Laying.{Laying, IsLaying}
use Rattle.redn_proof_chain.specs.Formed.{IsFormed}
use Rattle.redn_proof_chain.specs.Laid.{formed_of}
use Rattle.redn_proof_chain.specs.Together.{Shelves, HasTables, is_shared, LieApart, Together, world_of}
use Rattle.redn_kernel.specs.declared.types.Program.{Program}
use Rattle.redn_image.specs.Rules.{Image}
use Rattle.redn_proof_interleave.specs.Compiled.{Messages}
use Rattle.redn_proof_interleave.specs.RingSides.{RingSide}
use Rattle.redn_proof_chain.specs.Sides.{graphed_of}
use Rattle.redn_proof_chain.specs.States.{Shows, behind, fallen}
use Rattle.redn_proof_block.specs.Shares.{counts_of, place_in, begins_in}
use Rattle.redn_proof_chain.specs.Openings.{opening_cost, later_cost}

-- where a part of a block begins, its windows cost together at most what the graph's step does there
abbrev pub PartsPay : Type 0
PartsPay =
    (g : Graph) (most first ring domain base block : ℕ) (b : Block) → slice_get g.blocks block ≡ Some b → EndFits most first b.end →
    (j : ℕ) → j < length (block_segments first ring b) → begins_in (counts_of first ring b) j ≡ true →
    (x : GraphState) → IsAt block (place_in (counts_of first ring b) j) x →
    opening_cost ring (ring_of (block_segments first ring b) ring domain base) j + later_cost ring (ring_of (block_segments first ring b) ring domain base) (counts_of first ring b) j ≤ step_cost g x

-- where the graph's next step tells an event, the state behind it follows from what the event's body wrote
pub record StatesBehind (c : Course) (x : GraphState) (e : Obs) (z : GraphState) : Type 0 where
  pub behind : (sends : Bool) (writes : List Change) → e ≢ shows.Nothing → Shows sends writes e → behind c sends x writes ≡ z
  pub fallen : (n t o : ℕ) → e ≡ shows.Fault n t o → fallen x ≡ z

abbrev pub StepsShow : Type 0
StepsShow = (c : Course) (x : GraphState) (e : Obs) (z : GraphState) → Tells c x e z → StatesBehind c x e z

-- memory goes on having the tables, where no byte of them changes; and where a word of one is stored, it has the tables with that word
pub record TablesStay (s : Shelves) (t : Contents) (m : List ℕ) : Type 0 where
  pub same : (n : List ℕ) → length n ≡ length m → ((p : ℕ) → is_shared s p ≡ true → byte n p ≡ byte m p) → HasTables s t n
  pub stored : (k o v : ℕ) → LieApart s (length m) → k < s.many → has_word t k o ≡ true
      → HasTables s (with_word_in t k o v) (with_bytes_at m (s.at k + o) (spelled 8 v))

abbrev pub ShelvesHold : Type 0
ShelvesHold = (s : Shelves) (t : Contents) (m : List ℕ) → HasTables s t m → TablesStay s t m

-- a chain's graph in rings that allow what laps ask is formed so
abbrev pub LayingsForm : Type 0
LayingsForm = (l : Laying) → IsLaying l → IsFormed (formed_of l)

-- the rings of a chain among others are its graph's compiled form: all that is promised of it holds
abbrev pub RingsPromise : Together → ℕ → Type 0
RingsPromise g c = Promises (world_of g) c

-- and all chains of an image run as their graphs
abbrev pub RingsSide : Program → Image → List Graph → Messages → Together → Type 0
RingsSide p i gs messages g = RingSide p i gs messages (graphed_of g)
