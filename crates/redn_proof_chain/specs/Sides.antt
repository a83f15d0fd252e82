-- An image's chains as rings side by side, of the graphs of a program's chains.
use Rattle.std.specs.Prelude.{◌≡◌, ℕ, ◌+◌, ◌*◌, ◌<◌, ◌⊎◌, ◌^◌, true, List, length, slice_get, Some}
use Rattle.std.specs.List.{All}
use Rattle.redn_words.specs.declared.types.Region.{Region}
use Rattle.redn_words.specs.declared.types.QueueRow.{QueueRow}
use Rattle.redn_words.specs.Access.{EndsBy}
use Rattle.redn_words.specs.States.{Queue}
use Rattle.redn_words.specs.Laws.{row_at}
use Rattle.redn_kernel.specs.declared.types.ChainInit.{ChainInit}
use Rattle.redn_kernel.specs.declared.types.Program.{Program}
use Rattle.redn_kernel.specs.declared.types.Cell.TheVariants.{Var}
use Rattle.redn_graph.specs.declared.types.Graph.{Graph}
use Rattle.redn_graph.specs.Run.{Mail}
use Rattle.redn_segment.specs.declared.types.Space.TheVariants as space
use Rattle.redn_segment.specs.Homes.{base_of}
use Rattle.redn_proof_window.specs.Scripts.{IsBytes}
use Rattle.redn_image.specs.Rules.{Image}
use Rattle.redn_image.specs.Agreement.{variables_of, places_of}
use Rattle.redn_image.specs.Faithful.{start_of}
use Rattle.redn_proof_ring.specs.Plans.{is_ring}
use Rattle.redn_proof_interleave.specs.Compiled.{Messages}
use Rattle.redn_proof_interleave.specs.GraphMachines.{mail_in}
use Rattle.redn_proof_interleave.specs.RingSides.{Graphed, message_at, first_tables}
use Rattle.redn_proof_chain.specs.Formed.{plan}
use Rattle.redn_proof_chain.specs.Together.{Begun, Shelves, Together, HasTables, world_of}
use Rattle.redn_proof_chain.specs.Among.{IsAmong}

-- each chain's machine is its graph
abbrev pub graphed_of : Together → Graphed
graphed_of g = record { world = world_of g; as_graph = λ c y. y }

-- a chain of a program, its graph and its message
pub record IsChain (b : Begun) (c : ℕ) (chain : ChainInit) (graph : Graph) (mail : Mail) : Type 0 where
  pub number : b.formed.course.number ≡ c
  pub mail_is : b.formed.course.mail ≡ mail
  pub graph_is : b.formed.course.graph ≡ graph
  pub vars_are : b.vars ≡ chain.vars

-- a region of a table, and one of a chain's variables
pub record IsShelf (s : Shelves) (n : ℕ) (r : Region) : Type 0 where
  pub inside : n < s.many
  pub at : s.at n ≡ r.base
  pub len : s.len n ≡ r.len

abbrev pub HasCells : Begun → Region → Type 0
HasCells b r = (i : ℕ) → i < length b.vars → base_of b.formed.layout.home (space.Cell (Var i)) ≡ r.base + 8 * i

module _ (p : Program) (i : Image) (gs : List Graph) (messages : Messages) (g : Together) where
  pub record IsImage : Type 0 where
    pub begin : g.begin ≡ start_of i messages
    pub most : g.most ≡ 2 ^ 62
    pub among : (c : ℕ) → c < length g.begin.chains → IsAmong g c
    pub chains : (c : ℕ) (chain : ChainInit) (graph : Graph) → slice_get p.chains c ≡ Some chain → slice_get gs c ≡ Some graph
        → IsChain (g.chain c) c chain graph (mail_in chain (message_at messages c))
    pub rows : (q : ℕ) (row : QueueRow) → row_at g.begin.queues q ≡ Some row
        → (row.domain < length g.begin.chains) × ((q ≡ (g.chain row.domain).entry.queue) ⊎ (is_ring (plan (g.chain row.domain).formed) q ≡ true))
    pub heads : (q : ℕ) (u : Queue) → slice_get g.begin.queues q ≡ Some u → u.head ≡ 0
    pub ends : EndsBy (length g.begin.memory) g.begin.regions
    pub sound : IsBytes g.begin.memory
    -- tables and variables lie in the image's regions
    pub tables : HasTables g.shelves (first_tables p) g.begin.memory
    pub shelves : (n : ℕ) → All (IsShelf g.shelves n) (places_of n g.begin.regions)
    pub cells : (c : ℕ) → c < length g.begin.chains → All (HasCells (g.chain c)) (variables_of c g.begin.regions)
