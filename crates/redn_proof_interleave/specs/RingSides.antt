-- What the rings of an image promise of the graphs of a program's chains.
use Rattle.std.specs.Prelude.{◌≡◌, ℕ, ◌^◌, ◌<◌, List, [], ◌∷◌, Option, Some, None, map, slice_get}
use Rattle.std.specs.List.{All}
use Rattle.redn_words.specs.declared.types.Region.{Region}
use Rattle.redn_words.specs.Words.{bytes_at}
use Rattle.redn_kernel.specs.declared.types.TableInit.{TableInit}
use Rattle.redn_kernel.specs.declared.types.ChainInit.{ChainInit}
use Rattle.redn_kernel.specs.declared.types.Program.{Program}
use Rattle.redn_kernel.specs.Source.{bytes_of}
use Rattle.redn_graph.specs.declared.types.Graph.{Graph}
use Rattle.redn_graph.specs.Run.{GraphState}
use Rattle.redn_graph.specs.Follows.{Follows}
use Rattle.redn_image.specs.Rules.{Image}
use Rattle.redn_image.specs.Agreement.{HoldsVariables, variables_of, places_of}
use Rattle.redn_image.specs.Faithful.{start_of}
use Rattle.redn_proof_interleave.specs.Machines.{Contents}
use Rattle.redn_proof_interleave.specs.Forms.{World, chains_of, AllPromise}
use Rattle.redn_proof_interleave.specs.Compiled.{Messages}
use Rattle.redn_proof_interleave.specs.GraphMachines.{Followed, RunsGraph, mail_in}

-- each chain has a graph that follows it
abbrev pub AllFollow : List ChainInit → List Graph → Type 0
AllFollow [] [] = Unit {0}
AllFollow [] (g ∷ gs) = ⊥
AllFollow (c ∷ cs) [] = ⊥
AllFollow (c ∷ cs) (g ∷ gs) = Follows c g × AllFollow cs gs

abbrev pub followed : (cs : List ChainInit) (gs : List Graph) → AllFollow cs gs → List Followed
followed [] [] h = []
followed [] (g ∷ gs) h = []
followed (c ∷ cs) [] h = []
followed (c ∷ cs) (g ∷ gs) h = record { chain = c; graph = g; follows = h.0 } ∷ followed cs gs h.1

abbrev pub or_none : Option (Option (List ℕ)) → Option (List ℕ)
or_none None = None
or_none (Some m) = m

-- the message of a chain
abbrev pub message_at : Messages → ℕ → Option (List ℕ)
message_at messages c = or_none (slice_get messages c)

abbrev pub first_tables : Program → Contents
first_tables p = map (λ (t : TableInit). t.bytes) p.tables

-- a world, and the state of a graph for each state of its machines
pub record Graphed : Type 1 where
  pub world : World
  pub as_graph : ℕ → world.M → GraphState

-- the rings' part: the machines run as the graphs do. It says nothing of the source
pub record RingSide (p : Program) (i : Image) (gs : List Graph) (messages : Messages) (graphed : Graphed) : Type 0 where
  pub begin : graphed.world.begin ≡ start_of i messages
  pub most : graphed.world.most ≡ 2 ^ 62
  pub promises : AllPromise graphed.world
  pub runs_graph : (c : ℕ) (chain : ChainInit) (g : Graph) → slice_get p.chains c ≡ Some chain → slice_get gs c ≡ Some g →
      RunsGraph graphed.world.M (graphed.world.form c).machine (graphed.world.form c).begin (graphed.as_graph c) c
      (mail_in chain (message_at messages c)) g chain.vars
  pub has_tables : graphed.world.Tables (first_tables p) graphed.world.begin.memory
  pub tables : (t : Contents) (m : List ℕ) (n : ℕ) → graphed.world.Tables t m
      → All (λ (r : Region). bytes_at m r.base r.len ≡ bytes_of t n) (places_of n graphed.world.begin.regions)
  pub variables : (c : ℕ) (y : graphed.world.M) (m : List ℕ) → c < chains_of graphed.world → (graphed.world.form c).Holds y m
      → All (HoldsVariables m (graphed.as_graph c y).cells.vars) (variables_of c graphed.world.begin.regions)
