-- Chains' rings side by side, with the tables that they share.
use Rattle.std.specs.Prelude.{◌≡◌, ◌≢◌, ℕ, ◌+◌, ◌<◌, ◌≤◌, ◌⊎◌, ◌^◌, Bool, true, false, ◌&&◌, nat_le, nat_lt, List, length, slice_index}
use Rattle.std.specs.List.{list_any, range_with_len}
use Rattle.redn_words.specs.Words.{bytes_at, spelled}
use Rattle.redn_words.specs.States.{State}
use Rattle.redn_kernel.specs.declared.types.Cell.TheVariants.{Var}
use Rattle.redn_kernel.specs.Source.{bytes_of}
use Rattle.redn_graph.specs.Run.{GraphState, graph_start}
use Rattle.redn_segment.specs.declared.types.Space.TheVariants as space
use Rattle.redn_segment.specs.Homes.{base_of}
use Rattle.redn_proof_window.specs.Gateways.{Gateway}
use Rattle.redn_proof_window.specs.Scripts.{Script}
use Rattle.redn_proof_ring.specs.Plans.{is_ring}
use Rattle.redn_proof_ring.specs.Turns.{Ready, script_of}
use Rattle.redn_proof_interleave.specs.Machines.{Contents}
use Rattle.redn_proof_interleave.specs.Forms.{Form, World}
use Rattle.redn_proof_interleave.specs.GraphMachines.{graph_machine}
use Rattle.redn_proof_chain.specs.Formed.{Formed, Point, plan, its_meaning, state_at, failed_at, owed_at}

-- where the tables lie
pub record Shelves : Type 0 where
  pub many : ℕ
  pub at : ℕ → ℕ
  pub len : ℕ → ℕ

module _ (s : Shelves) where
  -- memory has these tables
  pub record HasTables (t : Contents) (m : List ℕ) : Type 0 where
    pub many : length t ≡ s.many
    pub each : (k : ℕ) → k < s.many → bytes_at m (s.at k) (s.len k) ≡ bytes_of t k

  abbrev pub is_on : ℕ → ℕ → Bool
  is_on p k = nat_le (s.at k) p && nat_lt p (s.at k + s.len k)

  -- a byte of a table
  abbrev pub is_shared : ℕ → Bool
  is_shared p = list_any (is_on p) (range_with_len 0 s.many)

  pub record LieApart (size : ℕ) : Type 0 where
    pub inside : (k : ℕ) → k < s.many → s.at k + s.len k ≤ size
    pub apart : (j k : ℕ) → j < s.many → k < s.many → j ≢ k → (s.at j + s.len j ≤ s.at k) ⊎ (s.at k + s.len k ≤ s.at j)

-- a chain's rings, its entry, its private bytes, and the first values of its variables
pub record Begun : Type 1 where
  pub formed : Formed
  pub entry : Gateway
  pub mine : ℕ → Bool
  pub vars : List ℕ
  pub ring_in : is_ring (plan formed) (formed.layout.first_queue + formed.course.graph.entry) ≡ true
  pub segment_in : 0 < ((plan formed).ring (formed.layout.first_queue + formed.course.graph.entry)).segments

module _ (b : Begun) where
  -- before the first segment of the entry's ring, no lap having been
  abbrev pub first_point : Point b.formed
  first_point =
      record {
        ring = b.formed.layout.first_queue + b.formed.course.graph.entry;
        segment = 0;
        laps = λ r. 0;
        ghost = record { state = graph_start b.formed.course.graph b.vars; ahead = false };
        ring_in = b.ring_in;
        segment_in = b.segment_in;
      }

  -- each variable is the word at its place
  pub record HasVars (y : GraphState) (m : List ℕ) : Type 0 where
    pub many : length y.cells.vars ≡ length b.vars
    pub each : (i : ℕ) → i < length b.vars
        → (bytes_at m (base_of b.formed.layout.home (space.Cell (Var i))) 8 ≡ spelled 8 (slice_index y.cells.vars i))
        × (slice_index y.cells.vars i < 2 ^ 64)

  -- the windows of its rings, where memory has the variables too
  abbrev pub script_at : Script
  script_at =
      record (script_of (plan b.formed) (its_meaning b.formed)) { Ready = λ x m. Ready (plan b.formed) (its_meaning b.formed) x m × HasVars x.ghost.state m }

  abbrev pub form_of : Form GraphState
  form_of =
      record {
        script = script_at;
        entry = b.entry;
        first = first_point;
        mine = b.mine;
        machine = graph_machine b.formed.course.number b.formed.course.mail b.formed.course.graph;
        begin = graph_start b.formed.course.graph b.vars;
        state = state_at b.formed;
        failed = failed_at b.formed;
        owed = owed_at b.formed;
        Holds = HasVars;
      }

-- all chains, and what they share
pub record Together : Type 1 where
  pub chain : ℕ → Begun
  pub begin : State
  pub shelves : Shelves
  pub most : ℕ

abbrev pub world_of : Together → World
world_of g =
    record {
      M = GraphState;
      form = λ c. form_of (g.chain c);
      begin = g.begin;
      shared = is_shared g.shelves;
      Tables = HasTables g.shelves;
      most = g.most;
    }
