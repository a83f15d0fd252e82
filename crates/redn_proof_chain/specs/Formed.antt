-- A chain's rings as the compiled form of its graph.
use Rattle.std.specs.Prelude.{◌≡◌, ℕ, ◌+◌, ◌-◌, ◌<◌, Bool, true, false, ◌||◌, if◌then◌else◌, List, [], get_or, slice_get, Option, Some, None, All}
use Rattle.redn_words.specs.declared.types.Opcode.{Opcode}
use Rattle.redn_words.specs.declared.types.Obs.{Obs}
use Rattle.redn_words.specs.Landings.{Change}
use Rattle.redn_graph.specs.declared.types.Block.{Block}
use Rattle.redn_graph.specs.declared.types.End.TheVariants as end
use Rattle.redn_graph.specs.Run.{GraphState, step_cost}
use Rattle.redn_segment.specs.declared.types.Space.TheVariants as space
use Rattle.redn_segment.specs.declared.types.Draft.{Draft}
use Rattle.redn_segment.specs.Plain.{Bytes}
use Rattle.redn_segment.specs.Orders.{is_send}
use Rattle.redn_block.specs.Blocks.{block_segments, EndFits}
use Rattle.redn_block.specs.Matches.{IsAt}
use Rattle.redn_recycle.specs.Laps.{bodies_of}
use Rattle.redn_proof_ring.specs.Plans.{Plan, IsLaid, is_ring, IsOwn}
use Rattle.redn_proof_ring.specs.Layouts.{Layout, plan_of}
use Rattle.redn_proof_ring.specs.Turns.{Meaning, Turn}
use Rattle.redn_proof_ring.specs.Runs.{Allows, meaning}
use Rattle.redn_proof_block.specs.Truth.{IsTrueBy}
use Rattle.redn_proof_block.specs.Left.{Course, Falls}
use Rattle.redn_proof_block.specs.Stages.{Ghost}
use Rattle.redn_proof_block.specs.Stages as stages
use Rattle.redn_proof_block.specs.Shares.{counts_of, place_in, begins_in, closes_in}
use Rattle.redn_proof_block.specs.Laying.{Turned}
use Rattle.redn_proof_chain.specs.Openings.{later_cost}
use Rattle.redn_proof_chain.specs.States.{behind, has_stepped, fallen}

-- a chain's course, its rings, and what is told of the runs of their segments
pub record Formed : Type 1 where
  pub layout : Layout
  pub course : Course
  pub takes : ℕ → ℕ → ℕ → Opcode → Type 0
  pub tells : ℕ → ℕ → Bytes → Ghost → List Obs → Ghost → Type 0
  pub fails : ℕ → ℕ → Bytes → Ghost → List Obs → Type 0
  pub enters : ℕ → Ghost → Bytes → Type 0

abbrev pub no_block : Block
no_block = record { instrs = []; end = end.Jump 0 }

-- an event's draft that sends
abbrev pub draft_sends : Option Draft → Bool
draft_sends None = false
draft_sends (Some d) = is_send d.op

module _ (f : Formed) where
  abbrev pub plan : Plan
  plan = plan_of f.layout

  abbrev pub its_meaning : Meaning plan
  its_meaning = meaning plan f.takes Ghost f.tells f.fails f.enters

  abbrev pub Point : Type 0
  Point = Turn plan its_meaning

  abbrev pub number_at : ℕ → ℕ
  number_at r = r - f.layout.first_queue

  abbrev pub block_at : ℕ → Block
  block_at r = get_or f.course.graph.blocks (number_at r) no_block

  -- how many segments each part of a ring's block has
  abbrev pub counts_at : ℕ → List ℕ
  counts_at r = counts_of f.layout.first_queue r (block_at r)

  -- at the first segment of an instruction or an end the graph is there, and not ahead
  abbrev pub Starts : ℕ → ℕ → Ghost → Type 0
  Starts r j y = begins_in (counts_at r) j ≡ true → (y.ahead ≡ false) × IsAt (number_at r) (place_in (counts_at r) j) y.state

  abbrev pub AreTrue : Bytes → List Obs → Type 0
  AreTrue u events = All (IsTrueBy (λ (t : ℕ). u (space.Table t))) events

  pub record TellsWell (r j : ℕ) (u : Bytes) (y : Ghost) (events : List Obs) (z : Ghost) : Type 0 where
    pub starts : Starts r j y
    pub steps : stages.Tells f.course (closes_in (counts_at r) j) y events z
    pub seen : AreTrue u events

  pub record FailsWell (r j : ℕ) (u : Bytes) (y : Ghost) (events : List Obs) : Type 0 where
    pub starts : Starts r j y
    pub falls : Falls f.course y.ahead y.state events
    pub seen : AreTrue u events

  -- a ring has the segments of its block
  pub record IsBlockRing (r : ℕ) : Type 0 where
    pub there : slice_get f.course.graph.blocks (number_at r) ≡ Some (block_at r)
    pub segments_are : f.layout.segments r ≡ block_segments f.layout.first_queue r (block_at r)
    pub most : ℕ
    pub fits : EndFits most f.layout.first_queue (block_at r).end

  pub record IsFormed : Type 0 where
    pub laid : IsLaid plan
    pub number : f.course.number ≡ f.layout.domain
    pub blocks : (r : ℕ) → is_ring plan r ≡ true → IsBlockRing r
    pub allows : Allows plan f.takes Ghost f.tells f.fails f.enters
    pub tells_well : (r j : ℕ) (u : Bytes) (y : Ghost) (events : List Obs) (z : Ghost) → is_ring plan r ≡ true → j < (plan.ring r).segments
        → f.tells r j u y events z → TellsWell r j u y events z
    pub fails_well : (r j : ℕ) (u : Bytes) (y : Ghost) (events : List Obs) → is_ring plan r ≡ true → j < (plan.ring r).segments
        → f.fails r j u y events → FailsWell r j u y events
    pub turned : (r j k : ℕ) (d : Draft) (op : Opcode) → is_ring plan r ≡ true → j < (plan.ring r).segments → IsOwn plan r j k d → f.takes r j k op
        → Turned d op

  -- whether the event of a window is a SEND
  abbrev pub sends_at : Point → Bool
  sends_at x = draft_sends (slice_get (bodies_of x.ring (plan.ring x.ring) x.segment) ((plan.ring x.ring).event x.segment))

  -- while a window is open: before its event's landing, and from then on
  abbrev pub state_at : Point → Option (List Change) → GraphState
  state_at x None = x.ghost.state
  state_at x (Some writes) = behind f.course (sends_at x) x.ghost.state writes

  abbrev pub ahead_at : Point → Option (List Change) → Bool
  ahead_at x None = x.ghost.ahead
  ahead_at x (Some writes) = x.ghost.ahead || has_stepped (sends_at x) writes

  -- what a graph that is ahead has brought for its next step
  abbrev pub brought : Bool → GraphState → ℕ
  brought ahead y = if ahead then step_cost f.course.graph y else 0

  abbrev pub owed_at : Point → Option (List Change) → ℕ
  owed_at x told = later_cost x.ring (plan.ring x.ring) (counts_at x.ring) x.segment + brought (ahead_at x told) (state_at x told)

  abbrev pub failed_at : Point → GraphState
  failed_at x = fallen x.ghost.state
