-- Where a graph is while a block's segments run, and what each of their runs tells of it.
use Rattle.std.specs.Prelude.{◌≡◌, ℕ, Bool, true, false, List, [], ◌∷◌, length}
use Rattle.redn_words.specs.declared.types.Obs.{Obs}
use Rattle.redn_graph.specs.Run.{GraphState}
use Rattle.redn_block.specs.Plays.{EventSteps}
use Rattle.redn_segment.specs.declared.types.SlotRef.{SlotRef}
use Rattle.redn_segment.specs.declared.types.Draft.{Draft}
use Rattle.redn_segment.specs.Plain.{Bytes, Outcome, Went, Faults, Bad, placed, runs}
use Rattle.redn_segment.specs.Effects.{slot_behind}
use Rattle.redn_proof_ring.specs.Turns.{HasBytes, tabled}
use Rattle.redn_proof_ring.specs.Runs.{own_view}
use Rattle.redn_proof_block.specs.Left.{Course, Rest, Falls}
use Rattle.redn_block.specs.Matches.{IsAt}
use Rattle.redn_proof_block.specs.Parts.{Round, IsRound, Mark, segments, begins, marks, AtPart, AtEnd}

-- the graph's state, and whether the instruction or end that runs has shown an event already, so that this is the state behind that event
pub record Ghost : Type 0 where
  pub state : GraphState
  pub ahead : Bool

-- the run of a segment shows some events: it makes the graph's steps that show them, and where it ends an instruction or an end, what is left of that
abbrev pub Tells : Course → Bool → Ghost → List Obs → Ghost → Type 0
Tells c true y events z = Rest c y.ahead y.state events z.state × (z.ahead ≡ false)
Tells c false y [] z = z ≡ y
Tells c false y (e ∷ l) z = EventSteps c.number c.mail c.graph y.state (e ∷ l) z.state × (z.ahead ≡ true)

module _ (r : Round) where
  -- whatever the tables are, here the block goes on, or is over
  abbrev pub Later : Bytes → ℕ → GraphState → Bytes → Type 0
  Later b place z t = (u : Bytes) → HasBytes u → AtPart r b place z (tabled t u)

  abbrev pub Done : Bytes → GraphState → Bytes → Type 0
  Done b z t = (u : Bytes) → HasBytes u → AtEnd r b z (tabled t u)

  abbrev pub Comes : (Ghost → Bytes → Type 0) → Bool → Ghost → Bytes → Outcome → Type 0
  Comes Next closes y t (Went us events) = (z : Ghost) × Tells r.course closes y events z × Next z (placed t us)
  Comes Next closes y t (Faults us events) = Falls r.course y.ahead y.state events
  Comes Next closes y t Bad = ⊥

  -- at the first segment of an instruction or end the graph is there, and not ahead
  abbrev pub Starts : Bool → ℕ → Ghost → Type 0
  Starts opens place y = opens ≡ true → (y.ahead ≡ false) × IsAt r.number place y.state

  -- segments from a slot on, of each of which it is told where it is: each sees other tables, none goes badly, and behind the last one the block is
  -- over, which began with the state b
  abbrev pub Follows : Bytes → List (List Draft) → List Mark → SlotRef → Ghost → Bytes → Type 0
  Follows b [] told at y t = Done b y.state t × (y.ahead ≡ false)
  Follows b (here ∷ later) [] at y t = ⊥
  Follows b (here ∷ later) (m ∷ told) at y t =
      Starts m.opens m.place y
      × ((u : Bytes) → HasBytes u →
      Comes (Follows b later told (slot_behind at (length here))) m.closes y (tabled t u) (runs (own_view r.course.number u) at here (tabled t u)))

-- the segments of a block's ring follow its graph from the block's beginning
abbrev pub SegmentsFollow : Type 0
SegmentsFollow =
    (most : ℕ) (r : Round) → IsRound most r → (x : GraphState) (t : Bytes) → Later r t 0 x t
    → Follows r t (segments r) (marks r) (begins r) (record { state = x; ahead = false }) t
