-- What is left of an instruction or an end, after some of its segments.
use Rattle.std.specs.Prelude.{◌≡◌, ℕ, Bool, true, false, List}
use Rattle.redn_words.specs.declared.types.Obs.{Obs}
use Rattle.redn_graph.specs.declared.types.Graph.{Graph}
use Rattle.redn_graph.specs.Run.{Mail, GraphState}
use Rattle.redn_segment.specs.declared.types.SlotRef.{SlotRef}
use Rattle.redn_segment.specs.declared.types.Draft.{Draft}
use Rattle.redn_segment.specs.Plain.{Bytes, View, placed, Outcome, Went, Faults, Bad, runs}
use Rattle.redn_segment.specs.Primed.{SeesBytes}
use Rattle.redn_block.specs.Plays.{StepTells, EventSteps, Leads}

-- a chain, its mail, and its graph
pub record Course : Type 0 where
  pub number : ℕ
  pub mail : Mail
  pub graph : Graph

module _ (c : Course) where
  abbrev pub Tells : GraphState → Obs → GraphState → Type 0
  Tells = StepTells c.number c.mail c.graph

  -- the steps that are left of it: one that shows nothing, or one for each event. Where it has shown an event already, `ahead`, only such are left
  abbrev pub Rest : Bool → GraphState → List Obs → GraphState → Type 0
  Rest false x events z = Leads c.number c.mail c.graph x events z
  Rest true x events z = EventSteps c.number c.mail c.graph x events z

  abbrev pub Falls : Bool → GraphState → List Obs → Type 0
  Falls ahead x events = (z : GraphState) × Rest ahead x events z × (z.ended ≡ true)

  abbrev pub LeftBy : (GraphState → Bytes → Type 0) → Bool → GraphState → Bytes → Outcome → Type 0
  LeftBy Then ahead x t (Went us events) = (z : GraphState) × Rest ahead x events z × Then z (placed t us)
  LeftBy Then ahead x t (Faults us events) = Falls ahead x events
  LeftBy Then ahead x t Bad = ⊥

  -- whatever the tables are, drafts from a slot on do what is left, and then this holds
  abbrev pub IsLeftOf : (GraphState → Bytes → Type 0) → Bool → GraphState → SlotRef → List Draft → Bytes → Type 0
  IsLeftOf Then ahead x at ds t =
      (view : View) → view.number ≡ c.number → SeesBytes view → LeftBy Then ahead x t (runs view at ds t)
