-- Steps of a graph that show some events, whatever the tables are, as long as the events are true of them.
use Rattle.std.specs.Prelude.{◌≡◌, ℕ, true, false, List, [], ◌∷◌, ◌++◌}
use Rattle.redn_words.specs.declared.types.Obs.{Obs}
use Rattle.redn_words.specs.declared.types.Obs.TheVariants as shows
use Rattle.redn_kernel.specs.Source.{has_word, word_in, with_word_in}
use Rattle.redn_graph.specs.declared.types.Graph.{Graph}
use Rattle.redn_graph.specs.Run.{Mail, GraphState, graph_step}

-- what an event says of the tables that it found
abbrev pub IsTrueOf : List (List ℕ) → Obs → Type 0
IsTrueOf tables (shows.Load c x t o w) = (has_word tables t o ≡ true) × (word_in tables t o ≡ w)
IsTrueOf tables (shows.Look c t o w) = (has_word tables t o ≡ true) × (word_in tables t o ≡ w)
IsTrueOf tables (shows.Store c t o w) = has_word tables t o ≡ true
IsTrueOf tables (shows.Fault c t o) = has_word tables t o ≡ false
IsTrueOf tables _ = Unit {0}

-- the tables that it leaves
abbrev pub stored : List (List ℕ) → Obs → List (List ℕ)
stored tables (shows.Store c t o w) = with_word_in tables t o w
stored tables _ = tables

-- an event as a list
abbrev pub told : Obs → List Obs
told shows.Nothing = []
told e = e ∷ []

-- an instruction or an end shows some events and leads to a state
pub record Lead : Type 0 where
  pub shows : List Obs
  pub state : GraphState

abbrev pub all_shown : List Lead → List Obs
all_shown [] = []
all_shown (l ∷ rest) = l.shows ++ all_shown rest

abbrev pub last_state : GraphState → List Lead → GraphState
last_state x [] = x
last_state x (l ∷ rest) = last_state l.state rest

module _ (c : ℕ) (mail : Mail) (g : Graph) where
  -- chain c makes a step that shows this event, over all tables of which the event is true
  abbrev pub StepTells : GraphState → Obs → GraphState → Type 0
  StepTells x e y =
      (tables : List (List ℕ)) → IsTrueOf tables e → graph_step c mail tables x g ≡ record { tables = stored tables e; state = y; event = e }

  -- each step shows an event
  abbrev pub EventSteps : GraphState → List Obs → GraphState → Type 0
  EventSteps x [] z = x ≡ z
  EventSteps x (e ∷ rest) z = (y : GraphState) × StepTells x e y × EventSteps y rest z

  -- so do the steps of an instruction or an end, or it is one step that shows nothing
  abbrev pub Leads : GraphState → List Obs → GraphState → Type 0
  Leads x [] z = StepTells x shows.Nothing z
  Leads x (e ∷ rest) z = EventSteps x (e ∷ rest) z

  abbrev pub AllLead : GraphState → List Lead → Type 0
  AllLead x [] = Unit {0}
  AllLead x (l ∷ rest) = Leads x l.shows l.state × AllLead l.state rest

  -- some instructions and ends lead from one state to another and show these events
  pub record Played (x : GraphState) (events : List Obs) (z : GraphState) : Type 0 where
    pub leads : List Lead
    pub all_lead : AllLead x leads
    pub shows_are : all_shown leads ≡ events
    pub ends : last_state x leads ≡ z
