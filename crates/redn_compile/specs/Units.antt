-- An adapter that takes one request after the other.
use Rattle.std.specs.Prelude.{ℕ, ◌^◌, ◌<◌, List, [], ◌∷◌, ◌++◌, length, Option, Some, None, slice_get}
use Rattle.redn_words.specs.declared.types.Action.{Action}
use Rattle.redn_words.specs.declared.types.Action.TheVariants.{Deliver, Fetch, Start, Land, Complete}
use Rattle.redn_words.specs.States.{Queue, State}
use Rattle.redn_words.specs.Runs.{AllPossible, reached}
use Rattle.redn_kernel.specs.declared.types.Program.{Program}
use Rattle.redn_kernel.specs.Source.{source_start}
use Rattle.redn_image.specs.Rules.{Image}
use Rattle.redn_image.specs.Faithful.{AreMessages, Explains, Faithful, start_of}

-- a message comes, or head of a queue is fetched and starts; a request that goes into flight lands, and unless it is refused completes
pub data UnitOfWork : Type 0 where
  Mail : ℕ → UnitOfWork
  Passes : ℕ → UnitOfWork
  Lands : ℕ → UnitOfWork
  Completes : ℕ → UnitOfWork

abbrev pub head_of : Option Queue → ℕ
head_of None = 0
head_of (Some u) = u.head

abbrev pub started : State → ℕ → List Action
started s q = Fetch q (head_of (slice_get s.queues q)) ∷ Start q ∷ []

abbrev pub landed : State → ℕ → List Action
landed s q = started s q ++ Land q (head_of (slice_get s.queues q)) ∷ []

abbrev pub actions_of : State → UnitOfWork → List Action
actions_of s (Mail c) = Deliver c ∷ []
actions_of s (Passes q) = started s q
actions_of s (Lands q) = landed s q
actions_of s (Completes q) = landed s q ++ Complete q ∷ []

-- one unit after the other
abbrev pub all_actions : State → List UnitOfWork → List Action
all_actions s [] = []
all_actions s (u ∷ us) = actions_of s u ++ all_actions (reached s (actions_of s u)) us

-- where an image is faithful, every list of units that are possible is a run of the program
abbrev pub UnitsAreRuns : Type 0
UnitsAreRuns =
    (p : Program) (i : Image) → Faithful p i → (messages : List (Option (List ℕ))) → AreMessages p.chains messages → (units : List UnitOfWork) → length (all_actions (start_of i messages) units) < 2 ^ 62 → AllPossible (start_of i messages) (all_actions (start_of i messages) units)
    → (turns : List ℕ) × Explains (start_of i messages) (all_actions (start_of i messages) units) (source_start p messages) turns
