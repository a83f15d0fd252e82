-- A fair schedule while it is made: where it stands.
use Rattle.std.specs.Prelude.{◌≤◌, List, [], ◌∷◌, length, Option, Some, None}
use Rattle.redn_words.specs.declared.types.Action.{Action}
use Rattle.redn_sched.specs.MadeSchedules.{Cursors}
use Rattle.redn_sched.specs.declared.fair.Fair.TheInside.{Inside}

-- after the next action, if there is one
abbrev pub moved : Cursors → Option (Action × Cursors) → Cursors
moved k None = k
moved k (Some p) = p.1

-- an action and those that follow it, or nothing
abbrev pub followed_by : Option Action → (Action → List Action) → List Action
followed_by None rest = []
followed_by (Some a) rest = a ∷ rest a

-- how the fields are seen, and what they keep
abbrev pub fair_view : Inside → Cursors
fair_view a = record { chain = a.chain; queues = a.queues.items }

abbrev pub IsFair : Inside → Type 0
IsFair a = a.chain ≤ length a.queues.items
