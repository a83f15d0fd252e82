-- A shuffled schedule while it is made: where it stands.
use Rattle.std.specs.Prelude.{Option, Some, None}
use Rattle.redn_words.specs.declared.types.Action.{Action}
use Rattle.redn_sched.specs.Shuffles.{Shuffling}
use Rattle.redn_sched.specs.declared.shuffle.Shuffle.TheInside.{Inside}

-- after the next action, if there is one
abbrev pub shuffled_on : Shuffling → Option (Action × Shuffling) → Shuffling
shuffled_on k None = k
shuffled_on k (Some p) = p.1

-- how the fields are seen
abbrev pub shuffle_view : Inside → Shuffling
shuffle_view a = record { z = a.z; queues = a.queues.items }
