-- Which of some queues comes first from a cursor on.
use Rattle.std.specs.Prelude.{ℕ, ◌+◌, ◌-◌, ◌%◌, ◌^◌, Bool, true, ◌&&◌, nat_lt, if◌then◌else◌, Option, Some, None}
use Rattle.redn_words.specs.States.{State}
use Rattle.redn_sched.specs.MadeSchedules.{queue_acts}

-- how far a queue comes behind a cursor, where those below the cursor come after all others
abbrev pub distance : ℕ → ℕ → ℕ
distance cursor queue = (queue + (2 ^ 32 - cursor)) % 2 ^ 32

abbrev pub is_nearer : ℕ → ℕ → Option ℕ → Bool
is_nearer cursor queue None = true
is_nearer cursor queue (Some other) = nat_lt (distance cursor queue) (distance cursor other)

-- the one that comes first of a queue that may act and the one that was found so far
abbrev pub nearest : State → ℕ → ℕ → Option ℕ → Option ℕ
nearest s cursor queue first = if is_nearer cursor queue first && queue_acts s queue then Some queue else first
