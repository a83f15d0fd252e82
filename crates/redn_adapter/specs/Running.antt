-- An adapter's state with the number of its steps.
use Rattle.std.specs.Prelude.{◌≡◌, ℕ, ◌+◌, ◌<◌, Bool, true, false, if◌then◌else◌, List, length, Option, Some, None, IsSome, slice_get, slice_set}
use Rattle.redn_words.specs.declared.types.Action.{Action}
use Rattle.redn_words.specs.declared.types.Obs.{Obs}
use Rattle.redn_words.specs.declared.types.Obs.TheVariants as shows
use Rattle.redn_words.specs.declared.types.Request.{Request}
use Rattle.redn_words.specs.declared.types.Class.{Class}
use Rattle.std.specs.FinMap as finite
use Rattle.redn_words.specs.States.{State, Queue}
use Rattle.redn_words.specs.Steps.{after, may_start, started, started_shows, with_queue, with_queue_at, past_head, stopped, flown, enabled_in}

pub record Running : Type 0 where
  pub state : State
  pub steps : ℕ

-- what one step leaves, which is nothing new where it isn't possible
abbrev pub stepped : Running → Option (State × Obs) → Running
stepped r None = r
stepped r (Some p) = record { state = p.0; steps = r.steps + 1 }

-- what an action leaves, where it is possible
abbrev pub next_of : Running → Action → Running
next_of r a = record { state = after r.state a; steps = r.steps + 1 }

abbrev pub Runs : Option Queue → Type 0
Runs None = ⊥
Runs (Some queue) = queue.stopped ≡ false

abbrev pub HeadIsHeld : Option Queue → Type 0
HeadIsHeld None = ⊥
HeadIsHeld (Some queue) = IsSome (finite.get queue.held queue.head)

abbrev pub HasRoom : Option Queue → Type 0
HasRoom None = ⊥
HasRoom (Some queue) = length queue.flights < queue.row.slots

abbrev pub stopped_if : Bool → Queue → Queue
stopped_if stops queue = if stops then stopped (past_head queue) else past_head queue

-- what a start leaves that puts nothing into flight
abbrev pub aside : Running → ℕ → Bool → Running
aside r q stops = record { state = with_queue (slice_get r.state.queues q) r.state (λ queue. with_queue_at r.state q (stopped_if stops queue)); steps = r.steps + 1 }

-- what a start leaves that raises a limit
abbrev pub raised_after : Running → ℕ → ℕ → ℕ → Running
raised_after r q n limit =
    record {
      state = with_queue (slice_get r.state.queues q) r.state (λ queue. record r.state { queues = enabled_in (slice_set r.state.queues q (past_head queue)) n limit });
      steps = r.steps + 1;
    }

-- what a start leaves that puts a request into flight
abbrev pub flown_after : Running → ℕ → List ℕ → Running
flown_after r q copy =
    record { state = with_queue (slice_get r.state.queues q) r.state (λ queue. with_queue_at r.state q (flown (past_head queue) queue.head copy)); steps = r.steps + 1 }

-- what the start of a copy leaves, by its request and class
abbrev pub started_after : Running → ℕ → List ℕ → Request → Class → Running
started_after r q copy request c =
    record { state = with_queue (slice_get r.state.queues q) r.state (λ queue. started r.state q queue copy request c); steps = r.steps + 1 }

-- what it shows
abbrev pub started_shown : State → ℕ → List ℕ → Request → Class → Obs
started_shown s q copy request c = with_queue (slice_get s.queues q) shows.Nothing (λ queue. started_shows s q queue copy request c)

-- where it is possible
abbrev pub CanStart : State → ℕ → Request → Class → Type 0
CanStart s q request c = with_queue (slice_get s.queues q) false (λ queue. may_start s queue request c) ≡ true
