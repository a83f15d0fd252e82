-- What an action of an open window's queue does.
use Rattle.std.specs.Prelude.{◌≡◌, ◌≢◌, ℕ, ◌+◌, ◌-◌, ◌*◌, ◌<◌, ◌≤◌, Bool, true, false, if◌then◌else◌, List, [], ◌∷◌, Some, None, length, slice_get, slice_set}
use Rattle.std.specs.FinMap as finite
use Rattle.redn_words.specs.declared.types.QueueRow.{QueueRow}
use Rattle.redn_words.specs.declared.types.Action.{Action}
use Rattle.redn_words.specs.declared.types.Obs.TheVariants as shows
use Rattle.redn_words.specs.Requests.{decoded}
use Rattle.redn_words.specs.States.{Copies, Queue, State}
use Rattle.redn_words.specs.Landings.{Change, changed}
use Rattle.redn_words.specs.Steps.{possible, after, shown, is_useful, acts_on, counter_of, with_queue_at, stopped, enabled_in}
use Rattle.redn_words.specs.Laws.{row_at}
use Rattle.redn_words.specs.Bytes.{byte}
use Rattle.redn_words.specs.Missing.{missing}
use Rattle.redn_proof_window.specs.Windows.{By_gates, Opening, bodies_of, place_of, past_gate, slots_of, signals, landing_on, enable_of}
use Rattle.redn_proof_window.specs.Stages.{Counts, Standing, Agrees, Progress, landed_in, all_written, Stage}

-- how many useful actions may still come: a fetch, a start, a landing and a completion for each body, a fetch and a start for each gate
abbrev pub marks_due : List Bool → ℕ
marks_due [] = 0
marks_due (true ∷ marks) = 1 + marks_due marks
marks_due (false ∷ marks) = 2 + marks_due marks

abbrev pub starts_due : Opening → ℕ → ℕ
starts_due w head = 2 * (bodies_of w - past_gate w head) + (slots_of w - head)

abbrev pub budget : Opening → Copies → ℕ → List Bool → ℕ
budget w held done marks = missing (w.from + (done + length marks)) held (w.from + slots_of w) + (starts_due w (done + length marks) + marks_due marks)

abbrev pub budget_of : Opening → Progress → ℕ
budget_of w t = budget w t.queue.held t.done t.marks

abbrev pub cost : State → Action → ℕ
cost s a = if is_useful s a then 1 else 0

-- a queue that holds nothing, has nothing in flight and nothing open
pub record AtRest (row : QueueRow) (at counter : ℕ) (u : Queue) : Type 0 where
  pub row_is : u.row ≡ row
  pub runs : u.stopped ≡ false
  pub head : u.head ≡ at
  pub limit : u.limit ≡ at
  pub flights : u.flights ≡ []
  pub held : (i : ℕ) → finite.get u.held i ≡ None
  pub counted : u.counter ≡ counter

-- the first gate has passed, or may: its counter has come to what it waits for
abbrev pub MayBegin : Opening → State → ℕ → Type 0
MayBegin w s done =
    (copy : List ℕ) → w.first_gate ≡ Some copy → done ≡ 0 → (n : ℕ) × (counter_of s w.row.domain (decoded copy).first ≡ Some n) × ((decoded copy).second ≤ n)

module _ (w : Opening) (s : State) (t : Progress) (event : List Change) (a : Action) where
  -- the window is open still, and nothing was shown or written but private bytes. A first gate passes only where it may
  pub record Quiet : Type 0 where
    pub now : Progress
    pub next : Stage w (after s a) now event
    pub silent : shown s a ≡ shows.Nothing
    pub begins : 0 < now.done → MayBegin w s t.done
    pub same : w.event < bodies_of w → landed_in w now w.event ≡ landed_in w t w.event
    pub private : (p : ℕ) → w.ours p ≡ false → byte (after s a).memory p ≡ byte s.memory p
    pub others : (q : ℕ) → q ≢ w.queue → slice_get (after s a).queues q ≡ slice_get s.queues q
    pub more : w.ending ≡ By_gates → t.done < slots_of w → now.done < slots_of w
    pub spends : cost s a + budget_of w now ≤ budget_of w t

  -- the event's body has landed, on a memory as at the opening
  pub record Telling : Type 0 where
    pub now : Progress
    pub inside : w.event < bodies_of w
    pub unlanded : landed_in w t w.event ≡ false
    pub lands : landed_in w now w.event ≡ true
    pub agrees : Agrees w s.memory
    pub allowed : (landing_on w s.memory w.event).allowed ≡ true
    pub next : Stage w (after s a) now (landing_on w s.memory w.event).writes
    pub telling : shown s a ≡ (landing_on w s.memory w.event).shown
    pub memory : (after s a).memory ≡ changed s.memory (landing_on w s.memory w.event).writes
    pub others : (q : ℕ) → q ≢ w.queue → slice_get (after s a).queues q ≡ slice_get s.queues q
    pub more : w.ending ≡ By_gates → t.done < slots_of w → now.done < slots_of w
    pub spends : cost s a + budget_of w now ≤ budget_of w t

  -- its landing was refused, and the queue has stopped
  pub record Faulting : Type 0 where
    pub inside : w.event < bodies_of w
    pub unlanded : landed_in w t w.event ≡ false
    pub agrees : Agrees w s.memory
    pub refused : (landing_on w s.memory w.event).allowed ≡ false
    pub telling : shown s a ≡ (landing_on w s.memory w.event).shown
    pub is : after s a ≡ with_queue_at s w.queue (stopped t.queue)
    pub spends : cost s a ≤ budget_of w t

  -- its ENABLE has started: all bodies have landed and completed, and its queue is at rest, but for the limit that the ENABLE raises
  pub record Closing : Type 0 where
    pub ends : w.ending ≡ By_gates
    pub then_queue : Queue
    pub all : place_of w (bodies_of w) ≤ t.done
    pub last : t.queue.head + 1 ≡ w.from + slots_of w
    pub is : after s a ≡ record s { queues = enabled_in (slice_set s.queues w.queue then_queue) (enable_of w).first (enable_of w).second }
    pub rest : AtRest w.row (w.from + slots_of w) (w.counter + signals w (bodies_of w)) then_queue
    pub standing : Standing w s.memory all_written event
    pub silent : shown s a ≡ shows.Nothing
    pub spends : cost s a ≤ budget_of w t

  pub data Moves : Type 0 where
    Silent : Quiet → Moves
    Tells : Telling → Moves
    Faults : Faulting → Moves
    Closes : Closing → Moves

-- a useful action of a queue that is possible
pub record GoesOn (s : State) (queue : ℕ) : Type 0 where
  pub action : Action
  pub its : acts_on action ≡ Some queue
  pub can : possible s action ≡ true
  pub useful : is_useful s action ≡ true

-- another state with the same queue and the same private bytes
pub record SameHere (w : Opening) (s t : State) : Type 0 where
  pub queue : slice_get t.queues w.queue ≡ slice_get s.queues w.queue
  pub regions : t.regions ≡ s.regions
  pub waits : Counts w s → Counts w t
  pub target : w.ending ≡ By_gates → row_at t.queues (enable_of w).first ≡ row_at s.queues (enable_of w).first
  pub size : length t.memory ≡ length s.memory
  pub bytes : (p : ℕ) → w.ours p ≡ true → byte t.memory p ≡ byte s.memory p
