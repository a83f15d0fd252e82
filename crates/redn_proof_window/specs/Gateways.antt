-- A queue of WAITs and ENABLEs alone, in slots that nothing writes: an entry queue or a control queue.
use Rattle.std.specs.Prelude.{◌≡◌, ℕ, ◌+◌, ◌-◌, ◌<◌, ◌≤◌, ◌⊎◌, ◌≢◌, true, false, List, [], Some, length, slice_get, slice_set, get_or}
use Rattle.std.specs.FinMap as finite
use Rattle.redn_words.specs.declared.types.Request.{Request}
use Rattle.redn_words.specs.declared.types.QueueRow.{QueueRow}
use Rattle.redn_words.specs.declared.types.Class.TheVariants as ask
use Rattle.redn_words.specs.declared.types.Action.{Action}
use Rattle.redn_words.specs.declared.types.Obs.TheVariants as shows
use Rattle.redn_words.specs.Requests.{decoded}
use Rattle.redn_words.specs.States.{Copies, Queue, State, slot_of}
use Rattle.redn_words.specs.Steps.{after, shown, class_of, with_queue_at, past_head, enabled_in, counter_of, may_raise}
use Rattle.redn_words.specs.Missing.{missing}
use Rattle.redn_proof_window.specs.Moves.{cost}

pub record Gateway : Type 0 where
  pub queue : ℕ
  pub row : QueueRow
  pub gates : List (List ℕ)  -- the bytes of its slots

abbrev pub gate_copy : Gateway → ℕ → List ℕ
gate_copy g k = get_or g.gates k []

abbrev pub gate_of : Gateway → ℕ → Request
gate_of g k = decoded (gate_copy g k)

pub record OrderlyGates (g : Gateway) : Type 0 where
  pub room : length g.gates ≤ g.row.slots
  pub each : (k : ℕ) → k < length g.gates → (class_of (gate_of g k) ≡ ask.Passes) ⊎ (class_of (gate_of g k) ≡ ask.Raises)

-- the queue, of which so many gates have passed
pub record GateQueue (g : Gateway) (u : Queue) (passed : ℕ) : Type 0 where
  pub row : u.row ≡ g.row
  pub runs : u.stopped ≡ false
  pub head : u.head ≡ passed
  pub limit : u.limit ≡ length g.gates
  pub inside : passed ≤ length g.gates
  pub flights : u.flights ≡ []
  pub held : (i : ℕ) (copy : List ℕ) → finite.get u.held i ≡ Some copy → (passed ≤ i) × (i < length g.gates) × (copy ≡ gate_copy g i)

-- a state with the queue there, and its slots as they were
pub record GateStage (g : Gateway) (s : State) (u : Queue) (passed : ℕ) : Type 0 where
  pub there : slice_get s.queues g.queue ≡ Some u
  pub queue : GateQueue g u passed
  pub slots : (k : ℕ) → k < length g.gates → slot_of s.memory g.row k ≡ gate_copy g k

-- a fetch and a start for each gate, at most
abbrev pub gate_budget : Gateway → Copies → ℕ → ℕ
gate_budget g held passed = missing passed held (length g.gates) + (length g.gates - passed)

-- the next gate, where nothing stops the queue: a WAIT whose counter is there, or an ENABLE that may raise another queue
pub record MayPass (g : Gateway) (s : State) (k : ℕ) : Type 0 where
  pub counter : class_of (gate_of g k) ≡ ask.Passes → (n : ℕ) × (counter_of s g.row.domain (gate_of g k).first ≡ Some n)
  pub target : class_of (gate_of g k) ≡ ask.Raises → (may_raise g.row.domain (slice_get s.queues (gate_of g k).first) ≡ true) × (g.queue ≢ (gate_of g k).first)

module _ (g : Gateway) (s : State) (u : Queue) (passed : ℕ) (a : Action) where
  -- a gate was fetched
  pub record GateFetched : Type 0 where
    pub then_queue : Queue
    pub is : after s a ≡ with_queue_at s g.queue then_queue
    pub next : GateStage g (after s a) then_queue passed
    pub silent : shown s a ≡ shows.Nothing
    pub spends : cost s a + gate_budget g then_queue.held passed ≤ gate_budget g u.held passed

  -- a WAIT has passed: its counter, which has this value, has come to what it waits for
  pub record GateWaited (n : ℕ) : Type 0 where
    pub waits : class_of (gate_of g passed) ≡ ask.Passes
    pub come : (gate_of g passed).second ≤ n
    pub is : after s a ≡ with_queue_at s g.queue (past_head u)
    pub next : GateStage g (after s a) (past_head u) (passed + 1)
    pub silent : shown s a ≡ shows.Nothing
    pub spends : 1 + gate_budget g (past_head u).held (passed + 1) ≤ gate_budget g u.held passed

  -- an ENABLE has passed, and raised its target
  pub record GateEnabled : Type 0 where
    pub enables : class_of (gate_of g passed) ≡ ask.Raises
    pub is : after s a ≡ record s { queues = enabled_in (slice_set s.queues g.queue (past_head u)) (gate_of g passed).first (gate_of g passed).second }
    pub next : GateStage g (after s a) (past_head u) (passed + 1)
    pub silent : shown s a ≡ shows.Nothing
    pub spends : 1 + gate_budget g (past_head u).held (passed + 1) ≤ gate_budget g u.held passed

  pub data GateMoves : Type 0 where
    Fetches : GateFetched → GateMoves
    Waits : (n : ℕ) → counter_of s g.row.domain (gate_of g passed).first ≡ Some n → GateWaited n → GateMoves
    Enables : GateEnabled → GateMoves
