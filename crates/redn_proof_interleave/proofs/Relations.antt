-- Where each chain can be, and that adapter and machines are at the same moment.
use Rattle.std.specs.Prelude.{◌≡◌, ℕ, ◌+◌, ◌<◌, ◌≤◌, Bool, true, false, Option, Some, None, List, length, slice_get}
use Rattle.redn_words.specs.declared.types.QueueRow.{QueueRow}
use Rattle.redn_words.specs.States.{Queue, Delivered, State}
use Rattle.redn_words.specs.Landings.{Change}
use Rattle.redn_words.specs.Laws.{row_at}
use Rattle.redn_proof_window.specs.Stages.{written_in}
use Rattle.redn_proof_window.specs.Moves.{AtRest, budget_of}
use Rattle.redn_proof_window.specs.Gateways.{GateQueue, gate_budget}
use Rattle.redn_proof_window.specs.Scripts.{IsBytes, RestsAt, Moment, window_at, ChainAt}
use Rattle.redn_proof_interleave.specs.Machines.{Many}
use Rattle.redn_proof_interleave.specs.Forms.{Form, World, chains_of, message, expected, SameMine, IsTold}

module _ (g : World) where
  module _ (c : ℕ) where
    abbrev f : Form g.M
    f = g.form c

    abbrev pub Mailed : State → Bool → Type 0
    Mailed s true = (bytes : List ℕ) × (message g c ≡ Some bytes) × (slice_get s.chains c ≡ Some (record { mail = Delivered; received = 1 }))
    Mailed s false = slice_get s.chains c ≡ slice_get g.begin.chains c

    abbrev pub due : Bool → ℕ
    due true = 0
    due false = 1

    -- before its first window
    pub record Entering (s : State) (y : g.M) (b : ℕ) : Type 0 where
      pub u : Queue
      pub passed : ℕ
      pub came : Bool
      pub there : slice_get s.queues f.entry.queue ≡ Some u
      pub queue : GateQueue f.entry u passed
      pub few : passed < 2
      pub waited : 0 < passed → came ≡ true
      pub mailed : Mailed s came
      pub memory : SameMine g c s.memory (expected g c came)
      pub rests : (q : ℕ) → f.script.ring q ≡ true → RestsAt f.script s f.first q
      pub is : y ≡ f.begin
      pub enough : due came + (gate_budget f.entry u.held passed + f.machine.cost f.begin) ≤ b

    pub record EntryOver (s : State) : Type 0 where
      pub u : Queue
      pub there : slice_get s.queues f.entry.queue ≡ Some u
      pub rest : AtRest f.entry.row 2 u.counter u

    -- in a window
    pub record Inside (s : State) (y : g.M) (b : ℕ) : Type 0 where
      pub moment : Moment f.script
      pub told : Option (List Change)
      pub chain : ChainAt f.script s moment
      pub is_told : IsTold (window_at f.script moment) (written_in (window_at f.script moment) moment.progress) moment.event told
      pub over : EntryOver s
      pub mailed : Mailed s true
      pub is : y ≡ f.state moment.point told
      pub enough : budget_of (window_at f.script moment) moment.progress + f.owed moment.point told ≤ b

    -- a ring of a chain that has failed
    pub data IsStill (u : Queue) : Type 0 where
      Halts : u.stopped ≡ true → IsStill u
      Sleeps : (row : QueueRow) (at counter : ℕ) → AtRest row at counter u → IsStill u

    pub record Still (s : State) (q : ℕ) : Type 0 where
      pub u : Queue
      pub there : slice_get s.queues q ≡ Some u
      pub still : IsStill u

    -- after a fault
    pub record Failed (s : State) (y : g.M) : Type 0 where
      pub rings : (q : ℕ) → f.script.ring q ≡ true → Still s q
      pub over : EntryOver s
      pub mailed : Mailed s true
      pub ended : f.machine.ended y ≡ true
      pub holds : f.Holds y s.memory

    pub data Stands (s : State) (y : g.M) (b : ℕ) : Type 0 where
      Enters : Entering s y b → Stands s y b
      Opened : Inside s y b → Stands s y b
      Over : Failed s y → Stands s y b

  -- adapter and machines after so many actions
  pub record Related (n : ℕ) (s : State) (z : Many g.M) (b : ℕ → ℕ) : Type 0 where
    pub rows : (q : ℕ) → row_at s.queues q ≡ row_at g.begin.queues q
    pub regions : s.regions ≡ g.begin.regions
    pub receives : s.receives ≡ g.begin.receives
    pub size : length s.memory ≡ length g.begin.memory
    pub sound : IsBytes s.memory
    pub heads : (q : ℕ) (u : Queue) → slice_get s.queues q ≡ Some u → u.head ≤ n
    pub tables : g.Tables z.tables s.memory
    pub past : (c : ℕ) → chains_of g ≤ c → slice_get s.chains c ≡ None
    pub each : (c : ℕ) → c < chains_of g → Stands c s (z.at c) (b c)
