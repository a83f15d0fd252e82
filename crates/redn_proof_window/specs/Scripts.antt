-- The windows of one chain, one after the other.
use Rattle.std.specs.Prelude.{◌≡◌, ◌≢◌, ℕ, ◌+◌, ◌<◌, ◌≤◌, Bool, true, List, [], Some, length, slice_get}
use Rattle.std.specs.List.{All}
use Rattle.redn_words.specs.declared.types.QueueRow.{QueueRow}
use Rattle.redn_words.specs.declared.types.Action.{Action}
use Rattle.redn_words.specs.declared.types.Obs.TheVariants as shows
use Rattle.redn_words.specs.States.{Queue, State}
use Rattle.redn_words.specs.Landings.{Change}
use Rattle.redn_words.specs.Steps.{after, shown}
use Rattle.redn_words.specs.Others.{row_may_raise}
use Rattle.redn_words.specs.Bytes.{byte}
use Rattle.redn_proof_window.specs.Windows.{By_gates, Last, Opening, bodies_of, place_of, slots_of, signals, landing_on, enable_of}
use Rattle.redn_proof_window.specs.Stages.{Counts, Orderly, Agrees, Standing, Progress, landed_in, all_written, Stage}
use Rattle.redn_proof_window.specs.Moves.{AtRest, budget_of, cost, Quiet, Telling, Faulting}

-- each is a byte
abbrev pub IsBytes : List ℕ → Type 0
IsBytes = All (λ b. b < 256)

-- where a chain goes from window to window
pub record Script : Type 1 where
  pub Point : Type 0  -- where the chain can be when a window opens
  pub window : Point → List ℕ → Opening  -- that window, on the memory of that moment
  pub Ready : Point → List ℕ → Type 0  -- what that memory holds
  pub ring : ℕ → Bool  -- the chain's rings,
  pub row : ℕ → QueueRow
  pub at : Point → ℕ → ℕ  -- the indexes at which those at rest stand,
  pub counted : Point → ℕ → ℕ  -- and their counters
  pub most : ℕ  -- what is promised is of indexes up to this one

-- what the event's body of a window wrote, when it landed on a memory that it may find
pub record Wrote (w : Opening) (event : List Change) : Type 0 where
  pub memory : List ℕ
  pub sound : IsBytes memory
  pub agrees : Agrees w memory
  pub allowed : (landing_on w memory w.event).allowed ≡ true
  pub is : event ≡ (landing_on w memory w.event).writes

module _ (p : Script) where
  -- a window that isn't the last, of which all bodies have landed on memory m and left memory n
  pub record IsOver (x : p.Point) (m : List ℕ) (event : List Change) (n : List ℕ) : Type 0 where
    pub ready : p.Ready x m
    pub goes_on : (p.window x m).ending ≢ Last
    pub wrote : (p.window x m).event < bodies_of (p.window x m) → Wrote (p.window x m) event
    pub last : (p.window x m).from + slots_of (p.window x m) ≤ p.most
    pub sound : IsBytes n
    pub standing : Standing (p.window x m) n all_written event

  -- the window on memory n behind one that is over. Where that has gates, its ENABLE opens it
  pub record Behind (x y : p.Point) (m n : List ℕ) : Type 0 where
    pub ready : p.Ready y n
    pub queue : (p.window x m).ending ≡ By_gates → (p.window y n).queue ≡ (enable_of (p.window x m)).first
    pub limit : (p.window x m).ending ≡ By_gates → (enable_of (p.window x m)).second ≡ p.at y (p.window y n).queue + slots_of (p.window y n)
    pub regions : (p.window y n).regions ≡ (p.window x m).regions
    pub own_at : p.at y (p.window x m).queue ≡ (p.window x m).from + slots_of (p.window x m)
    pub own_counted : p.counted y (p.window x m).queue ≡ (p.window x m).counter + signals (p.window x m) (bodies_of (p.window x m))
    pub others_at : (q : ℕ) → q ≢ (p.window x m).queue → p.at y q ≡ p.at x q
    pub others_counted : (q : ℕ) → q ≢ (p.window x m).queue → p.counted y q ≡ p.counted x q

  -- what a compiled form promises: every window is orderly, and behind one that isn't the last there is another
  pub record IsScript : Type 0 where
    pub orderly : (x : p.Point) (m : List ℕ) → p.Ready x m → Orderly (p.window x m)
    pub memory : (x : p.Point) (m : List ℕ) → (p.window x m).memory ≡ m
    pub ring_is : (x : p.Point) (m : List ℕ) → p.ring (p.window x m).queue ≡ true
    pub row_is : (x : p.Point) (m : List ℕ) → (p.window x m).row ≡ p.row (p.window x m).queue
    pub from : (x : p.Point) (m : List ℕ) → (p.window x m).from ≡ p.at x (p.window x m).queue
    pub counter : (x : p.Point) (m : List ℕ) → (p.window x m).counter ≡ p.counted x (p.window x m).queue
    pub target : (x : p.Point) (m : List ℕ) → p.Ready x m → (p.window x m).ending ≡ By_gates → p.ring (enable_of (p.window x m)).first ≡ true
    pub managed : (x : p.Point) (m : List ℕ) (q : ℕ) → p.ring q ≡ true → row_may_raise (p.window x m).row.domain (Some (p.row q)) ≡ true
    pub behind : (x : p.Point) (m : List ℕ) (event : List Change) (n : List ℕ) → IsOver x m event n → (y : p.Point) × Behind x y m n

  -- a ring that isn't open
  pub record RestsAt (s : State) (x : p.Point) (q : ℕ) : Type 0 where
    pub u : Queue
    pub there : slice_get s.queues q ≡ Some u
    pub rest : AtRest (p.row q) (p.at x q) (p.counted x q) u

  -- a moment in one of the windows: which, the memory at its opening, how far it has come, and what its event has written
  pub record Moment : Type 0 where
    pub point : p.Point
    pub memory : List ℕ
    pub progress : Progress
    pub event : List Change

  abbrev pub window_at : Moment → Opening
  window_at z = p.window z.point z.memory

  -- the counters for which first gates wait are there
  abbrev pub AllCount : State → Type 0
  AllCount s = (x : p.Point) (m : List ℕ) → p.Ready x m → Counts (p.window x m) s

  -- the chain at such a moment
  pub record ChainAt (s : State) (z : Moment) : Type 0 where
    pub ready : p.Ready z.point z.memory
    pub stage : Stage (window_at z) s z.progress z.event
    pub wrote : landed_in (window_at z) z.progress (window_at z).event ≡ true → (window_at z).event < bodies_of (window_at z) → Wrote (window_at z) z.event
    pub more : (window_at z).ending ≡ By_gates → z.progress.done < slots_of (window_at z)
    pub counts : AllCount s
    pub others : (q : ℕ) → p.ring q ≡ true → q ≢ (window_at z).queue → RestsAt s z.point q

  -- the moment at which a window was just opened
  abbrev pub opened : p.Point → List ℕ → Queue → Moment
  opened x m u = record { point = x; memory = m; progress = record { queue = u; done = 0; marks = [] }; event = [] }

  -- another state with the same rings and the same private bytes
  pub record SameChain (z : Moment) (s t : State) : Type 0 where
    pub queues : (q : ℕ) → p.ring q ≡ true → slice_get t.queues q ≡ slice_get s.queues q
    pub regions : t.regions ≡ s.regions
    pub counts : AllCount s → AllCount t
    pub size : length t.memory ≡ length s.memory
    pub bytes : (b : ℕ) → (window_at z).ours b ≡ true → byte t.memory b ≡ byte s.memory b

  module _ (script : IsScript) (s : State) (z : Moment) (h : ChainAt s z) (a : Action) where
    abbrev w : Opening
    w = window_at z

    -- the ENABLE that opens the window behind, when all bodies have landed
    pub record Going : Type 0 where
      pub then_queue : Queue
      pub all : place_of w (bodies_of w) ≤ z.progress.done
      pub over : IsOver z.point z.memory z.event s.memory
      pub next : ChainAt (after s a) (opened (script.behind z.point z.memory z.event s.memory over).0 s.memory then_queue)
      pub silent : shown s a ≡ shows.Nothing
      pub memory : (after s a).memory ≡ s.memory
      pub spends : cost s a ≤ budget_of w z.progress

    -- what a possible action of the chain's rings does
    pub data ChainMoves : Type 0 where
      Stays : (quiet : Quiet w s z.progress z.event a) → ChainAt (after s a) (record z { progress = quiet.now }) → ChainMoves
      Shows : (telling : Telling w s z.progress z.event a)
          → ChainAt (after s a) (record z { progress = telling.now; event = (landing_on w s.memory w.event).writes }) → ChainMoves
      Ends : Faulting w s z.progress z.event a → ChainMoves
      Goes_on : Going → ChainMoves
