-- What is asked of a window, and what holds of every state while it is open.
use Rattle.std.specs.Prelude.{◌≡◌, ◌≢◌, ℕ, zero, suc, ◌+◌, ◌%◌, ◌<◌, ◌≤◌, Bool, true, false, ◌==◌, if◌then◌else◌, List, [], Some, None, length, slice_get}
use Rattle.std.specs.FinMap as finite
use Rattle.redn_words.specs.declared.types.Class.TheVariants as ask
use Rattle.redn_words.specs.declared.types.Obs.TheVariants as shows
use Rattle.redn_words.specs.declared.limits.TheConstants.{RECEIVE_BASE}
use Rattle.redn_words.specs.Words.{bytes_at}
use Rattle.redn_words.specs.Requests.{decoded}
use Rattle.redn_words.specs.Access.{EndsBy}
use Rattle.redn_words.specs.States.{Queue, State}
use Rattle.redn_words.specs.Landings.{Change, changed}
use Rattle.redn_words.specs.Ranges.{holds, Fits}
use Rattle.redn_words.specs.Steps.{class_of, counter_of}
use Rattle.redn_words.specs.Laws.{row_at}
use Rattle.redn_words.specs.Others.{row_may_raise}
use Rattle.redn_words.specs.Bytes.{byte, hits, over}
use Rattle.redn_proof_window.specs.Windows.{Ending, By_gates, Last, Followed, Opening, Window, bodies_of, place_of, slots_of, copy_of, body_of, planned}
use Rattle.redn_proof_window.specs.Windows.{may_write, slot_at, signals, wait_of, enable_of, landed}

-- a counter that a domain may name is there
abbrev pub HasCounter : State → ℕ → ℕ → Type 0
HasCounter s domain counter = (n : ℕ) × (counter_of s domain counter ≡ Some n)

-- a body that shows nothing: it reads and writes private bytes, and reads none that another body may write
pub record Plain (w : Opening) (k : ℕ) : Type 0 where
  pub allowed : (planned w k).allowed ≡ true
  pub silent : (planned w k).shown ≡ shows.Nothing
  pub writes_ours : (p : ℕ) → may_write w k p ≡ true → w.ours p ≡ true
  pub reads_ours : (p : ℕ) → holds (planned w k).reads p ≡ true → w.ours p ≡ true
  pub reads_spared : (j p : ℕ) → j < bodies_of w → j ≢ k → holds (planned w k).reads p ≡ true → may_write w j p ≡ false

-- the gates: a WAIT for all signals of the bodies, and an ENABLE
pub record Gated (w : Opening) : Type 0 where
  pub two : length w.gates ≡ 2
  pub waits : class_of (wait_of w) ≡ ask.Passes
  pub own : (wait_of w).first ≡ w.queue
  pub count : (wait_of w).second ≡ w.counter + signals w (bodies_of w)
  pub enables : class_of (enable_of w) ≡ ask.Raises

-- the counter for which its first gate waits is there
abbrev pub Counts : Opening → State → Type 0
Counts w s = (copy : List ℕ) → w.first_gate ≡ Some copy → HasCounter s w.row.domain (decoded copy).first

-- what is asked of a window by its ending: only one that ends by its gates has any
abbrev pub IsEnding : Opening → Ending → Type 0
IsEnding w By_gates = Gated w
IsEnding w Last = length w.gates ≡ 0
IsEnding w Followed = length w.gates ≡ 0

-- what is asked: its slots stand and nothing of it writes them, all bodies fly and write apart, and but for the event's body they are plain
pub record Orderly (w : Opening) : Type 0 where
  pub numbered : w.queue < RECEIVE_BASE
  pub room : slots_of w ≤ w.row.slots
  pub first : (copy : List ℕ) → w.first_gate ≡ Some copy → class_of (decoded copy) ≡ ask.Passes
  pub flying : (k : ℕ) → k < bodies_of w → class_of (body_of w k) ≡ ask.Flies
  pub last : (k : ℕ) → k + 1 ≡ bodies_of w → (body_of w k).flags % 2 ≡ 1
  pub gates : IsEnding w w.ending
  pub slots_stand : (k : ℕ) → k < slots_of w → bytes_at w.memory (slot_at w k) 64 ≡ copy_of w k
  pub slots_ours : (k p : ℕ) → k < slots_of w → slot_at w k ≤ p → p < slot_at w k + 64 → w.ours p ≡ true
  pub slots_spared : (k j p : ℕ) → k < slots_of w → j < bodies_of w → slot_at w k ≤ p → p < slot_at w k + 64 → may_write w j p ≡ false
  pub plain : (k : ℕ) → k < bodies_of w → k ≢ w.event → Plain w k
  pub apart : (j k p : ℕ) → j < bodies_of w → k < bodies_of w → j ≢ k → may_write w j p ≡ true → may_write w k p ≡ false
  pub ends : EndsBy (length w.memory) w.regions

-- a byte after those of the first n bodies that have written it, the first one first
abbrev pub value : (ℕ → ℕ → Bool) → (ℕ → List Change) → ℕ → ℕ → ℕ → ℕ
value written effects zero p before = before
value written effects (suc n) p before = if written n p then over (effects n) p (value written effects n p before) else value written effects n p before

-- what a body writes; for the event's body what it wrote when it landed
abbrev pub effect : Opening → List Change → ℕ → List Change
effect w event k = if k == w.event then event else (planned w k).writes

-- each private byte is that of the opening after the bodies that have written it, in the order of their slots
pub record Standing (w : Opening) (memory : List ℕ) (written : ℕ → ℕ → Bool) (event : List Change) : Type 0 where
  pub size : length memory ≡ length w.memory
  pub bytes : (p : ℕ) → w.ours p ≡ true → byte memory p ≡ value written (effect w event) (bodies_of w) p (byte w.memory p)
  pub fits : Fits (length w.memory) event
  pub reached : (p : ℕ) → hits event p ≡ true → may_write w w.event p ≡ true

-- a memory as at the opening, but for what other bodies than the event's may have written
pub record Agrees (w : Opening) (memory : List ℕ) : Type 0 where
  pub size : length memory ≡ length w.memory
  pub bytes : (p : ℕ) → w.ours p ≡ true → ((j : ℕ) → j < bodies_of w → j ≢ w.event → may_write w j p ≡ false) → byte memory p ≡ byte w.memory p

-- how far a window has come
pub record Progress : Type 0 where
  pub queue : Queue
  pub done : ℕ
  pub marks : List Bool

-- whether a body has landed
abbrev pub landed_in : Opening → Progress → ℕ → Bool
landed_in w t k = landed t.done t.marks (place_of w k)

-- whether a body has written a byte: each of its bytes once it has landed
abbrev pub written_in : Opening → Progress → ℕ → ℕ → Bool
written_in w t k p = landed_in w t k

-- each body has written all its bytes
abbrev pub all_written : ℕ → ℕ → Bool
all_written k p = true

-- a state while the window is open
pub record Stage (w : Opening) (s : State) (t : Progress) (event : List Change) : Type 0 where
  pub there : slice_get s.queues w.queue ≡ Some t.queue
  pub window : Window w t.queue t.done t.marks
  pub regions : s.regions ≡ w.regions
  pub standing : Standing w s.memory (written_in w t) event
  pub waits : Counts w s
  pub target : w.ending ≡ By_gates → row_may_raise w.row.domain (row_at s.queues (enable_of w).first) ≡ true

-- a state in which the window was just opened
pub record Opened (w : Opening) (s : State) (u : Queue) : Type 0 where
  pub there : slice_get s.queues w.queue ≡ Some u
  pub row : u.row ≡ w.row
  pub runs : u.stopped ≡ false
  pub head : u.head ≡ w.from
  pub limit : u.limit ≡ w.from + slots_of w
  pub held : (i : ℕ) → finite.get u.held i ≡ None
  pub flights : u.flights ≡ []
  pub counter : u.counter ≡ w.counter
  pub regions : s.regions ≡ w.regions
  pub memory : s.memory ≡ w.memory
  pub waits : Counts w s
  pub target : w.ending ≡ By_gates → row_may_raise w.row.domain (row_at s.queues (enable_of w).first) ≡ true

-- memory after the first n bodies, landed in the order of their slots
abbrev pub in_order : Opening → List Change → ℕ → List ℕ
in_order w event zero = w.memory
in_order w event (suc n) = changed (in_order w event n) (effect w event n)
