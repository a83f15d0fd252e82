-- The window of a managed ring that was just opened, and the ring's queue while it is open.
use Rattle.std.specs.Prelude.{◌≡◌, ℕ, suc, ◌+◌, ◌-◌, ◌*◌, ◌%◌, ◌<◌, ◌≤◌, Bool, true, false, nat_lt, if◌then◌else◌}
use Rattle.std.specs.Prelude.{List, [], ◌∷◌, ◌++◌, Option, Some, None, length, take, get_or}
use Rattle.std.specs.List.{sum_by}
use Rattle.std.specs.FinMap as finite
use Rattle.redn_words.specs.declared.types.Region.{Region}
use Rattle.redn_words.specs.declared.types.Request.{Request}
use Rattle.redn_words.specs.declared.types.QueueRow.{QueueRow}
use Rattle.redn_words.specs.declared.types.Flight.{Flight}
use Rattle.redn_words.specs.declared.types.Origin.{Origin}
use Rattle.redn_words.specs.Requests.{decoded}
use Rattle.redn_words.specs.States.{Queue}
use Rattle.redn_words.specs.Landings.{Landing, landing}
use Rattle.redn_words.specs.Ranges.{within}
use Rattle.redn_words.specs.Footprints.{footprint}

-- how a window ends: by gates of its own, which open what is behind it; or it is the last of its chain; or what is behind it
-- is opened by another queue, which waits for the window's counter
pub data Ending : Type 0 where
  By_gates : Ending
  Last : Ending
  Followed : Ending

-- a window as it was opened. Places in it count from 0: its first gate, where it has one, then the bodies, then the gates. Bodies are numbered from 0,
-- wherever they stand
pub record Opening : Type 0 where
  pub regions : List Region
  pub queue : ℕ
  pub row : QueueRow
  pub from : ℕ  -- the index of its first slot
  pub first_gate : Option (List ℕ)  -- the bytes of the slot of a WAIT that stands before the bodies
  pub bodies : List (List ℕ)  -- those of the slots that go into flight
  pub gates : List (List ℕ)  -- those of a WAIT and an ENABLE, or none
  pub ending : Ending
  pub counter : ℕ
  pub memory : List ℕ
  pub event : ℕ  -- the body that may show an event; past the bodies where there is none
  pub ours : ℕ → Bool  -- the bytes that no other queue writes while the window is open

abbrev pub bodies_of : Opening → ℕ
bodies_of w = length w.bodies

-- a first gate, where there is one, stands before all other slots: these with it, the place of the n-th of them, and how many of them are among n slots
abbrev pub with_gate : Option (List ℕ) → List (List ℕ) → List (List ℕ)
with_gate None copies = copies
with_gate (Some copy) copies = copy ∷ copies

abbrev pub behind_gate : Option (List ℕ) → ℕ → ℕ
behind_gate None n = n
behind_gate (Some copy) n = suc n

abbrev pub from_gate : Option (List ℕ) → ℕ → ℕ
from_gate None n = n
from_gate (Some copy) n = n - 1

-- the place of a body
abbrev pub place_of : Opening → ℕ → ℕ
place_of w k = behind_gate w.first_gate k

-- how many of the first n slots stand behind the first gate
abbrev pub past_gate : Opening → ℕ → ℕ
past_gate w n = from_gate w.first_gate n

abbrev pub slots_of : Opening → ℕ
slots_of w = place_of w (length w.bodies + length w.gates)

-- how many gates it has, with the first
abbrev pub gate_count : Opening → ℕ
gate_count w = place_of w (length w.gates)

-- what stands at a place
abbrev pub copy_of : Opening → ℕ → List ℕ
copy_of w k = get_or (with_gate w.first_gate (w.bodies ++ w.gates)) k []

abbrev pub request_of : Opening → ℕ → Request
request_of w k = decoded (copy_of w k)

abbrev pub origin_of : Opening → ℕ → Origin
origin_of w k = record { chain = w.row.domain; queue = w.queue; index = w.from + k }

-- the request of a body, and its landing on any memory, and on that of the opening
abbrev pub body_of : Opening → ℕ → Request
body_of w k = request_of w (place_of w k)

abbrev pub landing_on : Opening → List ℕ → ℕ → Landing
landing_on w memory k = landing w.regions (origin_of w (place_of w k)) memory (body_of w k)

abbrev pub planned : Opening → ℕ → Landing
planned w k = landing_on w w.memory k

-- whether a body may write a byte, whatever it reads
abbrev pub may_write : Opening → ℕ → ℕ → Bool
may_write w k p = within (footprint w.regions w.row.domain (body_of w k)) p

abbrev pub slot_at : Opening → ℕ → ℕ
slot_at w k = w.row.base + 64 * ((w.from + k) % w.row.slots)

-- how many of the first n bodies are signalled
abbrev pub signals : Opening → ℕ → ℕ
signals w n = sum_by (λ (copy : List ℕ). (decoded copy).flags % 2) (take n w.bodies)

abbrev pub flight : Opening → ℕ → Bool → Flight
flight w k landed = record { index = w.from + k; copy = copy_of w k; landed = landed }

abbrev pub flights_from : Opening → ℕ → List Bool → List Flight
flights_from w k [] = []
flights_from w k (b ∷ marks) = flight w k b ∷ flights_from w (k + 1) marks

-- the gates behind the bodies
abbrev pub wait_of : Opening → Request
wait_of w = request_of w (place_of w (bodies_of w))

abbrev pub enable_of : Opening → Request
enable_of w = request_of w (place_of w (bodies_of w + 1))

-- a held copy is that of a place which hasn't started
pub record Held (w : Opening) (head i : ℕ) (copy : List ℕ) : Type 0 where
  pub place : ℕ
  pub is : i ≡ w.from + place
  pub low : head ≤ place
  pub high : place < slots_of w
  pub same : copy ≡ copy_of w place

-- the place of a body
pub record Body (w : Opening) (place : ℕ) : Type 0 where
  pub low : place_of w 0 ≤ place
  pub high : place < place_of w (bodies_of w)

-- the queue while its window is open: so many requests have completed or passed, and those behind them that have marks are in flight, landed or not
pub record Window (w : Opening) (u : Queue) (done : ℕ) (marks : List Bool) : Type 0 where
  pub row : u.row ≡ w.row
  pub runs : u.stopped ≡ false
  pub head : u.head ≡ w.from + (done + length marks)
  pub limit : u.limit ≡ w.from + slots_of w
  pub inside : done + length marks ≤ slots_of w
  pub moving : (k : ℕ) → k < length marks → Body w (done + k)
  pub flights : u.flights ≡ flights_from w done marks
  pub held : (i : ℕ) (copy : List ℕ) → finite.get u.held i ≡ Some copy → Held w (done + length marks) i copy
  pub counted : u.counter ≡ w.counter + signals w (past_gate w done)

-- whether what stands at a place has landed: all before the first that hasn't completed, and those that are marked
abbrev pub landed : ℕ → List Bool → ℕ → Bool
landed done marks k = if nat_lt k done then true else get_or marks (k - done) false
