-- One action of the adapter: where it is possible, what it leaves and what it shows.
use Rattle.std.specs.Prelude.{ℕ, ◌+◌, ◌-◌, ◌%◌, max, Bool, true, false, not, ◌&&◌, ◌==◌, nat_lt, nat_le, if◌then◌else◌, List, [], ◌∷◌, ◌++◌, length, Option, Some, None, is_some, is_none, nat_eq, slice_get, slice_set}
use Rattle.std.specs.List.{find}
use Rattle.std.specs.FinMap as finite
use Rattle.std.specs.Cmp.Lexicographic.{pointwise}
use Rattle.redn_words.specs.declared.types.Request.{Request}
use Rattle.redn_words.specs.declared.types.Opcode.{Opcode}
use Rattle.redn_words.specs.declared.types.Opcode.TheVariants as op
use Rattle.redn_words.specs.declared.types.Class.{Class}
use Rattle.redn_words.specs.declared.types.Class.TheVariants as ask
use Rattle.redn_words.specs.declared.types.Flight.{Flight}
use Rattle.redn_words.specs.declared.types.Receive.{Receive}
use Rattle.redn_words.specs.declared.types.Obs.{Obs}
use Rattle.redn_words.specs.declared.types.Obs.TheVariants as shows
use Rattle.redn_words.specs.declared.types.Action.{Action}
use Rattle.redn_words.specs.declared.types.Action.TheVariants.{Deliver, Fetch, Start, Land, Complete}
use Rattle.redn_words.specs.Words.{with_bytes_at}
use Rattle.redn_words.specs.declared.limits.TheConstants.{RECEIVE_BASE}
use Rattle.redn_words.specs.Requests.{decoded, opcode_of}
use Rattle.redn_words.specs.States.{Queue, Mail, Absent, Pending, Delivered, Chain, State, slot_of}
use Rattle.redn_words.specs.Landings.{Landing, landing, changed}

-- with a queue, where it is there
abbrev pub with_queue : {X : Type 0} → Option Queue → X → (Queue → X) → X
with_queue None none go = none
with_queue (Some queue) none go = go queue

-- the value of a counter that a domain may name
abbrev pub queue_counter : ℕ → Option Queue → Option ℕ
queue_counter domain None = None
queue_counter domain (Some queue) = if queue.row.domain == domain then Some queue.counter else None

abbrev pub chain_counter : Option Chain → Option ℕ
chain_counter None = None
chain_counter (Some c) = Some c.received

unfoldable pub counter_of : State → ℕ → ℕ → Option ℕ
counter_of s domain n =
    if nat_lt n RECEIVE_BASE then queue_counter domain (slice_get s.queues n) else (
    if n - RECEIVE_BASE == domain then chain_counter (slice_get s.chains domain) else None)

-- whether a WAIT may start: also where its counter isn't there, and it is refused
abbrev pub has_come : ℕ → Option ℕ → Bool
has_come count None = true
has_come count (Some n) = nat_le count n

-- whether a domain may raise a queue
abbrev pub may_raise : ℕ → Option Queue → Bool
may_raise domain None = false
may_raise domain (Some queue) = queue.row.managed && queue.row.domain == domain

-- what the start of an opcode asks for
abbrev pub class_by : Opcode → Class
class_by op.Noop = ask.Flies
class_by op.Write = ask.Flies
class_by op.Read = ask.Flies
class_by op.Cas = ask.Flies
class_by op.Add = ask.Flies
class_by op.Send = ask.Flies
class_by op.Wait = ask.Passes
class_by op.Enable = ask.Raises
class_by (op.Undefined n) = ask.Undefined

abbrev pub class_of : Request → Class
class_of r = class_by (opcode_of r)

-- where a held request may start
unfoldable pub may_start : State → Queue → Request → Class → Bool
may_start s queue r ask.Flies = nat_lt (length queue.flights) queue.row.slots
may_start s queue r ask.Passes = has_come r.second (counter_of s queue.row.domain r.first)
may_start s queue r ask.Raises = true
may_start s queue r ask.Undefined = true

-- the unlanded request of an index in flight
abbrev pub flying_in : ℕ → List Flight → Option Flight
flying_in i flights = find (λ (f : Flight). f.index == i && not f.landed) flights

abbrev pub flying : Queue → ℕ → Option Flight
flying queue i = flying_in i queue.flights

abbrev pub is_landed : Option Flight → Bool
is_landed None = false
is_landed (Some f) = f.landed

abbrev pub is_pending : Mail → Bool
is_pending Absent = false
is_pending (Pending bytes) = true
is_pending Delivered = false

abbrev pub deliver_possible : Option Receive → Option Chain → Bool
deliver_possible None c = false
deliver_possible (Some place) None = false
deliver_possible (Some place) (Some c) = is_pending c.mail

abbrev pub fetch_possible : ℕ → Queue → Bool
fetch_possible i queue = not queue.stopped && nat_le queue.head i && nat_lt i queue.limit && nat_lt i (queue.head + queue.row.slots)

abbrev pub start_with : State → Queue → Option (List ℕ) → Bool
start_with s queue None = false
start_with s queue (Some copy) = may_start s queue (decoded copy) (class_of (decoded copy))

abbrev pub start_possible : State → Queue → Bool
start_possible s queue = not queue.stopped && start_with s queue (finite.get queue.held queue.head)

abbrev pub land_possible : ℕ → Queue → Bool
land_possible i queue = not queue.stopped && is_some (flying queue i)

abbrev pub complete_possible : Queue → Bool
complete_possible queue = not queue.stopped && is_landed (slice_get queue.flights 0)

-- where an action is possible
unfoldable pub possible : State → Action → Bool
possible s (Deliver c) = deliver_possible (slice_get s.receives c) (slice_get s.chains c)
possible s (Fetch q i) = with_queue (slice_get s.queues q) false (fetch_possible i)
possible s (Start q) = with_queue (slice_get s.queues q) false (start_possible s)
possible s (Land q i) = with_queue (slice_get s.queues q) false (land_possible i)
possible s (Complete q) = with_queue (slice_get s.queues q) false complete_possible

abbrev pub with_queue_at : State → ℕ → Queue → State
with_queue_at s q queue = record s { queues = slice_set s.queues q queue }

-- a message arrives
abbrev pub delivered : State → ℕ → Receive → Chain → Mail → State
delivered s c place chain (Pending bytes) =
    record s {
      memory = with_bytes_at s.memory place.base bytes;
      chains = slice_set s.chains c (record { mail = Delivered; received = chain.received + 1 });
    }
delivered s c place chain Absent = s
delivered s c place chain Delivered = s

abbrev pub deliver_after : State → ℕ → Option Receive → Option Chain → State
deliver_after s c None chain = s
deliver_after s c (Some place) None = s
deliver_after s c (Some place) (Some chain) = delivered s c place chain chain.mail

abbrev pub fetched : Queue → ℕ → List ℕ → Queue
fetched queue i copy = record queue { held = finite.insert queue.held i copy }

-- the copy of head leaves the held ones
abbrev pub past_head : Queue → Queue
past_head queue = record queue { head = queue.head + 1; held = finite.remove queue.held queue.head }

abbrev pub flown : Queue → ℕ → List ℕ → Queue
flown queue i copy = record queue { flights = queue.flights ++ record { index = i; copy = copy; landed = false } ∷ [] }

abbrev pub stopped : Queue → Queue
stopped queue = record queue { stopped = true }

abbrev pub raised : Queue → ℕ → Queue
raised queue limit = record queue { limit = max queue.limit limit }

abbrev pub raised_in : List Queue → ℕ → ℕ → Option Queue → List Queue
raised_in queues q limit None = queues
raised_in queues q limit (Some queue) = slice_set queues q (raised queue limit)

abbrev pub enabled_in : List Queue → ℕ → ℕ → List Queue
enabled_in queues q limit = raised_in queues q limit (slice_get queues q)

-- whether a start names a counter or a queue that its domain may not
abbrev pub refused_start : State → ℕ → Request → Class → Bool
refused_start s domain r ask.Flies = false
refused_start s domain r ask.Passes = is_none (counter_of s domain r.first)
refused_start s domain r ask.Raises = not (may_raise domain (slice_get s.queues r.first))
refused_start s domain r ask.Undefined = false

abbrev pub enabled : State → ℕ → Queue → Request → State
enabled s q queue r =
    if may_raise queue.row.domain (slice_get s.queues r.first)
    then record s { queues = enabled_in (slice_set s.queues q (past_head queue)) r.first r.second }
    else with_queue_at s q (stopped (past_head queue))

-- a held request starts. One that is refused stops its queue
unfoldable pub started : State → ℕ → Queue → List ℕ → Request → Class → State
started s q queue copy r ask.Flies = with_queue_at s q (flown (past_head queue) queue.head copy)
started s q queue copy r ask.Passes =
    with_queue_at s q (if is_some (counter_of s queue.row.domain r.first) then past_head queue else stopped (past_head queue))
started s q queue copy r ask.Raises = enabled s q queue r
started s q queue copy r ask.Undefined = with_queue_at s q (stopped (past_head queue))

abbrev pub start_after : State → ℕ → Queue → Option (List ℕ) → State
start_after s q queue None = s
start_after s q queue (Some copy) = started s q queue copy (decoded copy) (class_of (decoded copy))

-- the landing of a request in flight
abbrev pub landing_at : State → ℕ → ℕ → Queue → List ℕ → Landing
landing_at s q i queue copy = landing s.regions (record { chain = queue.row.domain; queue = q; index = i }) s.memory (decoded copy)

-- the first unlanded request of an index has landed
abbrev pub with_landed : ℕ → List Flight → List Flight
with_landed i [] = []
with_landed i (f ∷ fs) = if f.index == i && not f.landed then record f { landed = true } ∷ fs else f ∷ with_landed i fs

abbrev pub landed_at : Queue → ℕ → Queue
landed_at queue i = record queue { flights = with_landed i queue.flights }

abbrev pub land_leaves : State → ℕ → ℕ → Queue → Landing → State
land_leaves s q i queue l =
    record s { memory = changed s.memory l.writes; queues = slice_set s.queues q (if l.allowed then landed_at queue i else stopped queue) }

abbrev pub land_after : State → ℕ → ℕ → Queue → Option Flight → State
land_after s q i queue None = s
land_after s q i queue (Some f) = land_leaves s q i queue (landing_at s q i queue f.copy)

abbrev pub signalled : Flight → ℕ
signalled f = (decoded f.copy).flags % 2

abbrev pub completed : Queue → List Flight → Queue
completed queue [] = queue
completed queue (f ∷ fs) = record queue { flights = fs; counter = queue.counter + signalled f }

-- what an action leaves, where it is possible
unfoldable pub after : State → Action → State
after s (Deliver c) = deliver_after s c (slice_get s.receives c) (slice_get s.chains c)
after s (Fetch q i) = with_queue (slice_get s.queues q) s (λ queue. with_queue_at s q (fetched queue i (slot_of s.memory queue.row i)))
after s (Start q) = with_queue (slice_get s.queues q) s (λ queue. start_after s q queue (finite.get queue.held queue.head))
after s (Land q i) = with_queue (slice_get s.queues q) s (λ queue. land_after s q i queue (flying queue i))
after s (Complete q) = with_queue (slice_get s.queues q) s (λ queue. with_queue_at s q (completed queue queue.flights))

-- a held copy is old where it isn't what stands in its slot now
abbrev pub is_old : State → Queue → List ℕ → Bool
is_old s queue copy = not (pointwise nat_eq copy (slot_of s.memory queue.row queue.head))

abbrev pub is_undefined : Class → Bool
is_undefined ask.Flies = false
is_undefined ask.Passes = false
is_undefined ask.Raises = false
is_undefined ask.Undefined = true

abbrev pub started_shows : State → ℕ → Queue → List ℕ → Request → Class → Obs
started_shows s q queue copy r c =
    if is_old s queue copy then shows.Stale q queue.head else (
    if is_undefined c then shows.Undefined q queue.head else (
    if refused_start s queue.row.domain r c then shows.Refused q queue.head else shows.Nothing))

abbrev pub start_shows : State → ℕ → Queue → Option (List ℕ) → Obs
start_shows s q queue None = shows.Nothing
start_shows s q queue (Some copy) = started_shows s q queue copy (decoded copy) (class_of (decoded copy))

abbrev pub land_shows : State → ℕ → ℕ → Queue → Option Flight → Obs
land_shows s q i queue None = shows.Nothing
land_shows s q i queue (Some f) = (landing_at s q i queue f.copy).shown

-- what an action shows
unfoldable pub shown : State → Action → Obs
shown s (Deliver c) = shows.Nothing
shown s (Fetch q i) = shows.Nothing
shown s (Start q) = with_queue (slice_get s.queues q) shows.Nothing (λ queue. start_shows s q queue (finite.get queue.held queue.head))
shown s (Land q i) = with_queue (slice_get s.queues q) shows.Nothing (λ queue. land_shows s q i queue (flying queue i))
shown s (Complete q) = shows.Nothing

-- one step, and what it shows
abbrev pub step : State → Action → Option (State × Obs)
step s a = if possible s a then Some (after s a, shown s a) else None

abbrev pub held_is_old : State → Queue → Option (List ℕ) → Bool
held_is_old s queue None = false
held_is_old s queue (Some copy) = is_old s queue copy

-- a start is stale where the copy that it runs isn't what stands in its slot at that moment
abbrev pub is_stale : State → Action → Bool
is_stale s (Start q) = with_queue (slice_get s.queues q) false (λ queue. held_is_old s queue (finite.get queue.held queue.head))
is_stale s _ = false

-- an action is useful unless it fetches an index again whose copy is held
abbrev pub is_useful : State → Action → Bool
is_useful s (Fetch q i) = with_queue (slice_get s.queues q) false (λ queue. is_none (finite.get queue.held i))
is_useful s _ = true

abbrev pub domain_of : Option Queue → Option ℕ
domain_of None = None
domain_of (Some queue) = Some queue.row.domain

-- the chain whose action it is
abbrev pub chain_of : State → Action → Option ℕ
chain_of s (Deliver c) = Some c
chain_of s (Fetch q i) = domain_of (slice_get s.queues q)
chain_of s (Start q) = domain_of (slice_get s.queues q)
chain_of s (Land q i) = domain_of (slice_get s.queues q)
chain_of s (Complete q) = domain_of (slice_get s.queues q)

-- the queue whose action it is
abbrev pub acts_on : Action → Option ℕ
acts_on (Deliver c) = None
acts_on (Fetch q i) = Some q
acts_on (Start q) = Some q
acts_on (Land q i) = Some q
acts_on (Complete q) = Some q
