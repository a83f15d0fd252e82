-- Laws of an adapter's actions and landings.
use Rattle.std.specs.Prelude.{◌≡◌, ◌≢◌, ◌↔◌, ℕ, ◌+◌, ◌≤◌, true, false, List, [], ◌∷◌, ◌++◌, length, Option, Some, None, slice_get, slice_index}
use Rattle.std.specs.FinMap as finite
use Rattle.redn_words.specs.declared.types.Region.{Region}
use Rattle.redn_words.specs.declared.types.QueueRow.{QueueRow}
use Rattle.redn_words.specs.declared.types.Receive.{Receive}
use Rattle.redn_words.specs.declared.types.Request.{Request}
use Rattle.redn_words.specs.declared.types.Origin.{Origin}
use Rattle.redn_words.specs.declared.types.Flight.{Flight}
use Rattle.redn_words.specs.declared.types.Action.{Action}
use Rattle.redn_words.specs.declared.types.Action.TheVariants.{Deliver, Fetch, Start, Land, Complete}
use Rattle.redn_words.specs.Words.{bytes_at}
use Rattle.redn_words.specs.Requests.{decoded}
use Rattle.redn_words.specs.Access.{EndsBy}
use Rattle.redn_words.specs.States.{Queue, Chain, Pending, State, start}
use Rattle.redn_words.specs.Landings.{Place, Change, landing, changed}
use Rattle.redn_words.specs.Ranges.{all_apart, ranges_of, Fits, LieApart, AllStand, domain_holds, AreApart}
use Rattle.redn_words.specs.Steps.{possible, after, class_of, may_start, flying, acts_on, raised}
use Rattle.redn_words.specs.Runs.{AllPossible, reached, all_shown}
use Rattle.redn_words.specs.InOrder.{IsAhead, AllInOrder, IsInside}

-- what a possible action finds
pub record Delivers (s : State) (c : ℕ) : Type 0 where
  pub place : Receive
  pub chain : Chain
  pub bytes : List ℕ
  pub place_there : slice_get s.receives c ≡ Some place
  pub chain_there : slice_get s.chains c ≡ Some chain
  pub pending : chain.mail ≡ Pending bytes

pub record Fetches (queue : Queue) (i : ℕ) : Type 0 where
  pub runs : queue.stopped ≡ false
  pub ahead : IsAhead queue i

pub record Starts (s : State) (queue : Queue) : Type 0 where
  pub copy : List ℕ
  pub runs : queue.stopped ≡ false
  pub held : finite.get queue.held queue.head ≡ Some copy
  pub may : may_start s queue (decoded copy) (class_of (decoded copy)) ≡ true

pub record Lands (queue : Queue) (i : ℕ) : Type 0 where
  pub flight : Flight
  pub runs : queue.stopped ≡ false
  pub found : flying queue i ≡ Some flight

pub record Completes (queue : Queue) : Type 0 where
  pub oldest : Flight
  pub rest : List Flight
  pub runs : queue.stopped ≡ false
  pub flights : queue.flights ≡ oldest ∷ rest
  pub landed : oldest.landed ≡ true

-- it is possible exactly where it finds that
abbrev pub DeliversWhere : Type 0
DeliversWhere = (s : State) (c : ℕ) → (possible s (Deliver c) ≡ true) ↔ Delivers s c

abbrev pub FetchesWhere : Type 0
FetchesWhere = (s : State) (q i : ℕ) (queue : Queue) → slice_get s.queues q ≡ Some queue → (possible s (Fetch q i) ≡ true) ↔ Fetches queue i

abbrev pub StartsWhere : Type 0
StartsWhere = (s : State) (q : ℕ) (queue : Queue) → slice_get s.queues q ≡ Some queue → (possible s (Start q) ≡ true) ↔ Starts s queue

abbrev pub LandsWhere : Type 0
LandsWhere = (s : State) (q i : ℕ) (queue : Queue) → slice_get s.queues q ≡ Some queue → (possible s (Land q i) ≡ true) ↔ Lands queue i

abbrev pub CompletesWhere : Type 0
CompletesWhere = (s : State) (q : ℕ) (queue : Queue) → slice_get s.queues q ≡ Some queue → (possible s (Complete q) ≡ true) ↔ Completes queue

-- a run is its first part, and then the rest
pub record IsCut (s : State) (acts more : List Action) : Type 0 where
  pub possible_both : AllPossible s (acts ++ more) ↔ (AllPossible s acts × AllPossible (reached s acts) more)
  pub reaches : reached s (acts ++ more) ≡ reached (reached s acts) more
  pub shows_both : all_shown s (acts ++ more) ≡ all_shown s acts ++ all_shown (reached s acts) more

abbrev pub RunsCut : Type 0
RunsCut = (s : State) (acts more : List Action) → IsCut s acts more

abbrev pub row_of : Option Queue → Option QueueRow
row_of None = None
row_of (Some queue) = Some queue.row

abbrev pub row_at : List Queue → ℕ → Option QueueRow
row_at queues n = row_of (slice_get queues n)

-- regions, places of messages and the rows of queues are those of before
pub record HasRowsOf (before now : State) : Type 0 where
  pub regions : now.regions ≡ before.regions
  pub receives : now.receives ≡ before.receives
  pub queues : (n : ℕ) → row_at now.queues n ≡ row_at before.queues n

-- no action changes a row
abbrev pub RowsStay : Type 0
RowsStay = (s : State) (a : Action) → HasRowsOf s (after s a)

-- what another queue's action leaves of a queue
pub data Left (before now : Option Queue) : Type 0 where
  Alone : now ≡ before → Left before now
  Lifted : (queue : Queue) (limit : ℕ) → before ≡ Some queue → now ≡ Some (raised queue limit) → Left before now

-- an action leaves each queue but its own as it is, or raises its limit
abbrev pub OthersStay : Type 0
OthersStay = (s : State) (a : Action) (n : ℕ) → acts_on a ≢ Some n → Left (slice_get s.queues n) (slice_get (after s a).queues n)

-- a queue's head and counter are at most one above those of before
pub record AtMost (before now : Option Queue) : Type 0 where
  pub head : (old new : Queue) → before ≡ Some old → now ≡ Some new → new.head ≤ old.head + 1
  pub counter : (old new : Queue) → before ≡ Some old → now ≡ Some new → new.counter ≤ old.counter + 1

abbrev pub RisesByOne : Type 0
RisesByOne = (s : State) (a : Action) (n : ℕ) → AtMost (slice_get s.queues n) (slice_get (after s a).queues n)

-- an action of a queue changes no queue of another domain
abbrev pub OtherDomainsStay : Type 0
OtherDomainsStay =
    (s : State) (a : Action) (q n : ℕ) (mine other : Queue) → acts_on a ≡ Some q → slice_get s.queues q ≡ Some mine
    → slice_get s.queues n ≡ Some other → other.row.domain ≢ mine.row.domain
    → slice_get (after s a).queues n ≡ Some other

-- and no byte that no region of its domain has
abbrev pub OtherBytesStay : Type 0
OtherBytesStay =
    (s : State) (a : Action) (q p : ℕ) (mine : Queue) → acts_on a ≡ Some q → slice_get s.queues q ≡ Some mine → EndsBy (length s.memory) s.regions
    → domain_holds s.regions mine.row.domain p ≡ false
    → slice_index (after s a).memory p ≡ slice_index s.memory p

-- changes leave each range that lies apart from them
abbrev pub ApartStays : Type 0
ApartStays =
    (memory : List ℕ) (changes : List Change) (place : Place) → Fits (length memory) changes → all_apart (ranges_of changes) (place ∷ []) ≡ true
    → bytes_at (changed memory changes) place.at place.len ≡ bytes_at memory place.at place.len

-- and stand themselves where they lie apart from one another
abbrev pub ApartStand : Type 0
ApartStand = (memory : List ℕ) (changes : List Change) → Fits (length memory) changes → LieApart changes → AllStand (changed memory changes) changes

-- a landing is the same where the bytes are the same that it reads
abbrev pub ReadsOneRange : Type 0
ReadsOneRange =
    (regions : List Region) (o : Origin) (r : Request) (memory other : List ℕ)
    → (let l = landing regions o memory r in bytes_at memory l.reads.at l.reads.len ≡ bytes_at other l.reads.at l.reads.len)
    → landing regions o memory r ≡ landing regions o other r

-- the second landing, behind the first one, is what it would have been before, and their writes give the same memory in both orders
pub record Exchange (regions : List Region) (memory : List ℕ) (o p : Origin) (r t : Request) : Type 0 where
  pub second : landing regions p (changed memory (landing regions o memory r).writes) t ≡ landing regions p memory t
  pub first : landing regions o (changed memory (landing regions p memory t).writes) r ≡ landing regions o memory r
  pub memory_same : changed (changed memory (landing regions o memory r).writes) (landing regions p memory t).writes
      ≡ changed (changed memory (landing regions p memory t).writes) (landing regions o memory r).writes

-- two landings that lie apart can be exchanged
abbrev pub ApartExchange : Type 0
ApartExchange =
    (regions : List Region) (memory : List ℕ) (o p : Origin) (r t : Request) → EndsBy (length memory) regions
    → AreApart (landing regions o memory r) (landing regions p memory t)
    → Exchange regions memory o p r t

-- whatever possible actions an adapter makes from its first state on, its queues are in order
abbrev pub ReachedInOrder : Type 0
ReachedInOrder =
    (regions : List Region) (rows : List QueueRow) (receives : List Receive) (memory : List ℕ) (messages : List (Option (List ℕ))) (acts : List Action)
    → AllPossible (start regions rows receives memory messages) acts → AllInOrder (reached (start regions rows receives memory messages) acts)

-- and memory keeps its length, from a state on whose regions and messages lie in it
abbrev pub MemoryKeepsLength : Type 0
MemoryKeepsLength = (s : State) (acts : List Action) → IsInside s → AllPossible s acts → length (reached s acts).memory ≡ length s.memory
