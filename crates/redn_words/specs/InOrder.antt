-- What holds of each queue from an adapter's first state on, whatever the actions.
use Rattle.std.specs.Prelude.{◌≡◌, ℕ, ◌+◌, ◌<◌, ◌≤◌, List, length, Some, slice_get}
use Rattle.std.specs.List.{All, AllPairs}
use Rattle.std.specs.FinMap as finite
use Rattle.redn_words.specs.declared.types.Flight.{Flight}
use Rattle.redn_words.specs.declared.types.Receive.{Receive}
use Rattle.redn_words.specs.Access.{EndsBy}
use Rattle.redn_words.specs.States.{Queue, Pending, Chain, State}

-- each index in flight is above those before it
abbrev pub IsRising : List Flight → Type 0
IsRising flights = AllPairs (λ (f g : Flight). f.index < g.index) flights

abbrev pub AllBelow : ℕ → List Flight → Type 0
AllBelow n flights = All (λ (f : Flight). f.index < n) flights

-- an index that may be fetched
pub record IsAhead (queue : Queue) (i : ℕ) : Type 0 where
  pub low : queue.head ≤ i
  pub high : i < queue.limit
  pub near : i < queue.head + queue.row.slots

-- Held copies are of indexes ahead. Requests in flight are of indexes below head, in order, and at most as many as slots. Each start
-- raises head by one, so that head is the number of starts: those that completed are counted once at most.
pub record IsInOrder (queue : Queue) : Type 0 where
  pub held : (i : ℕ) (copy : List ℕ) → finite.get queue.held i ≡ Some copy → IsAhead queue i
  pub rising : IsRising queue.flights
  pub below : AllBelow queue.head queue.flights
  pub few : length queue.flights ≤ queue.row.slots
  pub counted : queue.counter + length queue.flights ≤ queue.head

abbrev pub AllInOrder : State → Type 0
AllInOrder s = (q : ℕ) (queue : Queue) → slice_get s.queues q ≡ Some queue → IsInOrder queue

-- regions, and the places of messages that are to come, lie in memory
pub record IsInside (s : State) : Type 0 where
  pub regions : EndsBy (length s.memory) s.regions
  pub mails : (c : ℕ) (place : Receive) (chain : Chain) (bytes : List ℕ) → slice_get s.receives c ≡ Some place → slice_get s.chains c ≡ Some chain
      → chain.mail ≡ Pending bytes
      → place.base + length bytes ≤ length s.memory
