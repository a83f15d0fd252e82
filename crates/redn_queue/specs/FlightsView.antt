-- How the fields of the requests in flight are seen, and what they keep.
use Rattle.std.specs.Prelude.{◌<◌, ◌≤◌, ◌^◌, length, map}
use Rattle.std.specs.VecDeque.{deque_capacity}
use Rattle.redn_words.specs.InOrder.{IsRising}
use Rattle.redn_queue.specs.Covers.{Covers, FirstPasses, LastPasses}
use Rattle.redn_queue.specs.InFlight.{InFlight, place_from, waits_at}
use Rattle.redn_queue.specs.declared.flights.Flights.TheInside.{Inside}

abbrev pub flights_view : Inside → InFlight
flights_view a = record { room = deque_capacity a.list; list = a.list.items }

pub record IsInFlight (a : Inside) : Type 0 where
  pub fits : a.first < 2 ^ 64
  pub rising : IsRising a.list.items
  pub unlanded : Covers (waits_at a.list.items) 0 (length a.list.items) (map (place_from a.first) a.unlanded.items)
  pub oldest : FirstPasses (waits_at a.list.items) (map (place_from a.first) a.unlanded.items)
  pub newest : LastPasses (waits_at a.list.items) (map (place_from a.first) a.unlanded.items)
  pub room : deque_capacity a.list ≤ deque_capacity a.unlanded
