-- How the fields of a queue are seen, and what they keep.
use Rattle.std.specs.Prelude.{◌≡◌, ◌≤◌}
use Rattle.redn_words.specs.States.{Queue}
use Rattle.redn_words.specs.InOrder.{AllBelow}
use Rattle.redn_queue.specs.declared.queue.Queue.TheInside.{Inside}

abbrev pub queue_view : Inside → Queue
queue_view a =
    record {
      row = a.row;
      head = a.ahead.head;
      limit = a.limit;
      held = a.ahead.copies;
      flights = a.flights.list;
      counter = a.counter;
      stopped = a.stopped;
    }

pub record IsQueue (a : Inside) : Type 0 where
  pub places : a.ahead.slots ≡ a.row.slots
  pub room : a.row.slots ≤ a.flights.room
  pub reached : a.ahead.untouched ≤ a.limit
  pub below : AllBelow a.ahead.head a.flights.list
