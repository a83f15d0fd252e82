-- How the fields of the held copies are seen, and what they keep.
use Rattle.std.specs.Prelude.{◌≡◌, ℕ, ◌+◌, ◌≤◌, length, None}
use Rattle.std.specs.VecDeque.{deque_capacity}
use Rattle.std.specs.FinMap as finite
use Rattle.redn_queue.specs.Pools.{copies_in}
use Rattle.redn_queue.specs.Covers.{Covers, FirstPasses, LastPasses}
use Rattle.redn_queue.specs.Windows.{Window, lacks}
use Rattle.redn_queue.specs.declared.ahead.Ahead.TheInside.{Inside}

abbrev pub ahead_view : Inside → Window
ahead_view a = record { head = a.head; slots = length a.places.items; untouched = a.untouched; copies = copies_in a.head a.places.items }

pub record IsWindow (a : Inside) : Type 0 where
  pub low : a.head ≤ a.untouched
  pub high : a.untouched ≤ a.head + length a.places.items
  pub bare : (i : ℕ) → a.untouched ≤ i → finite.get (copies_in a.head a.places.items) i ≡ None
  pub gaps : Covers (lacks (copies_in a.head a.places.items)) a.head a.untouched a.gaps.items
  pub first : FirstPasses (lacks (copies_in a.head a.places.items)) a.gaps.items
  pub last : LastPasses (lacks (copies_in a.head a.places.items)) a.gaps.items
  pub room : length a.places.items ≤ deque_capacity a.gaps
