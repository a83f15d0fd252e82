use Rattle.std.proofs.Common.{◌≡◌, ℕ, ◌<◌, length, map}
use Rattle.std.specs.VecDeque.{deque_capacity}
use Rattle.std.specs.List.{All}
use Rattle.redn_queue.specs.Covers.{Covers}
use Rattle.redn_queue.specs.InFlight.{place_from, waits_at}
use Rattle.redn_queue.proofs.flights.drop_first_landed.Given as goal

abbrev pub invariant-loop-unlanded : goal.invariant-loop-unlanded
invariant-loop-unlanded l =
    record {
      below : All (λ (k : ℕ). k < length l.list.items) (map (place_from l.first) l.unlanded.items);
      covers : (high : ℕ) → Covers (waits_at l.list.items) 0 high (map (place_from l.first) l.fn.unlanded.items) → Covers (waits_at l.list.items) 0 high (map (place_from l.first) l.unlanded.items);
      capacity : deque_capacity l.unlanded ≡ deque_capacity l.fn.unlanded;
    }

abbrev pub decreases-loop-unlanded : goal.decreases-loop-unlanded
decreases-loop-unlanded l = length l.unlanded.items
