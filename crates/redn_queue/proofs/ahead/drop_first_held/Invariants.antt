use Rattle.std.proofs.Common.{◌≡◌, ℕ, ◌+◌, ◌<◌, ◌≤◌, length}
use Rattle.std.specs.VecDeque.{deque_capacity}
use Rattle.std.specs.List.{All}
use Rattle.redn_queue.specs.Pools.{copies_in}
use Rattle.redn_queue.specs.Covers.{Covers}
use Rattle.redn_queue.specs.Windows.{lacks}
use Rattle.redn_queue.proofs.ahead.drop_first_held.Given as goal

abbrev pub invariant-loop-gaps : goal.invariant-loop-gaps
invariant-loop-gaps l =
    record {
      from : All (λ (i : ℕ). l.head ≤ i) l.gaps.items;
      below : All (λ (i : ℕ). i < l.head + length l.places.items) l.gaps.items;
      covers : (low high : ℕ) → Covers (lacks (copies_in l.head l.places.items)) low high l.fn.gaps.items → Covers (lacks (copies_in l.head l.places.items)) low high l.gaps.items;
      capacity : deque_capacity l.gaps ≡ deque_capacity l.fn.gaps;
    }

abbrev pub decreases-loop-gaps : goal.decreases-loop-gaps
decreases-loop-gaps l = length l.gaps.items
