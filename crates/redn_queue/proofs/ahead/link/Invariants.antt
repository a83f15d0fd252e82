use Rattle.std.proofs.Common.{◌≡◌, ℕ, ◌+◌, ◌-◌, ◌≤◌, Bool, length, max}
use Rattle.std.specs.VecDeque.{deque_capacity}
use Rattle.redn_queue.specs.Covers.{Covers}
use Rattle.redn_queue.proofs.ahead.link.Given as goal

abbrev pub invariant-loop-index : goal.invariant-loop-index
invariant-loop-index l =
    record {
      covers : (test : ℕ → Bool) (low : ℕ) → low ≤ l.fn.from → Covers test low l.fn.from l.fn.gaps.items → Covers test low l.index l.gaps.items;
      long : length l.gaps.items ≡ length l.fn.gaps.items + (l.index - l.fn.from);
      within : l.index ≤ max l.fn.from l.fn.to;
      capacity : deque_capacity l.gaps ≡ deque_capacity l.fn.gaps;
    }
