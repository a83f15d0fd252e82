use Rattle.std.proofs.Common.{◌≡◌, ℕ, ◌+◌, ◌-◌, ◌<◌, ◌≤◌, length, take, sym, ap, ◌∙◌, arith}
use Rattle.std.specs.VecDeque.{deque_len}
use Rattle.std.proofs.lemmas.List.{get_or-take, length-take}
use Rattle.std.proofs.lemmas.List.Elements.{All-take}
use Rattle.redn_queue.specs.Pools.{copies_in}
use Rattle.redn_queue.specs.Windows.{lacks}
use Rattle.redn_queue.proofs.Covers.{covers_take}
use Rattle.redn_queue.proofs.Seeking.{end_there, end_held}
use Rattle.redn_queue.proofs.ahead.drop_last_held.Goals as goal

pub loop-gaps-preserved : goal.loop-gaps-preserved
loop-gaps-preserved c =
    let gaps = c.loop-gaps.gaps.items in
    let inv = c.loop-gaps.invariant in
    let copies = copies_in c.args.head c.args.places.now.items in
    let held = sym c.is_filled.ensures ∙ c.loop-gaps-test.true in
    let some : 0 < length gaps = omega (arith, c.loop-gaps.gaps.ok, c.back.ensures.variant.0 (end_there copies c.back.result held)) in
    let len : deque_len c.loop-gaps.gaps ≡ length gaps = omega (arith, c.loop-gaps.gaps.ok) in
    let fails = end_held copies gaps (length gaps - 1) c.back.result held (rw len at c.back.ensures.lookup) (omega arith) in
    let rest : c.pop_back.new.self.items ≡ take (length gaps - 1) gaps = c.pop_back.ensures.rest ∙ ap (λ (n : ℕ). take (n - 1) gaps) len in
    record {
      from = rw rest (All-take (λ (i : ℕ). c.args.head ≤ i) (length gaps - 1) gaps inv.from);
      below = rw rest (All-take (λ (i : ℕ). i < c.args.head + length c.args.places.now.items) (length gaps - 1) gaps inv.below);
      covers = λ low high h. rw rest (covers_take (lacks copies) low high gaps (inv.covers low high h) fails);
      first = rw rest (λ d l. let more : 0 < length gaps - 1 = omega (arith, l, length-take (length gaps - 1) gaps) in ap (lacks copies) (get_or-take (length gaps - 1) gaps 0 d more) ∙ inv.first d some);
      capacity = c.pop_back.ensures.capacity ∙ inv.capacity;
    }
