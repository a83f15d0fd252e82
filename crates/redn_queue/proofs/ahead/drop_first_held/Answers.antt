use Rattle.std.proofs.Common.{ℕ, ◌+◌, ◌<◌, ◌≤◌, length, sym, ◌∙◌, arith}
use Rattle.std.proofs.lemmas.List.Elements.{All-drop}
use Rattle.redn_queue.specs.Pools.{copies_in}
use Rattle.redn_queue.specs.Windows.{lacks}
use Rattle.redn_queue.proofs.Covers.{covers_drop}
use Rattle.redn_queue.proofs.Seeking.{end_there, end_held}
use Rattle.redn_queue.proofs.ahead.drop_first_held.Goals as goal

pub loop-gaps-preserved : goal.loop-gaps-preserved
loop-gaps-preserved c =
    let gaps = c.loop-gaps.gaps.items in
    let inv = c.loop-gaps.invariant in
    let copies = copies_in c.args.head c.args.places.now.items in
    let held = sym c.is_filled.ensures ∙ c.loop-gaps-test.true in
    let some : 0 < length gaps = omega (arith, c.loop-gaps.gaps.ok, c.front.ensures.variant.0 (end_there copies c.front.result held)) in
    let fails = end_held copies gaps 0 c.front.result held c.front.ensures.lookup some in
    record {
      from = rw c.pop_front.ensures.rest (All-drop (λ (i : ℕ). c.args.head ≤ i) 1 gaps inv.from);
      below = rw c.pop_front.ensures.rest (All-drop (λ (i : ℕ). i < c.args.head + length c.args.places.now.items) 1 gaps inv.below);
      covers = λ low high h. rw c.pop_front.ensures.rest (covers_drop (lacks copies) low high gaps (inv.covers low high h) fails);
      capacity = c.pop_front.ensures.capacity ∙ inv.capacity;
    }
