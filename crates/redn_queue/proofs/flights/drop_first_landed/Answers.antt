use Rattle.std.proofs.Common.{◌≡◌, ℕ, ◌<◌, length, map, drop, sym, ◌∙◌, arith}
use Rattle.std.specs.List.{drop-map}
use Rattle.std.proofs.lemmas.List.Elements.{All-drop}
use Rattle.redn_queue.specs.InFlight.{place_from, waits_at}
use Rattle.redn_queue.proofs.Covers.{covers_drop}
use Rattle.redn_queue.proofs.Waiting.{end_there, end_landed}
use Rattle.redn_queue.proofs.flights.drop_first_landed.Goals as goal

pub loop-unlanded-preserved : goal.loop-unlanded-preserved
loop-unlanded-preserved c =
    let ns = c.loop-unlanded.unlanded.items in
    let inv = c.loop-unlanded.invariant in
    let fs = c.args.list.now.items in
    let ks = map (place_from c.args.first) ns in
    let over = sym c.has_landed.ensures ∙ c.loop-unlanded-test.true in
    let some : 0 < length ns = omega (arith, c.loop-unlanded.unlanded.ok, c.front.ensures.variant.0 (end_there fs c.args.first c.front.result over)) in
    let fails = end_landed fs c.args.first ns 0 c.front.result over c.front.ensures.lookup some in
    let rest : c.pop_front.new.self.items ≡ drop 1 ns = c.pop_front.ensures.rest in
    record {
      below = rw (rest, ← drop-map (place_from c.args.first) 1 ns) (All-drop (λ (k : ℕ). k < length fs) 1 ks inv.below);
      covers = λ high h. rw (rest, ← drop-map (place_from c.args.first) 1 ns) (covers_drop (waits_at fs) 0 high ks (inv.covers high h) fails);
      capacity = c.pop_front.ensures.capacity ∙ inv.capacity;
    }
