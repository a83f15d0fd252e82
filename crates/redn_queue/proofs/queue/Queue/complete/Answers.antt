use Rattle.std.proofs.Common.{◌<◌, arith}
use Rattle.std.proofs.lemmas.List.Elements.{All-tail}
use Rattle.redn_words.specs.declared.types.Flight.{Flight}
use Rattle.redn_queue.proofs.queue.Queue.complete.Goals as goal

pub invariant_of-self : goal.invariant_of-self
invariant_of-self c =
    let a = c.self.inside in
    let inv = c.self.invariant in
    let popped = c.pop-flight in
    record {
      places = inv.places;
      room = omega (arith, inv.room, popped.ensures.room);
      reached = inv.reached;
      below = All-tail (λ (f : Flight). f.index < a.ahead.head) popped.result popped.new.self.list (rw popped.ensures.first at inv.below);
    }
