use Rattle.std.proofs.Common.{◌<◌, ◌^◌, arith}
use Rattle.redn_words.proofs.Flights.{IsRising-rest}
use Rattle.redn_queue.proofs.Waiting.{popped_covers, popped_oldest, popped_newest}
use Rattle.redn_queue.proofs.flights.Flights.pop.Goals as goal

pub invariant_of-self : goal.invariant_of-self
invariant_of-self c =
    let a = c.self.inside in
    let inv = c.self.invariant in
    let f = c.in-Some.flight in
    let fs = c.pop_front.new.self.items in
    let is = c.in-Some.ensures.items in
    let landed = rw is at (rw (← c.self.view_is) at c.requires) in
    let fits : a.first < 2 ^ 64 = inv.fits in
    let covers = rw is at inv.unlanded in
    let oldest = rw is at inv.oldest in
    record {
      fits = omega arith;
      rising = IsRising-rest f fs (rw is at inv.rising);
      unlanded = popped_covers f fs a.first a.unlanded.items fits landed covers oldest;
      oldest = popped_oldest f fs a.first a.unlanded.items fits landed covers oldest;
      newest = popped_newest f fs a.first a.unlanded.items fits landed covers oldest (rw is at inv.newest);
      room = omega (arith, inv.room, c.in-Some.ensures.capacity);
    }
