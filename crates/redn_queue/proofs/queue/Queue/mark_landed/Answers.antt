use Rattle.redn_words.proofs.Flights.{AllBelow-landed}
use Rattle.redn_queue.proofs.queue.Queue.mark_landed.Goals as goal

pub invariant_of-self : goal.invariant_of-self
invariant_of-self c =
    let a = c.self.inside in
    let inv = c.self.invariant in
    rw c.mark_landed.ensures (record {
      places = inv.places;
      room = inv.room;
      reached = inv.reached;
      below = AllBelow-landed c.args.index a.ahead.head a.flights.list inv.below;
    })
