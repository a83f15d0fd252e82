use Rattle.redn_queue.proofs.Waiting.{found_there}
use Rattle.redn_queue.proofs.flights.Flights.flies_at.Goals as goal

pub returns-in-Some : goal.returns-in-Some
returns-in-Some c = λ e.
    let a = c.self.inside in
    let here = rw c.in-Some.is at c.requires in
    rw (← c.self.view_is, c.in-Some.is) (found_there c.args.index a.list.items c.in-Some.place c.index.result.now c.self.invariant.rising (rw (← c.self.view_is) at here) c.index.ensures e)
