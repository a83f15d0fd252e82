use Rattle.std.proofs.Common.{◌∙◌}
use Rattle.redn_queue.proofs.Waiting.{oldest_found, no_oldest}
use Rattle.redn_queue.proofs.flights.Flights.oldest_unlanded.Goals as goal

pub returns-in_err-place : goal.returns-in_err-place
returns-in_err-place c = c.from_residual.ensures ∙ no_oldest c.args.self.now.list c.in_err-place.ensures

pub returns : goal.returns
returns c = let a = c.self.inside in rw (← c.self.view_is) (oldest_found a.list.items c.in_ok-place.place c.index.result.now (rw (← c.self.view_is) at c.in_ok-place.ensures) c.index.ensures)
