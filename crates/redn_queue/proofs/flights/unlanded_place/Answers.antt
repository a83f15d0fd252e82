use Rattle.std.proofs.Common.{sym}
use Rattle.redn_queue.proofs.Flying.{place_unlanded, place_landed, position_absent}
use Rattle.redn_queue.proofs.flights.unlanded_place.Goals as goal

pub returns-in_default : goal.returns-in_default
returns-in_default c = sym (position_absent c.args.index c.args.flights.now.items c.in_default.ensures.absent)

pub returns-then-index : goal.returns-then-index
returns-then-index c = sym (place_landed c.args.index c.args.flights.now.items c.requires c.in-Ok.place c.in-Ok.ensures.found c.index.result.now c.index.ensures c.if-index.true)

pub returns-else-index : goal.returns-else-index
returns-else-index c = sym (place_unlanded c.args.index c.args.flights.now.items c.requires c.in-Ok.place c.in-Ok.ensures.found c.index.result.now c.index.ensures c.if-index.false)
