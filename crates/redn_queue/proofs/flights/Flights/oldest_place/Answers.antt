use Rattle.std.proofs.Common.{◌<◌, length, arith, refl}
use Rattle.std.proofs.lemmas.List.{length-map}
use Rattle.redn_queue.specs.InFlight.{place_from}
use Rattle.redn_queue.proofs.Waiting.{is_oldest}
use Rattle.redn_queue.proofs.flights.Flights.oldest_place.Goals as goal

pub returns : goal.returns
returns c =
    let a = c.self.inside in
    let inv = c.self.invariant in
    let there : 0 < length a.unlanded.items = omega (arith, a.unlanded.ok, c.in_ok-number.ensures.variant.0 refl) in
    rw (← c.self.view_is) (is_oldest a.list.items a.first a.unlanded.items inv.unlanded c.in_ok-number.number.now inv.oldest c.in_ok-number.ensures.lookup (omega (arith, there, length-map a.unlanded.items (place_from a.first))) there)
