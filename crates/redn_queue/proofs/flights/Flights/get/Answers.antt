use Rattle.std.proofs.Common.{Some, sym, ap, ◌∙◌}
use Rattle.std.specs.Option.{option_map, option_copied}
use Rattle.redn_words.specs.declared.types.Flight.{Flight}
use Rattle.redn_queue.proofs.Flying.{stands_at, none_stands}
use Rattle.redn_queue.proofs.flights.Flights.get.Goals as goal

pub returns-in_err-place : goal.returns-in_err-place
returns-in_err-place c = ap option_copied c.from_residual.ensures ∙ sym (ap (option_map (λ (f : Flight). f.copy)) (none_stands c.args.index c.args.self.now.list (sym c.in_err-place.ensures)).0)

pub returns : goal.returns
returns c =
    let a = c.self.inside in
    let s = stands_at c.args.index a.list.items c.in_ok-place.place (rw (← c.self.view_is) at (sym c.in_ok-place.ensures)) in
    rw (← c.self.view_is) (ap (λ (f : Flight). Some f.copy) c.index.ensures ∙ sym (ap (option_map (λ (f : Flight). f.copy)) (s.found c.index.result.now)))
