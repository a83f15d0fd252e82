use Rattle.std.proofs.Common.{◌≡◌, ℕ, true, length, set, map, sym, ap, subst, ◌∙◌, arith, refl}
use Rattle.std.specs.Prelude.{is_some}
use Rattle.std.proofs.lemmas.Bool.{false≢true}
use Rattle.std.proofs.lemmas.List.{length-set}
use Rattle.redn_words.specs.declared.types.Flight.{Flight}
use Rattle.redn_words.specs.InOrder.{IsRising}
use Rattle.redn_words.specs.Steps.{with_landed}
use Rattle.redn_words.proofs.Flights.{IsRising-landed}
use Rattle.redn_queue.specs.Covers.{Covers}
use Rattle.redn_queue.specs.InFlight.{place_from, waits_at}
use Rattle.redn_queue.proofs.Covers.{covers_weaker}
use Rattle.redn_queue.proofs.Waiting.{waits_set}
use Rattle.redn_queue.proofs.Flying.{IsUnlandedAt, stands_at, none_stands}
use Rattle.redn_queue.proofs.flights.Flights.mark_landed.Goals as goal
use Rattle.redn_queue.proofs.flights.Flights.mark_landed.Goals.{After-index_mut}

pub unreachable-requires : goal.unreachable-requires
unreachable-requires c =
    let none = none_stands c.args.index c.args.self.now.list (sym c.place_of.ensures ∙ c.in_default.is) in
    absurd (false≢true (ap is_some (sym none.0) ∙ c.requires))

-- the request as it has landed
abbrev landed : Flight → Flight
landed f = record { index = f.index; copy = f.copy; landed = true }

stands : (c : After-index_mut) → IsUnlandedAt c.args.index c.self.inside.list.items c.in-Some.place
stands c = stands_at c.args.index c.self.inside.list.items c.in-Some.place (rw (← c.self.view_is) at (sym c.place_of.ensures ∙ c.in-Some.is))

is_set : (c : After-index_mut) → with_landed c.args.index c.self.inside.list.items ≡ set c.self.inside.list.items c.in-Some.place (landed c.index_mut.result.now)
is_set c =
    let f = c.index_mut.result.now in
    (stands c).landed f ∙ ap (λ (g : Flight). set c.self.inside.list.items c.in-Some.place (landed g)) (sym c.index_mut.ensures.value)

long : (c : After-index_mut) → length (set c.self.inside.list.items c.in-Some.place (landed c.index_mut.result.now)) ≡ length c.self.inside.list.items
long c = length-set c.self.inside.list.items c.in-Some.place (landed c.index_mut.result.now)

closed : (c : After-index_mut) → Covers (waits_at (set c.self.inside.list.items c.in-Some.place (landed c.index_mut.result.now))) 0 (length c.self.inside.list.items) (map (place_from c.self.inside.first) c.self.inside.unlanded.items)
closed c =
    let a = c.self.inside in
    let f = landed c.index_mut.result.now in
    covers_weaker (waits_at a.list.items) 0 (length a.list.items) (map (place_from a.first) a.unlanded.items) c.self.invariant.unlanded (waits_at (set a.list.items c.in-Some.place f)) (λ k l. waits_set a.list.items c.in-Some.place f k refl)

pub drop_last_landed-requires-clause-below : goal.drop_last_landed-requires-clause-below
drop_last_landed-requires-clause-below c =
    let at = (goal.at.drop_last_landed-requires-clause-below c).After-index_mut in
    λ k d l. omega (arith, long at, (c.drop_first_landed.ensures.covers (length c.self.inside.list.items) (closed at)).below k d l)

pub invariant_of-self : goal.invariant_of-self
invariant_of-self c =
    let at = (goal.at.invariant_of-self c).After-index_mut in
    let a = c.self.inside in
    let inv = c.self.invariant in
    let fs = set a.list.items c.in-Some.place (landed c.index_mut.result.now) in
    let ks = map (place_from a.first) c.drop_last_landed.new.unlanded.items in
    let n = length a.list.items in
    record {
      fits = inv.fits;
      rising = subst IsRising (is_set at) (IsRising-landed c.args.index a.list.items inv.rising);
      unlanded = subst (λ (m : ℕ). Covers (waits_at fs) 0 m ks) (sym (long at)) (c.drop_last_landed.ensures.covers n (c.drop_first_landed.ensures.covers n (closed at)));
      oldest = c.drop_last_landed.ensures.oldest;
      newest = c.drop_last_landed.ensures.newest;
      room = omega (arith, inv.room, c.drop_first_landed.ensures.capacity, c.drop_last_landed.ensures.capacity);
    }

pub returns : goal.returns
returns c =
    let at = (goal.at.returns c).After-index_mut in
    rw (← c.self.view_is, is_set at) refl
