use Rattle.std.proofs.Common.{◌≡◌, ◌<◌, length, sym, ap, subst, ◌∙◌, refl, arith}
use Rattle.std.specs.Prelude.{slice_set}
use Rattle.std.specs.List.{SwappedAt}
use Rattle.std.specs.Vec.{with_items, with_item}
use Rattle.std.proofs.lemmas.List.{get_or_default, with_items_is}
use Rattle.redn_marks.specs.Marks.{Marks}
use Rattle.redn_marks.specs.Seats.{place_for, count_for}
use Rattle.redn_marks.specs.declared.marks.Marks.TheInside.{Inside}
use Rattle.redn_marks.proofs.Kept.{Looked, Leaves, at_inside, numbers_there, counts_of, still_seated, marks_one, kept, untouched}
use Rattle.redn_marks.proofs.marks.Marks.set.Goals as goal
use Rattle.redn_marks.proofs.marks.Marks.set.Goals.{After-index_mut-group, After-deref_mut-2, After-exchange}

looked : (c : After-index_mut-group) → Looked c.self.inside c.args.number c.index-at.result.now c.index.result.now c.index_mut-group.result.now
looked c =
    let there : c.args.number < length c.self.inside.group.items = subst (λ (m : Marks). c.args.number < length m.group) (sym c.self.view_is) c.requires in
    record {
      old = c.self.invariant;
      there = there;
      place = c.index-at.ensures ∙ get_or_default c.self.inside.at.items c.args.number c.index-at.result.now 0 (omega (arith, there, c.self.invariant.places));
      group = c.index.ensures ∙ get_or_default c.self.inside.group.items c.args.number c.index.result.now 0 there;
      read = c.index_mut-group.ensures.value;
    }

pub returns-then-at-group : goal.returns-then-at-group
returns-then-at-group c =
    let at = (goal.at.returns-then-at-group c).After-index_mut-group in
    untouched c.self.inside c.index.result.now c.index_mut-group.result.now c.index_mut-group.ensures.value
    ∙ sym (kept c.self.inside c.args.mark c.args.number c.index-at.result.now c.index.result.now c.index_mut-group.result.now (looked at) c.if-at-group.true)
    ∙ ap (λ (m : Marks). record m { marked = slice_set m.marked c.args.number c.args.mark }) c.self.view_is

pub exchange-requires-clause-at : goal.exchange-requires-clause-at
exchange-requires-clause-at c =
    let at = (goal.at.exchange-requires-clause-at c).After-index_mut-group in
    let inside = at_inside c.self.inside c.args.number c.index-at.result.now c.index.result.now c.index_mut-group.result.now (looked at) in
    omega (arith, inside, ap length c.deref_mut-2.ensures.value)

pub exchange-requires-clause-to : goal.exchange-requires-clause-to
exchange-requires-clause-to c =
    let at = (goal.at.exchange-requires-clause-to c).After-index_mut-group in
    let its = counts_of c.self.inside c.args.mark c.args.number c.index-at.result.now c.index.result.now c.index_mut-group.result.now (looked at) c.if-at-group.false in
    omega (arith, its.inside, c.place_for-to.ensures, ap length c.deref_mut-2.ensures.value)

pub exchange-requires-clause-there : goal.exchange-requires-clause-there
exchange-requires-clause-there c k d l =
    let at = (goal.at.exchange-requires-clause-there c).After-index_mut-group in
    let there = numbers_there c.self.inside c.args.number c.index-at.result.now c.index.result.now c.index_mut-group.result.now (looked at) k d in
    rw (c.deref_mut-2.ensures.value, c.deref_mut.ensures.value) (there (rw c.deref_mut-2.ensures.value at l))

after : (c : After-exchange) → Inside
after c =
    record {
      group = c.self.inside.group;
      at = with_items c.self.inside.at c.exchange.new.places;
      groups = with_item c.self.inside.groups c.index.result.now (record { numbers = with_items c.index_mut-group.result.now.numbers c.exchange.new.numbers; marked = c.count_for-marked.result });
    }

swapped : (c : After-exchange) → SwappedAt c.index_mut-group.result.now.numbers.items c.exchange.new.numbers c.index-at.result.now (place_for c.args.mark c.index_mut-group.result.now.marked)
swapped c = rw (c.deref_mut-2.ensures.value, c.place_for-to.ensures) at c.exchange.ensures.swapped

as_long : (c : After-exchange) → length c.exchange.new.numbers ≡ length c.index_mut-group.result.now.numbers.items
as_long c = c.exchange.ensures.len ∙ ap length c.deref_mut-2.ensures.value

left : (c : After-exchange) → Leaves c.self.inside (after c) c.args.number c.index-at.result.now (place_for c.args.mark c.index_mut-group.result.now.marked) c.index.result.now (count_for c.args.mark c.index_mut-group.result.now.marked) c.index_mut-group.result.now c.exchange.new.numbers
unfolding after
left c =
    record {
      group = refl;
      at_is = with_items_is c.self.inside.at c.exchange.new.places (c.exchange.auto.places ∙ c.deref_mut.ensures.len) ∙ rw (c.deref_mut.ensures.value, c.deref_mut-2.ensures.value, c.place_for-to.ensures) at c.exchange.ensures.places;
      now = record { numbers = with_items c.index_mut-group.result.now.numbers c.exchange.new.numbers; marked = c.count_for-marked.result };
      groups = refl;
      list_now = with_items_is c.index_mut-group.result.now.numbers c.exchange.new.numbers (c.exchange.auto.numbers ∙ c.deref_mut-2.ensures.len);
      marked_now = c.count_for-marked.ensures;
    }

pub invariant_of-self-2 : goal.invariant_of-self-2
unfolding after
invariant_of-self-2 c =
    let first = (goal.at.invariant_of-self-2 c).After-index_mut-group in
    let at = (goal.at.invariant_of-self-2 c).After-exchange in
    still_seated c.self.inside (after at) c.args.mark c.args.number c.index-at.result.now c.index.result.now c.index_mut-group.result.now (looked first) c.if-at-group.false c.exchange.new.numbers (swapped at) (as_long at) (left at)

pub returns : goal.returns
unfolding after
returns c =
    let first = (goal.at.returns c).After-index_mut-group in
    let at = (goal.at.returns c).After-exchange in
    marks_one c.self.inside (after at) c.args.mark c.args.number c.index-at.result.now c.index.result.now c.index_mut-group.result.now (looked first) c.if-at-group.false c.exchange.new.numbers (swapped at) (as_long at) (left at)
    ∙ ap (λ (m : Marks). record m { marked = slice_set m.marked c.args.number c.args.mark }) c.self.view_is
