use Rattle.std.proofs.Common.{◌≡◌, ◌≢◌, ◌+◌, ◌-◌, ◌<◌, ℕ, length, is_some, false, refl, sym, ap, ◌∙◌, arith, get_or, inl, inr}
use Rattle.std.specs.Prelude.{is_none}
use Rattle.std.proofs.lemmas.Bool.{false≢true, true≢false, cases_lt}
use Rattle.std.specs.FinMap.{get, remove}
use Rattle.redn_queue.specs.Pools.{copies_in}
use Rattle.redn_queue.specs.Windows.{lacks}
use Rattle.redn_queue.proofs.Windows.{some_place, taken_copies, first_read}
use Rattle.redn_queue.proofs.Covers.{covers_raise, above_low}
use Rattle.redn_queue.proofs.Seeking.{remove_other}
use Rattle.redn_queue.proofs.ahead.Ahead.take.Goals as goal
use Rattle.redn_queue.proofs.ahead.Ahead.take.Goals.{After-index, After-rotate_left}

read : (c : After-index) → c.index.result.now ≡ get (copies_in c.self.inside.head c.self.inside.places.items) c.self.inside.head
read c = let a = c.self.inside in first_read a.head a.places.items c.index.result.now (some_place a.head a.places.items (rw (← c.self.view_is) at c.requires)) c.index.ensures

pub index-requires : goal.index-requires
index-requires c = let a = c.self.inside in omega (arith, some_place a.head a.places.items (rw (← c.self.view_is) at c.requires), a.places.ok)

pub index_mut-requires : goal.index_mut-requires
index_mut-requires c = let a = c.self.inside in omega (arith, some_place a.head a.places.items (rw (← c.self.view_is) at c.requires), a.places.ok)

pub rotate_left-requires : goal.rotate_left-requires
rotate_left-requires c = let a = c.self.inside in omega (arith, some_place a.head a.places.items (rw (← c.self.view_is) at c.requires), a.places.ok)

pub unreachable-requires : goal.unreachable-requires
unreachable-requires c =
    let held = rw (← c.self.view_is) at c.requires in
    absurd (false≢true (ap is_some (sym c.in_default.is ∙ read (goal.at.unreachable-requires c).After-index) ∙ held))

pub returns-clause-copy : goal.returns-clause-copy
returns-clause-copy c = rw (← c.self.view_is) (sym (read (goal.at.returns-clause-copy c).After-index) ∙ c.in-Some.is)

moved : (c : After-rotate_left) → copies_in (c.self.inside.head + 1) c.rotate_left.new.self.items ≡ remove (copies_in c.self.inside.head c.self.inside.places.items) c.self.inside.head
moved c =
    let a = c.self.inside in
    taken_copies a.head a.places.items c.rotate_left.new.self.items (some_place a.head a.places.items (rw (← c.self.view_is) at c.requires)) c.rotate_left.ensures.items

as_long : (c : After-rotate_left) → length c.rotate_left.new.self.items ≡ length c.self.inside.places.items
as_long c = omega (arith, c.rotate_left.ensures.len, c.rotate_left.new.self.ok, c.self.inside.places.ok)

pub returns-clause-left : goal.returns-clause-left
returns-clause-left c =
    let at = (goal.at.returns-clause-left c).After-rotate_left in
    rw (← c.self.view_is, moved at, as_long at) refl

pub invariant_of-self : goal.invariant_of-self
invariant_of-self c =
    let at = (goal.at.invariant_of-self c).After-rotate_left in
    let a = c.self.inside in
    let m = copies_in a.head a.places.items in
    let inv = c.self.invariant in
    let held : lacks m a.head ≡ false = ap is_none (sym (read (goal.at.invariant_of-self c).After-index) ∙ c.in-Some.is) in
    let others = λ (n : ℕ) (ne : n ≢ a.head). remove_other m a.head n ne in
    let long = as_long at in
    let touched : a.head < a.untouched =
    elim (cases_lt a.head a.untouched) [ inl lt ↦ lt | inr ge ↦ absurd (true≢false (ap is_none (sym (inv.bare a.head ge)) ∙ held)) ] in
    let above = above_low (lacks m) a.head a.untouched a.gaps.items inv.gaps inv.first held in
    record {
      low = omega arith;
      high = omega (arith, inv.high);
      bare = λ i l. let ne : i ≢ a.head = omega arith in rw (moved at) (others i ne ∙ inv.bare i l);
      gaps = rw (moved at) (covers_raise (lacks m) a.head a.untouched a.gaps.items inv.gaps inv.first held (lacks (remove m a.head)) (λ n ne. ap is_none (others n ne)));
      first = λ d l. rw (moved at) (let ne : get_or a.gaps.items 0 d ≢ a.head = omega (arith, above 0 d l) in ap is_none (others (get_or a.gaps.items 0 d) ne) ∙ inv.first d l);
      last = λ d l. rw (moved at) (let k = length a.gaps.items - 1 in let within : k < length a.gaps.items = omega arith in let ne : get_or a.gaps.items k d ≢ a.head = omega (arith, above k d within) in ap is_none (others (get_or a.gaps.items k d) ne) ∙ inv.last d l);
      room = omega (arith, inv.room);
    }
