use Rattle.std.proofs.Common.{◌≡◌, ◌<◌, ◌≤◌, List, ℕ, [], length, get_or, take, sym, ap, ◌∙◌, arith}
use Rattle.std.specs.Prelude.{◌==◌, slice_index}
use Rattle.std.specs.List.{list_any}
use Rattle.std.proofs.lemmas.List.{get_or-map, length-map, length-take}
use Rattle.redn_marks.specs.Marks.{is_marked}
use Rattle.redn_marks.specs.declared.marks.Group.{Group}
use Rattle.redn_marks.specs.declared.marks.Marks.TheInside.{Inside}
use Rattle.redn_marks.specs.Seats.{AreSeated, list_of, seats_of, marks_view}
use Rattle.redn_marks.proofs.Found.{found, none_there}
use Rattle.redn_marks.proofs.marks.Marks.of.Goals as goal

-- a group that is there
module _ (a : Inside) (h : AreSeated (seats_of a)) (c : ℕ) (g : Group) (l : c < length a.groups.items) (is : g ≡ get_or a.groups.items c g) where
  there : c < length (seats_of a).lists
  there = omega (arith, l, length-map a.groups.items (λ (g : Group). g.numbers.items))

  list_is : list_of (seats_of a) c ≡ g.numbers.items
  list_is = get_or-map (λ (g : Group). g.numbers.items) a.groups.items c g [] l ∙ ap (λ (g : Group). g.numbers.items) (sym is)

  count_is : slice_index (seats_of a).marked c ≡ g.marked
  count_is = get_or-map (λ (g : Group). g.marked) a.groups.items c g 0 l ∙ ap (λ (g : Group). g.marked) (sym is)

  few : g.marked ≤ length g.numbers.items
  few = omega (arith, h.few c there, count_is, ap length list_is)

  its : (n : ℕ) → list_any (λ (m : ℕ). n == m) (take g.marked g.numbers.items) ≡ is_marked (marks_view a) c n
  its n = ap (λ (k : ℕ). list_any (λ (m : ℕ). n == m) (take k g.numbers.items)) (sym count_is) ∙ ap (λ (ms : List ℕ). list_any (λ (m : ℕ). n == m) (take (slice_index (seats_of a).marked c) ms)) (sym list_is) ∙ found (seats_of a) h c there n

pub slice_bounds-result-end : goal.slice_bounds-result-end
slice_bounds-result-end c =
    let h = rw c.deref.ensures.value at c.in-Some.ensures.lookup in
    let low = few c.self.inside c.self.invariant c.args.group c.in-Some.group.now h.3.0 h.1 in
    omega (arith, low, length-take c.in-Some.group.now.marked c.deref-in-Some.result.now, ap length c.deref-in-Some.ensures.value)

pub returns-in-Some : goal.returns-in-Some
returns-in-Some c n =
    let h = rw c.deref.ensures.value at c.in-Some.ensures.lookup in
    rw (← c.self.view_is, c.deref-in-Some.ensures.value) (its c.self.inside c.self.invariant c.args.group c.in-Some.group.now h.3.0 h.1 n)

pub returns-in-None : goal.returns-in-None
returns-in-None c n =
    let h = rw c.deref.ensures.value at c.in-None.ensures.lookup in
    let past : length (seats_of c.self.inside).lists ≤ c.args.group = omega (arith, h.2, length-map c.self.inside.groups.items (λ (g : Group). g.numbers.items)) in
    rw (← c.self.view_is) (sym (none_there (seats_of c.self.inside) c.self.invariant c.args.group past n))
