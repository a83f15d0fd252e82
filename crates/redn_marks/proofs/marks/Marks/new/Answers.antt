use Rattle.std.proofs.Common.{◌≡◌, ◌+◌, ◌-◌, ◌^◌, ◌<◌, ◌≤◌, Bool, List, ℕ, [], ◌∷◌, ◌++◌, length, get_or, map, replicate, sym, ap, subst, ◌∙◌, refl, arith}
use Rattle.std.proofs.lemmas.List.{get_or-map, length-map, length-replicate, take_all}
use Rattle.std.specs.List.{All}
use Rattle.redn_marks.specs.declared.marks.Group.{Group}
use Rattle.redn_marks.specs.Seats.{Seats, AreSeated, list_of, marks_of}
use Rattle.redn_marks.proofs.Joining.{joins, joins_few, none_seated, none_long, none_marked}
use Rattle.redn_marks.proofs.Making.{Adds, seats_at, list_is, next_seats}
use Rattle.redn_marks.proofs.marks.Marks.new.Goals as goal
use Rattle.redn_marks.proofs.marks.Marks.new.Goals.{After-row_known-1, After-index_mut, In_ok-push, After-loop-number}

first_seats : (group : List ℕ) (groups : List Group) (count : ℕ) → map (λ (g : Group). g.numbers.items) groups ≡ replicate count [] → map (λ (g : Group). g.marked) groups ≡ replicate count 0 → seats_at group 0 [] groups ≡ record { group = []; at = []; lists = replicate count []; marked = replicate count 0 }
first_seats group groups count lists marked =
    ap (λ (l : List (List ℕ)). record { group = []; at = []; lists = l; marked = map (λ (g : Group). g.marked) groups }) lists
    ∙ ap (λ (l : List ℕ). record { group = []; at = []; lists = replicate count []; marked = l }) marked

pub loop-number-init : goal.loop-number-init
loop-number-init c =
    let seats = first_seats c.deref-group-items.result.now c.in_ok-groups.groups.items c.args.count c.in_ok-groups.ensures.lists c.in_ok-groups.ensures.marked in
    let none = none_seated c.args.count in
    rw c.new-at.ensures.items record {
      seated = subst AreSeated (sym seats) none;
      none = c.in_ok-groups.ensures.marked;
      few = λ d. omega (arith, ap (λ (s : Seats). length (list_of s d)) seats, none_long c.args.count d);
    }

-- a number's group is there
in_groups : (group : List ℕ) (k count : ℕ) (groups : List Group) → All (λ (c : ℕ). c < count) group → k < length group → map (λ (g : Group). g.marked) groups ≡ replicate count 0 → get_or group k 0 < length groups
in_groups group k count groups all l none =
    let its : get_or group k 0 < count = all k 0 l in
    omega (arith, its, length-map groups (λ (g : Group). g.marked), ap length none, length-replicate {A = ℕ} count 0)

pub index_mut-requires : goal.index_mut-requires
index_mut-requires c = omega (arith, in_groups c.deref-group-items.result.now c.loop-number.number c.args.count c.loop-number.groups.items (rw c.deref-group-items.ensures.value c.requires.there) c.loop-number-test.true c.loop-number.invariant.none, c.loop-number.groups.ok)

adds : (c : After-index_mut) (g : Group) → g.numbers.items ≡ c.index_mut.result.now.numbers.items ++ c.loop-number.number ∷ [] → g.marked ≡ c.index_mut.result.now.marked → Adds c.deref-group-items.result.now c.loop-number.number c.loop-number.groups.items (get_or c.deref-group-items.result.now c.loop-number.number 0) c.index_mut.result.now g
adds c g numbers marked =
    record {
      there = c.loop-number-test.true;
      group_is = refl;
      group_there = in_groups c.deref-group-items.result.now c.loop-number.number c.args.count c.loop-number.groups.items (rw c.deref-group-items.ensures.value c.requires.there) c.loop-number-test.true c.loop-number.invariant.none;
      old_is = c.index_mut.ensures.value;
      numbers = numbers;
      marked = marked;
    }

few_numbers : (c : After-index_mut) → length c.index_mut.result.now.numbers.items ≤ c.loop-number.number
few_numbers c =
    let k = get_or c.deref-group-items.result.now c.loop-number.number 0 in
    let there = in_groups c.deref-group-items.result.now c.loop-number.number c.args.count c.loop-number.groups.items (rw c.deref-group-items.ensures.value c.requires.there) c.loop-number-test.true c.loop-number.invariant.none in
    let list : list_of (seats_at c.deref-group-items.result.now c.loop-number.number c.loop-number.at.items c.loop-number.groups.items) k ≡ c.index_mut.result.now.numbers.items = get_or-map (λ (g : Group). g.numbers.items) c.loop-number.groups.items k c.index_mut.result.now [] there ∙ ap (λ (g : Group). g.numbers.items) (sym c.index_mut.ensures.value) in
    omega (arith, c.loop-number.invariant.few k, ap length list)

pub join-requires : goal.join-requires
join-requires c = omega (arith, few_numbers (goal.at.join-requires c).After-index_mut, c.loop-number-test.true, c.requires.few, ap length c.deref-group-items.ensures.value)

pub loop-number-preserved : goal.loop-number-preserved
loop-number-preserved c =
    let at = (goal.at.loop-number-preserved c).After-index_mut in
    let gi = c.deref-group-items.result.now in
    let k = c.loop-number.number in
    let its = get_or gi k 0 in
    let seats = seats_at gi k c.loop-number.at.items c.loop-number.groups.items in
    let add = adds at c.join.new.group c.in_ok-place.ensures.numbers c.join.ensures.marked in
    let there = add.group_there in
    let inside : its < length seats.lists = omega (arith, there, length-map c.loop-number.groups.items (λ (g : Group). g.numbers.items)) in
    let room : length (list_of seats its) < 2 ^ 32 - 1 = omega (arith, c.loop-number.invariant.few its, c.loop-number-test.true, c.requires.few, ap length c.deref-group-items.ensures.value) in
    let list = list_is gi k c.loop-number.at.items c.loop-number.groups.items its c.index_mut.result.now c.join.new.group add in
    let now = next_seats gi k c.loop-number.at.items c.loop-number.groups.items its c.index_mut.result.now c.join.new.group add c.in_ok-place.place c.in_ok-place.ensures.place in
    let invariant = c.loop-number.invariant in
    rw c.in_ok-push.ensures.items record {
      seated = subst AreSeated (sym now) (joins seats invariant.seated its inside room);
      none = ap (λ (s : Seats). s.marked) now ∙ invariant.none;
      few = λ d. subst (λ (s : Seats). length (list_of s d) ≤ k + 1) (sym now) (joins_few seats invariant.seated its inside room k invariant.few d);
    }

pub invariant_of-result : goal.invariant_of-result
invariant_of-result c =
    let all = take_all c.loop-number.number c.deref-group-items.result.now (omega (arith, c.loop-number-test.false)) in
    subst (λ (l : List ℕ). AreSeated (record { group = l; at = c.loop-number.at.items; lists = map (λ (g : Group). g.numbers.items) c.loop-number.groups.items; marked = map (λ (g : Group). g.marked) c.loop-number.groups.items })) (all ∙ c.deref-group-items.ensures.value) c.loop-number.invariant.seated

pub returns : goal.returns
returns c =
    let seats : Seats = record { group = c.args.group.items; at = c.loop-number.at.items; lists = map (λ (g : Group). g.numbers.items) c.loop-number.groups.items; marked = map (λ (g : Group). g.marked) c.loop-number.groups.items } in
    let many : length seats.lists ≡ c.args.count = length-map c.loop-number.groups.items (λ (g : Group). g.numbers.items) ∙ sym (length-map c.loop-number.groups.items (λ (g : Group). g.marked)) ∙ ap length c.loop-number.invariant.none ∙ length-replicate {A = ℕ} c.args.count 0 in
    ap (λ (n : ℕ). record { groups = n; group = c.args.group.items; marked = (marks_of seats).marked }) many
    ∙ ap (λ (l : List Bool). record { groups = c.args.count; group = c.args.group.items; marked = l }) (none_marked seats c.args.count c.loop-number.invariant.none)
