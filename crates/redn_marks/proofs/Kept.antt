-- A number gets its mark, or loses it.
use Rattle.std.proofs.Common.{◌≡◌, ◌≢◌, ℕ, ◌<◌, ◌≤◌, Bool, true, false, List, [], length, map, get_or, set, refl, sym, ap, subst, ◌∙◌, arith}
use mathlib.Core.Bool.{beq}
use Rattle.std.specs.Prelude.{nat_lt, slice_index}
use Rattle.std.specs.List.{SwappedAt}
use Rattle.std.specs.Vec.{with_item}
use Rattle.std.proofs.lemmas.Bool.Decides.{nat_tests}
use Rattle.std.proofs.lemmas.List.{get_or-map, length-map, map-set, get_or_default, set-get_or}
use Rattle.std.proofs.lemmas.List.FromFn.{get_or-map-range_with_len}
use Rattle.redn_marks.specs.declared.marks.Group.{Group}
use Rattle.redn_marks.specs.declared.marks.Marks.TheInside.{Inside}
use Rattle.redn_marks.specs.Seats.{list_of, number_at, AreSeated, sits_marked, marks_of, place_for, count_for, seats_of, marks_view}
use Rattle.redn_marks.proofs.Seating.{Changes, changed, stands, seated, one_mark}

-- a number, its place, its group's number and the group
pub record Looked (a : Inside) (n at c : ℕ) (g : Group) : Type 0 where
  pub old : AreSeated (seats_of a)
  pub there : n < length a.group.items
  pub place : at ≡ slice_index a.at.items n
  pub group : c ≡ slice_index a.group.items n
  pub read : g ≡ get_or a.groups.items c g

module _ (a : Inside) (n at c : ℕ) (g : Group) (h : Looked a n at c g) where
  inside : c < length a.groups.items
  inside = subst (λ (d : ℕ). d < length a.groups.items) (sym h.group) (omega (arith, (h.old.sit n h.there).group, length-map a.groups.items (λ (g : Group). g.numbers.items)))

  pub list_is : list_of (seats_of a) c ≡ g.numbers.items
  list_is = get_or-map (λ (g : Group). g.numbers.items) a.groups.items c g [] inside ∙ ap (λ (g : Group). g.numbers.items) (sym h.read)

  pub count_is : slice_index (seats_of a).marked c ≡ g.marked
  count_is = get_or-map (λ (g : Group). g.marked) a.groups.items c g 0 inside ∙ ap (λ (g : Group). g.marked) (sym h.read)

  pub at_inside : at < length g.numbers.items
  at_inside =
      let sits = (h.old.sit n h.there).within in
      subst (λ (l : List ℕ). at < length l) list_is
      (subst (λ (d : ℕ). at < length (list_of (seats_of a) d)) (sym h.group) (subst (λ (p : ℕ). p < length (list_of (seats_of a) (slice_index a.group.items n))) (sym h.place) sits))

  pub numbers_there : (k d : ℕ) → k < length g.numbers.items → get_or g.numbers.items k d < length a.at.items
  numbers_there k d l =
      let few : c < length (seats_of a).lists = omega (arith, inside, length-map a.groups.items (λ (g : Group). g.numbers.items)) in
      let has = h.old.has c k few (omega (arith, l, ap length list_is)) in
      let is : get_or g.numbers.items k 0 ≡ number_at (seats_of a) c k = ap (λ (l : List ℕ). get_or l k 0) (sym list_is) in
      omega (arith, has.number, h.old.places, is, get_or_default g.numbers.items k d 0 l)

beq_true : (b : Bool) → beq b true ≡ false → b ≡ false
beq_true true e = e
beq_true false e = refl

beq_false : (b : Bool) → beq b false ≡ false → b ≡ true
beq_false true e = refl
beq_false false e = sym e

-- by how many are marked: whether a place is one of theirs before and after, where the mark of the number at `at` changes
pub record Counts (mark : Bool) (at marked long : ℕ) : Type 0 where
  pub inside : place_for mark marked < long
  pub few : count_for mark marked ≤ long
  pub side : nat_lt at marked ≡ nat_lt (place_for mark marked) marked
  pub rest : (p : ℕ) → p ≢ place_for mark marked → nat_lt p (count_for mark marked) ≡ nat_lt p marked
  pub here : nat_lt (place_for mark marked) (count_for mark marked) ≡ mark

pub counts : (mark : Bool) (at marked long : ℕ) → at < long → marked ≤ long → beq (nat_lt at marked) mark ≡ false → Counts mark at marked long
counts true at marked long l few e =
    let past : nat_lt at marked ≡ false = beq_true (nat_lt at marked) e in
    record {
      inside = grind (arith, nat_tests);
      few = grind (arith, nat_tests);
      side = past ∙ sym (grind (arith, nat_tests));
      rest = λ p apart. grind (arith, nat_tests);
      here = grind (arith, nat_tests);
    }
counts false at marked long l few e =
    let before : nat_lt at marked ≡ true = beq_false (nat_lt at marked) e in
    record {
      inside = grind (arith, nat_tests);
      few = grind (arith, nat_tests);
      side = before ∙ sym (grind (arith, nat_tests));
      rest = λ p apart. grind (arith, nat_tests);
      here = grind (arith, nat_tests);
    }

pub counts_of : (a : Inside) (mark : Bool) (n at c : ℕ) (g : Group) → Looked a n at c g → beq (nat_lt at g.marked) mark ≡ false → Counts mark at g.marked (length g.numbers.items)
counts_of a mark n at c g h differs =
    let few : c < length (seats_of a).lists = omega (arith, inside a n at c g h, length-map a.groups.items (λ (g : Group). g.numbers.items)) in
    let marked : g.marked ≤ length g.numbers.items = omega (arith, h.old.few c few, count_is a n at c g h, ap length (list_is a n at c g h)) in
    counts mark at g.marked (length g.numbers.items) (at_inside a n at c g h) marked differs

-- the fields are left so
pub record Leaves (a b : Inside) (n at to c marked : ℕ) (g : Group) (list : List ℕ) : Type 0 where
  pub group : b.group.items ≡ a.group.items
  pub at_is : b.at.items ≡ set (set a.at.items (slice_index g.numbers.items to) at) (slice_index g.numbers.items at) to
  pub now : Group
  pub groups : b.groups.items ≡ set a.groups.items c now
  pub list_now : now.numbers.items ≡ list
  pub marked_now : now.marked ≡ marked

module _ (a b : Inside) (mark : Bool) (n at c : ℕ) (g : Group) (h : Looked a n at c g) (differs : beq (nat_lt at g.marked) mark ≡ false) (list : List ℕ) (swapped : SwappedAt g.numbers.items list at (place_for mark g.marked)) (len : length list ≡ length g.numbers.items) (left : Leaves a b n at (place_for mark g.marked) c (count_for mark g.marked) g list) where
  abbrev to : ℕ
  to = place_for mark g.marked

  abbrev more : ℕ
  more = count_for mark g.marked

  its_counts : Counts mark at g.marked (length g.numbers.items)
  its_counts = counts_of a mark n at c g h differs

  changes : Changes (seats_of a) n c at to list more
  changes =
      record {
        old = h.old;
        there = h.there;
        group = sym h.group;
        place = sym h.place;
        to_there = omega (arith, its_counts.inside, ap length (list_is a n at c g h));
        swapped = subst (λ (l : List ℕ). SwappedAt l list at to) (sym (list_is a n at c g h)) swapped;
        len = len ∙ ap length (sym (list_is a n at c g h));
        few = omega (arith, its_counts.few, len);
      }

  stands_here : slice_index g.numbers.items at ≡ n
  stands_here = ap (λ (l : List ℕ). slice_index l at) (sym (list_is a n at c g h)) ∙ stands (seats_of a) n c at to list more changes

  seats_are : seats_of b ≡ changed (seats_of a) n c at to list more
  seats_are =
      ap (λ (l : List ℕ). record { group = l; at = b.at.items; lists = map (λ (g : Group). g.numbers.items) b.groups.items; marked = map (λ (g : Group). g.marked) b.groups.items }) left.group
      ∙ ap (λ (l : List ℕ). record { group = a.group.items; at = l; lists = map (λ (g : Group). g.numbers.items) b.groups.items; marked = map (λ (g : Group). g.marked) b.groups.items }) (left.at_is ∙ ap (λ (k : ℕ). set (set a.at.items (slice_index g.numbers.items to) at) k to) stands_here ∙ ap (λ (l : List ℕ). set (set a.at.items (slice_index l to) at) n to) (sym (list_is a n at c g h)))
      ∙ ap (λ (gs : List Group). record { group = a.group.items; at = (changed (seats_of a) n c at to list more).at; lists = map (λ (g : Group). g.numbers.items) gs; marked = map (λ (g : Group). g.marked) gs }) left.groups
      ∙ ap (λ (l : List (List ℕ)). record { group = a.group.items; at = (changed (seats_of a) n c at to list more).at; lists = l; marked = map (λ (g : Group). g.marked) (set a.groups.items c left.now) }) (map-set (λ (g : Group). g.numbers.items) a.groups.items c left.now ∙ ap (set (seats_of a).lists c) left.list_now)
      ∙ ap (λ (l : List ℕ). record { group = a.group.items; at = (changed (seats_of a) n c at to list more).at; lists = set (seats_of a).lists c list; marked = l }) (map-set (λ (g : Group). g.marked) a.groups.items c left.now ∙ ap (set (seats_of a).marked c) left.marked_now)

  pub still_seated : AreSeated (seats_of b)
  still_seated = subst AreSeated (sym seats_are) (seated (seats_of a) n c at to list more changes)

  pub marks_one : marks_view b ≡ record (marks_view a) { marked = set (marks_view a).marked n mark }
  marks_one =
      let is = count_is a n at c g h in
      ap marks_of seats_are
      ∙ one_mark (seats_of a) n c at to list more changes mark (ap (nat_lt at) is ∙ its_counts.side ∙ ap (nat_lt to) (sym is)) (λ p e. its_counts.rest p e ∙ ap (nat_lt p) (sym is)) its_counts.here

-- it has its mark already, or none
module _ (a : Inside) (mark : Bool) (n at c : ℕ) (g : Group) (h : Looked a n at c g) (same : beq (nat_lt at g.marked) mark ≡ true) where
  is_beq : (x y : Bool) → beq x y ≡ true → x ≡ y
  is_beq true true e = refl
  is_beq true false e = sym e
  is_beq false true e = e
  is_beq false false e = refl

  pub kept : record (marks_view a) { marked = set (marks_view a).marked n mark } ≡ marks_view a
  kept =
      let total = length a.group.items in
      let f = sits_marked (seats_of a) in
      let now : f n ≡ mark = ap (λ (k : ℕ). nat_lt k (slice_index (seats_of a).marked (slice_index a.group.items n))) (sym h.place) ∙ ap (λ (k : ℕ). nat_lt at (slice_index (seats_of a).marked k)) (sym h.group) ∙ ap (nat_lt at) (count_is a n at c g h) ∙ is_beq (nat_lt at g.marked) mark same in
      ap (λ (l : List Bool). record (marks_view a) { marked = l }) (ap (set (marks_view a).marked n) (sym (get_or-map-range_with_len f 0 total n n mark h.there (omega arith) ∙ now)) ∙ set-get_or (marks_view a).marked n mark)

-- a group that is put back as it is
pub untouched : (a : Inside) (c : ℕ) (g : Group) → g ≡ get_or a.groups.items c g → marks_view (record a { groups = with_item a.groups c g }) ≡ marks_view a
untouched a c g e =
    ap (λ (gs : List Group). marks_of (record { group = a.group.items; at = a.at.items; lists = map (λ (g : Group). g.numbers.items) gs; marked = map (λ (g : Group). g.marked) gs }))
    (ap (set a.groups.items c) e ∙ set-get_or a.groups.items c g)
