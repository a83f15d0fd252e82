-- Two numbers of a group change places.
use Rattle.std.proofs.Common.{◌≡◌, ◌≢◌, ℕ, ◌<◌, ◌≤◌, inl, inr, Bool, List, [], length, get_or, set, refl, sym, ap, subst, ◌∙◌, arith}
use Rattle.std.specs.Prelude.{nat_lt, slice_index}
use Rattle.std.specs.List.{SwappedAt}
use Rattle.std.proofs.lemmas.Bool.{cases_eq}
use Rattle.std.proofs.lemmas.List.{length-set, get_or-set_same, get_or-set_other, same_lists}
use Rattle.std.proofs.lemmas.List.FromFn.{length-map-range_with_len, get_or-map-range_with_len}
use Rattle.redn_marks.specs.Seats.{Seats, list_of, number_at, Sits, Has, AreSeated, sits_marked, marks_of}

-- number n of group c goes to another place, whose number comes to the place of n; another count of the group is marked
pub record Changes (s : Seats) (n c at to : ℕ) (list : List ℕ) (marked : ℕ) : Type 0 where
  pub old : AreSeated s
  pub there : n < length s.group
  pub group : slice_index s.group n ≡ c
  pub place : slice_index s.at n ≡ at
  pub to_there : to < length (list_of s c)
  pub swapped : SwappedAt (list_of s c) list at to
  pub len : length list ≡ length (list_of s c)
  pub few : marked ≤ length list

abbrev pub changed : Seats → ℕ → ℕ → ℕ → ℕ → List ℕ → ℕ → Seats
changed s n c at to list marked =
    record { group = s.group; at = set (set s.at (number_at s c to) at) n to; lists = set s.lists c list; marked = set s.marked c marked }

module _ (s : Seats) (n c at to : ℕ) (list : List ℕ) (marked : ℕ) (h : Changes s n c at to list marked) where
  abbrev t : Seats
  t = changed s n c at to list marked

  abbrev r : ℕ
  r = number_at s c to

  of_n : Sits s n
  of_n = h.old.sit n h.there

  its_group : c < length s.lists
  its_group = subst (λ (d : ℕ). d < length s.lists) h.group of_n.group

  pub within : at < length (list_of s c)
  within = subst (λ (p : ℕ). p < length (list_of s c)) h.place (subst (λ (d : ℕ). slice_index s.at n < length (list_of s d)) h.group of_n.within)

  pub stands : number_at s c at ≡ n
  stands = ap (λ (p : ℕ). number_at s c p) (sym h.place) ∙ ap (λ (d : ℕ). number_at s d (slice_index s.at n)) (sym h.group) ∙ of_n.there

  of_r : Has s c to
  of_r = h.old.has c to its_group h.to_there

  list_here : list_of t c ≡ list
  list_here = get_or-set_same s.lists c list [] its_group

  list_there : (d : ℕ) → d ≢ c → list_of t d ≡ list_of s d
  list_there d e = get_or-set_other s.lists c d list [] e

  long : (d : ℕ) → length (list_of t d) ≡ length (list_of s d)
  long d =
      elim (cases_eq d c) [
        | inl e ↦ ap (λ (x : ℕ). length (list_of t x)) e ∙ ap length list_here ∙ h.len ∙ ap (λ (x : ℕ). length (list_of s x)) (sym e)
        | inr e ↦ ap length (list_there d e)
      ]

  at_n : slice_index t.at n ≡ to
  at_n = get_or-set_same (set s.at r at) n to 0 (omega (arith, h.there, h.old.places, length-set s.at r at))

  at_r : r ≢ n → slice_index t.at r ≡ at
  at_r e = get_or-set_other (set s.at r at) n r to 0 e ∙ get_or-set_same s.at r at 0 (omega (arith, of_r.number, h.old.places))

  at_other : (x : ℕ) → x ≢ n → x ≢ r → slice_index t.at x ≡ slice_index s.at x
  at_other x e f = get_or-set_other (set s.at r at) n x to 0 e ∙ get_or-set_other s.at r x at 0 f

  -- what stands where
  has_at : (p : ℕ) → p ≡ at → number_at t c p ≡ r
  has_at p e = ap (λ (l : List ℕ). slice_index l p) list_here ∙ ap (slice_index list) e ∙ h.swapped.0 0

  has_to : (p : ℕ) → p ≡ to → number_at t c p ≡ n
  has_to p e = ap (λ (l : List ℕ). slice_index l p) list_here ∙ ap (slice_index list) e ∙ h.swapped.1 0 ∙ stands

  has_other : (p : ℕ) → p ≢ at → p ≢ to → number_at t c p ≡ number_at s c p
  has_other p e f = ap (λ (l : List ℕ). slice_index l p) list_here ∙ h.swapped.2 p 0 e f

  -- each number sits
  at_place : (x : ℕ) → x < length s.group → slice_index s.group x ≡ c → (x ≢ n) → slice_index s.at x ≢ at
  at_place x l e f = λ i. let sits = h.old.sit x l in f (sym sits.there ∙ ap (λ (d : ℕ). number_at s d (slice_index s.at x)) e ∙ ap (number_at s c) i ∙ stands)

  to_place : (x : ℕ) → x < length s.group → slice_index s.group x ≡ c → (x ≢ r) → slice_index s.at x ≢ to
  to_place x l e f = λ i. let sits = h.old.sit x l in f (sym sits.there ∙ ap (λ (d : ℕ). number_at s d (slice_index s.at x)) e ∙ ap (number_at s c) i)

  sits_so : (x p : ℕ) → x < length s.group → slice_index t.at x ≡ p → p < length (list_of t (slice_index s.group x)) → number_at t (slice_index s.group x) p ≡ x → Sits t x
  sits_so x p l e f g =
      record {
        group = omega (arith, (h.old.sit x l).group, length-set s.lists c list);
        within = subst (λ (i : ℕ). i < length (list_of t (slice_index s.group x))) (sym e) f;
        there = ap (number_at t (slice_index s.group x)) e ∙ g;
      }

  sits_other : (x : ℕ) → x < length s.group → x ≢ n → x ≢ r → Sits t x
  sits_other x l e f =
      let sits = h.old.sit x l in
      let d = slice_index s.group x in
      let p = slice_index s.at x in
      sits_so x p l (at_other x e f) (subst (λ (k : ℕ). p < k) (sym (long d)) sits.within)
      (elim (cases_eq d c) [
        | inl i ↦ ap (λ (k : ℕ). number_at t k p) i ∙ has_other p (at_place x l i e) (to_place x l i f) ∙ ap (λ (k : ℕ). number_at s k p) (sym i) ∙ sits.there
        | inr i ↦ ap (λ (ys : List ℕ). slice_index ys p) (list_there d i) ∙ sits.there
      ])

  sits_n : (x : ℕ) → x ≡ n → Sits t x
  sits_n x e =
      let c_is : slice_index s.group x ≡ c = ap (slice_index s.group) e ∙ h.group in
      sits_so x to (subst (λ (k : ℕ). k < length s.group) (sym e) h.there) (ap (slice_index t.at) e ∙ at_n) (subst (λ (k : ℕ). to < length (list_of t k)) (sym c_is) (subst (λ (k : ℕ). to < k) (sym (long c)) h.to_there)) (ap (λ (k : ℕ). number_at t k to) c_is ∙ has_to to refl ∙ sym e)

  sits_r : (x : ℕ) → x ≡ r → x ≢ n → Sits t x
  sits_r x e f =
      let c_is : slice_index s.group x ≡ c = ap (slice_index s.group) e ∙ of_r.group in
      sits_so x at (subst (λ (k : ℕ). k < length s.group) (sym e) of_r.number) (ap (slice_index t.at) e ∙ at_r (λ i. f (e ∙ i))) (subst (λ (k : ℕ). at < length (list_of t k)) (sym c_is) (subst (λ (k : ℕ). at < k) (sym (long c)) within)) (ap (λ (k : ℕ). number_at t k at) c_is ∙ has_at at refl ∙ sym e)

  all_sit : (x : ℕ) → x < length s.group → Sits t x
  all_sit x l =
      elim (cases_eq x n) [
        | inl e ↦ sits_n x e
        | inr e ↦ elim (cases_eq x r) [ inl f ↦ sits_r x f e | inr f ↦ sits_other x l e f ]
      ]

  -- each place has a number
  has_so : (d p x : ℕ) → number_at t d p ≡ x → x < length s.group → slice_index s.group x ≡ d → slice_index t.at x ≡ p → Has t d p
  has_so d p x e f g i = record { number = subst (λ (k : ℕ). k < length s.group) (sym e) f; group = ap (slice_index s.group) e ∙ g; place = ap (slice_index t.at) e ∙ i }

  has_same : (d p : ℕ) → d < length s.lists → p < length (list_of s d) → number_at t d p ≡ number_at s d p → number_at s d p ≢ n → number_at s d p ≢ r → Has t d p
  has_same d p l k e f g = let old = h.old.has d p l k in has_so d p (number_at s d p) e old.number old.group (at_other (number_at s d p) f g ∙ old.place)

  has_else : (d p : ℕ) → d < length s.lists → p < length (list_of s d) → d ≢ c → Has t d p
  has_else d p l k e =
      let old = h.old.has d p l k in
      has_same d p l k (ap (λ (ys : List ℕ). slice_index ys p) (list_there d e)) (λ i. e (sym old.group ∙ ap (slice_index s.group) i ∙ h.group)) (λ i. e (sym old.group ∙ ap (slice_index s.group) i ∙ of_r.group))

  has_here : (p : ℕ) → p < length (list_of s c) → Has t c p
  has_here p k =
      elim (cases_eq p to) [
        | inl e ↦ has_so c p n (has_to p e) h.there h.group (at_n ∙ sym e)
        | inr e ↦
            elim (cases_eq p at) [
              | inl f ↦ has_so c p r (has_at p f) of_r.number of_r.group (at_r (λ i. e (f ∙ sym h.place ∙ ap (slice_index s.at) (sym i) ∙ of_r.place)) ∙ sym f)
              | inr f ↦
                  let old = h.old.has c p its_group k in
                  has_same c p its_group k (has_other p f e) (λ i. f (sym old.place ∙ ap (slice_index s.at) i ∙ h.place)) (λ i. e (sym old.place ∙ ap (slice_index s.at) i ∙ of_r.place))
            ]
      ]

  all_have : (d p : ℕ) → d < length s.lists → p < length (list_of s d) → Has t d p
  all_have d p l k = elim (cases_eq d c) [ inl e ↦ subst (λ (x : ℕ). Has t x p) (sym e) (has_here p (subst (λ (x : ℕ). p < length (list_of s x)) e k)) | inr e ↦ has_else d p l k e ]

  marked_here : slice_index t.marked c ≡ marked
  marked_here = get_or-set_same s.marked c marked 0 (omega (arith, its_group, h.old.counts))

  all_few : (d : ℕ) → d < length s.lists → slice_index t.marked d ≤ length (list_of t d)
  all_few d l =
      elim (cases_eq d c) [
        | inl e ↦ subst (λ (x : ℕ). slice_index t.marked x ≤ length (list_of t x)) (sym e) (omega (arith, marked_here, ap length list_here, h.few))
        | inr e ↦ omega (arith, get_or-set_other s.marked c d marked 0 e, long d, h.old.few d l)
      ]

  pub seated : AreSeated t
  seated =
      record {
        places = length-set (set s.at r at) n to ∙ length-set s.at r at ∙ h.old.places;
        counts = length-set s.marked c marked ∙ h.old.counts ∙ sym (length-set s.lists c list);
        sit = all_sit;
        has = λ d p l k. all_have d p (omega (arith, l, length-set s.lists c list)) (omega (arith, k, long d));
        few = λ d l. all_few d (omega (arith, l, length-set s.lists c list));
        short = λ d. omega (arith, long d, h.old.short d);
      }

  -- only the mark of n changes, where both places are marked or neither is, and the new count marks the same places but the new one
  module _ (b : Bool) (side : nat_lt at (slice_index s.marked c) ≡ nat_lt to (slice_index s.marked c)) (rest : (p : ℕ) → p ≢ to → nat_lt p marked ≡ nat_lt p (slice_index s.marked c)) (here : nat_lt to marked ≡ b) where
    mark_n : (x : ℕ) → x ≡ n → sits_marked t x ≡ b
    mark_n x e = ap (sits_marked t) e ∙ ap (λ (k : ℕ). nat_lt (slice_index t.at n) (slice_index t.marked k)) h.group ∙ ap (nat_lt (slice_index t.at n)) marked_here ∙ ap (λ (k : ℕ). nat_lt k marked) at_n ∙ here

    mark_r : (x : ℕ) → x ≡ r → x ≢ n → sits_marked t x ≡ sits_marked s x
    mark_r x e f =
        let apart : at ≢ to = λ i. f (e ∙ ap (number_at s c) (sym i) ∙ stands) in
        ap (sits_marked t) e ∙ ap (λ (k : ℕ). nat_lt (slice_index t.at r) (slice_index t.marked k)) of_r.group ∙ ap (nat_lt (slice_index t.at r)) marked_here ∙ ap (λ (k : ℕ). nat_lt k marked) (at_r (λ i. f (e ∙ i))) ∙ rest at apart ∙ side
        ∙ ap (λ (k : ℕ). nat_lt k (slice_index s.marked c)) (sym of_r.place) ∙ ap (λ (k : ℕ). nat_lt (slice_index s.at r) (slice_index s.marked k)) (sym of_r.group) ∙ ap (sits_marked s) (sym e)

    mark_other : (x : ℕ) → x < length s.group → x ≢ n → x ≢ r → sits_marked t x ≡ sits_marked s x
    mark_other x l e f =
        let d = slice_index s.group x in
        let p = slice_index s.at x in
        ap (λ (k : ℕ). nat_lt k (slice_index t.marked d)) (at_other x e f)
        ∙ elim (cases_eq d c) [
          | inl i ↦ ap (λ (k : ℕ). nat_lt p (slice_index t.marked k)) i ∙ ap (nat_lt p) marked_here ∙ rest p (to_place x l i f) ∙ ap (λ (k : ℕ). nat_lt p (slice_index s.marked k)) (sym i)
          | inr i ↦ ap (nat_lt p) (get_or-set_other s.marked c d marked 0 i)
        ]

    mark_at : (x : ℕ) (d : Bool) → x < length s.group → sits_marked t x ≡ get_or (set (marks_of s).marked n b) x d
    mark_at x d l =
        let total = length s.group in
        let old : get_or (marks_of s).marked x d ≡ sits_marked s x = get_or-map-range_with_len (sits_marked s) 0 total x x d l (omega arith) in
        elim (cases_eq x n) [
          | inl e ↦ mark_n x e ∙ sym (ap (λ (k : ℕ). get_or (set (marks_of s).marked n b) k d) e ∙ get_or-set_same (marks_of s).marked n b d (omega (arith, h.there, length-map-range_with_len (sits_marked s) 0 total)))
          | inr e ↦ elim (cases_eq x r) [ inl f ↦ mark_r x f e | inr f ↦ mark_other x l e f ] ∙ sym old ∙ sym (get_or-set_other (marks_of s).marked n x b d e)
        ]

    pub one_mark : marks_of t ≡ record (marks_of s) { marked = set (marks_of s).marked n b }
    one_mark =
        let total = length s.group in
        let many = length-map-range_with_len (sits_marked t) 0 total in
        ap (λ (k : ℕ). record { groups = k; group = s.group; marked = (marks_of t).marked }) (length-set s.lists c list)
        ∙ ap (λ (l : List Bool). record { groups = length s.lists; group = s.group; marked = l }) (same_lists (marks_of t).marked (set (marks_of s).marked n b) (many ∙ sym (length-set (marks_of s).marked n b ∙ length-map-range_with_len (sits_marked s) 0 total)) (λ x d l. let within : x < total = omega (arith, l, many) in get_or-map-range_with_len (sits_marked t) 0 total x x d within (omega arith) ∙ mark_at x d within))
