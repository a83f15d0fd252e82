-- The marked numbers of a group.
use Rattle.std.proofs.Common.{◌≡◌, ℕ, ◌<◌, ◌≤◌, inl, inr, Bool, true, false, ◌&&◌, List, length, get_or, take, refl, sym, ap, subst, ◌∙◌, arith}
use Rattle.std.specs.Prelude.{◌==◌, nat_lt, slice_index}
use Rattle.std.specs.List.{Any, list_any}
use Rattle.std.proofs.lemmas.Bool.{cases_lt, true≢false, eq-eqb, eqb-true, and_parts}
use Rattle.std.proofs.lemmas.Bool.Decides.{nat_tests}
use Rattle.std.proofs.lemmas.List.{length-take, get_or-take, get_or_default}
use Rattle.std.proofs.lemmas.List.Folds.{Any-from_list_any, list_any_at}
use Rattle.std.proofs.lemmas.List.FromFn.{length-map-range_with_len, get_or-map-range_with_len}
use Rattle.std.proofs.lemmas.Option.{slice_get-get_or, slice_get_past}
use Rattle.redn_marks.specs.Marks.{is_marked}
use Rattle.redn_marks.specs.Seats.{Seats, list_of, number_at, AreSeated, sits_marked, marks_of}

same_truth : (a b : Bool) → (a ≡ true → b ≡ true) → (b ≡ true → a ≡ true) → a ≡ b
same_truth true b f g = sym (f refl)
same_truth false true f g = g refl
same_truth false false f g = refl

module _ (s : Seats) (h : AreSeated s) (c : ℕ) (l : c < length s.lists) where
  abbrev marked_here : List ℕ
  marked_here = take (slice_index s.marked c) (list_of s c)

  is_so : (n : ℕ) → n < length s.group → is_marked (marks_of s) c n ≡ ((slice_index s.group n == c) && sits_marked s n)
  is_so n there =
      let total = length s.group in
      let many : n < length (marks_of s).marked = omega (arith, there, length-map-range_with_len (sits_marked s) 0 total) in
      rw (slice_get-get_or s.group n 0 there, slice_get-get_or (marks_of s).marked n false many, get_or-map-range_with_len (sits_marked s) 0 total n n false there (omega arith)) refl

  long : length marked_here ≡ slice_index s.marked c
  long = omega (arith, length-take (slice_index s.marked c) (list_of s c), h.few c l)

  named : (n k x : ℕ) → k < length marked_here → get_or marked_here k x ≡ x → (n == x) ≡ true → is_marked (marks_of s) c n ≡ true
  named n k x in_front at same =
      let low : k < slice_index s.marked c = omega (arith, in_front, long) in
      let inside : k < length (list_of s c) = omega (arith, low, h.few c l) in
      let has = h.has c k l inside in
      let x_is : number_at s c k ≡ x = get_or_default (list_of s c) k 0 x inside ∙ sym (get_or-take (slice_index s.marked c) (list_of s c) k x low) ∙ at in
      let n_is : number_at s c k ≡ n = x_is ∙ sym (eqb-true n x same) in
      let there : n < length s.group = subst (λ (i : ℕ). i < length s.group) n_is has.number in
      let group : slice_index s.group n ≡ c = ap (slice_index s.group) (sym n_is) ∙ has.group in
      let place : slice_index s.at n ≡ k = ap (slice_index s.at) (sym n_is) ∙ has.place in
      let test : sits_marked s n ≡ true = ap (λ (p : ℕ). nat_lt p (slice_index s.marked (slice_index s.group n))) place ∙ ap (λ (d : ℕ). nat_lt k (slice_index s.marked d)) group ∙ grind (arith, nat_tests) in
      is_so n there ∙ rw (eq-eqb (slice_index s.group n) c group, test) refl

  marked_number : (n : ℕ) → is_marked (marks_of s) c n ≡ true → list_any (λ (m : ℕ). n == m) marked_here ≡ true
  marked_number n e =
      elim (cases_lt n (length s.group)) [
        | inr past ↦ absurd (true≢false (sym e ∙ rw (slice_get_past s.group n past) refl))
        | inl there ↦
            let parts = and_parts (slice_index s.group n == c) (sits_marked s n) (sym (is_so n there) ∙ e) in
            let group : slice_index s.group n ≡ c = eqb-true (slice_index s.group n) c parts.0 in
            let sits = h.sit n there in
            let p = slice_index s.at n in
            let test : nat_lt p (slice_index s.marked c) ≡ true = ap (λ (d : ℕ). nat_lt p (slice_index s.marked d)) (sym group) ∙ parts.1 in
            let low : p < slice_index s.marked c = grind (arith, nat_tests) in
            let stands : number_at s c p ≡ n = ap (λ (d : ℕ). number_at s d p) (sym group) ∙ sits.there in
            list_any_at (λ (m : ℕ). n == m) marked_here p 0 (omega (arith, low, long)) (eq-eqb n (get_or marked_here p 0) (sym (get_or-take (slice_index s.marked c) (list_of s c) p 0 low ∙ stands)))
      ]

  pub found : (n : ℕ) → list_any (λ (m : ℕ). n == m) marked_here ≡ is_marked (marks_of s) c n
  found n =
      same_truth (list_any (λ (m : ℕ). n == m) marked_here) (is_marked (marks_of s) c n)
      (λ e. let a : Any (λ (m : ℕ). (n == m) ≡ true) marked_here = Any-from_list_any (λ (m : ℕ). n == m) marked_here e in named n a.0 a.1 a.2 a.3 a.4)
      (marked_number n)

-- no number is of a group that isn't there
pub none_there : (s : Seats) → AreSeated s → (c : ℕ) → length s.lists ≤ c → (n : ℕ) → is_marked (marks_of s) c n ≡ false
none_there s h c past n =
    elim (cases_lt n (length s.group)) [
      | inr g ↦ rw (slice_get_past s.group n g) refl
      | inl there ↦
          let other : (slice_index s.group n == c) ≡ false = grind (arith, nat_tests, (h.sit n there).group) in
          rw (slice_get-get_or s.group n 0 there, other) refl
    ]
