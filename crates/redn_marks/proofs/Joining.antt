-- The next number joins its group.
use Rattle.std.proofs.Common.{◌≡◌, ◌≢◌, ℕ, ◌+◌, ◌-◌, ◌^◌, ◌<◌, ◌≤◌, inl, inr, false, List, [], ◌∷◌, ◌++◌, length, get_or, set, replicate, refl, sym, ap, subst, ◌∙◌, arith}
use Rattle.std.specs.Prelude.{nat_lt, slice_index}
use Rattle.std.proofs.lemmas.Bool.{cases_eq, cases_lt}
use Rattle.std.proofs.lemmas.Bool.Decides.{nat_tests}
use Rattle.std.proofs.lemmas.List.{length-set, length-append, length-replicate, get_or-replicate, get_or-set_same, get_or-set_other, get_or_append_left, get_or_at, get_or_past, same_lists}
use Rattle.std.proofs.lemmas.List.FromFn.{length-map-range_with_len, get_or-map-range_with_len}
use Rattle.redn_marks.specs.Seats.{Seats, list_of, number_at, Sits, Has, AreSeated, sits_marked, marks_of}

abbrev pub joined : Seats → ℕ → Seats
joined s c =
    record { group = s.group ++ c ∷ []; at = s.at ++ length (list_of s c) ∷ []; lists = set s.lists c (list_of s c ++ length s.group ∷ []); marked = s.marked }

module _ (s : Seats) (h : AreSeated s) (c : ℕ) (l : c < length s.lists) (room : length (list_of s c) < 2 ^ 32 - 1) where
  abbrev t : Seats
  t = joined s c

  abbrev n : ℕ
  n = length s.group

  abbrev list : List ℕ
  list = list_of s c

  list_here : list_of t c ≡ list ++ n ∷ []
  list_here = get_or-set_same s.lists c (list ++ n ∷ []) [] l

  list_there : (d : ℕ) → d ≢ c → list_of t d ≡ list_of s d
  list_there d e = get_or-set_other s.lists c d (list ++ n ∷ []) [] e

  longer : (d : ℕ) → length (list_of s d) ≤ length (list_of t d)
  longer d =
      elim (cases_eq d c) [
        | inl e ↦ subst (λ (x : ℕ). length (list_of s x) ≤ length (list_of t x)) (sym e) (omega (arith, ap length list_here, length-append list (n ∷ [])))
        | inr e ↦ omega (arith, ap length (list_there d e))
      ]

  -- an old place has the number that it had
  same_place : (d p : ℕ) → p < length (list_of s d) → number_at t d p ≡ number_at s d p
  same_place d p k =
      elim (cases_eq d c) [
        | inl e ↦
            let k : p < length list = subst (λ (x : ℕ). p < length (list_of s x)) e k in
            ap (λ (x : ℕ). number_at t x p) e ∙ ap (λ (xs : List ℕ). slice_index xs p) list_here ∙ get_or_append_left list (n ∷ []) 0 p k ∙ ap (λ (x : ℕ). number_at s x p) (sym e)
        | inr e ↦ ap (λ (xs : List ℕ). slice_index xs p) (list_there d e)
      ]

  new_place : number_at t c (length list) ≡ n
  new_place = ap (λ (xs : List ℕ). slice_index xs (length list)) list_here ∙ get_or_at list n [] 0 (length list) refl

  same_group : (x : ℕ) → x < n → slice_index t.group x ≡ slice_index s.group x
  same_group x k = get_or_append_left s.group (c ∷ []) 0 x k

  same_at : (x : ℕ) → x < n → slice_index t.at x ≡ slice_index s.at x
  same_at x k = get_or_append_left s.at (length list ∷ []) 0 x (omega (arith, k, h.places))

  new_group : (x : ℕ) → x ≡ n → slice_index t.group x ≡ c
  new_group x e = get_or_at s.group c [] 0 x (sym e)

  new_at : (x : ℕ) → x ≡ n → slice_index t.at x ≡ length list
  new_at x e = get_or_at s.at (length list) [] 0 x (h.places ∙ sym e)

  total : length t.group ≡ n + 1
  total = length-append s.group (c ∷ [])

  sits_so : (x d p : ℕ) → slice_index t.group x ≡ d → slice_index t.at x ≡ p → d < length s.lists → p < length (list_of t d) → number_at t d p ≡ x → Sits t x
  sits_so x d p e f g i k =
      record {
        group = omega (arith, e, g, length-set s.lists c (list ++ n ∷ []));
        within = subst (λ (y : ℕ). slice_index t.at x < length (list_of t y)) (sym e) (subst (λ (y : ℕ). y < length (list_of t d)) (sym f) i);
        there = ap (λ (y : ℕ). number_at t y (slice_index t.at x)) e ∙ ap (number_at t d) f ∙ k;
      }

  all_sit : (x : ℕ) → x < length t.group → Sits t x
  all_sit x k =
      elim (cases_lt x n) [
        | inl old ↦ let o = h.sit x old in sits_so x (slice_index s.group x) (slice_index s.at x) (same_group x old) (same_at x old) o.group (omega (arith, o.within, longer (slice_index s.group x))) (same_place (slice_index s.group x) (slice_index s.at x) o.within ∙ o.there)
        | inr past ↦
            let is : x ≡ n = omega (arith, k, past, total) in
            sits_so x c (length list) (new_group x is) (new_at x is) l (omega (arith, ap length list_here, length-append list (n ∷ []))) (new_place ∙ sym is)
      ]

  has_old : (d p : ℕ) → d < length s.lists → p < length (list_of s d) → Has t d p
  has_old d p k i =
      let o = h.has d p k i in
      let e = same_place d p i in
      record {
        number = omega (arith, e, o.number, total);
        group = ap (slice_index t.group) e ∙ same_group (number_at s d p) o.number ∙ o.group;
        place = ap (slice_index t.at) e ∙ same_at (number_at s d p) o.number ∙ o.place;
      }

  has_new : (p : ℕ) → p ≡ length list → Has t c p
  has_new p e =
      let is : number_at t c p ≡ n = ap (number_at t c) e ∙ new_place in
      record { number = omega (arith, is, total); group = ap (slice_index t.group) is ∙ new_group n refl; place = ap (slice_index t.at) is ∙ new_at n refl ∙ sym e }

  all_have : (d p : ℕ) → d < length s.lists → p < length (list_of t d) → Has t d p
  all_have d p k i =
      elim (cases_lt p (length (list_of s d))) [
        | inl old ↦ has_old d p k old
        | inr past ↦
            elim (cases_eq d c) [
              | inl e ↦
                  let here : p < length (list_of t c) = subst (λ (x : ℕ). p < length (list_of t x)) e i in
                  let below : length list ≤ p = subst (λ (x : ℕ). length (list_of s x) ≤ p) e past in
                  subst (λ (x : ℕ). Has t x p) (sym e) (has_new p (omega (arith, here, below, ap length list_here, length-append list (n ∷ []))))
              | inr e ↦ absurd (omega (arith, i, past, ap length (list_there d e)))
            ]
      ]

  short : (d : ℕ) → length (list_of t d) < 2 ^ 32
  short d =
      elim (cases_eq d c) [
        | inl e ↦ subst (λ (x : ℕ). length (list_of t x) < 2 ^ 32) (sym e) (omega (arith, room, ap length list_here, length-append list (n ∷ [])))
        | inr e ↦ omega (arith, h.short d, ap length (list_there d e))
      ]

  pub joins : AreSeated t
  joins =
      let many = length-set s.lists c (list ++ n ∷ []) in
      record {
        places = length-append s.at (length list ∷ []) ∙ ap (λ (k : ℕ). k + 1) h.places ∙ sym total;
        counts = h.counts ∙ sym many;
        sit = all_sit;
        has = λ d p k i. all_have d p (omega (arith, k, many)) i;
        few = λ d k. omega (arith, h.few d (omega (arith, k, many)), longer d);
        short = short;
      }

  -- no group has more than there are numbers
  pub joins_few : (most : ℕ) → ((d : ℕ) → length (list_of s d) ≤ most) → (d : ℕ) → length (list_of t d) ≤ most + 1
  joins_few most few d =
      elim (cases_eq d c) [
        | inl e ↦ subst (λ (x : ℕ). length (list_of t x) ≤ most + 1) (sym e) (omega (arith, few c, ap length list_here, length-append list (n ∷ [])))
        | inr e ↦ omega (arith, few d, ap length (list_there d e))
      ]

-- as many groups without a number
pub none_long : (count c : ℕ) → length {A = ℕ} (get_or (replicate count []) c []) ≡ 0
none_long count c = elim (cases_lt c count) [ inl l ↦ ap length (get_or-replicate count c [] [] l) | inr g ↦ ap length (get_or_past (replicate count []) c [] (omega (arith, g, length-replicate {A = List ℕ} count []))) ]

pub none_seated : (count : ℕ) → AreSeated (record { group = []; at = []; lists = replicate count []; marked = replicate count 0 })
none_seated count =
    record {
      places = refl;
      counts = length-replicate {A = ℕ} count 0 ∙ sym (length-replicate {A = List ℕ} count []);
      sit = λ n l. absurd (omega (arith, l));
      has = λ c p l k. absurd (omega (arith, k, none_long count c));
      few = λ c l. omega (arith, get_or-replicate {A = ℕ} count c 0 0 (omega (arith, l, length-replicate {A = List ℕ} count [])));
      short = λ c. omega (arith, none_long count c);
    }

none_below : (k : ℕ) → nat_lt k 0 ≡ false
none_below k = grind (arith, nat_tests)

-- where none of a group is marked, no number is
module _ (s : Seats) (count : ℕ) (none : s.marked ≡ replicate count 0) where
  zero_at : (c : ℕ) → slice_index s.marked c ≡ 0
  zero_at c = ap (λ (xs : List ℕ). slice_index xs c) none ∙ elim (cases_lt c count) [ inl l ↦ get_or-replicate {A = ℕ} count c 0 0 l | inr g ↦ get_or_past (replicate count 0) c 0 (omega (arith, g, length-replicate {A = ℕ} count 0)) ]

  pub none_marked : (marks_of s).marked ≡ replicate (length s.group) false
  none_marked =
      let total = length s.group in
      let many = length-map-range_with_len (sits_marked s) 0 total in
      same_lists (marks_of s).marked (replicate total false) (many ∙ sym (length-replicate total false)) (λ k d l. let low : k < total = omega (arith, l, many) in get_or-map-range_with_len (sits_marked s) 0 total k k d low (omega arith) ∙ ap (nat_lt (slice_index s.at k)) (zero_at (slice_index s.group k)) ∙ none_below (slice_index s.at k) ∙ sym (get_or-replicate total k false d low))
