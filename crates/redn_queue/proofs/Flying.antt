-- Requests in flight, found by index.
use Rattle.std.specs.List.{All}
use Rattle.std.proofs.Common.{◌≡◌, ◌≢◌, ℕ, zero, suc, ◌+◌, ◌<◌, ◌≤◌, Result, Ok, Err, IfOk, inl, inr, zero-add, Bool, true, false, not, ◌&&◌, ◌==◌, cond, List, [], ◌∷◌, Some, None, length, get_or, set, refl, sym, ap, subst, ◌∙◌, arith}
use Rattle.std.specs.List.{position, position_from}
use Rattle.redn_words.specs.declared.types.Flight.{Flight}
use Rattle.std.proofs.lemmas.Iterator.Adapters.{position_from-zero}
use Rattle.redn_words.specs.Steps.{flying_in, with_landed}
use Rattle.std.specs.Prelude.{OnErr}
use Rattle.std.specs.Ordering.{nat_cmp, ordering_index}
use Rattle.std.specs.List.Sorted.{IsSearchInRange, IsBinarySearchResult, IsNonDecreasingBy}
use Rattle.std.proofs.lemmas.Cmp.{ranked}
use Rattle.std.proofs.lemmas.Bool.{cases_lt, cases_eq, and_right, and_from, eq-eqb}
use Rattle.std.proofs.lemmas.Bool.Decides.{nat_tests}
use Rattle.std.proofs.lemmas.List.{get_or_read}
use Rattle.std.proofs.lemmas.List.Elements.{All-tail}
use Rattle.redn_words.specs.InOrder.{IsRising}
use Rattle.redn_queue.specs.Places.{StandsAt}

abbrev pub test : ℕ → Flight → Bool
test i f = f.index == i && not f.landed

-- the first unlanded request of an index stands at this place
pub record IsUnlandedAt (i : ℕ) (fs : List Flight) (place : ℕ) : Type 0 where
  pub within : place < length fs
  pub found : (d : Flight) → flying_in i fs ≡ Some (get_or fs place d)
  pub landed : (d : Flight) → with_landed i fs ≡ set fs place (record { index = (get_or fs place d).index; copy = (get_or fs place d).copy; landed = true })

found_from : (i k : ℕ) (fs : List Flight) (place : ℕ) → position_from (test i) k fs ≡ Some place → (j : ℕ) × (place ≡ k + j) × IsUnlandedAt i fs j
found_from i k [] place e = absurd (cc)
found_from i k (f ∷ fs) place e =
    elim (test i f) as (λ b. test i f ≡ b → cond b (Some k) (position_from (test i) (k + 1) fs) ≡ Some place → (j : ℕ) × (place ≡ k + j) × IsUnlandedAt i (f ∷ fs) j) [
      | true ↦ λ t h. let at : k ≡ place = cc in (0, omega arith, record { within = omega arith; found = λ d. rw t refl; landed = λ d. rw t refl })
      | false ↦ λ t h.
          let rest = found_from i (k + 1) fs place h in
          (suc rest.0, omega (arith, rest.1), record { within = omega (arith, rest.2.within); found = λ d. rw t (rest.2.found d); landed = λ d. rw t (ap (λ l. f ∷ l) (rest.2.landed d)) })
    ] refl e

pub stands_at : (i : ℕ) (fs : List Flight) (place : ℕ) → position (test i) fs ≡ Some place → IsUnlandedAt i fs place
stands_at i fs place e = let h = found_from i 0 fs place (sym (position_from-zero (test i) fs) ∙ e) in let at : h.0 ≡ place = omega (arith, h.1) in subst (λ n. IsUnlandedAt i fs n) at h.2

-- there is none
none_from : (i k : ℕ) (fs : List Flight) → position_from (test i) k fs ≡ None → (flying_in i fs ≡ None) × (with_landed i fs ≡ fs)
none_from i k [] e = (refl, refl)
none_from i k (f ∷ fs) e =
    elim (test i f) as (λ b. test i f ≡ b → cond b (Some k) (position_from (test i) (k + 1) fs) ≡ None → (flying_in i (f ∷ fs) ≡ None) × (with_landed i (f ∷ fs) ≡ f ∷ fs)) [
      | true ↦ λ t h. absurd (cc)
      | false ↦ λ t h. let rest = none_from i (k + 1) fs h in (rw t rest.0, rw t (ap (λ l. f ∷ l) rest.1))
    ] refl e

pub none_stands : (i : ℕ) (fs : List Flight) → position (test i) fs ≡ None → (flying_in i fs ≡ None) × (with_landed i fs ≡ fs)
none_stands i fs e = none_from i 0 fs (sym (position_from-zero (test i) fs) ∙ e)

-- a search by index
module _ (i : ℕ) (fs : List Flight) (rising : IsRising fs) where
  comparisons_rise : IsNonDecreasingBy (λ (f : Flight). ordering_index (nat_cmp f.index i)) fs
  comparisons_rise = λ j k d le l.
      let rise : (get_or fs j d).index ≤ (get_or fs k d).index =
      elim (cases_lt j k) [ inl lt ↦ omega (arith, rising j k d lt l) | inr ge ↦ let same : j ≡ k = omega (arith, le, ge) in omega (arith, ap (λ n. (get_or fs n d).index) same) ] in
      grind (arith, nat_tests)

  pub found_by : (r : Result ℕ ℕ) → IsSearchInRange r (length fs) → IsBinarySearchResult (λ (f : Flight). nat_cmp f.index i) fs r → IfOk r (StandsAt i fs)
  found_by (Ok at) within equal = record { within = within; is = λ d. ranked _ i _ (sym (equal d)) }
  found_by (Err at) within parted = tt

  pub absent_by : (r : Result ℕ ℕ) → IsSearchInRange r (length fs) → IsBinarySearchResult (λ (f : Flight). nat_cmp f.index i) fs r → OnErr r (All (λ (f : Flight). f.index ≢ i) fs)
  absent_by (Ok at) within equal = tt
  absent_by (Err at) within parted = λ k d l same.
      elim (cases_lt k at) [
        | inl lt ↦ let less : (get_or fs k d).index < i = ranked _ i _ (sym ((parted comparisons_rise).0 k d (omega arith) lt)) in omega (arith, less, same)
        | inr ge ↦ let more : i < (get_or fs k d).index = ranked _ i _ (sym ((parted comparisons_rise).1 k d ge l)) in omega (arith, more, same)
      ]

-- where no request of the index is unlanded
none_passes : (i k : ℕ) (fs : List Flight) → All (λ (f : Flight). test i f ≡ false) fs → position_from (test i) k fs ≡ None
none_passes i k [] h = refl
none_passes i k (f ∷ fs) h = rw (h 0 f (omega arith)) (none_passes i (k + 1) fs (All-tail (λ (g : Flight). test i g ≡ false) f fs h))

pub position_none : (i : ℕ) (fs : List Flight) → All (λ (f : Flight). test i f ≡ false) fs → position (test i) fs ≡ None
position_none i fs h = position_from-zero (test i) fs ∙ none_passes i 0 fs h

-- the first request that passes
first_passes : (i n k : ℕ) (fs : List Flight) → k < length fs → ((j : ℕ) (d : Flight) → j < k → test i (get_or fs j d) ≡ false) → ((d : Flight) → test i (get_or fs k d) ≡ true) → position_from (test i) n fs ≡ Some (n + k)
first_passes i n k [] l before at = absurd (omega arith)
first_passes i n zero (f ∷ fs) l before at = let e : n ≡ n + 0 = omega arith in rw (at f) (ap Some e)
first_passes i n (suc k) (f ∷ fs) l before at =
    let e : n + 1 + k ≡ n + suc k = omega arith in
    rw (before 0 f (omega arith)) (first_passes i (n + 1) k fs (omega arith) (λ j d lt. before (suc j) d (omega arith)) at ∙ ap Some e)

pub position_some : (i k : ℕ) (fs : List Flight) → k < length fs → ((j : ℕ) (d : Flight) → j < k → test i (get_or fs j d) ≡ false) → ((d : Flight) → test i (get_or fs k d) ≡ true) → position (test i) fs ≡ Some k
position_some i k fs l before at = position_from-zero (test i) fs ∙ first_passes i 0 k fs l before at ∙ ap Some (zero-add k)

other_index : (i : ℕ) (f : Flight) → f.index ≢ i → test i f ≡ false
other_index i f h = grind (arith, nat_tests)

landed_fails : (i : ℕ) (f : Flight) → f.landed ≡ true → test i f ≡ false
landed_fails i f h = rw h (and_right (f.index == i) false refl)

same_passes : (i : ℕ) (f : Flight) → f.index ≡ i → f.landed ≡ false → test i f ≡ true
same_passes i f h e = rw e (and_from (f.index == i) true (eq-eqb f.index i h) refl)

module _ (i : ℕ) (fs : List Flight) (rising : IsRising fs) (place : ℕ) (stands : StandsAt i fs place) (f : Flight) (read : f ≡ get_or fs place f) where
  read_at : (d : Flight) → f ≡ get_or fs place d
  read_at d = get_or_read fs place f stands.within read d

  apart : (k : ℕ) (d : Flight) → k < length fs → k ≢ place → (get_or fs k d).index ≢ i
  apart k d l ne same =
      elim (cases_lt k place) [
        | inl lt ↦ omega (arith, same, stands.is d, rising k place d lt stands.within)
        | inr ge ↦ let lt : place < k = omega arith in omega (arith, same, stands.is d, rising place k d lt l)
      ]

  pub place_unlanded : f.landed ≡ false → position (test i) fs ≡ Some place
  place_unlanded e =
      position_some i place fs stands.within
      (λ j d lt. let l : j < length fs = omega (arith, stands.within) in let ne : j ≢ place = omega arith in other_index i (get_or fs j d) (apart j d l ne))
      (λ d. ap (test i) (sym (read_at d)) ∙ same_passes i f (ap (λ (g : Flight). g.index) (read_at d) ∙ stands.is d) e)

  pub place_landed : f.landed ≡ true → position (test i) fs ≡ None
  place_landed e =
      position_none i fs (λ k d l.
      elim (cases_eq k place) [
        | inl same ↦ ap (λ n. test i (get_or fs n d)) same ∙ ap (test i) (sym (read_at d)) ∙ landed_fails i f e
        | inr ne ↦ other_index i (get_or fs k d) (apart k d l ne)
      ])

pub position_absent : (i : ℕ) (fs : List Flight) → All (λ (f : Flight). f.index ≢ i) fs → position (test i) fs ≡ None
position_absent i fs h = position_none i fs (λ k d l. other_index i (get_or fs k d) (h k d l))
