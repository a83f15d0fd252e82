-- The first acting queue of a chain, looked for among those that may act.
use Rattle.std.proofs.Common.{◌≡◌, ℕ, zero, suc, ◌+◌, ◌^◌, ◌<◌, ◌≤◌, ◌⊎◌, inl, inr, Bool, true, false, cond, ◌&&◌, ◌==◌, List, [], Option, Some, None, length, get_or, take, refl, sym, ap, subst, ◌∙◌, arith}
use Rattle.std.specs.Prelude.{nat_le, nat_lt, slice_get}
use Rattle.std.specs.List.{All, Any, find, list_any, range_with_len}
use Rattle.std.proofs.lemmas.Bool.{cases_lt, true≢false, and_parts, and_cases, and_from, or_cases, eq-eqb, eqb-true, le-leb, lt-ltb, ltb-false, ltb-true, leb-true}
use Rattle.std.proofs.lemmas.List.Folds.{Any-from_list_any, list_any_at, list_any_more}
use Rattle.std.proofs.lemmas.Option.{slice_get_within}
use Rattle.redn_words.specs.States.{Queue, State}
use Rattle.redn_adapter.specs.Busy.{IsQueueOf, HasActive}
use Rattle.redn_sched.specs.MadeSchedules.{is_of, queues_of, cyclically, queue_acts}
use Rattle.redn_sched.specs.Nearest.{distance, is_nearer, nearest}
use Rattle.redn_sched.proofs.Turning.{find_filtered, found_on, found_below}
use Rattle.redn_sched.proofs.Active.{acts_here}

-- the least number of a range that passes a test
pub record Least (t : ℕ → Bool) (a x : ℕ) : Type 0 where
  pub passes : t x ≡ true
  pub least : (y : ℕ) → a ≤ y → t y ≡ true → x ≤ y

module _ (t : ℕ → Bool) where
  is_first : (a x : ℕ) → t a ≡ true → a ≡ x → Least t a x
  is_first a x f same = record { passes = ap t (sym same) ∙ f; least = λ y l h. omega (arith, l, same) }

  skipped : (a x : ℕ) → t a ≡ false → Least t (a + 1) x → Least t a x
  skipped a x f rest = record { passes = rest.passes; least = λ y l h. rest.least y (past y l h) h }
    where
      past : (y : ℕ) → a ≤ y → t y ≡ true → a + 1 ≤ y
      past y l h = elim (cases_lt a y) [ inl less ↦ omega (arith, less) | inr most ↦ let same : y ≡ a = omega (arith, l, most) in absurd (true≢false (sym h ∙ ap t same ∙ f)) ]

  least_in : (a n x : ℕ) → find t (range_with_len a n) ≡ Some x → Least t a x
  least_in a zero x e = absurd (cc)
  least_in a (suc n) x e =
      elim (t a) as (λ b. t a ≡ b → cond b (Some a) (find t (range_with_len (a + 1) n)) ≡ Some x → Least t a x) [
        | true ↦ λ f g. is_first a x f cc
        | false ↦ λ f g. skipped a x f (least_in (a + 1) n x g)
      ] refl e

  none_in : (a n : ℕ) → find t (range_with_len a n) ≡ None → (y : ℕ) → a ≤ y → y < a + n → t y ≡ false
  none_in a zero e y l h = absurd (omega (arith, l, h))
  none_in a (suc n) e y l h =
      elim (t a) as (λ b. t a ≡ b → cond b (Some a) (find t (range_with_len (a + 1) n)) ≡ None → t y ≡ false) [
        | true ↦ λ f g. absurd (cc)
        | false ↦ λ f g. elim (cases_lt a y) [ inl less ↦ none_in (a + 1) n g y (omega (arith, less)) (omega (arith, h)) | inr most ↦ let same : y ≡ a = omega (arith, l, most) in ap t same ∙ f ]
      ] refl e

-- among those that were looked at, the one that acts and comes first
pub record IsFirst (s : State) (c k : ℕ) (seen : List ℕ) (o : Option ℕ) : Type 0 where
  pub acts : (q : ℕ) → o ≡ Some q → queue_acts s q ≡ true
  pub its : (q : ℕ) → o ≡ Some q → IsQueueOf s c q
  pub low : (q : ℕ) → o ≡ Some q → q < 2 ^ 32
  pub least : (q : ℕ) → list_any (λ (r : ℕ). q == r) seen ≡ true → queue_acts s q ≡ true → (x : ℕ) × (o ≡ Some x) × (distance k x ≤ distance k q)

pub none_seen : (s : State) (c k : ℕ) → IsFirst s c k [] None
none_seen s c k = record { acts = λ q e. absurd (cc); its = λ q e. absurd (cc); low = λ q e. absurd (cc); least = λ q e f. absurd (true≢false (sym e)) }

-- one more is looked at
module _ (s : State) (c k : ℕ) (list : List ℕ) (i q : ℕ) (l : i < length list) (at : q ≡ get_or list i 0) (its : IsQueueOf s c q) (low : q < 2 ^ 32) where
  seen_before : (r : ℕ) → list_any (λ (x : ℕ). r == x) (take (i + 1) list) ≡ true → (list_any (λ (x : ℕ). r == x) (take i list) ≡ true) ⊎ (r ≡ q)
  seen_before r e =
      elim (or_cases (list_any (λ (x : ℕ). r == x) (take i list)) (r == get_or list i 0) (sym (list_any_more (λ (x : ℕ). r == x) list i 0 l) ∙ e)) [
        | inl h ↦ inl h
        | inr h ↦ inr (eqb-true r (get_or list i 0) h ∙ sym at)
      ]

  taken : (o : Option ℕ) → IsFirst s c k (take i list) o → is_nearer k q o ≡ true → queue_acts s q ≡ true → IsFirst s c k (take (i + 1) list) (Some q)
  taken o h near acts =
      record {
        acts = λ x e. let same : q ≡ x = cc in ap (queue_acts s) (sym same) ∙ acts;
        its = λ x e. let same : q ≡ x = cc in subst (IsQueueOf s c) same its;
        low = λ x e. let same : q ≡ x = cc in omega (arith, low, same);
        least = λ r e f. (q, refl, behind r f (seen_before r e));
      }
    where
      nearer_than : (r x : ℕ) → o ≡ Some x → distance k x ≤ distance k r → distance k q ≤ distance k r
      nearer_than r x e le = let less : distance k q < distance k x = ltb-true (distance k q) (distance k x) (sym (ap (is_nearer k q) e) ∙ near) in omega (arith, le, less)

      behind : (r : ℕ) → queue_acts s r ≡ true → (list_any (λ (x : ℕ). r == x) (take i list) ≡ true) ⊎ (r ≡ q) → distance k q ≤ distance k r
      behind r f (inl e) = let y = h.least r e f in nearer_than r y.0 y.1 y.2
      behind r f (inr e) = omega (arith, ap (distance k) e)

  left : (o : Option ℕ) → IsFirst s c k (take i list) o → (queue_acts s q ≡ true → is_nearer k q o ≡ false) → IsFirst s c k (take (i + 1) list) o
  left o h far = record { acts = h.acts; its = h.its; low = h.low; least = λ r e f. by_seen r f (seen_before r e) }
    where
      by_found : (p : Option ℕ) → o ≡ p → is_nearer k q p ≡ false → (x : ℕ) × (o ≡ Some x) × (distance k x ≤ distance k q)
      by_found None e f = absurd (true≢false f)
      by_found (Some x) e f = (x, e, ltb-false (distance k q) (distance k x) f)

      by_seen : (r : ℕ) → queue_acts s r ≡ true → (list_any (λ (x : ℕ). r == x) (take i list) ≡ true) ⊎ (r ≡ q) → (x : ℕ) × (o ≡ Some x) × (distance k x ≤ distance k r)
      by_seen r f (inl e) = h.least r e f
      by_seen r f (inr e) =
          let y = by_found o refl (far (ap (queue_acts s) (sym e) ∙ f)) in (y.0, y.1, omega (arith, y.2, ap (distance k) e))

  pub one_more_seen : (o : Option ℕ) → IsFirst s c k (take i list) o → IsFirst s c k (take (i + 1) list) (nearest s k q o)
  one_more_seen o h =
      elim (is_nearer k q o && queue_acts s q) as (λ b. (is_nearer k q o && queue_acts s q) ≡ b → IsFirst s c k (take (i + 1) list) (cond b (Some q) o)) [
        | true ↦ λ e. let both = and_parts (is_nearer k q o) (queue_acts s q) e in taken o h both.0 both.1
        | false ↦ λ e. left o h (λ acts. elim (and_cases (is_nearer k q o) (queue_acts s q) e) [ inl f ↦ f | inr f ↦ absurd (true≢false (sym acts ∙ f)) ])
      ] refl

module _ (s : State) (c k : ℕ) (list : List ℕ) (has : HasActive s c list) (words : All (λ (q : ℕ). q < 2 ^ 32) list) (small : k < 2 ^ 32) (o : Option ℕ) (h : IsFirst s c k list o) where
  acting : (ℕ → Bool) → ℕ → Bool
  acting side q = is_of c (slice_get s.queues q) && (side q && queue_acts s q)

  its_number : (q : ℕ) → IsQueueOf s c q → is_of c (slice_get s.queues q) ≡ true
  its_number q its = ap (is_of c) its.there ∙ eq-eqb its.queue.row.domain c its.domain

  queue_there : (q : ℕ) (e : Option Queue) → slice_get s.queues q ≡ e → is_of c e ≡ true → IsQueueOf s c q
  queue_there q None e f = absurd (true≢false (sym f))
  queue_there q (Some u) e f = record { queue = u; there = e; domain = eqb-true u.row.domain c f }

  -- an acting queue of the chain was looked at
  listed : (q : ℕ) → IsQueueOf s c q → queue_acts s q ≡ true → list_any (λ (r : ℕ). q == r) list ≡ true
  listed q its acts = has.all q its.queue its.there its.domain (sym (acts_here s q its.queue its.there) ∙ acts)

  word : (q : ℕ) → list_any (λ (r : ℕ). q == r) list ≡ true → q < 2 ^ 32
  word q e = let a : Any (λ (r : ℕ). (q == r) ≡ true) list = Any-from_list_any (λ (r : ℕ). q == r) list e in let same : q ≡ a.1 = eqb-true q a.1 a.4 in omega (arith, same, a.3, words a.0 a.1 a.2)

  found_in : (side : ℕ → Bool) → find (λ (n : ℕ). side n && queue_acts s n) (queues_of s c) ≡ find (acting side) (range_with_len 0 (length s.queues))
  unfolding acting
  found_in side = find_filtered (λ (n : ℕ). side n && queue_acts s n) (λ (q : ℕ). is_of c (slice_get s.queues q)) (range_with_len 0 (length s.queues))

  -- what acts on a side passes there
  passes_side : (side : ℕ → Bool) (q : ℕ) → IsQueueOf s c q → side q ≡ true → queue_acts s q ≡ true → acting side q ≡ true
  unfolding acting
  passes_side side q its e acts = and_from (is_of c (slice_get s.queues q)) (side q && queue_acts s q) (its_number q its) (and_from (side q) (queue_acts s q) e acts)

  record Passing (side : ℕ → Bool) (q : ℕ) : Type 0 where
    on : side q ≡ true
    acts : queue_acts s q ≡ true
    its : IsQueueOf s c q

  passing : (side : ℕ → Bool) (q : ℕ) → acting side q ≡ true → Passing side q
  unfolding acting
  passing side q e =
      let a = and_parts (is_of c (slice_get s.queues q)) (side q && queue_acts s q) e in
      let b = and_parts (side q) (queue_acts s q) a.1 in
      record { on = b.0; acts = b.1; its = queue_there q (slice_get s.queues q) refl a.0 }

  on : ℕ → Bool
  on q = nat_le k q

  below : ℕ → Bool
  below q = nat_lt q k

  -- the first from the cursor on
  first_on : (x : ℕ) → find (acting on) (range_with_len 0 (length s.queues)) ≡ Some x → o ≡ Some x
  unfolding on
  first_on x e =
      let it = least_in (acting on) 0 (length s.queues) x e in
      let p = passing on x it.passes in
      let seen = listed x p.its p.acts in
      let y = h.least x seen p.acts in
      let low_x = word x seen in
      let low_y = h.low y.0 y.1 in
      let from : k ≤ x = leb-true k x p.on in
      elim (cases_lt y.0 k) [
        | inl less ↦ absurd (omega (arith, y.2, low_x, low_y, from, less, small))
        | inr past ↦
            let back : x ≤ y.0 = it.least y.0 (omega arith) (passes_side on y.0 (h.its y.0 y.1) (le-leb k y.0 past) (h.acts y.0 y.1)) in
            let same : y.0 ≡ x = omega (arith, y.2, low_x, low_y, from, past, back, small) in
            y.1 ∙ ap Some same
      ]

  -- and below it, where there is none from it on
  first_below : (x : ℕ) → find (acting on) (range_with_len 0 (length s.queues)) ≡ None → find (acting below) (range_with_len 0 (length s.queues)) ≡ Some x → o ≡ Some x
  unfolding on below
  first_below x none e =
      let it = least_in (acting below) 0 (length s.queues) x e in
      let p = passing below x it.passes in
      let seen = listed x p.its p.acts in
      let y = h.least x seen p.acts in
      let low_x = word x seen in
      let low_y = h.low y.0 y.1 in
      let under : x < k = ltb-true x k p.on in
      elim (cases_lt y.0 k) [
        | inl less ↦
            let back : x ≤ y.0 = it.least y.0 (omega arith) (passes_side below y.0 (h.its y.0 y.1) (lt-ltb y.0 k less) (h.acts y.0 y.1)) in
            let same : y.0 ≡ x = omega (arith, y.2, low_x, low_y, under, less, back, small) in
            y.1 ∙ ap Some same
        | inr past ↦
            let its = h.its y.0 y.1 in
            absurd (true≢false (sym (passes_side on y.0 its (le-leb k y.0 past) (h.acts y.0 y.1)) ∙ none_in (acting on) 0 (length s.queues) none y.0 (omega arith) (omega (arith, slice_get_within s.queues y.0 its.queue its.there))))
      ]

  none_first : (p : Option ℕ) → o ≡ p → find (acting on) (range_with_len 0 (length s.queues)) ≡ None → find (acting below) (range_with_len 0 (length s.queues)) ≡ None → o ≡ None
  unfolding on below
  none_first None e f g = e
  none_first (Some y) e f g =
      let its = h.its y e in
      let there : y < 0 + length s.queues = omega (arith, slice_get_within s.queues y its.queue its.there) in
      elim (cases_lt y k) [
        | inl less ↦ absurd (true≢false (sym (passes_side below y its (lt-ltb y k less) (h.acts y e)) ∙ none_in (acting below) 0 (length s.queues) g y (omega arith) there))
        | inr past ↦ absurd (true≢false (sym (passes_side on y its (le-leb k y past) (h.acts y e)) ∙ none_in (acting on) 0 (length s.queues) f y (omega arith) there))
      ]

  by_below : (f : Option ℕ) → find (acting on) (range_with_len 0 (length s.queues)) ≡ None → find (acting below) (range_with_len 0 (length s.queues)) ≡ f → o ≡ f
  by_below None e g = none_first o refl e g
  by_below (Some x) e g = first_below x e g

  by_on : (f : Option ℕ) → find (acting on) (range_with_len 0 (length s.queues)) ≡ f → o ≡ find (queue_acts s) (cyclically k (queues_of s c))
  unfolding on below
  by_on (Some x) e = first_on x e ∙ sym (found_on (queue_acts s) k (queues_of s c) x (found_in on ∙ e))
  by_on None e = by_below (find (acting below) (range_with_len 0 (length s.queues))) e refl ∙ sym (found_below (queue_acts s) k (queues_of s c) (found_in on ∙ e) ∙ found_in below)

  pub nearest_is : o ≡ find (queue_acts s) (cyclically k (queues_of s c))
  nearest_is = by_on (find (acting on) (range_with_len 0 (length s.queues))) refl

-- each of those that may act is the chain's
pub listed_is_its : (s : State) (c : ℕ) (list : List ℕ) → HasActive s c list → (i : ℕ) → i < length list → IsQueueOf s c (get_or list i 0)
listed_is_its s c list has i l = has.its (get_or list i 0) (list_any_at (λ (r : ℕ). get_or list i 0 == r) list i 0 l (eq-eqb (get_or list i 0) (get_or list i 0) refl))
