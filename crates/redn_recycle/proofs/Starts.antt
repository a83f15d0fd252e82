-- Where segments begin, without laps and with them.
use Rattle.std.proofs.Common.{◌≡◌, ℕ, zero, suc, ◌+◌, ◌-◌, ◌*◌, ◌^◌, ◌<◌, ◌≤◌, ◌⊎◌, inl, inr, Bool, true, false, not, cond, ◌&&◌, ◌==◌, List, [], ◌∷◌, map, length, get_or, refl, sym, ap, ◌∙◌, subst, arith, length-append}
use Rattle.std.specs.Prelude.{nat_le, count_by}
use Rattle.std.specs.List.{range_with_len}
use Rattle.std.specs.List.Sorted.{IsNonDecreasing}
use Rattle.std.proofs.lemmas.Bool.{le-leb, leb-true, eq-eqb, ne_eqb, cases_lt, true≢false}
use Rattle.std.proofs.lemmas.Bool.Decides.{nat_tests}
use Rattle.std.proofs.lemmas.List.Sums.{sum_by-cons}
use Rattle.std.proofs.lemmas.List.FromFn.{get_or-map-range_with_len, length-map-range_with_len}
use Rattle.redn_segment.specs.declared.types.Draft.{Draft}
use Rattle.redn_segment.specs.Building.{drafts_of}
use Rattle.redn_recycle.specs.Lapped.{segment_at, start_of, first_of, slots_added, sends_last, slots_in_laps, segment_of_slot, slot_in_laps}

pub start_behind : (s : List Draft) (rest : List (List Draft)) (j : ℕ) → start_of (s ∷ rest) (suc j) ≡ length s + start_of rest j
start_behind s rest zero = omega arith
start_behind s rest (suc j) = let h : start_of (s ∷ rest) (suc j) ≡ length s + start_of rest j = start_behind s rest j in omega (arith, h)

-- the last segment ends behind the last draft
pub start_all : (segments : List (List Draft)) → start_of segments (length segments) ≡ length (drafts_of segments)
start_all [] = refl
start_all (s ∷ rest) = start_behind s rest (length rest) ∙ ap (λ (n : ℕ). length s + n) (start_all rest) ∙ sym (length-append s (drafts_of rest))

-- so many numbers of a range pass a test that holds up to a number
count_none : (q : ℕ → Bool) (a n : ℕ) → ((k : ℕ) → a ≤ k → k < a + n → q k ≡ false) → count_by q (range_with_len a n) ≡ 0
count_none q a zero h = refl
count_none q a (suc n) h =
    let rest : count_by q (range_with_len (a + 1) n) ≡ 0 = count_none q (a + 1) n (λ k l m. h k (omega arith) (omega arith)) in
    sum_by-cons (λ (x : ℕ). cond (q x) 1 0) a (range_with_len (a + 1) n) ∙ ap (λ (b : Bool). cond b 1 0 + count_by q (range_with_len (a + 1) n)) (h a (omega arith) (omega arith)) ∙ omega (arith, rest)

count_up_to : (q : ℕ → Bool) (p a n : ℕ) → a ≤ p → p ≤ a + n → ((k : ℕ) → a ≤ k → k < p → q k ≡ true) → ((k : ℕ) → p ≤ k → k < a + n → q k ≡ false) → count_by q (range_with_len a n) ≡ p - a
count_up_to q p a zero l m low high = omega arith
count_up_to q p a (suc n) l m low high =
    elim (cases_lt a p) [
      | inl below ↦
          let rest : count_by q (range_with_len (a + 1) n) ≡ p - (a + 1) = count_up_to q p (a + 1) n (omega arith) (omega arith) (λ k x y. low k (omega arith) y) (λ k x y. high k x (omega arith)) in
          sum_by-cons (λ (x : ℕ). cond (q x) 1 0) a (range_with_len (a + 1) n) ∙ ap (λ (b : Bool). cond b 1 0 + count_by q (range_with_len (a + 1) n)) (low a (omega arith) below) ∙ omega (arith, rest, below)
      | inr past ↦ count_none q a (suc n) (λ k x y. high k (omega (arith, past, x)) y) ∙ omega (arith, past, l)
    ]

module _ (segments : List (List Draft)) where
  pub start_rises : (j d : ℕ) → start_of segments j ≤ start_of segments (d + j)
  start_rises j zero = let same : 0 + j ≡ j = omega arith in let e : start_of segments (0 + j) ≡ start_of segments j = ap (start_of segments) same in omega (arith, e)
  start_rises j (suc d) = let h : start_of segments j ≤ start_of segments (d + j) = start_rises j d in let same : suc d + j ≡ suc (d + j) = omega arith in let e : start_of segments (suc d + j) ≡ start_of segments (d + j) + length (segment_at segments (d + j)) = ap (start_of segments) same in omega (arith, h, e)

  pub start_le : (j k : ℕ) → j ≤ k → start_of segments j ≤ start_of segments k
  start_le j k l = let e : (k - j) + j ≡ k = omega arith in subst (λ (n : ℕ). start_of segments j ≤ start_of segments n) e (start_rises j (k - j))

  pub start_in : (j : ℕ) → j ≤ length segments → start_of segments j ≤ length (drafts_of segments)
  start_in j l = let all = start_all segments in let up = start_le j (length segments) l in omega (arith, all, up)

  pub added_few : (j : ℕ) → slots_added segments j ≤ 4
  added_few j = by_tests (sends_last segments && (suc j == length segments)) (sends_last segments && (j == 0))
    where
      by_tests : (a b : Bool) → cond a 0 (cond b 3 4) ≤ 4
      by_tests true b = omega arith
      by_tests false true = omega arith
      by_tests false false = omega arith

  -- a segment that has gates
  pub gated_below : (j : ℕ) → suc j < length segments → 3 ≤ slots_added segments j
  gated_below j l = by_tests (sends_last segments) (suc j == length segments) (j == 0) (ne_eqb (suc j) (length segments) (λ e. omega (arith, e, l)))
    where
      by_tests : (s last first : Bool) → last ≡ false → 3 ≤ cond (s && last) 0 (cond (s && first) 3 4)
      by_tests s true first e = absurd (true≢false e)
      by_tests true false true e = omega arith
      by_tests true false false e = omega arith
      by_tests false false first e = omega arith

  pub gated_all : (j : ℕ) → sends_last segments ≡ false → 3 ≤ slots_added segments j
  gated_all j = by_tests (sends_last segments) (suc j == length segments) (j == 0)
    where
      by_tests : (s last first : Bool) → s ≡ false → 3 ≤ cond (s && last) 0 (cond (s && first) 3 4)
      by_tests true last first e = absurd (true≢false e)
      by_tests false last first e = omega arith

  pub first_few : (j : ℕ) → first_of segments j ≤ start_of segments j + 4 * j
  first_few zero = omega arith
  first_few (suc j) = let h : first_of segments j ≤ start_of segments j + 4 * j = first_few j in let a = added_few j in omega (arith, h, a)

  -- the segment of a slot
  pub segment_found : (i p : ℕ) → p ≤ length segments → ((k : ℕ) → k < p → start_of segments (suc k) ≤ i) → ((k : ℕ) → p ≤ k → k < length segments → i < start_of segments (suc k)) → segment_of_slot segments i ≡ p
  segment_found i p l low high =
      subst (λ (n : ℕ). segment_of_slot segments i ≡ n) none_less (count_up_to (λ (j : ℕ). nat_le (start_of segments (suc j)) i) p 0 (length segments) (omega arith) (omega arith) (λ k x y. le-leb (start_of segments (suc k)) i (low k y)) (λ k x y. let inside : k < length segments = omega (arith, y) in let above = high k x inside in grind (arith, nat_tests)))
    where
      none_less : p - 0 ≡ p
      none_less = omega arith

  -- each slot of a draft has a segment
  find_segment : (i n : ℕ) → n ≤ length segments → i < start_of segments n → (p : ℕ) × (p < n) × (start_of segments p ≤ i) × (i < start_of segments (suc p))
  find_segment i zero l below = absurd (omega arith)
  find_segment i (suc n) l below =
      elim (cases_lt i (start_of segments n)) [
        | inl before ↦ let found = find_segment i n (omega arith) before in let low = found.1 in (found.0, omega arith, found.2, found.3)
        | inr past ↦ (n, omega arith, past, below)
      ]

  pub segment_known : (i : ℕ) → i < length (drafts_of segments) → (segment_of_slot segments i < length segments) × (start_of segments (segment_of_slot segments i) ≤ i) × (i < start_of segments (suc (segment_of_slot segments i)))
  segment_known i below =
      let all = start_all segments in
      let found = find_segment i (length segments) (omega arith) (omega arith) in
      let p : ℕ = found.0 in
      let inside = found.1 in
      let low = found.2 in
      let high = found.3 in
      let is : segment_of_slot segments i ≡ p = segment_found i p (omega arith) (λ k l. let up = start_le (suc k) p (omega arith) in omega (arith, up, low)) (λ k l m. let up = start_le (suc p) (suc k) (omega arith) in omega (arith, up, high)) in
      subst (λ (k : ℕ). (k < length segments) × (start_of segments k ≤ i) × (i < start_of segments (suc k))) (sym is) (inside, low, high)

  first_rises : (j d : ℕ) → first_of segments j ≤ first_of segments (d + j)
  first_rises j zero = let same : 0 + j ≡ j = omega arith in let e : first_of segments (0 + j) ≡ first_of segments j = ap (first_of segments) same in omega (arith, e)
  first_rises j (suc d) = let h : first_of segments j ≤ first_of segments (d + j) = first_rises j d in let same : suc d + j ≡ suc (d + j) = omega arith in let e : first_of segments (suc d + j) ≡ first_of segments (d + j) + (length (segment_at segments (d + j)) + slots_added segments (d + j)) = ap (first_of segments) same in omega (arith, h, e)

  pub first_le : (j k : ℕ) → j ≤ k → first_of segments j ≤ first_of segments k
  first_le j k l = let e : (k - j) + j ≡ k = omega arith in subst (λ (n : ℕ). first_of segments j ≤ first_of segments n) e (first_rises j (k - j))

  pub some_slots : 2 ≤ length segments → 3 ≤ slots_in_laps segments
  some_slots l =
      let gates = gated_below 0 (omega arith) in
      let e : (length segments - 1) + 1 ≡ length segments = omega arith in
      let up : first_of segments 1 ≤ first_of segments ((length segments - 1) + 1) = first_rises 1 (length segments - 1) in
      let same : first_of segments ((length segments - 1) + 1) ≡ slots_in_laps segments = ap (first_of segments) e in
      let one : first_of segments 1 ≡ 0 + (length (segment_at segments 0) + slots_added segments 0) = refl in
      omega (arith, gates, up, same, one)

  -- all but the number behind the last draft
  pub else_in : (i : ℕ) → (i == length (drafts_of segments)) ≡ false → slot_in_laps segments i ≡ first_of segments (segment_of_slot segments i) + (i - start_of segments (segment_of_slot segments i))
  else_in i other = by_sends (sends_last segments) (i == length (drafts_of segments)) other
    where
      by_sends : (s e : Bool) → e ≡ false → cond (not s && e) (slots_in_laps segments - 1) (first_of segments (segment_of_slot segments i) + (i - start_of segments (segment_of_slot segments i))) ≡ first_of segments (segment_of_slot segments i) + (i - start_of segments (segment_of_slot segments i))
      by_sends s true h = absurd (true≢false h)
      by_sends true false h = refl
      by_sends false false h = refl

  -- a draft keeps its place in its segment
  pub slot_there : (j k : ℕ) → j < length segments → k < length (segment_at segments j) → slot_in_laps segments (start_of segments j + k) ≡ first_of segments j + k
  slot_there j k l m =
      let here : start_of segments (suc j) ≤ length (drafts_of segments) = start_in (suc j) (omega arith) in
      let other : (start_of segments j + k == length (drafts_of segments)) ≡ false = ne_eqb (start_of segments j + k) (length (drafts_of segments)) (λ e. omega (arith, e, here, m)) in
      let found : segment_of_slot segments (start_of segments j + k) ≡ j = segment_found (start_of segments j + k) j (omega arith) (λ a b. let up = start_le (suc a) j (omega arith) in omega (arith, up)) (λ a b c. let up = start_le (suc j) (suc a) (omega arith) in omega (arith, up, m)) in
      else_in (start_of segments j + k) other ∙ ap (λ (n : ℕ). first_of segments n + ((start_of segments j + k) - start_of segments n)) found ∙ omega arith

  -- the number behind the last draft goes to the last slot
  pub last_there : sends_last segments ≡ false → slot_in_laps segments (length (drafts_of segments)) ≡ slots_in_laps segments - 1
  last_there none = let same = eq-eqb (length (drafts_of segments)) (length (drafts_of segments)) refl in rw none (rw same refl)

  -- behind the last draft come no segments
  pub segment_past : (i : ℕ) → length (drafts_of segments) ≤ i → segment_of_slot segments i ≡ length segments
  segment_past i past = let all = start_all segments in segment_found i (length segments) (omega arith) (λ k l. let up = start_le (suc k) (length segments) (omega arith) in omega (arith, up, all, past)) (λ k l m. absurd (omega (arith, l, m)))

  -- where the numbers up to that of the last ENABLE go, but for it
  pub slot_near : (i : ℕ) → i ≤ length (drafts_of segments) → (segment_of_slot segments i ≤ length segments) × (start_of segments (segment_of_slot segments i) ≤ i)
  slot_near i l =
      elim (cases_lt i (length (drafts_of segments))) [
        | inl below ↦ let known = segment_known i below in let inside = known.0 in (omega arith, known.1)
        | inr past ↦ let there = segment_past i past in let all = start_all segments in (omega (arith, there), subst (λ (k : ℕ). start_of segments k ≤ i) (sym there) (omega (arith, all, past)))
      ]

  pub past_there : (i : ℕ) → length (drafts_of segments) ≤ i → (sends_last segments ≡ true) ⊎ (length (drafts_of segments) < i) → slot_in_laps segments i ≡ slots_in_laps segments + (i - length (drafts_of segments))
  past_there i past way =
      let all = start_all segments in
      let there : segment_of_slot segments i ≡ length segments = segment_past i past in
      let far : first_of segments (segment_of_slot segments i) + (i - start_of segments (segment_of_slot segments i)) ≡ slots_in_laps segments + (i - length (drafts_of segments)) = ap (λ (k : ℕ). first_of segments k + (i - start_of segments k)) there ∙ ap (λ (n : ℕ). slots_in_laps segments + (i - n)) all in
      elim way [
        | inl sends ↦ ap (λ (s : Bool). cond (not s && (i == length (drafts_of segments))) (slots_in_laps segments - 1) (first_of segments (segment_of_slot segments i) + (i - start_of segments (segment_of_slot segments i)))) sends ∙ far
        | inr above ↦ else_in i (ne_eqb i (length (drafts_of segments)) (λ e. omega (arith, e, above))) ∙ far
      ]

  -- the lists that the code keeps
  module _ (ends firsts : List ℕ) (ends_are : ends ≡ map (λ (j : ℕ). start_of segments (suc j)) (range_with_len 0 (length segments))) where
    pub length-ends : length ends ≡ length segments
    length-ends = ap length ends_are ∙ length-map-range_with_len (λ (j : ℕ). start_of segments (suc j)) 0 (length segments)

    pub length-firsts : firsts ≡ map (first_of segments) (range_with_len 0 (length segments + 1)) → length firsts ≡ length segments + 1
    length-firsts firsts_are = ap length firsts_are ∙ length-map-range_with_len (first_of segments) 0 (length segments + 1)

    pub end_at : (j d : ℕ) → j < length segments → get_or ends j d ≡ start_of segments (suc j)
    end_at j d l = ap (λ (xs : List ℕ). get_or xs j d) ends_are ∙ get_or-map-range_with_len (λ (j : ℕ). start_of segments (suc j)) 0 (length segments) j j d l (omega arith)

    pub first_at : firsts ≡ map (first_of segments) (range_with_len 0 (length segments + 1)) → (j d : ℕ) → j ≤ length segments → get_or firsts j d ≡ first_of segments j
    first_at firsts_are j d l = ap (λ (xs : List ℕ). get_or xs j d) firsts_are ∙ get_or-map-range_with_len (first_of segments) 0 (length segments + 1) j j d (omega arith) (omega arith)

    pub ends_rise : IsNonDecreasing ends
    ends_rise i j d l m = let n = length-ends in let a = end_at i d (omega arith) in let b = end_at j d (omega arith) in let up = start_le (suc i) (suc j) (omega arith) in omega (arith, a, b, up)

  -- the code's search
  pub segment_by : (ends : List ℕ) → ends ≡ map (λ (j : ℕ). start_of segments (suc j)) (range_with_len 0 (length segments)) → (i p : ℕ) → p ≤ length ends → ((k d : ℕ) → 0 ≤ k → k < p → nat_le (get_or ends k d) i ≡ true) → ((k d : ℕ) → p ≤ k → k < length ends → nat_le (get_or ends k d) i ≡ false) → segment_of_slot segments i ≡ p
  segment_by ends are i p l low high =
      let count = length-ends ends [] are in
      segment_found i p (omega (arith, count)) (λ k m. let at = end_at ends [] are k 0 (omega (arith, count)) in let below = leb-true (get_or ends k 0) i (low k 0 (omega arith) m) in omega (arith, at, below)) (λ k m n. let at = end_at ends [] are k 0 n in let test = high k 0 m (omega (arith, count)) in let above : i < get_or ends k 0 = grind (arith, nat_tests) in omega (arith, at, above))

-- an item of a list, whatever stands for none
pub item_is : {X : Type 0} (xs : List X) (j : ℕ) (d e : X) → j < length xs → get_or xs j d ≡ get_or xs j e
item_is [] j d e l = absurd (omega arith)
item_is (x ∷ xs) zero d e l = refl
item_is (x ∷ xs) (suc j) d e l = item_is xs j d e (omega arith)

-- one more segment
module _ (segments : List (List Draft)) (j end first n added : ℕ) (inside : j < length segments) (few : length (drafts_of segments) + 4 * length segments < 2 ^ 32) (end_is : end ≡ start_of segments j) (first_is : first ≡ first_of segments j) (n_is : n ≡ length (segment_at segments j)) (added_is : added ≡ slots_added segments j) where
  pub end_next : end + n ≡ start_of segments (j + 1)
  end_next = let same : j + 1 ≡ suc j = omega arith in let e : start_of segments (j + 1) ≡ start_of segments j + length (segment_at segments j) = ap (start_of segments) same in omega (arith, e, end_is, n_is)

  pub first_next : first + (n + added) ≡ first_of segments (j + 1)
  first_next = let same : j + 1 ≡ suc j = omega arith in let e : first_of segments (j + 1) ≡ first_of segments j + (length (segment_at segments j) + slots_added segments j) = ap (first_of segments) same in omega (arith, e, first_is, n_is, added_is)

  pub end_small : end + n < 2 ^ 32
  end_small = let e = end_next in let up = start_in segments (j + 1) (omega arith) in omega (arith, e, up, few)

  pub first_small : first + (n + added) < 2 ^ 32
  first_small = let e = first_next in let up = start_in segments (j + 1) (omega arith) in let some = first_few segments (j + 1) in omega (arith, e, up, some, few, inside)
