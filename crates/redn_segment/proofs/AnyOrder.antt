-- Requests whose drafts have their footprints apart land in any order.
use Rattle.std.proofs.Common.{◌≡◌, ◌≢◌, ℕ, zero, suc, ◌+◌, ◌-◌, ◌<◌, ◌≤◌, ◌⊎◌, inl, inr, Bool, true, false, not, ◌&&◌, ◌||◌, List, [], ◌∷◌, length, Some, refl, sym, ap, ◌∙◌, subst, arith}
use Rattle.std.specs.Prelude.{nat_le, nat_lt, slice_get, IsPermutation, ◌==◌, if◌then◌else◌}
use Rattle.std.specs.List.{list_all, range_with_len, sum_by}
use Rattle.std.proofs.lemmas.Bool.{false≢true, cases_Bool, cases_eq, cases_lt, and_parts, and_from, or_left, or_right, or_cases, le-leb, lt-ltb, eq-eqb, ne_eqb, eqb-true, false_from_ne_true}
use Rattle.std.proofs.lemmas.List.{ext_get_or}
use Rattle.std.proofs.lemmas.List.Sums.{sum_by-cons}
use Rattle.std.proofs.lemmas.List.Sorted.{sum_by-IsPermutation}
use Rattle.redn_words.specs.declared.types.Region.{Region}
use Rattle.redn_words.specs.declared.types.Origin.{Origin}
use Rattle.redn_words.specs.Words.{bytes_at}
use Rattle.redn_words.specs.Requests.{decoded}
use Rattle.redn_words.specs.Landings.{Change, Landing, changed, landing}
use Rattle.redn_words.proofs.Bytes.{over_missed, byte-changed, length-changed, same_range}
use Rattle.redn_words.specs.Bytes.{byte, hits, over}
use Rattle.redn_words.specs.Ranges.{Fits}
use Rattle.redn_words.proofs.Footprints.{landing_same, landing_hits, landing_fits}
use Rattle.redn_words.specs.Ranges.{holds}
use Rattle.redn_words.specs.Access.{EndsBy}
use Rattle.redn_words.proofs.Ranges.{bounds_hold}
use Rattle.redn_segment.specs.declared.types.SlotRef.{SlotRef}
use Rattle.redn_segment.specs.declared.types.Side.{Side}
use Rattle.redn_segment.specs.declared.types.Space.{Space}
use Rattle.redn_segment.specs.declared.types.Space.TheVariants as space
use Rattle.redn_segment.specs.declared.types.Draft.{Draft}
use Rattle.redn_segment.specs.Sites.{space_of, is_table, same_space}
use Rattle.redn_segment.specs.Effects.{slot_behind}
use Rattle.redn_segment.specs.Footprints.{both_sides, ends_inside, is_free, drafts_free, all_free, among, spares, is_apart}
use Rattle.redn_segment.specs.Homes.{Home, base_of}
use Rattle.redn_segment.specs.Orders.{ArePlaced, slot_now, landing_now, landed, LandAlike, OrderIsFree, LandInAnyOrder}
use Rattle.redn_segment.proofs.SameSpace.{same_space_is, is_table_space, table_space}
use Rattle.redn_segment.proofs.Sides.{IsSide, side_test}
use Rattle.redn_segment.proofs.Touching.{In, one_space, free_apart, writes_in, reads_in, landing_reads}

pub all_at : {X : Type 0} (test : X → Bool) (xs : List X) (k : ℕ) (x : X) → list_all test xs ≡ true → slice_get xs k ≡ Some x → test x ≡ true
all_at test [] k x h e = absurd (cc)
all_at test (y ∷ xs) zero x h e = let parts = and_parts (test y) (list_all test xs) h in let same : y ≡ x = cc in ap test (sym same) ∙ parts.0
all_at test (y ∷ xs) (suc k) x h e = let parts = and_parts (test y) (list_all test xs) h in all_at test xs k x parts.1 e

pub free_at : (ds : List Draft) (j k : ℕ) (d e : Draft) → all_free ds ≡ true → j < k → slice_get ds j ≡ Some d → slice_get ds k ≡ Some e → drafts_free d e ≡ true
free_at [] j k d e h l f g = absurd (cc)
free_at (c ∷ ds) j zero d e h l f g = absurd (omega arith)
free_at (c ∷ ds) zero (suc k) d e h l f g =
    let parts = and_parts (list_all (drafts_free c) ds) (all_free ds) h in
    let same : c ≡ d = cc in
    subst (λ (x : Draft). drafts_free x e ≡ true) same (all_at (drafts_free c) ds k e parts.0 g)
free_at (c ∷ ds) (suc j) (suc k) d e h l f g = let parts = and_parts (list_all (drafts_free c) ds) (all_free ds) h in free_at ds j k d e parts.1 (omega arith) f g

nth : (ds : List Draft) (k : ℕ) → k < length ds → (d : Draft) × (slice_get ds k ≡ Some d)
nth [] k l = absurd (omega arith)
nth (d ∷ ds) zero l = (d, refl)
nth (d ∷ ds) (suc k) l = nth ds k (omega arith)

-- how often a number stands in a list
abbrev is_it : ℕ → ℕ → ℕ
is_it x y = if y == x then 1 else 0

abbrev how_often : ℕ → List ℕ → ℕ
how_often x ks = sum_by (is_it x) ks

its_own : (x : ℕ) → is_it x x ≡ 1
its_own x = let e = eq-eqb x x refl in rw e refl

others : (x y : ℕ) → y ≢ x → is_it x y ≡ 0
others x y ne = let e = ne_eqb y x ne in rw e refl

often_cons : (x k : ℕ) (ks : List ℕ) → how_often x (k ∷ ks) ≡ is_it x k + how_often x ks
often_cons x k ks = sum_by-cons (is_it x) k ks

often_nil : (x : ℕ) → how_often x [] ≡ 0
often_nil x = refl

below_none : (x a n : ℕ) → x < a → how_often x (range_with_len a n) ≡ 0
below_none x a zero l = often_nil x
below_none x a (suc n) l = omega (arith, often_cons x a (range_with_len (a + 1) n), others x a (λ e. omega arith), below_none x (a + 1) n (omega arith))

above_none : (x a n : ℕ) → a + n ≤ x → how_often x (range_with_len a n) ≡ 0
above_none x a zero l = often_nil x
above_none x a (suc n) l = omega (arith, often_cons x a (range_with_len (a + 1) n), others x a (λ e. omega arith), above_none x (a + 1) n (omega arith))

inside_once : (x a n : ℕ) → a ≤ x → x < a + n → how_often x (range_with_len a n) ≡ 1
inside_once x a zero l h = absurd (omega arith)
inside_once x a (suc n) l h =
    elim (cases_eq a x) [
      | inl e ↦
          let here : is_it x a ≡ 1 = ap (is_it x) e ∙ its_own x in
          omega (arith, often_cons x a (range_with_len (a + 1) n), here, below_none x (a + 1) n (omega (arith, e)))
      | inr ne ↦ omega (arith, often_cons x a (range_with_len (a + 1) n), others x a ne, inside_once x (a + 1) n (omega (arith, ne)) (omega arith))
    ]

-- numbers below n that are neither done nor there twice
abbrev then_done : (ℕ → Bool) → ℕ → ℕ → Bool
then_done done k j = done j || j == k

abbrev Fresh : ℕ → (ℕ → Bool) → List ℕ → Type 0
Fresh n done [] = Unit {0}
Fresh n done (k ∷ ks) = (k < n) × (done k ≡ false) × Fresh n (then_done done k) ks

fresh : (n : ℕ) (done : ℕ → Bool) (ks : List ℕ) → ((x : ℕ) → how_often x ks ≤ 1) → ((x : ℕ) → n ≤ x → how_often x ks ≡ 0) → ((x : ℕ) → done x ≡ true → how_often x ks ≡ 0) → Fresh n done ks
fresh n done [] once above none = tt
fresh n done (k ∷ ks) once above none = (
  elim (cases_lt k n) [
    | inl l ↦ l
    | inr l ↦ absurd (let a = above k l in omega (arith, often_cons k k ks, its_own k, a))
  ],
  false_from_ne_true (done k) (λ e. let a = none k e in omega (arith, often_cons k k ks, its_own k, a)),
  fresh n (then_done done k) ks (λ x. let a = once x in omega (arith, often_cons x k ks, a)) (λ x l. let a = above x l in omega (arith, often_cons x k ks, a)) (λ x e.
      elim (or_cases (done x) (x == k) e) [
        | inl d ↦ let a = none x d in omega (arith, often_cons x k ks, a)
        | inr q ↦
            let same : x ≡ k = eqb-true x k q in
            let here : is_it x k ≡ 1 = ap (is_it x) (sym same) ∙ its_own x in
            let a = once x in
            omega (arith, often_cons x k ks, here, a)
      ]),
)

module _ (home : Space → Home) (mine : Space → Bool) (regions : List Region) (domain queue index : ℕ) (first : SlotRef) (ds : List Draft) (start : List ℕ) (placed : ArePlaced home mine regions domain queue index first ds start) (apart : is_apart ds first ≡ true) where
  abbrev n : ℕ
  n = length ds

  abbrev slot_at : List ℕ → ℕ → List ℕ
  slot_at m k = slot_now home mine regions domain queue index first m k

  abbrev lands : List ℕ → ℕ → Landing
  lands m k = landing_now home mine regions domain queue index first m k

  abbrev origin : ℕ → Origin
  origin k = record { chain = domain; queue = queue; index = index + k }

  abbrev effects : ℕ → List Change
  effects k = (lands start k).writes

  inside : list_all (both_sides ends_inside) ds ≡ true
  inside = (and_parts (list_all (both_sides ends_inside) ds) (all_free ds && list_all (both_sides (spares first (length ds))) ds) apart).0

  free : all_free ds ≡ true
  free = (and_parts (all_free ds) (list_all (both_sides (spares first (length ds))) ds) (and_parts (list_all (both_sides ends_inside) ds) (all_free ds && list_all (both_sides (spares first (length ds))) ds) apart).1).0

  spared : list_all (both_sides (spares first (length ds))) ds ≡ true
  spared = (and_parts (all_free ds) (list_all (both_sides (spares first (length ds))) ds) (and_parts (list_all (both_sides ends_inside) ds) (all_free ds && list_all (both_sides (spares first (length ds))) ds) apart).1).1

  abbrev Touches : Draft → ℕ → Bool → ℕ → Type 0
  Touches d k w p = (a : Side) × IsSide d a × (mine (space_of a.site) ≡ true) × (w ≡ true → a.writes ≡ true) × In home a p

  written : (k p : ℕ) (d : Draft) → slice_get ds k ≡ Some d → hits (effects k) p ≡ true → Touches d k true p
  written k p d e h =
      let x = writes_in home mine regions domain (length start) d (slot_at start k) (placed.each k d e) (all_at (both_sides ends_inside) ds k d inside e) p (landing_hits regions (origin k) (decoded (slot_at start k)) start p h) in
      (x.side, x.its, x.its_space, x.writes, x.bytes)

  read : (k p : ℕ) (d : Draft) → slice_get ds k ≡ Some d → holds (lands start k).reads p ≡ true → Touches d k false p
  read k p d e h =
      let x = reads_in home mine regions domain (length start) d (slot_at start k) (placed.each k d e) (all_at (both_sides ends_inside) ds k d inside e) p (landing_reads regions (origin k) (decoded (slot_at start k)) start p h) in
      (x.side, x.its, x.its_space, x.writes, x.bytes)

  -- two drafts, the first before the second
  free_two : (j k p : ℕ) (d e : Draft) → j < k → slice_get ds j ≡ Some d → slice_get ds k ≡ Some e → (v w : Bool) → v || w ≡ true → Touches d j v p → Touches e k w p → ⊥
  free_two j k p d e l f h v w either x y =
      let both : both_sides (λ (c : Side). both_sides (is_free c) e) d ≡ true = free_at ds j k d e free l f h in
      let one : both_sides (is_free x.0) e ≡ true = side_test d (λ (c : Side). both_sides (is_free c) e) x.0 both x.1 in
      let writes : x.0.writes || y.0.writes ≡ true = elim (or_cases v w either) [ inl q ↦ or_left x.0.writes y.0.writes (x.3 q) | inr q ↦ or_right x.0.writes y.0.writes (y.3 q) ] in
      free_apart home mine (length start) placed.apart x.0 y.0 p x.2 y.2 (side_test e (is_free x.0) y.0 one y.1) writes x.4 y.4

  apart_two : (j k p : ℕ) (d e : Draft) → j ≢ k → slice_get ds j ≡ Some d → slice_get ds k ≡ Some e → (w : Bool) → Touches d j true p → Touches e k w p → ⊥
  apart_two j k p d e ne f h w x y =
      elim (cases_lt j k) [
        | inl l ↦ free_two j k p d e l f h true w refl x y
        | inr l ↦ free_two k j p e d (omega (arith, ne)) h f w true (or_right w true refl) y x
      ]

  -- what one writes another neither writes nor reads
  unwritten : (j k p : ℕ) → j < n → k < n → j ≢ k → hits (effects j) p ≡ true → hits (effects k) p ≡ false
  unwritten j k p l m ne h =
      let d = nth ds j l in
      let e = nth ds k m in
      false_from_ne_true (hits (effects k) p) (λ g. apart_two j k p d.0 e.0 ne d.1 e.1 true (written j p d.0 d.1 h) (written k p e.0 e.1 g))

  unread : (j k p : ℕ) → j < n → k < n → j ≢ k → holds (lands start k).reads p ≡ true → hits (effects j) p ≡ false
  unread j k p l m ne g =
      let d = nth ds j l in
      let e = nth ds k m in
      false_from_ne_true (hits (effects j) p) (λ h. apart_two j k p d.0 e.0 ne d.1 e.1 false (written j p d.0 d.1 h) (read k p e.0 e.1 g))

  -- and none writes a slot of the segment
  abbrev slot_space : ℕ → Space
  slot_space k = space.Slot (slot_behind first k)

  slot_free : (j k p : ℕ) → j < n → k < n → base_of home (slot_space k) ≤ p → p < base_of home (slot_space k) + 64 → hits (effects j) p ≡ false
  slot_free j k p l m low high =
      false_from_ne_true (hits (effects j) p) (λ h.
      let d = nth ds j l in
      let x = written j p d.0 d.1 h in
      let a : Side = x.0 in
      let offset : ℕ = p - base_of home (slot_space k) in
      let same : same_space (space_of a.site) (slot_space k) ≡ true = one_space home mine (length start) placed.apart (space_of a.site) (slot_space k) x.4.at offset p x.2 (placed.slots k m) x.4.is x.4.room (omega arith) (omega arith) in
      let is : space_of a.site ≡ slot_space k = same_space_is (space_of a.site) (slot_space k) same in
      let plain : is_table a.site ≡ false = table_space a.site ∙ ap is_table_space is in
      let bounds = x.4.bounds plain in
      let some : nat_lt 0 a.len ≡ true = lt-ltb 0 a.len (omega (arith, bounds.0, bounds.1)) in
      let test : not (a.writes && (nat_lt 0 a.len && among first n (space_of a.site))) ≡ true = side_test d.0 (spares first n) a (all_at (both_sides (spares first n)) ds j d.0 spared d.1) x.1 in
      let here : among first n (space_of a.site) ≡ true = ap (among first n) is ∙ and_from (first.ring == first.ring) _ (eq-eqb first.ring first.ring refl) (and_from (nat_le first.slot (first.slot + k)) _ (le-leb first.slot (first.slot + k) (omega arith)) (lt-ltb (first.slot + k) (first.slot + n) (omega (arith, m)))) in
      false≢true (sym (ap not (and_from a.writes _ (x.3 refl) (and_from (nat_lt 0 a.len) _ some here))) ∙ test))

  ends : EndsBy (length start) regions
  ends = placed.regions_end

  fits : (k : ℕ) → Fits (length start) (effects k)
  fits k = landing_fits regions (origin k) (decoded (slot_at start k)) start ends

  -- a memory in which some have landed: a byte that none of them hits is as at the start
  record Rest (done : ℕ → Bool) (m : List ℕ) : Type 0 where
    size : length m ≡ length start
    stays : (p : ℕ) → ((k : ℕ) → k < n → done k ≡ true → hits (effects k) p ≡ false) → byte m p ≡ byte start p

  module _ (done : ℕ → Bool) (m : List ℕ) (rest : Rest done m) (k : ℕ) (low : k < n) (new : done k ≡ false) where
    other_than : (j : ℕ) → done j ≡ true → j ≢ k
    other_than j e q = false≢true (sym new ∙ ap done (sym q) ∙ e)

    slot_same : slot_at m k ≡ slot_at start k
    slot_same = same_range m start (base_of home (slot_space k)) 64 rest.size (λ p l h. rest.stays p (λ j i e. slot_free j k p i low l h))

    lands_same : lands m k ≡ lands start k
    lands_same =
        let there = (lands start k).reads in
        let same : bytes_at start there.at there.len ≡ bytes_at m there.at there.len = same_range start m there.at there.len (sym rest.size) (λ p l h. sym (rest.stays p (λ j i e. unread j k p i low (other_than j e) (bounds_hold there p l h)))) in
        ap (λ (b : List ℕ). landing regions (origin k) m (decoded b)) slot_same ∙ sym (landing_same regions (origin k) (decoded (slot_at start k)) start m same)

    abbrev after : List ℕ
    after = changed m (lands m k).writes

    after_is : after ≡ changed m (effects k)
    after_is = ap (λ (l : Landing). changed m l.writes) lands_same

    fits_now : Fits (length m) (effects k)
    fits_now = subst (λ (size : ℕ). Fits size (effects k)) (sym rest.size) (fits k)

    byte_after : (p : ℕ) → byte after p ≡ over (effects k) p (byte m p)
    byte_after p = ap (λ (b : List ℕ). byte b p) after_is ∙ byte-changed m (effects k) p fits_now

    rest_after : Rest (then_done done k) after
    rest_after =
        record {
          size = ap length after_is ∙ length-changed m (effects k) fits_now ∙ rest.size;
          stays = λ p none. byte_after p ∙ over_missed (effects k) p (byte m p) (none k low (or_right (done k) (k == k) (eq-eqb k k refl))) ∙ rest.stays p (λ j l e. none j l (or_left (done j) (j == k) e));
        }

  -- what some landings make of a byte
  abbrev value : List ℕ → ℕ → ℕ → ℕ
  value [] p v = v
  value (k ∷ ks) p v = value ks p (over (effects k) p v)

  abbrev all_landed : List ℕ → List ℕ → List ℕ
  all_landed m ks = landed home mine regions domain queue index first m ks

  record Landed (m ks : List ℕ) : Type 0 where
    alike : LandAlike home mine regions domain queue index first start m ks
    size : length (all_landed m ks) ≡ length start
    bytes : (p : ℕ) → byte (all_landed m ks) p ≡ value ks p (byte m p)

  land_all : (ks : List ℕ) (done : ℕ → Bool) (m : List ℕ) → Rest done m → Fresh n done ks → Landed m ks
  land_all [] done m rest f = record { alike = tt; size = rest.size; bytes = λ p. refl }
  land_all (k ∷ ks) done m rest f =
      let next = land_all ks (then_done done k) (after done m rest k f.0 f.1) (rest_after done m rest k f.0 f.1) f.2 in
      record {
        alike = (slot_same done m rest k f.0 f.1, lands_same done m rest k f.0 f.1, next.alike);
        size = next.size;
        bytes = λ p. next.bytes p ∙ ap (value ks p) (byte_after done m rest k f.0 f.1 p);
      }

  -- a byte that none hits, and one that this one alone may hit
  missed : (ks : List ℕ) (p v : ℕ) → ((j : ℕ) → 1 ≤ how_often j ks → hits (effects j) p ≡ false) → value ks p v ≡ v
  missed [] p v h = refl
  missed (k ∷ ks) p v h =
      missed ks p (over (effects k) p v) (λ j l. h j (omega (arith, often_cons j k ks))) ∙ over_missed (effects k) p v (h k (omega (arith, often_cons k k ks, its_own k)))

  only : (ks : List ℕ) (k p v : ℕ) → how_often k ks ≡ 1 → ((j : ℕ) → 1 ≤ how_often j ks → j ≢ k → hits (effects j) p ≡ false) → value ks p v ≡ over (effects k) p v
  only [] k p v e h = absurd (omega (arith, e, often_nil k))
  only (j ∷ ks) k p v e h =
      elim (cases_eq j k) [
        | inl q ↦
            let here : is_it k j ≡ 1 = ap (is_it k) q ∙ its_own k in
            let gone : how_often k ks ≡ 0 = omega (arith, often_cons k j ks, here, e) in
            missed ks p (over (effects j) p v) (λ i l. h i (omega (arith, often_cons i j ks)) (λ g. omega (arith, l, ap (λ (x : ℕ). how_often x ks) g, gone))) ∙ ap (λ (i : ℕ). over (effects i) p v) q
        | inr ne ↦
            only ks k p (over (effects j) p v) (omega (arith, often_cons k j ks, others k j ne, e)) (λ i l. h i (omega (arith, often_cons i j ks))) ∙ ap (over (effects k) p) (over_missed (effects j) p v (h j (omega (arith, often_cons j j ks, its_own j)) ne))
      ]

  -- some draft hits a byte, or none does
  who_hits : (p m : ℕ) → ((k : ℕ) × (k < m) × (hits (effects k) p ≡ true)) ⊎ ((k : ℕ) → k < m → hits (effects k) p ≡ false)
  who_hits p zero = inr (λ k l. absurd (omega arith))
  who_hits p (suc m) =
      elim (cases_Bool (hits (effects m) p)) [
        | inl e ↦ inl (m, omega arith, e)
        | inr none ↦ elim (who_hits p m) [
          | inl found ↦ inl (found.0, omega (arith, found.1), found.2)
          | inr others ↦ inr (λ k l. elim (cases_eq k m) [ inl q ↦ ap (λ (i : ℕ). hits (effects i) p) q ∙ none | inr ne ↦ others k (omega (arith, ne)) ])
        ]
      ]

  module _ (order : List ℕ) (is : IsPermutation (range_with_len 0 n) order) where
    as_often : (x : ℕ) → how_often x order ≡ how_often x (range_with_len 0 n)
    as_often x = sum_by-IsPermutation (is_it x) (range_with_len 0 n) order is

    -- what holds of both lists
    abbrev Whole : List ℕ → Type 0
    Whole ks = ((x : ℕ) → x < n → how_often x ks ≡ 1) × ((x : ℕ) → n ≤ x → how_often x ks ≡ 0)

    whole_range : Whole (range_with_len 0 n)
    whole_range = (λ x l. inside_once x 0 n (omega arith) (omega arith), λ x l. above_none x 0 n (omega arith))

    whole_order : Whole order
    whole_order = (λ x l. as_often x ∙ whole_range.0 x l, λ x l. as_often x ∙ whole_range.1 x l)

    whole_fresh : (ks : List ℕ) → Whole ks → Fresh n (λ k. false) ks
    whole_fresh ks w =
        fresh n (λ k. false) ks (λ x. elim (cases_lt x n) [ inl l ↦ omega (arith, w.0 x l) | inr l ↦ omega (arith, w.1 x l) ]) w.1 (λ x e. absurd (false≢true e))

    below : (ks : List ℕ) → Whole ks → (j : ℕ) → 1 ≤ how_often j ks → j < n
    below ks w j l = elim (cases_lt j n) [ inl h ↦ h | inr h ↦ absurd (omega (arith, w.1 j h, l)) ]

    same_value : (p v : ℕ) → value order p v ≡ value (range_with_len 0 n) p v
    same_value p v =
        elim (who_hits p n) [
          | inl found ↦
              let one : (ks : List ℕ) → Whole ks → value ks p v ≡ over (effects found.0) p v = λ ks w. only ks found.0 p v (w.0 found.0 found.1) (λ j l ne. unwritten found.0 j p found.1 (below ks w j l) (λ e. ne (sym e)) found.2) in
              one order whole_order ∙ sym (one (range_with_len 0 n) whole_range)
          | inr none ↦
              let no : (ks : List ℕ) → Whole ks → value ks p v ≡ v = λ ks w. missed ks p v (λ j l. none j (below ks w j l)) in
              no order whole_order ∙ sym (no (range_with_len 0 n) whole_range)
        ]

    at_start : Rest (λ k. false) start
    at_start = record { size = refl; stays = λ p h. refl }

    both_same : LandAlike home mine regions domain queue index first start start order × (all_landed start order ≡ all_landed start (range_with_len 0 n))
    both_same =
        let a = land_all order (λ k. false) start at_start (whole_fresh order whole_order) in
        let b = land_all (range_with_len 0 n) (λ k. false) start at_start (whole_fresh (range_with_len 0 n) whole_range) in
        (a.alike, ext_get_or 0 (all_landed start order) (all_landed start (range_with_len 0 n)) (a.size ∙ sym b.size) (λ i l. a.bytes i ∙ same_value i (byte start i) ∙ sym (b.bytes i)))

  order_is_free : OrderIsFree home mine regions domain queue index first ds start
  order_is_free order is = both_same order is

pub lands_in_any_order : (ds : List Draft) (first : SlotRef) → is_apart ds first ≡ true → LandInAnyOrder ds first
lands_in_any_order ds first apart home mine regions domain queue index memory placed = order_is_free home mine regions domain queue index first ds memory placed apart
