-- A block is found, or is known already.
use Rattle.std.proofs.Common.{◌≡◌, ◌≢◌, ℕ, zero, suc, ◌+◌, ◌<◌, ◌≤◌, ◌⊎◌, inl, inr, Bool, true, false, if◌then◌else◌, List, [], ◌∷◌, ◌++◌, length, length-append, get_or, set, Some, refl, sym, ap, ◌∙◌, arith, nat_lt}
use Rattle.std.specs.Prelude.{slice_get, sum_by, slice_index}
use Rattle.std.proofs.lemmas.Bool.{cases_lt}
use Rattle.std.proofs.lemmas.Bool.Decides.{nat_tests}
use Rattle.std.proofs.Math.Nat.{eq-or-lt_of_le}
use Rattle.std.proofs.lemmas.List.{length-set, get_or-set_same, get_or-set_other}
use Rattle.std.proofs.lemmas.List.Sums.{sum_by-set, sum_by-append, sum_by-cons}
use Rattle.std.proofs.lemmas.Option.{slice_get_within, get_or_from_slice_get}
use Rattle.redn_graph.specs.declared.types.End.{End}
use Rattle.redn_graph.specs.declared.types.End.TheVariants as e
use Rattle.redn_graph.specs.declared.types.Block.{Block}
use Rattle.redn_graph.specs.declared.reach.Found.{Found}
use Rattle.redn_kernel.specs.declared.types.Cell.{Cell}
use Rattle.redn_graph.specs.Slots.{block_slots}
use Rattle.redn_graph.specs.Reached.{CanGoTo, renumbered}
use Rattle.redn_graph.specs.Words.{test_end}
use Rattle.redn_graph.specs.Finding.{unseen, IsFound, unseen_slots, slots_at, slots_in, More, Numbered, Renamed, was_at}
use Rattle.redn_graph.proofs.Indexes.{slice_get_append_left, slice_get_append_at}

pub more_then : {a b c : Found} → More a b → More b c → More a c
more_then m n = record {
  same_count = n.same_count ∙ m.same_count;
  longer = omega (arith, m.longer, n.longer);
  kept = λ k t h. n.kept k t (m.kept k t h);
  slots = λ blocks h. n.slots blocks (h ∙ sym m.same_count) ∙ m.slots blocks h;
}

pub unseen_one : (n v : ℕ) → n ≤ v → unseen n v ≡ 1
unseen_one n v h = let no_less : nat_lt v n ≡ false = grind (arith, nat_tests) in ap (λ (b : Bool). if b then 0 else 1) no_less

unseen_none : (n v : ℕ) → v < n → unseen n v ≡ 0
unseen_none n v h = let less : nat_lt v n ≡ true = grind (arith, nat_tests) in ap (λ (b : Bool). if b then 0 else 1) less

-- the slots of a block that is found leave those that weren't
slots_found : (n : ℕ) (numbers : List ℕ) (blocks : List Block) (t v : ℕ) → length blocks ≡ length numbers → t < length numbers → n ≤ get_or numbers t 0 → v < n → unseen_slots n (set numbers t v) blocks + slots_at blocks t ≡ unseen_slots n numbers blocks
slots_found n [] blocks t v size lt old new = absurd (omega arith)
slots_found n (w ∷ numbers) [] t v size lt old new = absurd (omega (arith, size))
slots_found n (w ∷ numbers) (b ∷ blocks) zero v size lt old new =
    let less : nat_lt v n ≡ true = grind (arith, nat_tests) in
    let no_less : nat_lt w n ≡ false = grind (arith, nat_tests) in
    let choose : Bool → ℕ = λ c. if c then 0 else block_slots b in
    omega (arith, ap choose less, ap choose no_less)
slots_found n (w ∷ numbers) (b ∷ blocks) (suc t) v size lt old new =
    let h = slots_found n numbers blocks t v (omega (arith, size)) (omega (arith, lt)) old new in
    omega (arith, h)

-- some position of a longer list
one_longer : (order : List ℕ) (t k u : ℕ) → slice_get (order ++ t ∷ []) k ≡ Some u → (slice_get order k ≡ Some u) ⊎ ((k ≡ length order) × (u ≡ t))
one_longer order t k u h =
    elim (cases_lt k (length order)) [
      | inl lt ↦ inl (sym (slice_get_append_left order (t ∷ []) k lt) ∙ h)
      | inr ge ↦
          let within = slice_get_within (order ++ t ∷ []) k u h in
          let at : k ≡ length order = omega (arith, ge, within, length-append order (t ∷ [])) in
          inr (at, some_is (sym h ∙ ap (slice_get (order ++ t ∷ [])) at ∙ slice_get_append_at order t))
    ]
  where
    some_is : {a b : ℕ} → Some a ≡ Some b → a ≡ b
    some_is e = cc

pub cases_eq : (a b : ℕ) → (a ≡ b) ⊎ (a ≢ b)
cases_eq a b =
    elim (cases_lt a b) [
      | inl lt ↦ inr (λ e. omega (arith, lt, e))
      | inr ge ↦ elim (eq-or-lt_of_le ge) [ inl e ↦ inl (sym e) | inr gt ↦ inr (λ e. omega (arith, gt, e)) ]
    ]

-- a new block
module _ (f g : Found) (block number : ℕ) (found : IsFound f) (there : block < length f.numbers.items) (fresh : length f.numbers.items ≤ slice_index f.numbers.items block)
    (numbers : g.numbers.items ≡ set f.numbers.items block (length f.order.items)) (order : g.order.items ≡ f.order.items ++ block ∷ []) where
  abbrev n : ℕ
  n = length f.numbers.items

  abbrev new_numbers : List ℕ
  new_numbers = set f.numbers.items block (length f.order.items)

  abbrev new_order : List ℕ
  new_order = f.order.items ++ block ∷ []

  same_size : length g.numbers.items ≡ n
  same_size = ap length numbers ∙ length-set f.numbers.items block (length f.order.items)

  less_unseen : sum_by (unseen n) new_numbers + 1 ≡ sum_by (unseen n) f.numbers.items + unseen n (length f.order.items)
  less_unseen = omega (arith, sum_by-set (unseen n) f.numbers.items block (length f.order.items) 0 there, unseen_one n (get_or f.numbers.items block 0) fresh)

  some_unseen : 1 ≤ sum_by (unseen n) f.numbers.items
  some_unseen = omega (arith, there, sum_by-set (unseen n) f.numbers.items block 0 0 there, unseen_one n (get_or f.numbers.items block 0) fresh, unseen_none n 0 (omega (arith, there)))

  -- the next number is below that of all blocks
  pub below : length f.order.items < n
  below = omega (arith, found.counted, some_unseen)

  counts : length new_order + sum_by (unseen n) new_numbers ≡ n
  counts = omega (arith, found.counted, less_unseen, unseen_none n (length f.order.items) below, length-append f.order.items (block ∷ []))

  at_new : (t : ℕ) → t < n → get_or new_numbers t 0 < n → slice_get new_order (get_or new_numbers t 0) ≡ Some t
  at_new t lt seen =
      elim (cases_eq t block) [
        | inl is ↦
            let v : get_or new_numbers t 0 ≡ length f.order.items = ap (λ (i : ℕ). get_or new_numbers i 0) is ∙ get_or-set_same f.numbers.items block (length f.order.items) 0 there in
            ap (slice_get new_order) v ∙ slice_get_append_at f.order.items block ∙ ap Some (sym is)
        | inr other ↦
            let v : get_or new_numbers t 0 ≡ get_or f.numbers.items t 0 = get_or-set_other f.numbers.items block t (length f.order.items) 0 other in
            let old = found.back t lt (omega (arith, v, seen)) in
            ap (slice_get new_order) v ∙ slice_get_append_left f.order.items (block ∷ []) (get_or f.numbers.items t 0) (slice_get_within f.order.items _ t old) ∙ old
      ]

  pub found_new : IsFound g
  found_new = record {
    few = omega (arith, same_size, found.few);
    back = λ t lt seen.
        let value : get_or g.numbers.items t 0 ≡ get_or new_numbers t 0 = ap (λ (list : List ℕ). get_or list t 0) numbers in
        ap (λ (list : List ℕ). slice_get list (get_or g.numbers.items t 0)) order ∙ ap (slice_get new_order) value ∙ at_new t (omega (arith, same_size, lt)) (omega (arith, same_size, seen, value));
    within = λ k t h. elim (one_longer f.order.items block k t (sym (ap (λ (list : List ℕ). slice_get list k) order) ∙ h)) [ inl old ↦ omega (arith, same_size, found.within k t old) | inr at ↦ omega (arith, same_size, at.1, there) ];
    counted = omega (arith, counts, ap length order, same_size, ap (λ (m : ℕ). sum_by (unseen m) g.numbers.items) same_size ∙ ap (sum_by (unseen n)) numbers);
  }

  slots_same : (blocks : List Block) → length blocks ≡ n → slots_in blocks g ≡ slots_in blocks f
  slots_same blocks size =
      let found_slots = slots_found n f.numbers.items blocks block (length f.order.items) size there fresh below in
      let split = sum_by-append (slots_at blocks) f.order.items (block ∷ []) in
      let one = sum_by-cons (slots_at blocks) block [] in
      omega (arith, found_slots, split, one, ap (sum_by (slots_at blocks)) order, ap (λ (m : ℕ). unseen_slots m g.numbers.items blocks) same_size ∙ ap (λ (list : List ℕ). unseen_slots n list blocks) numbers)

  pub numbered_new : Numbered f g block (length f.order.items)
  numbered_new = record {
    more = record {
      same_count = same_size;
      longer = omega (arith, ap length order, length-append f.order.items (block ∷ []));
      kept = λ k t h. ap (λ (list : List ℕ). slice_get list k) order ∙ slice_get_append_left f.order.items (block ∷ []) k (slice_get_within f.order.items k t h) ∙ h;
      slots = slots_same;
    };
    there = ap (λ (list : List ℕ). slice_get list (length f.order.items)) order ∙ slice_get_append_at f.order.items block;
    own = λ k low high. omega (arith, low, high, ap length order, length-append f.order.items (block ∷ []));
  }

-- an end of one target
pub renamed_one : (old new : Found) (t a : ℕ) → Numbered old new t a → IsFound new → Renamed old new (e.Jump t) (e.Jump a)
renamed_one old new t a one found = record {
  more = one.more;
  same = ap e.Jump (sym (get_or_from_slice_get new.order.items a t (length new.numbers.items) one.there));
  within = λ l is. omega (arith, is, slice_get_within new.order.items a t one.there);
  own = one.own;
}

-- of two
pub renamed_two : (old mid new : Found) (t u a b : ℕ) (end : ℕ → ℕ → End) → ((f : ℕ → ℕ) (i j : ℕ) → renumbered f (end i j) ≡ end (f i) (f j)) → ((i j l : ℕ) → CanGoTo (end i j) l → (l ≡ i) ⊎ (l ≡ j)) → ((i j l : ℕ) → ((l ≡ i) ⊎ (l ≡ j)) → CanGoTo (end i j) l) →
    Numbered old mid t a → Numbered mid new u b → Renamed old new (end t u) (end a b)
renamed_two old mid new t u a b end renumbers targets is_target one two =
    let at_a = two.more.kept a t one.there in
    let was_a = get_or_from_slice_get new.order.items a t (length new.numbers.items) at_a in
    let was_b = get_or_from_slice_get new.order.items b u (length new.numbers.items) two.there in
    record {
      more = more_then one.more two.more;
      same = sym (renumbers (was_at new) a b ∙ ap (λ (i : ℕ). end i (was_at new b)) was_a ∙ ap (end t) was_b);
      within = λ l is. elim (targets a b l is) [
        | inl at ↦ omega (arith, at, slice_get_within new.order.items a t at_a)
        | inr at ↦ omega (arith, at, slice_get_within new.order.items b u two.there)
      ];
      own = λ k low high. elim (cases_lt k (length mid.order.items)) [
        | inl lt ↦ is_target a b k (inl (one.own k low lt))
        | inr ge ↦ is_target a b k (inr (two.own k ge high))
      ];
    }

-- a test
test_renumbered : (wide : Bool) (left right : Cell) (f : ℕ → ℕ) (i j : ℕ) → renumbered f (test_end wide left right i j) ≡ test_end wide left right (f i) (f j)
test_renumbered true left right f i j = refl
test_renumbered false left right f i j = refl

test_targets : (wide : Bool) (left right : Cell) (i j l : ℕ) → CanGoTo (test_end wide left right i j) l → (l ≡ i) ⊎ (l ≡ j)
test_targets true left right i j l h = h
test_targets false left right i j l h = h

targets_test : (wide : Bool) (left right : Cell) (i j l : ℕ) → ((l ≡ i) ⊎ (l ≡ j)) → CanGoTo (test_end wide left right i j) l
targets_test true left right i j l h = h
targets_test false left right i j l h = h

pub renamed_test : (old mid new : Found) (wide : Bool) (left right : Cell) (t u a b : ℕ) → Numbered old mid t a → Numbered mid new u b → Renamed old new (test_end wide left right t u) (test_end wide left right a b)
renamed_test old mid new wide left right t u a b one two =
    renamed_two old mid new t u a b (test_end wide left right) (test_renumbered wide left right) (test_targets wide left right) (targets_test wide left right) one two
