-- The first block is found, one more is copied, and all are.
use Rattle.std.proofs.Common.{◌≡◌, ℕ, zero, suc, ◌+◌, ◌*◌, ◌<◌, ◌≤◌, ◌^◌, ◌⊎◌, inl, inr, List, [], ◌∷◌, ◌++◌, length, length-append, Some, None, Option, refl, sym, ap, ◌∙◌, subst, arith, get_or}
use Rattle.std.specs.Prelude.{option_map, slice_get, slice_index, sum_by, replicate, nat_lt, if◌then◌else◌, Bool, false}
use Rattle.std.proofs.lemmas.Bool.{cases_lt}
use Rattle.std.proofs.lemmas.Bool.Decides.{nat_tests}
use Rattle.std.proofs.lemmas.List.{length-map, length-replicate, get_or-replicate, get_or_past}
use Rattle.std.proofs.lemmas.List.Folds.{sum_by-replicate}
use Rattle.std.proofs.lemmas.List.Sums.{sum_by-cons}
use Rattle.std.proofs.lemmas.Option.{slice_get_within, get_or_from_slice_get, slice_get_cases, slice_get_past, slice_get-map}
use Rattle.redn_graph.specs.declared.types.Instr.{Instr}
use Rattle.redn_graph.specs.declared.types.End.{End}
use Rattle.redn_graph.specs.declared.types.End.TheVariants.{Jump, Test48, Test64, Probe, Reply}
use Rattle.redn_graph.specs.declared.types.Block.{Block}
use Rattle.redn_graph.specs.declared.types.Graph.{Graph}
use Rattle.redn_graph.specs.declared.reach.Found.{Found}
use Rattle.redn_graph.specs.Slots.{end_slots, code_slots, block_slots, all_slots}
use Rattle.redn_graph.specs.Reached.{CanGoTo, LeadsTo, renumbered, Was}
use Rattle.redn_graph.specs.Finding.{IsFound, More, Numbered, Renamed, TargetsThere, Kept, unseen, unseen_slots, slots_at, slots_in, was_at}
use Rattle.redn_graph.specs.Idle.{past_idle, passed}
use Rattle.redn_graph.proofs.Indexes.{slice_get_append_left, slice_get_append_at}
use Rattle.redn_graph.proofs.Finding.{unseen_one}
use Rattle.redn_graph.proofs.Reaching.{Walked, each_path, renumbered_same, was_still}

-- none was found
none_unseen : (n m : ℕ) (blocks : List Block) → length blocks ≡ m → unseen_slots n (replicate m n) blocks ≡ sum_by block_slots blocks
none_unseen n m [] e = subst (λ (k : ℕ). unseen_slots n (replicate k n) [] ≡ 0) e refl
none_unseen n zero (b ∷ blocks) e = absurd (omega arith)
none_unseen n (suc m) (b ∷ blocks) e =
    let no_less : nat_lt n n ≡ false = grind (arith, nat_tests) in
    let choose : Bool → ℕ = λ c. if c then 0 else block_slots b in
    omega (arith, ap choose no_less, none_unseen n m blocks (omega arith), sum_by-cons block_slots b blocks)

module _ (f : Found) (n : ℕ) (few : n < 2 ^ 32) (numbers : f.numbers.items ≡ replicate n n) (order : f.order.items ≡ []) where
  size_first : length f.numbers.items ≡ n
  size_first = ap length numbers ∙ length-replicate n n

  slots_first : (blocks : List Block) → length blocks ≡ n → slots_in blocks f ≡ all_slots blocks
  unfolding all_slots
  slots_first blocks e =
      omega (
        arith,
        ap (sum_by (slots_at blocks)) order,
        ap (λ (m : ℕ). unseen_slots m f.numbers.items blocks) size_first ∙ ap (λ (list : List ℕ). unseen_slots n list blocks) numbers ∙ none_unseen n n blocks e,
      )

  pub walked_first : (g : Graph) (now : Found) (l : ℕ) → length g.blocks ≡ n → IsFound now → Numbered f now g.entry l → Walked g now []
  walked_first g now l size found one =
      let within = slice_get_within now.order.items l g.entry one.there in
      let at : 0 ≡ l = one.own 0 (omega (arith, ap length order)) (omega (arith, within)) in
      record {
        found = found;
        size = one.more.same_count ∙ size_first ∙ sym size;
        done = omega arith;
        first = ap (slice_get now.order.items) at ∙ one.there;
        was = λ k b h. absurd (omega (arith, slice_get_within [] k b h));
        targets = λ k b h. absurd (omega (arith, slice_get_within [] k b h));
        led = λ k low lt. absurd (omega (arith, at, low, one.own k (omega (arith, ap length order)) lt));
        all = one.more.slots g.blocks (size ∙ sym size_first) ∙ slots_first g.blocks size;
      }

some_none : {b : Block} → Some b ≡ None → ⊥
some_none e = cc

some_is : {a b : Block} → Some a ≡ Some b → a ≡ b
some_is e = cc

-- some position of a longer list
one_block_longer : (blocks : List Block) (b : Block) (k : ℕ) (x : Block) → slice_get (blocks ++ b ∷ []) k ≡ Some x → (slice_get blocks k ≡ Some x) ⊎ ((k ≡ length blocks) × (b ≡ x))
one_block_longer blocks b k x h =
    elim (cases_lt k (length blocks)) [
      | inl lt ↦ inl (sym (slice_get_append_left blocks (b ∷ []) k lt) ∙ h)
      | inr ge ↦
          let within = slice_get_within (blocks ++ b ∷ []) k x h in
          let at : k ≡ length blocks = omega (arith, ge, within, length-append blocks (b ∷ [])) in
          inr (at, some_is (sym (slice_get_append_at blocks b) ∙ ap (slice_get (blocks ++ b ∷ [])) (sym at) ∙ h))
    ]

module _ (g : Graph) (f new : Found) (blocks : List Block) (w : Walked g f blocks) (t : ℕ) (old now : Block) (at : slice_get f.order.items (length blocks) ≡ Some t) (there : slice_get g.blocks t ≡ Some old)
    (found : IsFound new) (r : Renamed f new old.end now.end) (instrs : old.instrs ≡ now.instrs) where
  abbrev all : List Block
  all = blocks ++ now ∷ []

  was_then : (k : ℕ) (b : Block) → slice_get all k ≡ Some b → Was g.blocks (was_at new) k b
  was_then k b h =
      elim (one_block_longer blocks now k b h) [
        | inl before ↦
            let was = w.was k b before in
            let lt : k < length f.order.items = omega (arith, slice_get_within blocks k b before, w.done) in
            record {
              block = was.block;
              there = ap (slice_get g.blocks) (sym (was_still f new k r.more lt)) ∙ was.there;
              instrs = was.instrs;
              end = was.end ∙ renumbered_same (was_at f) (was_at new) b.end (λ l is. was_still f new l r.more (w.targets k b before l is));
            }
        | inr own ↦
            let place : was_at new k ≡ t = ap (was_at new) own.0 ∙ get_or_from_slice_get new.order.items (length blocks) t (length new.numbers.items) (r.more.kept (length blocks) t at) in
            subst (λ (x : Block). Was g.blocks (was_at new) k x) own.1 (record { block = old; there = ap (slice_get g.blocks) place ∙ there; instrs = instrs; end = r.same })
      ]

  targets_then : (k : ℕ) (b : Block) → slice_get all k ≡ Some b → TargetsThere (length new.order.items) b.end
  targets_then k b h l is =
      elim (one_block_longer blocks now k b h) [
        | inl before ↦ omega (arith, w.targets k b before l is, r.more.longer)
        | inr own ↦ r.within l (subst (λ (x : Block). CanGoTo x.end l) (sym own.1) is)
      ]

  led_then : (k : ℕ) → 1 ≤ k → k < length new.order.items → (i : ℕ) × (i < k) × LeadsTo all i k
  led_then k low high =
      elim (cases_lt k (length f.order.items)) [
        | inl lt ↦
            let x = w.led k low lt in
            let leads = x.2 in
            (x.0, x.1, record { block = leads.block; there = slice_get_append_left blocks (now ∷ []) x.0 (slice_get_within blocks x.0 leads.block leads.there) ∙ leads.there; target = leads.target })
        | inr ge ↦ (length blocks, omega (arith, ge, slice_get_within f.order.items (length blocks) t at), record { block = now; there = slice_get_append_at blocks now; target = r.own k ge high })
      ]

  pub walked_then : Walked g new all
  walked_then = record {
    found = found;
    size = r.more.same_count ∙ w.size;
    done = omega (arith, slice_get_within f.order.items (length blocks) t at, r.more.longer, length-append blocks (now ∷ []));
    first = r.more.kept 0 g.entry w.first;
    was = was_then;
    targets = targets_then;
    led = led_then;
    all = r.more.slots g.blocks (sym w.size) ∙ w.all;
  }

-- a block takes as many slots under other numbers
end_same : (f : ℕ → ℕ) (end : End) → end_slots (renumbered f end) ≡ end_slots end
end_same f (Jump to) = refl
end_same f (Test48 left right met unmet) = refl
end_same f (Test64 left right met unmet) = refl
end_same f (Probe to table offset key hit miss) = refl
end_same f (Reply words) = refl

pub was_slots : (old : List Block) (f : ℕ → ℕ) (k : ℕ) (b : Block) → (was : Was old f k b) → block_slots was.block ≡ block_slots b
unfolding block_slots
was_slots old f k b was =
    ap (λ (list : List Instr). code_slots list was.block.end) was.instrs ∙ ap (code_slots b.instrs) was.end ∙ ap (λ (n : ℕ). sum_by (λ i. Rattle.redn_graph.specs.Slots.instr_slots i) b.instrs + n) (end_same f b.end)

sums_same : (old : List Block) (order : List ℕ) (blocks : List Block) → length order ≡ length blocks → ((k t : ℕ) (b : Block) → slice_get order k ≡ Some t → slice_get blocks k ≡ Some b → slots_at old t ≡ block_slots b) → sum_by (slots_at old) order ≡ sum_by block_slots blocks
sums_same old [] [] e same = refl
sums_same old [] (b ∷ blocks) e same = absurd (omega arith)
sums_same old (t ∷ order) [] e same = absurd (omega arith)
sums_same old (t ∷ order) (b ∷ blocks) e same =
    omega (arith, sum_by-cons (slots_at old) t order, sum_by-cons block_slots b blocks, same 0 t b refl refl, sums_same old order blocks (omega arith) (λ k u c one two. same (suc k) u c one two))

module _ (g : Graph) (f : Found) (blocks : List Block) (w : Walked g f blocks) (whole : length f.order.items ≤ length blocks) where
  same_count : length f.order.items ≡ length blocks
  same_count = omega (arith, w.done, whole)

  kept_slots : all_slots blocks ≤ all_slots g.blocks
  unfolding all_slots
  kept_slots =
      let sums = sums_same g.blocks f.order.items blocks same_count (λ k t b one two.
      let was = w.was k b two in
      let place : was_at f k ≡ t = get_or_from_slice_get f.order.items k t (length f.numbers.items) one in
      ap (λ (o : Option Block). Rattle.redn_graph.specs.Finding.slots_or_none o) (ap (slice_get g.blocks) (sym place) ∙ was.there) ∙ was_slots g.blocks (was_at f) k b was) in
      omega (arith, sums, w.all)

  at_zero : was_at f 0 ≡ g.entry
  at_zero = get_or_from_slice_get f.order.items 0 g.entry (length f.numbers.items) w.first

  past_all : (k : ℕ) → slice_get blocks k ≡ None → slice_get g.blocks (was_at f k) ≡ None
  past_all k none =
      elim (slice_get_cases blocks k).1 [
        | inl there ↦ absurd (some_none (sym there.2 ∙ none))
        | inr past ↦
            let far : was_at f k ≡ length f.numbers.items = get_or_past f.order.items k (length f.numbers.items) (omega (arith, past.0, same_count)) in
            ap (slice_get g.blocks) far ∙ slice_get_past g.blocks (length f.numbers.items) (omega (arith, w.size))
      ]

  pub kept_all : Kept g (record { blocks = blocks; entry = 0; hidden = g.hidden })
  kept_all = record {
    at = was_at f;
    was = w.was;
    past = past_all;
    entry = at_zero;
    there = omega (arith, slice_get_within f.order.items 0 g.entry w.first, same_count);
    targets = λ k b there l is. omega (arith, w.targets k b there l is, same_count);
    reached = λ l lt. each_path blocks (length f.order.items) w.led l (omega (arith, lt, same_count));
    slots = kept_slots;
    hidden = refl;
  }

pub length_passed : (g : Graph) → length (passed g).blocks ≡ length g.blocks
length_passed g = length-map g.blocks (λ (b : Block). record b { end = renumbered (past_idle g.blocks) b.end })

-- a block, and the same as it leads past those that do nothing
pub passed_at : (g : Graph) (t : ℕ) (b : Block) → slice_get g.blocks t ≡ Some b → slice_get (passed g).blocks t ≡ Some (record b { end = renumbered (past_idle g.blocks) b.end })
passed_at g t b there =
    let past : Block → Block = λ b. record b { end = renumbered (past_idle g.blocks) b.end } in
    slice_get-map past g.blocks t ∙ ap (option_map past) there
