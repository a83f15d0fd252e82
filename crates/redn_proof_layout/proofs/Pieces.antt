-- What laps ask of drafts, part by part and for a whole block.
use Rattle.std.proofs.Common.{◌≡◌, ℕ, ◌+◌, ◌<◌, ◌≤◌, inl, inr, Bool, true, false, not, ◌&&◌, ◌||◌, ◌==◌, List, ◌++◌, length, refl, sym, ap, ◌∙◌, subst, arith, length-append}
use Rattle.std.specs.Prelude.{nat_le, nat_lt}
use Rattle.std.specs.List.{list_all}
use Rattle.std.proofs.lemmas.Bool.{and_parts, and_from, or_cases, eqb-true, eq-eqb, leb-true, ltb-true, le-leb, lt-ltb, false_from_ne_true as none_if}
use Rattle.std.proofs.lemmas.Option.{slice_get_within}
use Rattle.redn_segment.specs.declared.types.SlotRef.{SlotRef}
use Rattle.redn_segment.specs.declared.types.Space.{Space}
use Rattle.redn_segment.specs.declared.types.Space.TheVariants as space
use Rattle.redn_segment.specs.Sites.{space_of}
use Rattle.redn_segment.specs.declared.types.Side.{Side}
use Rattle.redn_segment.specs.declared.types.Draft.{Draft}
use Rattle.redn_segment.specs.Building.{drafts_of}
use Rattle.redn_segment.specs.Plain.{Bytes, View}
use Rattle.redn_segment.specs.Primed.{writes_slot}
use Rattle.redn_segment.specs.Effects.{Effect, slot_behind, is_own}
use Rattle.redn_segment.specs.Footprints.{both_sides, segments_apart}
use Rattle.redn_segment.specs.Parts.{WritesWithin}
use Rattle.redn_segment.specs.Templates.{one_event}
use Rattle.redn_segment.specs.Renaming.{moved}
use Rattle.redn_segment.proofs.Moving.{own, in_place}
use Rattle.redn_segment.proofs.ApartMoved.{segments_moved}
use Rattle.redn_segment.proofs.Growing.{drafts_append, apart_append, behind_twice}
use Rattle.redn_segment.proofs.Appending.{IsTemplate}
use Rattle.redn_block.specs.Blocks.{slots_from}
use Rattle.redn_proof_ring.specs.Apart.{leaves_scratch, has_flat_local}
use Rattle.redn_proof_ring.specs.Layouts.{leaves_descriptors}
use Rattle.redn_proof_ring.proofs.LapSteps.{slice_get_append}
use Rattle.redn_proof_layout.proofs.Fields.{keeps_fixed, KeepsFixed, keeps_each, low_or_operand, is_low, is_operand, all_sides, keeps_moved, lows_moved}
use Rattle.redn_segment.proofs.Composing.{writes_both}
use Rattle.redn_segment.proofs.Both.{all_append as all_of_both}

-- no table at a local side, no scratch word of lap requests, and no descriptor written
abbrev pub is_plain : Draft → Bool
is_plain d = has_flat_local d && (both_sides leaves_scratch d && leaves_descriptors d)

-- drafts from a slot on, and how many slots behind them they write
pub record Fine (at : SlotRef) (more : ℕ) (segs : List (List Draft)) : Type 0 where
  pub apart : segments_apart at segs ≡ true
  pub events : list_all one_event segs ≡ true
  pub plain : list_all is_plain (drafts_of segs) ≡ true
  pub within : WritesWithin at (length (drafts_of segs) + more) (drafts_of segs)
  pub fixed : KeepsFixed at (drafts_of segs) (drafts_of segs)
  pub low : list_all (both_sides (low_or_operand (at.slot + length (drafts_of segs)))) (drafts_of segs) ≡ true

-- a template stands so anywhere
module _ (template : (ℕ → SlotRef) → List (List Draft)) (effect : (ℕ → SlotRef) → View → Bytes → Effect) (segments drafts more : ℕ) (is : IsTemplate template effect segments drafts more) where
  pub template_fine : (at : SlotRef) → WritesWithin at (length (drafts_of (template (slots_from at))) + more) (drafts_of (template (slots_from at))) → keeps_fixed (own 0) (drafts_of (template own)) (drafts_of (template own)) ≡ true → list_all (both_sides (low_or_operand drafts)) (drafts_of (template own)) ≡ true → list_all is_plain (drafts_of (template (slots_from at))) ≡ true → Fine at more (template (slots_from at))
  template_fine at within fixed low plain =
      let ring : ℕ = at.ring in
      let first : ℕ = at.slot in
      let there : SlotRef → SlotRef = moved ring first in
      let apart_there : segments_apart (there (own 0)) (template (λ (k : ℕ). there (own k))) ≡ true = ap (segments_apart (there (own 0))) (sym (is.renames_segments ring first)) ∙ (segments_moved ring first (template own) (own 0) ∙ is.apart) in
      let fixed_there : keeps_fixed (there (own 0)) (drafts_of (template (λ (k : ℕ). there (own k)))) (drafts_of (template (λ (k : ℕ). there (own k)))) ≡ true = ap (λ (l : List Draft). keeps_fixed (there (own 0)) l l) (sym (is.renames ring first)) ∙ (keeps_moved ring first (own 0) (drafts_of (template own)) (drafts_of (template own)) ∙ fixed) in
      let low_there : list_all (both_sides (low_or_operand (first + drafts))) (drafts_of (template (λ (k : ℕ). there (own k)))) ≡ true = ap (list_all (both_sides (low_or_operand (first + drafts)))) (sym (is.renames ring first)) ∙ (lows_moved ring first drafts (drafts_of (template own)) ∙ low) in
      let fixed_here : keeps_fixed at (drafts_of (template (slots_from at))) (drafts_of (template (slots_from at))) ≡ true = in_place ring first (λ (q : SlotRef) (slot : ℕ → SlotRef). keeps_fixed q (drafts_of (template slot)) (drafts_of (template slot)) ≡ true) fixed_there in
      record {
        apart = in_place ring first (λ (q : SlotRef) (slot : ℕ → SlotRef). segments_apart q (template slot) ≡ true) apart_there;
        events = is.one_event (slots_from at);
        plain = plain;
        within = within;
        fixed = keeps_each at (drafts_of (template (slots_from at))) (drafts_of (template (slots_from at))) fixed_here;
        low = subst (λ (n : ℕ). list_all (both_sides (low_or_operand (first + n))) (drafts_of (template (slots_from at))) ≡ true) (sym (is.drafts_are (slots_from at))) (in_place ring first (λ (q : SlotRef) (slot : ℕ → SlotRef). list_all (both_sides (low_or_operand (first + drafts))) (drafts_of (template slot)) ≡ true) low_there);
      }

pub record OwnSlot (at : SlotRef) (n : ℕ) (q : SlotRef) : Type 0 where
  pub ring_is : q.ring ≡ at.ring
  pub above : at.slot ≤ q.slot
  pub below : q.slot < at.slot + n

pub own_slot : (at : SlotRef) (n : ℕ) (q : SlotRef) → is_own at n (space.Slot q) ≡ true → OwnSlot at n q
own_slot at n q h =
    let parts = and_parts (q.ring == at.ring) (nat_le at.slot q.slot && nat_lt q.slot (at.slot + n)) h in
    let more = and_parts (nat_le at.slot q.slot) (nat_lt q.slot (at.slot + n)) parts.1 in
    record { ring_is = eqb-true q.ring at.ring parts.0; above = leb-true at.slot q.slot more.0; below = ltb-true q.slot (at.slot + n) more.1 }

is_own_slot : (at : SlotRef) (n : ℕ) (q : SlotRef) → OwnSlot at n q → is_own at n (space.Slot q) ≡ true
is_own_slot at n q o =
    and_from (q.ring == at.ring) (nat_le at.slot q.slot && nat_lt q.slot (at.slot + n)) (eq-eqb q.ring at.ring o.ring_is) (and_from (nat_le at.slot q.slot) (nat_lt q.slot (at.slot + n)) (le-leb at.slot q.slot o.above) (lt-ltb q.slot (at.slot + n) o.below))

low_more : (m n : ℕ) → m ≤ n → (a : Side) → low_or_operand m a ≡ true → low_or_operand n a ≡ true
low_more m n l a h = by_test a.writes (is_low m (space_of a.site)) (is_low n (space_of a.site)) (is_operand a) (space_more (space_of a.site)) h
  where
    space_more : (p : Space) → is_low m p ≡ true → is_low n p ≡ true
    space_more (space.Slot q) h = let below = ltb-true q.slot m h in lt-ltb q.slot n (omega (arith, below, l))
    space_more (space.Cell c) h = refl
    space_more space.Reply h = refl
    space_more space.Key h = refl
    space_more (space.Scratch i) h = refl
    space_more (space.Descriptor i) h = refl
    space_more (space.Table t) h = refl

    by_test : (w x y o : Bool) → (x ≡ true → y ≡ true) → (not w || (x || o)) ≡ true → (not w || (y || o)) ≡ true
    by_test false x y o f h = refl
    by_test true true y o f h = let g = f refl in rw g refl
    by_test true false true o f h = refl
    by_test true false false o f h = h

module _ (at : SlotRef) (more : ℕ) (xs ys : List (List Draft)) (one : Fine at 0 xs) (other : Fine (slot_behind at (length (drafts_of xs))) more ys) where
  abbrev there : SlotRef
  there = slot_behind at (length (drafts_of xs))

  abbrev ds : List Draft
  ds = drafts_of xs

  abbrev es : List Draft
  es = drafts_of ys

  both_within : WritesWithin at (length (ds ++ es) + more) (ds ++ es)
  both_within q i h =
      let all = length-append ds es in
      elim (or_cases (writes_slot ds q i) (writes_slot es q i) (sym (writes_both ds es q i) ∙ h)) [
        | inl first ↦ let o = own_slot at (length ds + 0) q (one.within q i first) in let a = o.above in let b = o.below in is_own_slot at _ q (record { ring_is = o.ring_is; above = a; below = omega (arith, b, all) })
        | inr second ↦ let o = own_slot there (length es + more) q (other.within q i second) in let a = o.above in let b = o.below in is_own_slot at _ q (record { ring_is = o.ring_is; above = omega (arith, a); below = omega (arith, b, all) })
      ]

  both_fixed : KeepsFixed at (ds ++ es) (ds ++ es)
  both_fixed k d e i fixed =
      elim (slice_get_append ds es k d e) [
        | inl mine ↦
            let low = slice_get_within ds k d mine in
            let first = one.fixed k d mine i fixed in
            let second : writes_slot es (slot_behind at k) i ≡ false = none_if (writes_slot es (slot_behind at k) i) (λ h. let o = own_slot there (length es + more) (slot_behind at k) (other.within (slot_behind at k) i h) in let a = o.above in omega (arith, a, low)) in
            writes_both ds es (slot_behind at k) i ∙ neither (writes_slot ds (slot_behind at k) i) (writes_slot es (slot_behind at k) i) first second
        | inr its ↦
            let j : ℕ = its.0 in
            let place = its.1 in
            let same : slot_behind there j ≡ slot_behind at k = behind_twice at (length ds) j ∙ ap (slot_behind at) (sym place) in
            let second : writes_slot es (slot_behind at k) i ≡ false = ap (λ (q : SlotRef). writes_slot es q i) (sym same) ∙ other.fixed j d its.2 i fixed in
            let first : writes_slot ds (slot_behind at k) i ≡ false = none_if (writes_slot ds (slot_behind at k) i) (λ h. let o = own_slot at (length ds + 0) (slot_behind at k) (one.within (slot_behind at k) i h) in let b = o.below in omega (arith, b, place)) in
            writes_both ds es (slot_behind at k) i ∙ neither (writes_slot ds (slot_behind at k) i) (writes_slot es (slot_behind at k) i) first second
      ]
    where
      neither : (a b : Bool) → a ≡ false → b ≡ false → (a || b) ≡ false
      neither a b x y = rw (x, y) refl

  both_low : list_all (both_sides (low_or_operand (at.slot + length (ds ++ es)))) (ds ++ es) ≡ true
  both_low =
      let all = length-append ds es in
      let n : ℕ = at.slot + length (ds ++ es) in
      all_of_both (both_sides (low_or_operand n)) ds es (all_sides (low_or_operand (at.slot + length ds)) (low_or_operand n) ds (low_more (at.slot + length ds) n (omega (arith, all))) one.low) (all_sides (low_or_operand ((at.slot + length ds) + length es)) (low_or_operand n) es (low_more ((at.slot + length ds) + length es) n (omega (arith, all))) other.low)

  pub both_fine : Fine at more (xs ++ ys)
  both_fine =
      let same : drafts_of (xs ++ ys) ≡ ds ++ es = drafts_append xs ys in
      record {
        apart = apart_append at xs ys ∙ and_from (segments_apart at xs) (segments_apart there ys) one.apart other.apart;
        events = all_of_both one_event xs ys one.events other.events;
        plain = ap (list_all is_plain) same ∙ all_of_both is_plain ds es one.plain other.plain;
        within = subst (λ (l : List Draft). WritesWithin at (length l + more) l) (sym same) both_within;
        fixed = subst (λ (l : List Draft). KeepsFixed at l l) (sym same) both_fixed;
        low = subst (λ (l : List Draft). list_all (both_sides (low_or_operand (at.slot + length l))) l ≡ true) (sym same) both_low;
      }
