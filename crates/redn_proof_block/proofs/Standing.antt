-- What parts leave standing.
use Rattle.std.proofs.Common.{◌≡◌, ℕ, ◌+◌, false, List, [], ◌∷◌, ◌++◌, length, refl, sym, ap, ◌∙◌, subst, arith}
use Rattle.std.specs.Prelude.{slice_index}
use Rattle.std.proofs.lemmas.Bool.{false_from_ne_true}
use Rattle.redn_segment.specs.declared.types.SlotRef.{SlotRef}
use Rattle.redn_segment.specs.declared.types.Space.TheVariants as space
use Rattle.redn_segment.specs.declared.types.Draft.{Draft}
use Rattle.redn_segment.specs.Sites.{next_slot}
use Rattle.redn_segment.specs.Plain.{Bytes, View, Put, placed}
use Rattle.redn_segment.specs.Primed.{IsPrimed, Primed, IsBytes, IsWhole, writes_slot}
use Rattle.redn_segment.specs.Effects.{Effect, IsLeft, is_own, slot_behind}
use Rattle.redn_segment.specs.Parts.{IsPart}
use Rattle.redn_segment.proofs.Composing.{Owns, lies_from, primed_behind, primed_first, writes_both, primed_by}

-- the second of two parts is primed where both are
module _ (at : SlotRef) (ds es : List Draft) (more : ℕ) (first second : View → Bytes → Effect) (p : IsPart at ds 0 first) (r : IsPart (slot_behind at (length ds)) es more second) where
  unwritten : (q : SlotRef) (i : ℕ) → Owns (slot_behind at (length ds)) (length es) q → writes_slot ds q i ≡ false
  unwritten q i o =
      false_from_ne_true (writes_slot ds q i) (λ w.
      let mine = lies_from at (length ds + 0) q (p.within q i w) in
      let other = lies_from (slot_behind at (length ds)) (length es) q o in
      let high = mine.2 in
      let low = other.1 in
      omega arith)

  pub primed_second : (s : Bytes) → Primed (ds ++ es) at (ds ++ es) s → Primed es (slot_behind at (length ds)) es s
  primed_second s primed =
      primed_by (ds ++ es) es es (slot_behind at (length ds)) s (λ q i o h. let other = unwritten q i o in writes_both ds es q i ∙ rw (h, other) refl) (primed_behind (ds ++ es) ds es at s primed)

  pub primed_both : (s : Bytes) → Primed (ds ++ es) at (ds ++ es) s → Primed ds at ds s
  primed_both s primed = primed_first at ds es more first second p r s primed

-- slots stay primed where nothing else is written
pub primed_kept : (all es : List Draft) (at : SlotRef) (s t : Bytes) → ((q : SlotRef) → length (s (space.Slot q)) ≡ 64 → (length (t (space.Slot q)) ≡ 64) × ((i : ℕ) → writes_slot all q i ≡ false → slice_index (t (space.Slot q)) i ≡ slice_index (s (space.Slot q)) i)) → Primed all at es s → Primed all at es t
primed_kept all [] at s t h p = (h at p).0
primed_kept all (d ∷ es) at s t h p =
    let same = h at p.0.len in
    let one : IsPrimed (writes_slot all at) d (t (space.Slot at)) = record { len = same.0; bytes = λ i small says_it untouched. same.1 i untouched ∙ p.0.bytes i small says_it untouched } in
    (one, primed_kept all es (next_slot at) s t h p.1)

-- what a part leaves
module _ (at : SlotRef) (n : ℕ) (ds : List Draft) (s : Bytes) (us : List Put) (t : Bytes) (left : IsLeft at ds s us (is_own at n) t) where
  abbrev there : Bytes
  there = placed s us

  pub whole_left : IsWhole t → IsWhole there
  whole_left w =
      record {
        cells = λ c. (ap length (left.spaces (space.Cell c) refl) ∙ (w.cells c).0, subst IsBytes (sym (left.spaces (space.Cell c) refl)) (w.cells c).1);
        numbers = λ k. left.spaces (space.Cell _) refl ∙ w.numbers k;
        descriptors = λ ring. ap length (left.spaces (space.Descriptor ring) refl) ∙ w.descriptors ring;
        tables = λ k. subst IsBytes (sym (left.spaces (space.Table k) refl)) (w.tables k);
      }
