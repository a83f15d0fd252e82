-- The opcodes that slots have, whatever tables each segment sees.
use Rattle.std.proofs.Common.{◌≡◌, ℕ, zero, suc, ◌+◌, List, [], ◌∷◌, length, Some, refl, sym, ◌∙◌, subst, arith, length-append}
use Rattle.std.specs.Prelude.{slice_get}
use Rattle.redn_words.specs.declared.types.Obs.{Obs}
use Rattle.redn_segment.specs.declared.types.SlotRef.{SlotRef}
use Rattle.redn_segment.specs.declared.types.Space.TheVariants as space
use Rattle.redn_segment.specs.declared.types.Draft.{Draft}
use Rattle.redn_segment.specs.Sites.{next_slot}
use Rattle.redn_segment.specs.Building.{drafts_of}
use Rattle.redn_segment.specs.Plain.{Bytes, View, Put, placed, Went, opcode_in, runs}
use Rattle.redn_segment.specs.Primed.{SeesBytes}
use Rattle.redn_segment.specs.Effects.{slot_behind}
use Rattle.redn_segment.specs.Opcodes.{MayHave, SegmentMayHave, HaveOpcodes}
use Rattle.redn_segment.proofs.Composing.{Owns, lies_from, lies_to, behind_next, behind_none, apart as behind_other}
use Rattle.redn_proof_landing.specs.Segments.{is_table_space}
use Rattle.redn_proof_ring.specs.Turns.{HasBytes, tabled}
use Rattle.redn_proof_ring.specs.Runs.{own_view}
use Rattle.redn_proof_block.proofs.Alike.{alike_placed}
use Rattle.redn_proof_block.proofs.Views.{runs_alike, split, split_here, split_there, split_bytes}
use Rattle.redn_proof_block.proofs.RoundStages.{Beside, beside_tabled, runs_beside}

module _ (all : List Draft) where
  -- of one slot
  pub may_at : (ds : List Draft) (at : SlotRef) (s : Bytes) → SegmentMayHave all at ds s → (k : ℕ) (d : Draft) → slice_get ds k ≡ Some d → MayHave all (slot_behind at k) d (opcode_in (s (space.Slot (slot_behind at k))))
  may_at [] at s h k d e = absurd (cc)
  may_at (x ∷ ds) at s h zero d e =
      let same : x ≡ d = cc in
      subst (λ (y : Draft). MayHave all (slot_behind at 0) y (opcode_in (s (space.Slot (slot_behind at 0))))) same (subst (λ (q : SlotRef). MayHave all q x (opcode_in (s (space.Slot q)))) (sym (behind_none at)) h.0)
  may_at (x ∷ ds) at s h (suc k) d e = subst (λ (q : SlotRef). MayHave all q d (opcode_in (s (space.Slot q)))) (behind_next at k) (may_at ds (next_slot at) s h.1 k d e)

  segment_beside : (ds : List Draft) (at : SlotRef) (s t : Bytes) → Beside s t → SegmentMayHave all at ds s → SegmentMayHave all at ds t
  segment_beside [] at s t h m = tt
  segment_beside (d ∷ ds) at s t h m = (subst (λ (b : List ℕ). MayHave all at d (opcode_in b)) (h (space.Slot at) refl) m.0, segment_beside ds (next_slot at) s t h m.1)

  own_front : (at : SlotRef) (m n : ℕ) (q : SlotRef) → Owns at m q → Owns at (m + n) q
  own_front at m n q o = let l = lies_from at m q o in let low = l.1 in let high = l.2 in lies_to at (m + n) q (l.0, low, omega arith)

  own_behind : (at : SlotRef) (m n : ℕ) (q : SlotRef) → Owns (slot_behind at m) n q → Owns at (m + n) q
  own_behind at m n q o = let l = lies_from (slot_behind at m) n q o in let low = l.1 in let high = l.2 in lies_to at (m + n) q (l.0, omega arith, omega arith)

  -- views that agree on the slots of the segments, and states that differ in tables
  have_alike : (v w : View) → v.number ≡ w.number → (segs : List (List Draft)) (at : SlotRef) (s t : Bytes) → Beside s t → ((q : SlotRef) → Owns at (length (drafts_of segs)) q → v.tables q ≡ w.tables q) → HaveOpcodes all v at segs s → HaveOpcodes all w at segs t
  have_alike v w number [] at s t beside agree h = tt
  have_alike v w number (ds ∷ rest) at s t beside agree h =
      let long = length-append ds (drafts_of rest) in (
        segment_beside ds at s t beside h.0,
        λ us shown goes. have_alike v w number rest (slot_behind at (length ds)) (placed s us) (placed t us) (alike_placed is_table_space us s t beside) (λ q o. agree q (subst (λ (n : ℕ). Owns at n q) (sym long) (own_behind at (length ds) (length (drafts_of rest)) q o))) (h.1 us shown ((runs_alike v w number ds at s (λ q o. agree q (subst (λ (n : ℕ). Owns at n q) (sym long) (own_front at (length ds) (length (drafts_of rest)) q o))) ∙ runs_beside w ds at s t beside) ∙ goes)),
      )

  module _ (number : ℕ) where
    -- whatever the tables are
    abbrev pub Have : SlotRef → List (List Draft) → Bytes → Type 0
    Have at segs t = (view : View) → view.number ≡ number → SeesBytes view → HaveOpcodes all view at segs t

    pub have_beside : (at : SlotRef) (segs : List (List Draft)) (s t : Bytes) → Beside s t → Have at segs s → Have at segs t
    have_beside at segs s t beside h view same sees = have_alike view view refl segs at s t beside (λ q o. refl) (h view same sees)

    -- when a segment is opened, and behind it
    pub have_here : (at : SlotRef) (ds : List Draft) (rest : List (List Draft)) (t u : Bytes) → HasBytes u → Have at (ds ∷ rest) t → SegmentMayHave all at ds t
    have_here at ds rest t u bytes h = (h (own_view number u) refl (λ q k. bytes k)).0

    pub have_next : (at : SlotRef) (ds : List Draft) (rest : List (List Draft)) (t u : Bytes) → HasBytes u → Have at (ds ∷ rest) t → (us : List Put) (events : List Obs) → runs (own_view number u) at ds (tabled t u) ≡ Went us events → Have (slot_behind at (length ds)) rest (placed (tabled t u) us)
    have_next at ds rest t u bytes h us events goes view same sees =
        let v : View = split at (length ds) (own_view number u) view in
        let here : runs v at ds t ≡ runs (own_view number u) at ds (tabled t u) = runs_alike v (own_view number u) refl ds at t (λ q o. split_here at (length ds) (own_view number u) view q o) ∙ sym (runs_beside (own_view number u) ds at (tabled t u) t (beside_tabled t u)) in
        have_alike v view (sym same) rest (slot_behind at (length ds)) (placed t us) (placed (tabled t u) us) (alike_placed is_table_space us t (tabled t u) (λ p e. sym (beside_tabled t u p e))) (λ q o. split_there at (length ds) (own_view number u) view q (behind_other at (length ds) (length (drafts_of rest)) q o)) ((h v refl (split_bytes at (length ds) (own_view number u) view (λ q k. bytes k) sees)).1 us events (here ∙ goes))
