-- A slot that has its request is primed.
use Rattle.std.proofs.Common.{◌≡◌, inl, inr, ℕ, suc, ◌+◌, ◌-◌, ◌<◌, ◌≤◌, Bool, true, false, cond, ◌&&◌, List, [], ◌∷◌, length, Some, drop, refl, sym, ap, ◌∙◌, subst, arith}
use Rattle.std.specs.Prelude.{slice_get, slice_index, get_or, nat_lt}
use Rattle.std.proofs.lemmas.Bool.{and_parts, or_cases, false≢true, ltb-true}
use Rattle.std.proofs.lemmas.List.{get_or-drop, get_or-take}
use Rattle.redn_words.specs.declared.types.Opcode.{Opcode}
use Rattle.redn_words.specs.declared.types.Opcode.TheVariants.{Send}
use Rattle.redn_words.specs.Requests.{encoded}
use Rattle.redn_words.specs.Words.{bytes_at, spelled}
use Rattle.redn_segment.specs.declared.types.SlotRef.{SlotRef}
use Rattle.redn_segment.specs.declared.types.Space.{Space}
use Rattle.redn_segment.specs.declared.types.Space.TheVariants as space
use Rattle.redn_segment.specs.declared.types.Draft.{Draft}
use Rattle.redn_segment.specs.Sites.{next_slot, start_of, is_table}
use Rattle.redn_segment.specs.Effects.{slot_behind}
use Rattle.redn_segment.specs.Orders.{is_send}
use Rattle.redn_segment.specs.Plain.{Bytes, remote_space}
use Rattle.redn_segment.specs.Primed.{IsPrimed, Primed, writes_slot, says, covers, remote_of, draft_bytes}
use Rattle.redn_segment.specs.Homes.{Home}
use Rattle.redn_segment.proofs.Composing.{behind_next, behind_none}
use Rattle.redn_proof_landing.specs.Requested.{requested, remote_offset, IsReady}
use Rattle.redn_proof_ring.proofs.RingWrites.{covered as range_at}

-- bytes of two lists at one place
at_place : (a : List ℕ) (o n i : ℕ) → o ≤ i → i < o + n → slice_index a i ≡ slice_index (bytes_at a o n) (i - o)
at_place a o n i low high =
    let place : o + (i - o) ≡ i = omega (arith, low) in
    sym (get_or-take n (drop o a) (i - o) 0 (omega (arith, low, high)) ∙ (get_or-drop o a (i - o) 0 ∙ ap (λ (k : ℕ). get_or a k 0) place))

same_place : (a b : List ℕ) (o n i : ℕ) → bytes_at a o n ≡ bytes_at b o n → o ≤ i → i < o + n → slice_index a i ≡ slice_index b i
same_place a b o n i e low high = at_place a o n i low high ∙ (ap (λ (l : List ℕ). slice_index l (i - o)) e ∙ sym (at_place b o n i low high))

module _ (home : Space → Home) (d : Draft) (flags : ℕ) where
  front_same : bytes_at (encoded (requested home d flags)) 0 8 ≡ bytes_at (draft_bytes d) 0 8
  unfolding encoded spelled
  front_same = refl

  operands_same : bytes_at (encoded (requested home d flags)) 40 16 ≡ bytes_at (draft_bytes d) 40 16
  unfolding encoded spelled
  operands_same = refl

  remote_bytes : bytes_at (encoded (requested home d flags)) 24 8 ≡ spelled 8 (remote_offset home d d.op)
  unfolding encoded spelled
  remote_bytes = refl

  draft_remote : bytes_at (draft_bytes d) 24 8 ≡ spelled 8 (remote_of d)
  unfolding spelled
  draft_remote = refl

  offset_is : (op : Opcode) → is_send op ≡ false → remote_offset home d op ≡ (home (remote_space d)).offset + (start_of d.remote + d.remote_byte)
  offset_is Send e = absurd (false≢true (sym e))
  offset_is _ e = refl

  module _ (flat : is_table d.remote ≡ true → is_send d.op ≡ false) (begins : is_table d.remote ≡ true → (home (remote_space d)).offset ≡ 0) where
    remote_same : is_table d.remote ≡ true → remote_offset home d d.op ≡ remote_of d
    remote_same t =
        let at = begins t in
        let here : remote_of d ≡ start_of d.remote + d.remote_byte = ap (λ (b : Bool). cond b (start_of d.remote + d.remote_byte) 0) t in
        omega (arith, offset_is d.op (flat t), at, here)

    said : (i : ℕ) → says d i ≡ true → slice_index (encoded (requested home d flags)) i ≡ slice_index (draft_bytes d) i
    said i h =
        elim (or_cases (nat_lt i 8) _ h) [
          | inl front ↦ let small = ltb-true i 8 front in same_place (encoded (requested home d flags)) (draft_bytes d) 0 8 i front_same (omega arith) (omega (arith, small))
          | inr more ↦
              elim (or_cases (covers 40 16 i) (is_table d.remote && covers 24 8 i) more) [
                | inl operands ↦ let at = range_at 40 16 i operands in same_place (encoded (requested home d flags)) (draft_bytes d) 40 16 i operands_same at.0 at.1
                | inr remote ↦
                    let parts = and_parts (is_table d.remote) (covers 24 8 i) remote in
                    let at = range_at 24 8 i parts.1 in
                    same_place (encoded (requested home d flags)) (draft_bytes d) 24 8 i (remote_bytes ∙ (ap (spelled 8) (remote_same parts.0) ∙ sym draft_remote)) at.0 at.1
              ]
        ]

    pub ready_primed : (written other : ℕ → Bool) (slot : List ℕ) → ((i : ℕ) → other i ≡ false → written i ≡ false) → IsReady written (requested home d flags) slot → IsPrimed other d slot
    ready_primed written other slot same ready =
        record {
          len = ready.len;
          bytes = λ i small says_it untouched. ready.bytes i small (same i untouched) ∙ said i says_it;
        }

-- all slots, one by one
pub primed_each : (all ds : List Draft) (at : SlotRef) (t : Bytes) → ((k : ℕ) (d : Draft) → slice_get ds k ≡ Some d → IsPrimed (writes_slot all (slot_behind at k)) d (t (space.Slot (slot_behind at k)))) → length (t (space.Slot (slot_behind at (length ds)))) ≡ 64 → Primed all at ds t
primed_each all [] at t each ends = subst (λ (q : SlotRef). length (t (space.Slot q)) ≡ 64) (behind_none at) ends
primed_each all (d ∷ ds) at t each ends = (
  subst (λ (q : SlotRef). IsPrimed (writes_slot all q) d (t (space.Slot q))) (behind_none at) (each 0 d refl),
  primed_each all ds (next_slot at) t (λ k x e. subst (λ (q : SlotRef). IsPrimed (writes_slot all q) x (t (space.Slot q))) (sym (behind_next at k)) (each (suc k) x e)) (subst (λ (q : SlotRef). length (t (space.Slot q)) ≡ 64) (sym (behind_next at (length ds))) ends),
)
