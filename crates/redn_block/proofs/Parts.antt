-- The parts of a block one after the other.
use Rattle.std.proofs.Common.{◌≡◌, ℕ, ◌+◌, ◌≤◌, true, List, [], ◌∷◌, ◌++◌, length, map, sym, ap, ◌∙◌, subst}
use Rattle.std.specs.List.{All, list_all}
use Rattle.std.proofs.lemmas.Bool.{false≢true}
use Rattle.std.proofs.lemmas.List.{append-nil}
use Rattle.std.proofs.lemmas.List.Elements.{All-head, All-tail}
use Rattle.redn_kernel.specs.declared.types.Cell.{Cell}
use Rattle.redn_kernel.specs.declared.types.Cell.TheVariants as cell
use Rattle.redn_graph.specs.declared.types.Instr.{Instr}
use Rattle.redn_graph.specs.declared.types.Instr.TheVariants.{Set, Move, Add, Load, Store}
use Rattle.redn_graph.specs.declared.types.End.{End}
use Rattle.redn_graph.specs.declared.types.End.TheVariants.{Jump, Test48, Test64, Probe, Reply}
use Rattle.redn_segment.specs.declared.types.SlotRef.{SlotRef}
use Rattle.redn_segment.specs.declared.types.Draft.{Draft}
use Rattle.redn_segment.specs.Building.{drafts_of}
use Rattle.redn_segment.specs.Drafts.{slot_from}
use Rattle.redn_segment.specs.Plain.{Bytes, View}
use Rattle.redn_segment.specs.Effects.{Effect, moves, adds, loads, stores, jumps, tests_low, tests_all, probes, replies, slot_behind}
use Rattle.redn_segment.specs.Parts.{WritesWithin, IsTame, IsPart, in_turn}
use Rattle.redn_segment.specs.Renaming.{moved}
use Rattle.redn_segment.proofs.Moving.{own, does_moved, in_place}
use Rattle.redn_segment.proofs.Within.{stays, within_by, stays_moved}
use Rattle.redn_segment.proofs.Appending.{IsTemplate}
use Rattle.redn_segment.proofs.Growing.{drafts_append}
use Rattle.redn_segment.proofs.Composing.{parts_in_turn}
use Rattle.redn_move.specs.Moves as move
use Rattle.redn_move.specs.Adding.{add_segments, add_count}
use Rattle.redn_move.specs.Replying.{reply}
use Rattle.redn_move.proofs.Moving.{move_is, add_is, load_is, store_is, jump_is}
use Rattle.redn_move.proofs.Replying.{reply_does, writes_none}
use Rattle.redn_move.proofs.Appended.{tame_replies}
use Rattle.redn_cas.specs.Tests as test
use Rattle.redn_cas.proofs.Test48.{test48_is}
use Rattle.redn_cas.proofs.Test64.{test64_is}
use Rattle.redn_cas.proofs.Probe.{probe_is}
use Rattle.redn_block.specs.Blocks.{instr_part, end_part, part_segments, part_effect, part_size, all_segments, slots_from, ring_of, HasTarget, EndFits}

-- a template is a part wherever it stands
template_part : (template : (ℕ → SlotRef) → List (List Draft)) (effect : (ℕ → SlotRef) → View → Bytes → Effect) (segments drafts more : ℕ) → IsTemplate template effect segments drafts more → (at : SlotRef) → IsPart at (drafts_of (template (slots_from at))) more (effect (slots_from at))
template_part template effect segments drafts more is at =
    let ring : ℕ = at.ring in
    let first : ℕ = at.slot in
    let added : List (List Draft) = template (slot_from ring first) in
    let long : length (drafts_of added) ≡ drafts = is.drafts_are (slot_from ring first) in
    let moved_stays : list_all (stays (moved ring first (own 0)) (drafts + more)) (drafts_of (template (λ (k : ℕ). moved ring first (own k)))) ≡ true = ap (list_all (stays (moved ring first (own 0)) (drafts + more))) (sym (is.renames ring first)) ∙ (stays_moved ring first (drafts + more) (drafts_of (template own)) ∙ is.stays) in
    record {
      does = does_moved ring first (λ (slot : ℕ → SlotRef). drafts_of (template slot)) effect (is.renames ring first) (is.same ring first) is.does;
      within = subst (λ (n : ℕ). WritesWithin at (n + more) (drafts_of added)) (sym long) (in_place ring first (λ (q : SlotRef) (slot : ℕ → SlotRef). WritesWithin q (drafts + more) (drafts_of (template slot))) (within_by (moved ring first (own 0)) (drafts + more) (drafts_of (template (λ (k : ℕ). moved ring first (own k)))) moved_stays));
      tame = subst (λ (n : ℕ). IsTame at (n + more) (effect (slot_from ring first))) (sym long) (is.tame ring first);
    }

reply_part : (words : List Cell) → 1 ≤ length words → length words ≤ 8 → (at : SlotRef) → IsPart at (drafts_of (reply words)) 0 (replies words)
reply_part words some few at =
    record {
      does = reply_does words some few at;
      within = λ q i w. absurd (false≢true (sym (writes_none words 0 (length words) q i) ∙ w));
      tame = tame_replies at _ words;
    }

-- an instruction, and an end, are parts
pub instr_is : (i : Instr) → HasTarget i → (at : SlotRef) → IsPart at (drafts_of (part_segments at (instr_part i))) 0 (part_effect at (instr_part i))
instr_is (Set to v) fits at = template_part (λ (slot : ℕ → SlotRef). move.move_word slot to (cell.Num v)) (λ (slot : ℕ → SlotRef). moves to (cell.Num v)) 1 1 0 (move_is to (cell.Num v) fits) at
instr_is (Move to from) fits at = template_part (λ (slot : ℕ → SlotRef). move.move_word slot to from) (λ (slot : ℕ → SlotRef). moves to from) 1 1 0 (move_is to from fits) at
instr_is (Add to by) fits at = template_part (λ (slot : ℕ → SlotRef). add_segments slot to by) (λ (slot : ℕ → SlotRef). adds to by) (add_count by) (add_count by) 0 (add_is to by fits) at
instr_is (Load to t offset) fits at = template_part (λ (slot : ℕ → SlotRef). move.load slot to t offset) (λ (slot : ℕ → SlotRef). loads to t offset (slot 1)) 2 2 0 (load_is to t offset fits) at
instr_is (Store t offset from) fits at = template_part (λ (slot : ℕ → SlotRef). move.store slot t offset from) (λ (slot : ℕ → SlotRef). stores t offset from (slot 1)) 2 2 0 (store_is t offset from) at

-- an end but a reply also writes the slot behind it
abbrev pub slots_more : End → ℕ
slots_more (Reply words) = 0
slots_more _ = 1

pub end_is : (most first : ℕ) (e : End) → EndFits most first e → (at : SlotRef) → IsPart at (drafts_of (part_segments at (end_part first e))) (slots_more e) (part_effect at (end_part first e))
end_is most first (Jump to) fits at = template_part (λ (slot : ℕ → SlotRef). move.jump slot (ring_of first to)) (λ (slot : ℕ → SlotRef). jumps (ring_of first to) (slot 1)) 2 1 1 (jump_is (ring_of first to)) at
end_is most first (Test48 left right met unmet) fits at = template_part (λ (slot : ℕ → SlotRef). test.test48 slot left right (ring_of first met) (ring_of first unmet)) (λ (slot : ℕ → SlotRef). tests_low left right (ring_of first met) (ring_of first unmet) (slot 6)) 4 6 1 (test48_is left right (ring_of first met) (ring_of first unmet)) at
end_is most first (Test64 left right met unmet) fits at = template_part (λ (slot : ℕ → SlotRef). test.test64 slot left right (ring_of first met) (ring_of first unmet)) (λ (slot : ℕ → SlotRef). tests_all left right (ring_of first met) (ring_of first unmet) (slot 10)) 5 10 1 (test64_is left right (ring_of first met) (ring_of first unmet)) at
end_is most first (Probe to t offset key hit miss) fits at = template_part (λ (slot : ℕ → SlotRef). test.probe slot to t offset key (ring_of first hit) (ring_of first miss)) (λ (slot : ℕ → SlotRef). probes to t offset key (ring_of first hit) (ring_of first miss) (slot 6) (slot 13) (slot 15)) 6 15 1 (probe_is to fits.0 t offset key (ring_of first hit) (ring_of first miss)) at
end_is most first (Reply words) fits at = reply_part words fits.0 fits.1 at

-- what the instructions and the end of a block do in turn
abbrev pub effect_of : ℕ → SlotRef → List Instr → End → View → Bytes → Effect
effect_of first at [] e = part_effect at (end_part first e)
effect_of first at (i ∷ is) e = in_turn (part_effect at (instr_part i)) (effect_of first (slot_behind at (part_size at (instr_part i))) is e)

abbrev pub segments_of : ℕ → SlotRef → List Instr → End → List (List Draft)
segments_of first at is e = all_segments at (map instr_part is ++ end_part first e ∷ [])

-- and all together are a part
pub block_is : (most first : ℕ) (is : List Instr) (e : End) → All HasTarget is → EndFits most first e → (at : SlotRef) → IsPart at (drafts_of (segments_of first at is e)) (slots_more e) (effect_of first at is e)
block_is most first [] e targets fits at =
    subst (λ (l : List (List Draft)). IsPart at (drafts_of l) (slots_more e) (effect_of first at [] e)) (sym (append-nil (part_segments at (end_part first e)))) (end_is most first e fits at)
block_is most first (i ∷ is) e targets fits at =
    let ds : List (List Draft) = part_segments at (instr_part i) in
    let behind : SlotRef = slot_behind at (part_size at (instr_part i)) in
    let es : List (List Draft) = segments_of first behind is e in
    subst (λ (l : List Draft). IsPart at l (slots_more e) (effect_of first at (i ∷ is) e)) (sym (drafts_append ds es)) (parts_in_turn at (drafts_of ds) (drafts_of es) (slots_more e) (part_effect at (instr_part i)) (effect_of first behind is e) (instr_is i (All-head HasTarget i is targets) at) (block_is most first is e (All-tail HasTarget i is targets) fits behind))
