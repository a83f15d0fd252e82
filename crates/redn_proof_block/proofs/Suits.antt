-- The opcodes that slots of a block may have suit their drafts.
use Rattle.std.proofs.Common.{◌≡◌, ℕ, zero, suc, ◌+◌, List, [], ◌∷◌, ◌++◌, length, Some, refl, sym, ap, ◌∙◌, subst, append_assoc}
use Rattle.std.specs.Prelude.{slice_get}
use Rattle.std.specs.List.{All}
use Rattle.std.proofs.lemmas.List.{append-nil}
use Rattle.std.proofs.lemmas.List.Elements.{All-head, All-tail}
use Rattle.redn_words.specs.declared.types.Opcode.{Opcode}
use Rattle.redn_kernel.specs.declared.types.Cell.TheVariants as cell
use Rattle.redn_graph.specs.declared.types.Instr.{Instr}
use Rattle.redn_graph.specs.declared.types.Instr.TheVariants.{Set, Move, Add, Load, Store}
use Rattle.redn_graph.specs.declared.types.End.{End}
use Rattle.redn_graph.specs.declared.types.End.TheVariants.{Jump, Test48, Test64, Probe, Reply}
use Rattle.redn_segment.specs.declared.types.SlotRef.{SlotRef}
use Rattle.redn_segment.specs.declared.types.Draft.{Draft}
use Rattle.redn_segment.specs.Sites.{next_slot}
use Rattle.redn_segment.specs.Building.{Building, drafts_of}
use Rattle.redn_segment.specs.Plain.{Bytes, View}
use Rattle.redn_segment.specs.Effects.{Effect, moves, adds, loads, stores, jumps, tests_low, tests_all, probes, first_slot, slot_behind}
use Rattle.redn_segment.specs.Opcodes.{MayHave, TellOpcodes}
use Rattle.redn_segment.specs.Parts.{in_turn}
use Rattle.redn_segment.specs.Rights.{Suits, AllSuit, Rights}
use Rattle.redn_segment.specs.Templates.{Appends}
use Rattle.redn_segment.proofs.Growing.{with_more, first_behind}
use Rattle.redn_segment.proofs.Appending.{appends}
use Rattle.redn_segment.proofs.Suiting.{template_rights}
use Rattle.redn_segment.proofs.RightsInTurn.{rights_in_turn}
use Rattle.redn_segment.proofs.Both.{appends_in_turn}
use Rattle.redn_segment.proofs.Composing.{behind_next, behind_none}
use Rattle.redn_move.specs.Moves as move
use Rattle.redn_move.specs.Adding.{add_segments, add_count}
use Rattle.redn_move.proofs.Moving.{move_is, add_is, load_is, store_is, jump_is, move_suits, add_suits, load_suits, store_suits, jump_suits}
use Rattle.redn_move.proofs.Appended.{reply_rights, appends_reply}
use Rattle.redn_cas.specs.Tests as test
use Rattle.redn_cas.proofs.Test48.{test48_is, test48_suits}
use Rattle.redn_cas.proofs.Test64.{test64_is, test64_suits}
use Rattle.redn_cas.proofs.Probe.{probe_is, probe_suits}
use Rattle.redn_block.specs.Blocks.{instr_part, end_part, part_segments, part_effect, part_size, ring_of, HasTarget, EndFits}
use Rattle.redn_block.proofs.Parts.{slots_more, segments_of}

-- the table that an instruction stores into
abbrev pub stored_in : Instr → List ℕ
stored_in (Store t offset from) = t ∷ []
stored_in _ = []

abbrev pub all_stored : List Instr → List ℕ
all_stored [] = []
all_stored (i ∷ is) = stored_in i ++ all_stored is

-- a ring has grown by a part
abbrev pub grown : Building → List (List Draft) → Building
grown old added = with_more old added

instr_rights : (i : Instr) → HasTarget i → (old : Building) → Rights old (grown old (part_segments (first_slot old) (instr_part i))) (stored_in i)
instr_rights (Set to v) fits old = template_rights (λ (slot : ℕ → SlotRef). move.move_word slot to (cell.Num v)) (λ (slot : ℕ → SlotRef). moves to (cell.Num v)) 1 1 0 (move_is to (cell.Num v) fits) [] (move_suits to (cell.Num v) fits) old _ refl
instr_rights (Move to from) fits old = template_rights (λ (slot : ℕ → SlotRef). move.move_word slot to from) (λ (slot : ℕ → SlotRef). moves to from) 1 1 0 (move_is to from fits) [] (move_suits to from fits) old _ refl
instr_rights (Add to by) fits old = template_rights (λ (slot : ℕ → SlotRef). add_segments slot to by) (λ (slot : ℕ → SlotRef). adds to by) (add_count by) (add_count by) 0 (add_is to by fits) [] (add_suits to by fits) old _ refl
instr_rights (Load to t offset) fits old = template_rights (λ (slot : ℕ → SlotRef). move.load slot to t offset) (λ (slot : ℕ → SlotRef). loads to t offset (slot 1)) 2 2 0 (load_is to t offset fits) [] (load_suits to t offset fits) old _ refl
instr_rights (Store t offset from) fits old = template_rights (λ (slot : ℕ → SlotRef). move.store slot t offset from) (λ (slot : ℕ → SlotRef). stores t offset from (slot 1)) 2 2 0 (store_is t offset from) (t ∷ []) (store_suits t offset from) old _ refl

end_rights : (most first : ℕ) (e : End) → EndFits most first e → (old : Building) → Rights old (grown old (part_segments (first_slot old) (end_part first e))) []
end_rights most first (Jump to) fits old = template_rights (λ (slot : ℕ → SlotRef). move.jump slot (ring_of first to)) (λ (slot : ℕ → SlotRef). jumps (ring_of first to) (slot 1)) 2 1 1 (jump_is (ring_of first to)) [] (jump_suits (ring_of first to)) old _ refl
end_rights most first (Test48 left right met unmet) fits old = template_rights (λ (slot : ℕ → SlotRef). test.test48 slot left right (ring_of first met) (ring_of first unmet)) (λ (slot : ℕ → SlotRef). tests_low left right (ring_of first met) (ring_of first unmet) (slot 6)) 4 6 1 (test48_is left right (ring_of first met) (ring_of first unmet)) [] (test48_suits left right (ring_of first met) (ring_of first unmet)) old _ refl
end_rights most first (Test64 left right met unmet) fits old = template_rights (λ (slot : ℕ → SlotRef). test.test64 slot left right (ring_of first met) (ring_of first unmet)) (λ (slot : ℕ → SlotRef). tests_all left right (ring_of first met) (ring_of first unmet) (slot 10)) 5 10 1 (test64_is left right (ring_of first met) (ring_of first unmet)) [] (test64_suits left right (ring_of first met) (ring_of first unmet)) old _ refl
end_rights most first (Probe to t offset key hit miss) fits old = template_rights (λ (slot : ℕ → SlotRef). test.probe slot to t offset key (ring_of first hit) (ring_of first miss)) (λ (slot : ℕ → SlotRef). probes to t offset key (ring_of first hit) (ring_of first miss) (slot 6) (slot 13) (slot 15)) 6 15 1 (probe_is to fits.0 t offset key (ring_of first hit) (ring_of first miss)) [] (probe_suits to fits.0 t offset key (ring_of first hit) (ring_of first miss)) old _ refl
end_rights most first (Reply words) fits old = reply_rights words old _ refl

-- how a part is appended, whatever its counts are
pub record Added (old new : Building) (more : ℕ) (effect : View → Bytes → Effect) : Type 0 where
  pub segments : ℕ
  pub drafts : ℕ
  pub appends : Appends old new segments drafts more effect

instr_added : (i : Instr) → HasTarget i → (old : Building) → Added old (grown old (part_segments (first_slot old) (instr_part i))) 0 (part_effect (first_slot old) (instr_part i))
instr_added (Set to v) fits old = record { segments = 1; drafts = 1; appends = appends (λ (slot : ℕ → SlotRef). move.move_word slot to (cell.Num v)) (λ (slot : ℕ → SlotRef). moves to (cell.Num v)) 1 1 0 (move_is to (cell.Num v) fits) old _ refl }
instr_added (Move to from) fits old = record { segments = 1; drafts = 1; appends = appends (λ (slot : ℕ → SlotRef). move.move_word slot to from) (λ (slot : ℕ → SlotRef). moves to from) 1 1 0 (move_is to from fits) old _ refl }
instr_added (Add to by) fits old = record { segments = add_count by; drafts = add_count by; appends = appends (λ (slot : ℕ → SlotRef). add_segments slot to by) (λ (slot : ℕ → SlotRef). adds to by) (add_count by) (add_count by) 0 (add_is to by fits) old _ refl }
instr_added (Load to t offset) fits old = record { segments = 2; drafts = 2; appends = appends (λ (slot : ℕ → SlotRef). move.load slot to t offset) (λ (slot : ℕ → SlotRef). loads to t offset (slot 1)) 2 2 0 (load_is to t offset fits) old _ refl }
instr_added (Store t offset from) fits old = record { segments = 2; drafts = 2; appends = appends (λ (slot : ℕ → SlotRef). move.store slot t offset from) (λ (slot : ℕ → SlotRef). stores t offset from (slot 1)) 2 2 0 (store_is t offset from) old _ refl }

end_added : (most first : ℕ) (e : End) → EndFits most first e → (old : Building) → Added old (grown old (part_segments (first_slot old) (end_part first e))) (slots_more e) (part_effect (first_slot old) (end_part first e))
end_added most first (Jump to) fits old = record { segments = 2; drafts = 1; appends = appends (λ (slot : ℕ → SlotRef). move.jump slot (ring_of first to)) (λ (slot : ℕ → SlotRef). jumps (ring_of first to) (slot 1)) 2 1 1 (jump_is (ring_of first to)) old _ refl }
end_added most first (Test48 left right met unmet) fits old = record { segments = 4; drafts = 6; appends = appends (λ (slot : ℕ → SlotRef). test.test48 slot left right (ring_of first met) (ring_of first unmet)) (λ (slot : ℕ → SlotRef). tests_low left right (ring_of first met) (ring_of first unmet) (slot 6)) 4 6 1 (test48_is left right (ring_of first met) (ring_of first unmet)) old _ refl }
end_added most first (Test64 left right met unmet) fits old = record { segments = 5; drafts = 10; appends = appends (λ (slot : ℕ → SlotRef). test.test64 slot left right (ring_of first met) (ring_of first unmet)) (λ (slot : ℕ → SlotRef). tests_all left right (ring_of first met) (ring_of first unmet) (slot 10)) 5 10 1 (test64_is left right (ring_of first met) (ring_of first unmet)) old _ refl }
end_added most first (Probe to t offset key hit miss) fits old = record { segments = 6; drafts = 15; appends = appends (λ (slot : ℕ → SlotRef). test.probe slot to t offset key (ring_of first hit) (ring_of first miss)) (λ (slot : ℕ → SlotRef). probes to t offset key (ring_of first hit) (ring_of first miss) (slot 6) (slot 13) (slot 15)) 6 15 1 (probe_is to fits.0 t offset key (ring_of first hit) (ring_of first miss)) old _ refl }
end_added most first (Reply words) fits old = record { segments = 2; drafts = length words + 1; appends = appends_reply words fits.0 fits.1 old _ refl }

module _ (most first : ℕ) (e : End) (fits : EndFits most first e) where
  -- a block grows part by part
  grown_twice : (i : Instr) (is : List Instr) (old : Building) → grown (grown old (part_segments (first_slot old) (instr_part i))) (segments_of first (first_slot (grown old (part_segments (first_slot old) (instr_part i)))) is e) ≡ grown old (segments_of first (first_slot old) (i ∷ is) e)
  grown_twice i is old =
      let ds : List (List Draft) = part_segments (first_slot old) (instr_part i) in
      ap (λ (q : SlotRef). grown (grown old ds) (segments_of first q is e)) (first_behind old ds) ∙ ap (λ (l : List (List Draft)). let b : Building = record old { segments = l } in b) (append_assoc old.segments ds (segments_of first (slot_behind (first_slot old) (part_size (first_slot old) (instr_part i))) is e))

  all_rights : (is : List Instr) → All HasTarget is → (old : Building) → Rights old (grown old (segments_of first (first_slot old) is e)) (all_stored is)
  all_rights [] targets old = subst (λ (l : List (List Draft)). Rights old (grown old l) []) (sym (append-nil (part_segments (first_slot old) (end_part first e)))) (end_rights most first e fits old)
  all_rights (i ∷ is) targets old =
      let ds : List (List Draft) = part_segments (first_slot old) (instr_part i) in
      subst (λ (b : Building). Rights old b (all_stored (i ∷ is))) (grown_twice i is old) (rights_in_turn old (grown old ds) _ (stored_in i) (all_stored is) (instr_rights i (All-head HasTarget i is targets) old) (all_rights is (All-tail HasTarget i is targets) (grown old ds)))

  all_added : (is : List Instr) → All HasTarget is → (old : Building) → (effect : View → Bytes → Effect) × Added old (grown old (segments_of first (first_slot old) is e)) (slots_more e) effect
  all_added [] targets old = (part_effect (first_slot old) (end_part first e), subst (λ (l : List (List Draft)). Added old (grown old l) (slots_more e) (part_effect (first_slot old) (end_part first e))) (sym (append-nil (part_segments (first_slot old) (end_part first e)))) (end_added most first e fits old))
  all_added (i ∷ is) targets old =
      let ds : List (List Draft) = part_segments (first_slot old) (instr_part i) in
      let one = instr_added i (All-head HasTarget i is targets) old in
      let more = all_added is (All-tail HasTarget i is targets) (grown old ds) in
      (in_turn (part_effect (first_slot old) (instr_part i)) more.0, subst (λ (b : Building). Added old b (slots_more e) (in_turn (part_effect (first_slot old) (instr_part i)) more.0)) (grown_twice i is old) (record { segments = one.segments + more.1.segments; drafts = one.drafts + more.1.drafts; appends = appends_in_turn old (grown old ds) _ one.segments more.1.segments one.drafts more.1.drafts (slots_more e) (part_effect (first_slot old) (instr_part i)) more.0 one.appends more.1.appends }))

  module _ (ring : ℕ) (is : List Instr) (targets : All HasTarget is) where
    abbrev empty : Building
    empty = record { ring = ring; segments = [] }

    abbrev segments : List (List Draft)
    segments = segments_of first (first_slot empty) is e

    -- by which each slot's opcodes suit its draft
    pub block_suits : AllSuit (all_stored is) (drafts_of segments) (first_slot empty) (drafts_of segments)
    block_suits =
        let all = all_rights is targets empty in
        let same : segments ≡ all.added = ap (λ (b : Building). b.segments) all.appended in
        subst (λ (l : List (List Draft)). AllSuit (all_stored is) (drafts_of l) (first_slot empty) (drafts_of l)) (sym same) all.suit

    -- and each slot has such an opcode when its segment is opened
    pub block_tells : TellOpcodes (first_slot empty) segments
    block_tells =
        let all = all_added is targets empty in
        let same : segments ≡ all.1.appends.added = ap (λ (b : Building). b.segments) all.1.appends.appended in
        subst (λ (l : List (List Draft)). TellOpcodes (first_slot empty) l) (sym same) all.1.appends.opcodes

-- of one slot
pub suit_at : (written : List ℕ) (all ds : List Draft) (at : SlotRef) → AllSuit written all at ds → (i : ℕ) (d : Draft) → slice_get ds i ≡ Some d → (op : Opcode) → MayHave all (slot_behind at i) d op → Suits written d op
suit_at written all [] at h i d e op may = absurd (cc)
suit_at written all (x ∷ ds) at h zero d e op may =
    let same : x ≡ d = cc in
    subst (λ (y : Draft). Suits written y op) same (h.0 op (subst (λ (q : SlotRef). MayHave all q x op) (behind_none at) (subst (λ (y : Draft). MayHave all (slot_behind at 0) y op) (sym same) may)))
suit_at written all (x ∷ ds) at h (suc i) d e op may = suit_at written all ds (next_slot at) h.1 i d e op (subst (λ (q : SlotRef). MayHave all q d op) (sym (behind_next at i)) may)
