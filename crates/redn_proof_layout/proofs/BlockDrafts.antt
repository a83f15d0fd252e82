-- The drafts of a block are as laps ask.
use Rattle.std.proofs.Common.{◌≡◌, ℕ, suc, ◌+◌, ◌-◌, ◌^◌, ◌<◌, ◌≤◌, Bool, true, List, [], ◌∷◌, ◌++◌, length, map, get_or, refl, sym, ap, ◌∙◌, subst, arith, length-append}
use Rattle.std.specs.List.{list_all, All}
use Rattle.std.proofs.lemmas.Bool.{and_parts, and_from}
use Rattle.std.proofs.lemmas.List.{append-nil}
use Rattle.std.proofs.lemmas.List.Elements.{All-head, All-tail}
use Rattle.redn_kernel.specs.declared.types.Cell.{Cell}
use Rattle.redn_kernel.specs.declared.types.Cell.TheVariants as cell
use Rattle.redn_graph.specs.declared.types.Instr.{Instr}
use Rattle.redn_graph.specs.declared.types.Instr.TheVariants.{Set, Move, Add, Load, Store}
use Rattle.redn_graph.specs.declared.types.End.{End}
use Rattle.redn_graph.specs.declared.types.End.TheVariants.{Jump, Test48, Test64, Probe, Reply}
use Rattle.redn_graph.specs.declared.types.Block.{Block}
use Rattle.redn_graph.specs.Fits.{Things, IsFull}
use Rattle.redn_graph.specs.Slots.{block_slots}
use Rattle.redn_segment.specs.declared.types.SlotRef.{SlotRef}
use Rattle.redn_segment.specs.declared.types.Draft.{Draft}
use Rattle.redn_segment.specs.Building.{drafts_of}
use Rattle.redn_segment.specs.Effects.{slot_behind, moves, adds, loads, stores, jumps, tests_low, tests_all, probes}
use Rattle.redn_segment.specs.Footprints.{both_sides, spares}
use Rattle.redn_segment.specs.Templates.{one_event}
use Rattle.redn_move.specs.Moves as move
use Rattle.redn_move.specs.Adding.{add_segments, add_count}
use Rattle.redn_move.specs.Replying.{copies_from, send_words, reply}
use Rattle.redn_move.proofs.Moving.{move_is, add_is, load_is, store_is, jump_is}
use Rattle.redn_move.proofs.Replying.{writes_none}
use Rattle.redn_move.proofs.Appended.{apart_reply, quiet_copies}
use Rattle.redn_cas.specs.Tests as test
use Rattle.redn_cas.proofs.Test48.{test48_is}
use Rattle.redn_cas.proofs.Test64.{test64_is}
use Rattle.redn_cas.proofs.Probe.{probe_is}
use Rattle.redn_recycle.specs.Laps.{slot_of}
use Rattle.redn_recycle.specs.Lapped.{MayGoRound, segment_at, start_of}
use Rattle.redn_block.specs.Blocks.{instr_part, end_part, part_segments, part_size, all_segments, ring_of, ring_start, block_segments, HasTarget, EndFits, BlockFits}
use Rattle.redn_block.proofs.Parts.{instr_is, end_is, slots_more}
use Rattle.redn_proof_ring.specs.Apart.{LeavesLaps, leaves_scratch, leaves_descriptor, has_flat_local, fills_last}
use Rattle.redn_proof_ring.specs.Layouts.{leaves_descriptors}
use Rattle.redn_proof_ring.proofs.Leaving.{AllLeave, leaves_all}
use Rattle.redn_emit.proofs.Laps.{may_go}
use Rattle.redn_proof_layout.proofs.Fields.{KeepsFixed, low_or_operand, all_fill}
use Rattle.redn_proof_layout.proofs.Pieces.{Fine, is_plain, template_fine, both_fine}

add_fine : (at : SlotRef) (to by : Cell) → HasTarget (Add to by) → Fine at 0 (part_segments at (instr_part (Add to by)))
add_fine at to (cell.Num n) fits =
    template_fine (λ (slot : ℕ → SlotRef). add_segments slot to (cell.Num n)) (λ (slot : ℕ → SlotRef). adds to (cell.Num n)) (add_count (cell.Num n)) (add_count (cell.Num n)) 0 (add_is to (cell.Num n) fits) at (instr_is (Add to (cell.Num n)) fits at).within refl refl refl
add_fine at to (cell.Var x) fits =
    template_fine (λ (slot : ℕ → SlotRef). add_segments slot to (cell.Var x)) (λ (slot : ℕ → SlotRef). adds to (cell.Var x)) (add_count (cell.Var x)) (add_count (cell.Var x)) 0 (add_is to (cell.Var x) fits) at (instr_is (Add to (cell.Var x)) fits at).within refl refl refl
add_fine at to (cell.Hidden k) fits =
    template_fine (λ (slot : ℕ → SlotRef). add_segments slot to (cell.Hidden k)) (λ (slot : ℕ → SlotRef). adds to (cell.Hidden k)) (add_count (cell.Hidden k)) (add_count (cell.Hidden k)) 0 (add_is to (cell.Hidden k) fits) at (instr_is (Add to (cell.Hidden k)) fits at).within refl refl refl
add_fine at to (cell.Argument i) fits =
    template_fine (λ (slot : ℕ → SlotRef). add_segments slot to (cell.Argument i)) (λ (slot : ℕ → SlotRef). adds to (cell.Argument i)) (add_count (cell.Argument i)) (add_count (cell.Argument i)) 0 (add_is to (cell.Argument i) fits) at (instr_is (Add to (cell.Argument i)) fits at).within refl refl refl

-- a reply's drafts write no slot
plain_sent : (i n : ℕ) (words : List Cell) → list_all is_plain (copies_from i words ++ send_words n ∷ []) ≡ true
plain_sent i n [] = refl
plain_sent i n (w ∷ ws) = plain_sent (i + 1) n ws

low_sent : (m i n : ℕ) (words : List Cell) → list_all (both_sides (low_or_operand m)) (copies_from i words ++ send_words n ∷ []) ≡ true
low_sent m i n [] = refl
low_sent m i n (w ∷ ws) = low_sent m (i + 1) n ws

reply_fine : (at : SlotRef) (most first : ℕ) (words : List Cell) → EndFits most first (Reply words) → Fine at 0 (reply words)
reply_fine at most first words fits =
    record {
      apart = apart_reply words fits.0 fits.1 at;
      events = and_from (one_event (copies_from 0 words)) true (quiet_copies words 0) refl;
      plain = plain_sent 0 (length words) words;
      within = (end_is most first (Reply words) fits at).within;
      fixed = λ k d e i fixed. writes_none words 0 (length words) (slot_behind at k) i;
      low = low_sent (at.slot + length (drafts_of (reply words))) 0 (length words) words;
    }

pub instr_fine : (at : SlotRef) (i : Instr) → HasTarget i → Fine at 0 (part_segments at (instr_part i))
instr_fine at (Set to v) fits =
    template_fine (λ (slot : ℕ → SlotRef). move.move_word slot to (cell.Num v)) (λ (slot : ℕ → SlotRef). moves to (cell.Num v)) 1 1 0 (move_is to (cell.Num v) fits) at (instr_is (Set to v) fits at).within refl refl refl
instr_fine at (Move to from) fits =
    template_fine (λ (slot : ℕ → SlotRef). move.move_word slot to from) (λ (slot : ℕ → SlotRef). moves to from) 1 1 0 (move_is to from fits) at (instr_is (Move to from) fits at).within refl refl refl
instr_fine at (Add to by) fits = add_fine at to by fits
instr_fine at (Load to t offset) fits =
    template_fine (λ (slot : ℕ → SlotRef). move.load slot to t offset) (λ (slot : ℕ → SlotRef). loads to t offset (slot 1)) 2 2 0 (load_is to t offset fits) at (instr_is (Load to t offset) fits at).within refl refl refl
instr_fine at (Store t offset from) fits =
    template_fine (λ (slot : ℕ → SlotRef). move.store slot t offset from) (λ (slot : ℕ → SlotRef). stores t offset from (slot 1)) 2 2 0 (store_is t offset from) at (instr_is (Store t offset from) fits at).within refl refl refl

pub end_fine : (at : SlotRef) (most first : ℕ) (e : End) → EndFits most first e → Fine at (slots_more e) (part_segments at (end_part first e))
end_fine at most first (Jump to) fits =
    template_fine (λ (slot : ℕ → SlotRef). move.jump slot (ring_of first to)) (λ (slot : ℕ → SlotRef). jumps (ring_of first to) (slot 1)) 2 1 1 (jump_is (ring_of first to)) at (end_is most first (Jump to) fits at).within refl refl refl
end_fine at most first (Test48 left right met unmet) fits =
    template_fine (λ (slot : ℕ → SlotRef). test.test48 slot left right (ring_of first met) (ring_of first unmet)) (λ (slot : ℕ → SlotRef). tests_low left right (ring_of first met) (ring_of first unmet) (slot 6)) 4 6 1 (test48_is left right (ring_of first met) (ring_of first unmet)) at (end_is most first (Test48 left right met unmet) fits at).within refl refl refl
end_fine at most first (Test64 left right met unmet) fits =
    template_fine (λ (slot : ℕ → SlotRef). test.test64 slot left right (ring_of first met) (ring_of first unmet)) (λ (slot : ℕ → SlotRef). tests_all left right (ring_of first met) (ring_of first unmet) (slot 10)) 5 10 1 (test64_is left right (ring_of first met) (ring_of first unmet)) at (end_is most first (Test64 left right met unmet) fits at).within refl refl refl
end_fine at most first (Probe to t offset key hit miss) fits =
    template_fine (λ (slot : ℕ → SlotRef). test.probe slot to t offset key (ring_of first hit) (ring_of first miss)) (λ (slot : ℕ → SlotRef). probes to t offset key (ring_of first hit) (ring_of first miss) (slot 6) (slot 13) (slot 15)) 6 15 1 (probe_is to fits.0 t offset key (ring_of first hit) (ring_of first miss)) at (end_is most first (Probe to t offset key hit miss) fits at).within refl refl refl
end_fine at most first (Reply words) fits = reply_fine at most first words fits

-- a block's parts one after the other
abbrev segments_of : ℕ → SlotRef → List Instr → End → List (List Draft)
segments_of first at is e = all_segments at (map instr_part is ++ end_part first e ∷ [])

fine_from : (most first : ℕ) (is : List Instr) (e : End) (at : SlotRef) → All HasTarget is → EndFits most first e → Fine at (slots_more e) (segments_of first at is e)
fine_from most first [] e at targets fits = subst (Fine at (slots_more e)) (sym (append-nil (part_segments at (end_part first e)))) (end_fine at most first e fits)
fine_from most first (i ∷ is) e at targets fits =
    both_fine at (slots_more e) (part_segments at (instr_part i)) (segments_of first (slot_behind at (part_size at (instr_part i))) is e) (instr_fine at i (All-head HasTarget i is targets)) (fine_from most first is e (slot_behind at (part_size at (instr_part i))) (All-tail HasTarget i is targets) fits)

-- the last segment of an end writes no slot
abbrev IsQuiet : List (List Draft) → Type 0
IsQuiet segs = (q : SlotRef) (n : ℕ) → list_all (both_sides (spares q n)) (get_or segs (length segs - 1) []) ≡ true

end_quiet : (at : SlotRef) (first : ℕ) (e : End) → IsQuiet (part_segments at (end_part first e))
end_quiet at first (Jump to) q n = refl
end_quiet at first _ q n = refl

end_some : (at : SlotRef) (first : ℕ) (e : End) → 1 ≤ length (part_segments at (end_part first e))
end_some at first (Jump to) = omega arith
end_some at first _ = omega arith

last_behind : (xs ys : List (List Draft)) → 1 ≤ length ys → get_or (xs ++ ys) (length (xs ++ ys) - 1) [] ≡ get_or ys (length ys - 1) []
last_behind [] ys l = refl
last_behind (x ∷ xs) ys l =
    let zs : List (List Draft) = xs ++ ys in
    let long = length-append xs ys in
    let here : length (x ∷ zs) - 1 ≡ suc (length zs - 1) = omega (arith, long) in
    ap (λ (n : ℕ). get_or (x ∷ zs) n []) here ∙ last_behind xs ys l

some_from : (first : ℕ) (is : List Instr) (e : End) (at : SlotRef) → 1 ≤ length (segments_of first at is e)
some_from first [] e at = let some = end_some at first e in let all = length-append (part_segments at (end_part first e)) [] in omega (arith, some, all)
some_from first (i ∷ is) e at =
    let there : SlotRef = slot_behind at (part_size at (instr_part i)) in
    let some = some_from first is e there in
    let all = length-append (part_segments at (instr_part i)) (segments_of first there is e) in
    omega (arith, some, all)

quiet_from : (first : ℕ) (is : List Instr) (e : End) (at : SlotRef) → IsQuiet (segments_of first at is e)
quiet_from first [] e at q n = subst IsQuiet (sym (append-nil (part_segments at (end_part first e)))) (end_quiet at first e) q n
quiet_from first (i ∷ is) e at q n =
    let there : SlotRef = slot_behind at (part_size at (instr_part i)) in
    ap (list_all (both_sides (spares q n))) (last_behind (part_segments at (instr_part i)) (segments_of first there is e) (some_from first is e there)) ∙ quiet_from first is e there q n

-- the first segment names no descriptor
copies_spare : (r i : ℕ) (words : List Cell) → list_all (both_sides (leaves_descriptor r)) (copies_from i words) ≡ true
copies_spare r i [] = refl
copies_spare r i (w ∷ ws) = copies_spare r (i + 1) ws

end_spares : (n : Things) (at : SlotRef) (first r : ℕ) (e : End) → IsFull n [] e → list_all (both_sides (leaves_descriptor r)) (get_or (part_segments at (end_part first e)) 0 []) ≡ true
end_spares n at first r (Jump to) full = absurd (omega (arith, full))
end_spares n at first r (Reply words) full = copies_spare r 0 words
end_spares n at first r _ full = refl

first_from : (n : Things) (first r : ℕ) (is : List Instr) (e : End) (at : SlotRef) → IsFull n is e → list_all (both_sides (leaves_descriptor r)) (segment_at (segments_of first at is e) 0) ≡ true
first_from n first r [] e at full = ap (λ (l : List (List Draft)). list_all (both_sides (leaves_descriptor r)) (get_or l 0 [])) (append-nil (part_segments at (end_part first e))) ∙ end_spares n at first r e full
first_from n first r (Set to v ∷ is) e at full = refl
first_from n first r (Move to from ∷ is) e at full = refl
first_from n first r (Add to (cell.Num v) ∷ is) e at full = refl
first_from n first r (Add to (cell.Var x) ∷ is) e at full = refl
first_from n first r (Add to (cell.Hidden k) ∷ is) e at full = refl
first_from n first r (Add to (cell.Argument i) ∷ is) e at full = refl
first_from n first r (Load to t offset ∷ is) e at full = refl
first_from n first r (Store t offset from ∷ is) e at full = refl

test_of : (one other : Draft → Bool) (ds : List Draft) → ((d : Draft) → one d ≡ true → other d ≡ true) → list_all one ds ≡ true → list_all other ds ≡ true
test_of one other [] f h = refl
test_of one other (d ∷ ds) f h =
    let parts = and_parts (one d) (list_all one ds) h in and_from (other d) (list_all other ds) (f d parts.0) (test_of one other ds f parts.1)

-- a block of a graph, as the ring of this number
module _ (things : Things) (first ring : ℕ) (b : Block) (fits : BlockFits (2 ^ 32) first b) (full : IsFull things b.instrs b.end) (small : block_slots b ≤ 65536) where
  abbrev segs : List (List Draft)
  segs = block_segments first ring b

  fine : Fine (ring_start ring) (slots_more b.end) segs
  fine = fine_from (2 ^ 32) first b.instrs b.end (ring_start ring) fits.instrs fits.end

  pub may : MayGoRound segs ring
  may = may_go (2 ^ 32) first ring b fits small

  flat : (d : Draft) → is_plain d ≡ true → has_flat_local d ≡ true
  flat d h = (and_parts (has_flat_local d) _ h).0

  leaves_words : (d : Draft) → is_plain d ≡ true → both_sides leaves_scratch d ≡ true
  leaves_words d h = (and_parts (both_sides leaves_scratch d) (leaves_descriptors d) (and_parts (has_flat_local d) _ h).1).0

  keeps_descriptors : (d : Draft) → is_plain d ≡ true → leaves_descriptors d ≡ true
  keeps_descriptors d h = (and_parts (both_sides leaves_scratch d) (leaves_descriptors d) (and_parts (has_flat_local d) _ h).1).1

  all_leave : AllLeave segs ring
  all_leave =
      record {
        may = may;
        apart = fine.apart;
        flat = test_of is_plain has_flat_local (drafts_of segs) flat fine.plain;
        events = fine.events;
        scratch = test_of is_plain (both_sides leaves_scratch) (drafts_of segs) leaves_words fine.plain;
        descriptor = first_from things first ring b.instrs b.end (ring_start ring) full;
        last = λ j e. (let last : length segs - 1 ≡ j = omega (arith, e) in ap (λ (n : ℕ). list_all (both_sides (spares (slot_of ring (start_of segs j)) (length (segment_at segs j) + 1))) (get_or segs n [])) (sym last) ∙ quiet_from first b.instrs b.end (ring_start ring) (slot_of ring (start_of segs j)) (length (segment_at segs j) + 1));
      }

  pub leaves : (j : ℕ) → j < length segs → LeavesLaps segs ring j
  leaves j l = leaves_all segs ring j all_leave l

  pub fills_operands : list_all (both_sides (fills_last segs ring)) (drafts_of segs) ≡ true
  fills_operands = all_fill (0 + length (drafts_of segs)) (slot_of ring (length (drafts_of segs))) (drafts_of segs) (omega arith) fine.low

  pub descriptors_left : list_all leaves_descriptors (drafts_of segs) ≡ true
  descriptors_left = test_of is_plain leaves_descriptors (drafts_of segs) keeps_descriptors fine.plain

  pub fixed_kept : KeepsFixed (ring_start ring) (drafts_of segs) (drafts_of segs)
  fixed_kept = fine.fixed
