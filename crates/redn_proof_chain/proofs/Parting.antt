-- What the segments of each instruction and end cost, and which of them may send.
use Rattle.std.proofs.Common.{◌≡◌, ℕ, zero, suc, ◌+◌, ◌*◌, ◌≤◌, Bool, false, cond, List, [], ◌∷◌, ◌++◌, map, length, refl, sym, ap, ◌∙◌, subst, arith, length-append, append_assoc}
use Rattle.std.specs.Prelude.{slice_get, Some, None, Option}
use Rattle.std.proofs.lemmas.Bool.{false≢true}
use Rattle.redn_kernel.specs.declared.types.Cell.{Cell}
use Rattle.redn_kernel.specs.declared.types.Cell.TheVariants.{Var, Num}
use Rattle.redn_kernel.specs.Costs.{reply_cost}
use Rattle.redn_graph.specs.declared.types.Instr.{Instr}
use Rattle.redn_graph.specs.declared.types.Instr.TheVariants.{Set, Move, Add}
use Rattle.redn_graph.specs.declared.types.End.{End}
use Rattle.redn_graph.specs.declared.types.End.TheVariants.{Jump, Test48, Test64, Probe, Reply}
use Rattle.redn_graph.specs.Run.{instr_cost, end_cost}
use Rattle.redn_segment.specs.declared.types.SlotRef.{SlotRef}
use Rattle.redn_segment.specs.declared.types.Draft.{Draft}
use Rattle.redn_segment.specs.Costs.{sends, segment_actions}
use Rattle.redn_segment.specs.Effects.{slot_behind}
use Rattle.redn_move.specs.Replying.{copies_from, send_words}
use Rattle.redn_block.specs.Blocks.{Part, instr_part, end_part, part_segments, part_size, all_segments, EndFits}
use Rattle.redn_proof_block.specs.Shares.{parts_from}
use Rattle.redn_proof_chain.proofs.Sharing.{flat}
use Rattle.redn_proof_chain.proofs.Paying.{actions, Quiet, quiet_both, MaySend}

pub flat_is : (at : SlotRef) (ps : List Part) → all_segments at ps ≡ flat (parts_from at ps)
flat_is at [] = refl
flat_is at (p ∷ ps) = ap (λ (x : List (List Draft)). part_segments at p ++ x) (flat_is (slot_behind at (part_size at p)) ps)

instr_actions : (at : SlotRef) (i : Instr) → actions (part_segments at (instr_part i)) ≤ instr_cost i
unfolding instr_cost
instr_actions at (Set to v) = omega arith
instr_actions at (Add to (Var x)) = omega arith
instr_actions at (Add to _) = omega arith
instr_actions at _ = omega arith

instr_quiet : (at : SlotRef) (i : Instr) → Quiet (part_segments at (instr_part i))
instr_quiet at (Set to v) = (refl, tt)
instr_quiet at (Move to from) = (refl, tt)
instr_quiet at (Add to (Num n)) = (refl, tt)
instr_quiet at (Add to _) = (refl, (refl, tt))
instr_quiet at _ = (refl, (refl, tt))

copies_quiet : (i : ℕ) (words : List Cell) → sends (copies_from i words) ≡ false
copies_quiet i [] = refl
copies_quiet i (w ∷ ws) = copies_quiet (i + 1) ws

copies_long : (i : ℕ) (words : List Cell) → length (copies_from i words) ≡ length words
copies_long i [] = refl
copies_long i (w ∷ ws) = ap suc (copies_long (i + 1) ws)

reply_actions : (n : ℕ) (ds : List Draft) → sends ds ≡ false → length ds ≡ n → n ≤ 8 → segment_actions ds + (4 + 0) ≤ reply_cost 8
reply_actions n ds quiet long few = let s : segment_actions ds ≡ 4 * length ds + 12 = ap (λ (b : Bool). 4 * length ds + cond b 0 12) quiet in omega (arith, s, long, few)

end_actions : (most first : ℕ) (at : SlotRef) (e : End) → EndFits most first e → actions (part_segments at (end_part first e)) ≤ end_cost false e
unfolding end_cost
end_actions most first at (Reply words) f = reply_actions (length words) (copies_from 0 words) (copies_quiet 0 words) (copies_long 0 words) f.1
end_actions most first at _ f = omega arith

end_sends : (first : ℕ) (at : SlotRef) (e : End) → MaySend (part_segments at (end_part first e))
end_sends first at (Jump to) = record { front = _ ∷ []; last = []; alone = λ e. absurd (false≢true e); whole = refl; quiet = (refl, tt); more = omega arith }
end_sends first at (Test48 left right met unmet) = record { front = _ ∷ _ ∷ _ ∷ []; last = []; alone = λ e. absurd (false≢true e); whole = refl; quiet = (refl, (refl, (refl, tt))); more = omega arith }
end_sends first at (Test64 left right met unmet) = record { front = _ ∷ _ ∷ _ ∷ _ ∷ []; last = []; alone = λ e. absurd (false≢true e); whole = refl; quiet = (refl, (refl, (refl, (refl, tt)))); more = omega arith }
end_sends first at (Probe to table offset key hit miss) = record { front = _ ∷ _ ∷ _ ∷ _ ∷ _ ∷ []; last = []; alone = λ e. absurd (false≢true e); whole = refl; quiet = (refl, (refl, (refl, (refl, (refl, tt))))); more = omega arith }
end_sends first at (Reply words) = record { front = copies_from 0 words ∷ []; last = send_words (length words) ∷ []; alone = λ e. (send_words (length words), refl, refl); whole = refl; quiet = (copies_quiet 0 words, tt); more = omega arith }

sends_behind : (before all : List (List Draft)) → Quiet before → MaySend all → MaySend (before ++ all)
sends_behind before all q h =
    let longer : length (before ++ h.front) ≡ length before + length h.front = length-append before h.front in
    let some = h.more in
    record {
      front = before ++ h.front;
      last = h.last;
      whole = ap (λ (x : List (List Draft)). before ++ x) h.whole ∙ sym (append_assoc before h.front (h.last ∷ []));
      quiet = quiet_both before h.front q h.quiet;
      more = omega (arith, longer, some);
      alone = h.alone;
    }

pub parts_send : (first : ℕ) (at : SlotRef) (instrs : List Instr) (e : End) → MaySend (all_segments at (map instr_part instrs ++ end_part first e ∷ []))
parts_send first at [] e = subst MaySend (sym (append_none (part_segments at (end_part first e)))) (end_sends first at e)
  where
    append_none : (xs : List (List Draft)) → xs ++ [] ≡ xs
    append_none [] = refl
    append_none (x ∷ xs) = ap (λ (l : List (List Draft)). x ∷ l) (append_none xs)
parts_send first at (i ∷ instrs) e = sends_behind (part_segments at (instr_part i)) _ (instr_quiet at i) (parts_send first (slot_behind at (part_size at (instr_part i))) instrs e)

-- the cost of a part, at its place
abbrev pub cost_at : Option Instr → End → ℕ
cost_at (Some i) e = instr_cost i
cost_at None e = end_cost false e

pub part_actions : (most first : ℕ) (at : SlotRef) (instrs : List Instr) (e : End) → EndFits most first e → (k : ℕ) (part : List (List Draft)) → slice_get (parts_from at (map instr_part instrs ++ end_part first e ∷ [])) k ≡ Some part → actions part ≤ cost_at (slice_get instrs k) e
part_actions most first at [] e f zero part is = let same : part_segments at (end_part first e) ≡ part = cc in subst (λ (x : List (List Draft)). actions x ≤ end_cost false e) same (end_actions most first at e f)
part_actions most first at [] e f (suc k) part is = absurd (cc)
part_actions most first at (i ∷ instrs) e f zero part is = let same : part_segments at (instr_part i) ≡ part = cc in subst (λ (x : List (List Draft)). actions x ≤ instr_cost i) same (instr_actions at i)
part_actions most first at (i ∷ instrs) e f (suc k) part is = part_actions most first (slot_behind at (part_size at (instr_part i))) instrs e f k part is
