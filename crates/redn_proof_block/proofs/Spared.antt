-- Drafts of a block leave alone what lap requests have to themselves.
use Rattle.std.proofs.Common.{◌≡◌, inl, inr, ℕ, zero, suc, ◌+◌, Bool, true, false, not, ◌&&◌, ◌||◌, List, [], ◌∷◌, ◌++◌, length, refl, sym, ap, ◌∙◌}
use Rattle.std.specs.List.{list_all}
use Rattle.std.proofs.lemmas.Bool.{and_parts, and_from, or_cases, false≢true, false_from_ne_true}
use Rattle.std.proofs.lemmas.List.{append-nil}
use Rattle.redn_words.specs.declared.types.Opcode.{Opcode}
use Rattle.redn_words.specs.declared.types.Opcode.TheVariants.{Wait, Enable, Undefined}
use Rattle.redn_kernel.specs.declared.types.Cell.{Cell}
use Rattle.redn_kernel.specs.declared.types.Cell.TheVariants as cell
use Rattle.redn_graph.specs.declared.types.Instr.{Instr}
use Rattle.redn_graph.specs.declared.types.Instr.TheVariants as instr
use Rattle.redn_graph.specs.declared.types.End.{End}
use Rattle.redn_graph.specs.declared.types.End.TheVariants.{Reply}
use Rattle.redn_segment.specs.declared.types.SlotRef.{SlotRef}
use Rattle.redn_segment.specs.declared.types.Space.{Space}
use Rattle.redn_segment.specs.declared.types.Space.TheVariants as space
use Rattle.redn_segment.specs.declared.types.Draft.{Draft}
use Rattle.redn_segment.specs.Orders.{is_send}
use Rattle.redn_segment.specs.Sites.{same_space, is_table}
use Rattle.redn_segment.specs.Building.{drafts_of}
use Rattle.redn_segment.specs.Effects.{slot_behind}
use Rattle.redn_segment.specs.Footprints.{local_by, remote_by, holds_of, both_sides}
use Rattle.redn_segment.specs.Plain.{local_space, remote_space}
use Rattle.redn_segment.specs.Rights.{is_descriptor}
use Rattle.redn_segment.proofs.Both.{all_append}
use Rattle.redn_segment.proofs.Growing.{drafts_append}
use Rattle.redn_segment.proofs.Kept.{not_true}
use Rattle.redn_segment.proofs.SameSpace.{same_space_is}
use Rattle.redn_move.specs.Replying.{copies_from, send_words}
use Rattle.redn_proof_ring.specs.Apart.{leaves_descriptor}
use Rattle.redn_proof_ring.specs.Layouts.{leaves_descriptors}
use Rattle.redn_proof_block.specs.Names.{is_lapping, set_aside, spares_all}
use Rattle.redn_block.specs.Blocks.{instr_part, end_part, part_segments, part_size}
use Rattle.redn_block.proofs.Parts.{segments_of}
use Rattle.redn_proof_block.proofs.Others.{spares_by}

-- an opcode that drafts have
abbrev is_body : Opcode → Bool
is_body Wait = false
is_body Enable = false
is_body (Undefined n) = false
is_body _ = true

abbrev pub is_plain : Draft → Bool
is_plain d = spares_all is_lapping d && (is_body d.op && (not (is_send d.op) || not (is_table d.remote)))

instr_plain : (i : Instr) (at : SlotRef) → list_all is_plain (drafts_of (part_segments at (instr_part i))) ≡ true
instr_plain (instr.Set to v) at = refl
instr_plain (instr.Add to (cell.Num n)) at = refl
instr_plain (instr.Add to _) at = refl
instr_plain _ at = refl

reply_plain : (ws : List Cell) (i n : ℕ) → list_all is_plain (copies_from i ws ++ send_words n ∷ []) ≡ true
reply_plain [] i n = refl
reply_plain (w ∷ ws) i n = reply_plain ws (i + 1) n

end_plain : (first : ℕ) (e : End) (at : SlotRef) → list_all is_plain (drafts_of (part_segments at (end_part first e))) ≡ true
end_plain first (Reply words) at = reply_plain words 0 (length words)
end_plain first _ at = refl

pub block_plain : (first : ℕ) (is : List Instr) (e : End) (at : SlotRef) → list_all is_plain (drafts_of (segments_of first at is e)) ≡ true
block_plain first [] e at = ap (λ (l : List (List Draft)). list_all is_plain (drafts_of l)) (append-nil (part_segments at (end_part first e))) ∙ end_plain first e at
block_plain first (i ∷ is) e at =
    let xs : List (List Draft) = part_segments at (instr_part i) in
    let ys : List (List Draft) = segments_of first (slot_behind at (part_size at (instr_part i))) is e in
    ap (list_all is_plain) (drafts_append xs ys) ∙ all_append is_plain (drafts_of xs) (drafts_of ys) (instr_plain i at) (block_plain first is e (slot_behind at (part_size at (instr_part i))))

-- the descriptor of the own ring, before its first segment
other_descriptor : (p : Space) (v : ℕ) → is_descriptor p ≡ false → same_space p (space.Descriptor v) ≡ false
other_descriptor p v e = false_from_ne_true (same_space p (space.Descriptor v)) (λ t. false≢true (sym e ∙ ap is_descriptor (same_space_is p (space.Descriptor v) t)))

neither : (a b : Bool) → a ≡ false → b ≡ false → a || b ≡ false
neither false b e f = f
neither true b e f = e

module _ (v : ℕ) (d : Draft) (plain : is_plain d ≡ true) (own : both_sides (leaves_descriptor v) d ≡ true) (far : leaves_descriptors d ≡ true) where
  local_side : (op : Opcode) → is_body op ≡ true → holds_of (leaves_descriptor v) (local_by d op) ≡ true → same_space (local_space d) (space.Descriptor v) ≡ false
  local_side Wait b h = absurd (false≢true b)
  local_side Enable b h = absurd (false≢true b)
  local_side (Undefined n) b h = absurd (false≢true b)
  local_side _ b h = not_true (same_space (local_space d) (space.Descriptor v)) h

  spared_first : spares_all (set_aside v 0) d ≡ true
  spared_first =
      let parts = and_parts (spares_all is_lapping d) _ plain in
      let sides = and_parts (not (is_lapping (local_space d))) (not (is_lapping (remote_space d))) parts.0 in
      let near = and_parts (holds_of (leaves_descriptor v) (local_by d d.op)) (holds_of (leaves_descriptor v) (remote_by d d.op)) own in
      spares_by (set_aside v 0) d (neither (is_lapping (local_space d)) (same_space (local_space d) (space.Descriptor v)) (not_true (is_lapping (local_space d)) sides.0) (local_side d.op (and_parts (is_body d.op) _ parts.1).0 near.0)) (neither (is_lapping (remote_space d)) (same_space (remote_space d) (space.Descriptor v)) (not_true (is_lapping (remote_space d)) sides.1) (other_descriptor (remote_space d) v (not_true (is_descriptor (remote_space d)) far)))

pub all_spared : (v j : ℕ) (ds : List Draft) → list_all is_plain ds ≡ true → (j ≡ 0 → list_all (both_sides (leaves_descriptor v)) ds ≡ true) → list_all leaves_descriptors ds ≡ true → list_all (spares_all (set_aside v j)) ds ≡ true
all_spared v j [] plain own far = refl
all_spared v j (d ∷ ds) plain own far =
    let a = and_parts (is_plain d) (list_all is_plain ds) plain in
    let f = and_parts (leaves_descriptors d) (list_all leaves_descriptors ds) far in
    and_from (spares_all (set_aside v j) d) (list_all (spares_all (set_aside v j)) ds) (one j own) (all_spared v j ds a.1 (λ z. (and_parts (both_sides (leaves_descriptor v) d) _ (own z)).1) f.1)
  where
    one : (j : ℕ) → (j ≡ 0 → list_all (both_sides (leaves_descriptor v)) (d ∷ ds) ≡ true) → spares_all (set_aside v j) d ≡ true
    one zero h = spared_first v d (and_parts (is_plain d) (list_all is_plain ds) plain).0 (and_parts (both_sides (leaves_descriptor v) d) _ (h refl)).0 (and_parts (leaves_descriptors d) (list_all leaves_descriptors ds) far).0
    one (suc i) h = (and_parts (spares_all is_lapping d) _ (and_parts (is_plain d) (list_all is_plain ds) plain).0).0

-- a SEND has no table at its other side
pub sends_flat : (d : Draft) → is_plain d ≡ true → is_table d.remote ≡ true → is_send d.op ≡ false
sends_flat d h table =
    let parts = and_parts (spares_all is_lapping d) _ h in
    elim (or_cases (not (is_send d.op)) (not (is_table d.remote)) (and_parts (is_body d.op) _ parts.1).1) [ inl none ↦ not_true (is_send d.op) none | inr flat ↦ absurd (false≢true (sym (not_true (is_table d.remote) flat) ∙ table)) ]
