-- No slot is turned into a SEND, and only tables are read.
use Rattle.std.proofs.Common.{◌≡◌, inl, inr, ℕ, ◌+◌, Bool, true, false, not, ◌||◌, List, [], ◌∷◌, ◌++◌, length, refl, sym, ap, ◌∙◌}
use Rattle.std.specs.List.{list_all}
use Rattle.std.proofs.lemmas.Bool.{and_parts, or_cases, false≢true}
use Rattle.std.proofs.lemmas.List.{append-nil}
use Rattle.redn_words.specs.declared.types.Opcode.{Opcode}
use Rattle.redn_words.specs.Requests.{opcode_named}
use Rattle.redn_words.specs.Words.{number, spelled}
use Rattle.redn_kernel.specs.declared.types.Cell.{Cell}
use Rattle.redn_kernel.specs.declared.types.Cell.TheVariants as cell
use Rattle.redn_graph.specs.declared.types.Instr.{Instr}
use Rattle.redn_graph.specs.declared.types.Instr.TheVariants as instr
use Rattle.redn_graph.specs.declared.types.End.{End}
use Rattle.redn_graph.specs.declared.types.End.TheVariants.{Reply}
use Rattle.redn_segment.specs.declared.types.SlotRef.{SlotRef}
use Rattle.redn_segment.specs.declared.types.Site.{Site}
use Rattle.redn_segment.specs.declared.types.Site.TheVariants as site
use Rattle.redn_segment.specs.declared.types.Draft.{Draft}
use Rattle.redn_segment.specs.Sites.{kind_of, space_of, is_table}
use Rattle.redn_segment.specs.Building.{drafts_of}
use Rattle.redn_segment.specs.Effects.{slot_behind}
use Rattle.redn_segment.specs.Opcodes.{word_opcode, is_swap, IsMade, MayHave}
use Rattle.redn_segment.specs.Orders.{Follows, is_send}
use Rattle.redn_segment.specs.Rights.{is_table_kind}
use Rattle.redn_segment.proofs.Both.{all_append}
use Rattle.redn_segment.proofs.Growing.{drafts_append}
use Rattle.redn_segment.proofs.Kept.{not_true}
use Rattle.redn_move.specs.Replying.{copies_from, send_words}
use Rattle.redn_block.specs.Blocks.{instr_part, end_part, part_segments, part_size}
use Rattle.redn_block.proofs.Parts.{segments_of}

-- a draft that can turn a slot doesn't make it a SEND
abbrev pub makes_no_send : Draft → Bool
makes_no_send e = not (is_swap e.op) || not (is_send (word_opcode e.second))

instr_makes : (i : Instr) (at : SlotRef) → list_all makes_no_send (drafts_of (part_segments at (instr_part i))) ≡ true
instr_makes (instr.Set to v) at = refl
instr_makes (instr.Add to (cell.Num n)) at = refl
instr_makes (instr.Add to _) at = refl
instr_makes _ at = refl

reply_makes : (ws : List Cell) (i n : ℕ) → list_all makes_no_send (copies_from i ws ++ send_words n ∷ []) ≡ true
reply_makes [] i n = refl
reply_makes (w ∷ ws) i n = reply_makes ws (i + 1) n

end_makes : (first : ℕ) (e : End) (at : SlotRef) → list_all makes_no_send (drafts_of (part_segments at (end_part first e))) ≡ true
unfolding opcode_named number spelled
end_makes first (Reply words) at = reply_makes words 0 (length words)
end_makes first _ at = refl

pub block_makes : (first : ℕ) (is : List Instr) (e : End) (at : SlotRef) → list_all makes_no_send (drafts_of (segments_of first at is e)) ≡ true
block_makes first [] e at = ap (λ (l : List (List Draft)). list_all makes_no_send (drafts_of l)) (append-nil (part_segments at (end_part first e))) ∙ end_makes first e at
block_makes first (i ∷ is) e at =
    let xs : List (List Draft) = part_segments at (instr_part i) in
    let ys : List (List Draft) = segments_of first (slot_behind at (part_size at (instr_part i))) is e in
    ap (list_all makes_no_send) (drafts_append xs ys) ∙ all_append makes_no_send (drafts_of xs) (drafts_of ys) (instr_makes i at) (block_makes first is e (slot_behind at (part_size at (instr_part i))))

-- so what is made is none
made_no_send : (es : List Draft) (q : SlotRef) (op : Opcode) → list_all makes_no_send es ≡ true → IsMade es q op → is_send op ≡ false
made_no_send [] q op h m = absurd m
made_no_send (e ∷ es) q op h (inl m) =
    let parts = and_parts (makes_no_send e) (list_all makes_no_send es) h in
    let swap = (and_parts (is_swap e.op) _ m.0).0 in
    elim (or_cases (not (is_swap e.op)) (not (is_send (word_opcode e.second))) parts.0) [
      | inl none ↦ absurd (false≢true (sym (not_true (is_swap e.op) none) ∙ swap))
      | inr other ↦ ap is_send m.1 ∙ not_true (is_send (word_opcode e.second)) other
    ]
made_no_send (e ∷ es) q op h (inr m) = made_no_send es q op (and_parts (makes_no_send e) (list_all makes_no_send es) h).1 m

pub sends_alike : (all : List Draft) (q : SlotRef) (d : Draft) (op : Opcode) → list_all makes_no_send all ≡ true → MayHave all q d op → Follows d op → is_send op ≡ is_send d.op
sends_alike all q d op h may (inl same) = ap is_send same
sends_alike all q d op h (inl same) (inr turned) = ap is_send same
sends_alike all q d op h (inr made) (inr turned) = made_no_send all q op h made ∙ ap is_send (sym turned.0)

-- a site in a table's region is one of a table
pub table_read : (x : Site) → is_table_kind (kind_of (space_of x)) ≡ true → is_table x ≡ true
table_read (site.Table t o) h = refl
table_read (site.Cell (cell.Var i)) h = absurd (false≢true h)
table_read (site.Cell _) h = absurd (false≢true h)
table_read _ h = absurd (false≢true h)
