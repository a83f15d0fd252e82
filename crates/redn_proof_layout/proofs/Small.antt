-- The numbers of a block's drafts are small.
use Rattle.std.proofs.Common.{◌≡◌, ℕ, ◌+◌, ◌*◌, ◌^◌, ◌≤◌, true, List, [], ◌∷◌, ◌++◌, length, map, refl, ap, ◌∙◌, arith}
use Rattle.std.specs.List.{list_all, All}
use Rattle.std.proofs.lemmas.Bool.{lt-ltb, le-leb}
use Rattle.std.proofs.lemmas.List.{append-nil}
use Rattle.std.proofs.lemmas.List.Elements.{All-head, All-tail}
use Rattle.redn_kernel.specs.declared.types.Cell.{Cell}
use Rattle.redn_kernel.specs.declared.types.Cell.TheVariants as cell
use Rattle.redn_graph.specs.declared.types.Instr.{Instr}
use Rattle.redn_graph.specs.declared.types.Instr.TheVariants.{Add}
use Rattle.redn_graph.specs.declared.types.End.{End}
use Rattle.redn_graph.specs.declared.types.End.TheVariants.{Reply}
use Rattle.redn_graph.specs.declared.types.Block.{Block}
use Rattle.redn_segment.specs.declared.types.SlotRef.{SlotRef}
use Rattle.redn_segment.specs.declared.types.Draft.{Draft}
use Rattle.redn_segment.specs.Building.{drafts_of}
use Rattle.redn_segment.specs.Effects.{slot_behind}
use Rattle.redn_segment.proofs.Growing.{drafts_append}
use Rattle.redn_move.specs.Replying.{copies_from, send_words}
use Rattle.redn_block.specs.Blocks.{instr_part, end_part, part_segments, part_size, all_segments, ring_start, block_segments, InstrWords, BlockWords, EndFits, BlockFits}
use Rattle.redn_proof_layout.proofs.Narrow.{is_small}
use Rattle.redn_segment.proofs.Both.{all_append as all_of_both}

add_small : (at : SlotRef) (to by : Cell) → InstrWords (Add to by) → list_all is_small (drafts_of (part_segments at (instr_part (Add to by)))) ≡ true
add_small at to (cell.Num v) word = let few = lt-ltb v (2 ^ 64) word in rw few refl
add_small at to _ word = refl

instr_small : (at : SlotRef) (i : Instr) → InstrWords i → list_all is_small (drafts_of (part_segments at (instr_part i))) ≡ true
instr_small at (Add to by) word = add_small at to by word
instr_small at _ word = refl

sent_small : (i n : ℕ) (words : List Cell) → n ≤ 8 → i + length words ≤ 8 → list_all is_small (copies_from i words ++ send_words n ∷ []) ≡ true
sent_small i n [] few low = let short = le-leb (8 * n) 64 (omega (arith, few)) in rw short refl
sent_small i n (w ∷ ws) few low =
    let near = le-leb (8 * i + 0) 128 (omega (arith, low)) in rw near (sent_small (i + 1) n ws few (omega (arith, low)))

end_small : (at : SlotRef) (most first : ℕ) (e : End) → EndFits most first e → list_all is_small (drafts_of (part_segments at (end_part first e))) ≡ true
end_small at most first (Reply words) fits = sent_small 0 (length words) words fits.1 (let few = fits.1 in omega (arith, few))
end_small at most first _ fits = refl

abbrev segments_of : ℕ → SlotRef → List Instr → End → List (List Draft)
segments_of first at is e = all_segments at (map instr_part is ++ end_part first e ∷ [])

small_from : (most first : ℕ) (is : List Instr) (e : End) (at : SlotRef) → All InstrWords is → EndFits most first e → list_all is_small (drafts_of (segments_of first at is e)) ≡ true
small_from most first [] e at words fits = ap (λ (l : List (List Draft)). list_all is_small (drafts_of l)) (append-nil (part_segments at (end_part first e))) ∙ end_small at most first e fits
small_from most first (i ∷ is) e at words fits =
    let xs : List (List Draft) = part_segments at (instr_part i) in
    let ys : List (List Draft) = segments_of first (slot_behind at (part_size at (instr_part i))) is e in
    ap (list_all is_small) (drafts_append xs ys) ∙ all_of_both is_small (drafts_of xs) (drafts_of ys) (instr_small at i (All-head InstrWords i is words)) (small_from most first is e (slot_behind at (part_size at (instr_part i))) (All-tail InstrWords i is words) fits)

pub block_small : (most first ring : ℕ) (b : Block) → BlockWords b → BlockFits most first b → list_all is_small (drafts_of (block_segments first ring b)) ≡ true
block_small most first ring b words fits = small_from most first b.instrs b.end (ring_start ring) words.instrs fits.end
