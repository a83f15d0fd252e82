use Rattle.std.proofs.Common.{◌≡◌, ◌+◌, ◌^◌, ◌<◌, List, length, map, take, get_or, sym, ap, ◌∙◌, subst, arith}
use Rattle.std.specs.List.{All}
use Rattle.std.proofs.lemmas.List.{take_all}
use Rattle.redn_graph.specs.declared.types.Instr.{Instr}
use Rattle.redn_segment.specs.declared.types.SlotRef.{SlotRef}
use Rattle.redn_segment.specs.declared.types.Draft.{Draft}
use Rattle.redn_segment.specs.Building.{Building, drafts_of}
use Rattle.redn_block.specs.Blocks.{instr_part, end_part, all_segments, ring_start, InstrWords}
use Rattle.redn_block.proofs.Slots.{all_next, few_drafts, one_more, take_part}
use Rattle.redn_block.proofs.Whole.{block_follows}
use Rattle.redn_block.proofs.blocks.block_ring.Goals as goal

pub push_instr-requires-clause-few : goal.push_instr-requires-clause-few
push_instr-requires-clause-few c =
    subst (λ (l : List (List Draft)). length (drafts_of l) < 2147483648) (sym c.loop-instr.invariant.made) (few_drafts (ring_start c.args.ring) c.args.block.now c.loop-instr.instr-index c.requires.small (omega (arith, ap length c.as_slice-instr-items.ensures)))

pub loop-instr-preserved : goal.loop-instr-preserved
loop-instr-preserved c =
    let i = c.loop-instr.instr-index in
    let at : SlotRef = ring_start c.args.ring in
    let same : c.as_slice-instr-items.result.now ≡ c.args.block.now.instrs = c.as_slice-instr-items.ensures in
    let front = c.loop-instr.invariant in
    let made = c.in_ok-push_instr.ensures {u = tt} in
    let inside : i < length c.as_slice-instr-items.result.now = omega arith in
    let more : c.push_instr.new.b.segments ≡ all_segments at (map instr_part (take (i + 1) c.as_slice-instr-items.result.now)) =
    (ap (λ (e : Building). e.segments) made ∙ (one_more c.loop-instr.builder c.args.ring (map instr_part (take i c.as_slice-instr-items.result.now)) (instr_part (get_or c.as_slice-instr-items.result.now i _)) front.ring (front.made ∙ ap (λ (l : List Instr). all_segments at (map instr_part (take i l))) (sym same)) ∙ ap (all_segments at) (sym (take_part c.as_slice-instr-items.result.now i _ inside)))) in
    record {
      ring = ap (λ (e : Building). e.ring) made ∙ front.ring;
      made = more ∙ ap (λ (l : List Instr). all_segments at (map instr_part (take (i + 1) l))) same;
      words = subst (λ (l : List Instr). All InstrWords (take (i + 1) l)) same (all_next InstrWords c.as_slice-instr-items.result.now i _ inside (subst (λ (l : List Instr). All InstrWords (take i l)) (sym same) front.words) c.instr_words.ensures);
    }

pub push_end-requires-clause-few : goal.push_end-requires-clause-few
push_end-requires-clause-few c =
    subst (λ (l : List (List Draft)). length (drafts_of l) < 2147483648) (sym c.loop-instr.invariant.made) (few_drafts (ring_start c.args.ring) c.args.block.now c.loop-instr.instr-index c.requires.small (omega (arith, ap length c.as_slice-instr-items.ensures)))

pub returns-clause-segments : goal.returns-clause-segments
returns-clause-segments c =
    let b = c.args.block.now in
    let at : SlotRef = ring_start c.args.ring in
    let front = c.loop-instr.invariant in
    let whole : take c.loop-instr.instr-index b.instrs ≡ b.instrs = take_all c.loop-instr.instr-index b.instrs (omega (arith, ap length c.as_slice-instr-items.ensures)) in
    let made = c.in_ok-push_end.ensures {u = tt} in
    c.finish.ensures.segments ∙ (ap (λ (e : Building). e.segments) made ∙ one_more c.loop-instr.builder c.args.ring (map instr_part b.instrs) (end_part c.args.first b.end) front.ring (front.made ∙ ap (λ (l : List Instr). all_segments at (map instr_part l)) whole))

pub returns-clause-follows : goal.returns-clause-follows
returns-clause-follows c =
    let b = c.args.block.now in
    let whole : take c.loop-instr.instr-index b.instrs ≡ b.instrs = take_all c.loop-instr.instr-index b.instrs (omega (arith, ap length c.as_slice-instr-items.ensures)) in
    block_follows (2 ^ 32) c.args.first c.args.ring b c.requires.fits (record { instrs = subst (λ (l : List Instr). All InstrWords l) whole c.loop-instr.invariant.words; end = c.end_words.ensures })
