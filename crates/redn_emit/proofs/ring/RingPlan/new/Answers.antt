use Rattle.std.proofs.Common.{rules, ◌≡◌, ℕ, ◌^◌, true, List, length, get_or, sym, ap, ◌∙◌, subst, arith}
use Rattle.redn_segment.specs.declared.types.Draft.{Draft}
use Rattle.redn_segment.specs.Building.{drafts_of}
use Rattle.redn_block.specs.Blocks.{block_segments}
use Rattle.redn_recycle.specs.Lapped.{MayGoRound, ring_of, lapped_segments}
use Rattle.redn_emit.specs.Layout.{Plain, with_its_laps}
use Rattle.redn_emit.specs.Kept.{are_near}
use Rattle.redn_emit.proofs.Lists.{drafts_next}
use Rattle.redn_emit.proofs.Laps.{lapped_some, may_go, slots_counted, block_near, lapped_count, lapped_first}
use Rattle.redn_emit.proofs.ring.RingPlan.new.Goals as goal

pub with_laps-requires : goal.with_laps-requires
with_laps-requires c =
    let segs : c.in_ok-copied.field-0.segments.items ≡ block_segments c.args.first c.args.number c.args.block.now = c.in_ok-copied.ensures.segments ∙ c.in_ok-plain.ensures.segments in
    let ring : c.in_ok-copied.field-0.ring ≡ c.args.number = c.in_ok-copied.ensures.number ∙ c.in_ok-plain.ensures.ring in
    let may = may_go (2 ^ 32) c.args.first c.args.number c.args.block.now c.requires.fits c.requires.small in
    subst (λ (l : List (List Draft)). MayGoRound l c.in_ok-copied.field-0.ring) (sym segs) (subst (λ (n : ℕ). MayGoRound (block_segments c.args.first c.args.number c.args.block.now) n) (sym ring) may)

pub count-slots-requires : goal.count-slots-requires
count-slots-requires c =
    let segs : c.in_ok-copied.field-0.segments.items ≡ block_segments c.args.first c.args.number c.args.block.now = c.in_ok-copied.ensures.segments ∙ c.in_ok-plain.ensures.segments in
    let ring : c.in_ok-copied.field-0.ring ≡ c.args.number = c.in_ok-copied.ensures.number ∙ c.in_ok-plain.ensures.ring in
    let all : c.deref.result.now ≡ lapped_segments c.args.number (ring_of (block_segments c.args.first c.args.number c.args.block.now) c.args.number 0 0) = c.deref.ensures.value ∙ c.in_ok-lapped.ensures.segments 0 0 ∙ (λ i. lapped_segments (ring i) (ring_of (segs i) (ring i) 0 0)) in
    let may = may_go (2 ^ 32) c.args.first c.args.number c.args.block.now c.requires.fits c.requires.small in
    let many = ap (λ (l : List (List Draft)). length (drafts_of l)) all in
    let count = lapped_count (block_segments c.args.first c.args.number c.args.block.now) c.args.number may.some in
    let few = slots_counted (2 ^ 32) c.args.first c.args.number c.args.block.now c.requires.fits in
    omega (arith, many, count, few)

pub index-requires : goal.index-requires
index-requires c =
    let segs : c.in_ok-copied.field-0.segments.items ≡ block_segments c.args.first c.args.number c.args.block.now = c.in_ok-copied.ensures.segments ∙ c.in_ok-plain.ensures.segments in
    let ring : c.in_ok-copied.field-0.ring ≡ c.args.number = c.in_ok-copied.ensures.number ∙ c.in_ok-plain.ensures.ring in
    let all : c.deref.result.now ≡ lapped_segments c.args.number (ring_of (block_segments c.args.first c.args.number c.args.block.now) c.args.number 0 0) = c.deref.ensures.value ∙ c.in_ok-lapped.ensures.segments 0 0 ∙ (λ i. lapped_segments (ring i) (ring_of (segs i) (ring i) 0 0)) in
    let may = may_go (2 ^ 32) c.args.first c.args.number c.args.block.now c.requires.fits c.requires.small in
    let some = lapped_some (block_segments c.args.first c.args.number c.args.block.now) c.args.number may.some in
    let many = ap length all in
    let len = c.deref.ensures.len in
    omega (arith, many, some, len)

pub overflow_cast-opens : goal.overflow_cast-opens
overflow_cast-opens c =
    let segs : c.in_ok-copied.field-0.segments.items ≡ block_segments c.args.first c.args.number c.args.block.now = c.in_ok-copied.ensures.segments ∙ c.in_ok-plain.ensures.segments in
    let ring : c.in_ok-copied.field-0.ring ≡ c.args.number = c.in_ok-copied.ensures.number ∙ c.in_ok-plain.ensures.ring in
    let all : c.in_ok-lapped.field-0.segments.items ≡ lapped_segments c.args.number (ring_of (block_segments c.args.first c.args.number c.args.block.now) c.args.number 0 0) = c.in_ok-lapped.ensures.segments 0 0 ∙ (λ i. lapped_segments (ring i) (ring_of (segs i) (ring i) 0 0)) in
    let may = may_go (2 ^ 32) c.args.first c.args.number c.args.block.now c.requires.fits c.requires.small in
    let len : c.len-opens.result ≡ length c.index.result.now = (let h : c.len-opens.result ≡ length c.behind-lapped.inside.drafts.items = search rules in h) ∙ ap length c.behind-lapped.view_is in
    let is : length c.index.result.now ≡ length (get_or c.in_ok-lapped.field-0.segments.items 0 c.index.result.now) = ap length c.index.ensures in
    let some = lapped_some (block_segments c.args.first c.args.number c.args.block.now) c.args.number may.some in
    let many = ap length all in
    let next = drafts_next c.in_ok-lapped.field-0.segments.items 0 c.index.result.now (omega (arith, many, some)) in
    let drafts = ap (λ (l : List (List Draft)). length (drafts_of l)) all in
    let count = lapped_count (block_segments c.args.first c.args.number c.args.block.now) c.args.number may.some in
    let few = slots_counted (2 ^ 32) c.args.first c.args.number c.args.block.now c.requires.fits in
    omega (arith, len, is, next, drafts, count, few)

pub invariant_of-result : goal.invariant_of-result
invariant_of-result c =
    let plain : Plain = record { number = c.in_ok-plain.plain.ring; segments = c.in_ok-plain.plain.segments.items } in
    let may : MayGoRound plain.segments plain.number = (let h = may_go (2 ^ 32) c.args.first c.args.number c.args.block.now c.requires.fits c.requires.small in subst (λ (l : List (List Draft)). MayGoRound l plain.number) (sym c.in_ok-plain.ensures.segments) (subst (λ (n : ℕ). MayGoRound (block_segments c.args.first c.args.number c.args.block.now) n) (sym c.in_ok-plain.ensures.ring) h)) in
    let all : c.in_ok-lapped.field-0.segments.items ≡ with_its_laps plain = c.in_ok-lapped.ensures.segments 0 0 ∙ (λ i. lapped_segments (c.in_ok-copied.ensures.number i) (ring_of (c.in_ok-copied.ensures.segments i) (c.in_ok-copied.ensures.number i) 0 0)) in
    let near : are_near (with_its_laps plain) ≡ true = (λ i. are_near (lapped_segments (c.in_ok-plain.ensures.ring i) (ring_of (c.in_ok-plain.ensures.segments i) (c.in_ok-plain.ensures.ring i) 0 0))) ∙ block_near (2 ^ 32) c.args.first c.args.number c.args.block.now c.requires.fits in
    let len : c.len-opens.result ≡ length c.index.result.now = (let h : c.len-opens.result ≡ length c.behind-lapped.inside.drafts.items = search rules in h) ∙ ap length c.behind-lapped.view_is in
    record {
      laps = all;
      slots_are = c.count-slots.ensures ∙ ap (λ (l : List (List Draft)). length (drafts_of l)) (c.deref.ensures.value ∙ all) ∙ lapped_count plain.segments plain.number may.some;
      opens_are = len ∙ ap length c.index.ensures ∙ ap (λ (l : List (List Draft)). length (get_or l 0 c.index.result.now)) all ∙ lapped_first plain.segments plain.number may.some c.index.result.now;
      near = ap are_near all ∙ near;
    }
