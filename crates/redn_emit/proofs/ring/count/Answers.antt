use Rattle.std.proofs.Common.{rules, ◌≡◌, length, ap, ◌∙◌, arith}
use Rattle.redn_emit.proofs.Lists.{drafts_next}
use Rattle.redn_emit.proofs.ring.count.Goals as goal

pub overflow_cast-drafts : goal.overflow_cast-drafts
overflow_cast-drafts c =
    let len : c.len.result ≡ length (c.segment-item.result) = (let h : c.len.result ≡ length c.segment.inside.drafts.items = search rules in h) ∙ ap length c.segment.view_is in
    let is = ap length c.segment-item.is in
    let next = drafts_next c.args.segments.now c.loop-segment.segment-index c.segment-item.result c.loop-segment-test.true in
    omega (arith, len, is, next)

pub overflow_add-drafts : goal.overflow_add-drafts
overflow_add-drafts c =
    let len : c.len.result ≡ length (c.segment-item.result) = (let h : c.len.result ≡ length c.segment.inside.drafts.items = search rules in h) ∙ ap length c.segment.view_is in
    let is = ap length c.segment-item.is in
    let next = drafts_next c.args.segments.now c.loop-segment.segment-index c.segment-item.result c.loop-segment-test.true in
    omega (arith, len, is, next)
