use Rattle.std.proofs.Common.{ℕ, List, get_or, ap, sym, ◌∙◌}
use Rattle.std.specs.List.{flat_map}
use Rattle.redn_segment.specs.declared.types.Draft.{Draft}
use Rattle.redn_emit.specs.Layout.{each_once, number_read}
use Rattle.redn_emit.proofs.Lists.{once_drafts}
use Rattle.redn_emit.proofs.constants.add_segments.Goals as goal

pub loop-segment-preserved : goal.loop-segment-preserved
loop-segment-preserved c =
    let f : Draft → List ℕ = λ (d : Draft). number_read d.local in
    c.in_ok-add_drafts.ensures {u = tt} ∙ ap (λ (ds : List Draft). each_once c.loop-segment.seen.keys (flat_map f ds)) (c.deref.ensures.value ∙ c.segment.view_is ∙ c.segment-item.is) ∙ ap (λ (s : List ℕ). each_once s (flat_map f (get_or c.args.segments.now c.loop-segment.segment-index c.segment-item.result))) c.loop-segment.invariant ∙ sym (once_drafts f c.args.seen.now.keys c.args.segments.now c.loop-segment.segment-index c.segment-item.result c.loop-segment-test.true)
