use Rattle.std.proofs.Common.{ℕ, List, [], get_or, ap, sym, ◌∙◌}
use Rattle.std.specs.List.{flat_map}
use Rattle.redn_segment.specs.declared.types.Draft.{Draft}
use Rattle.redn_segment.specs.Building.{drafts_of}
use Rattle.redn_emit.specs.Layout.{Plain, each_once, number_read}
use Rattle.redn_emit.proofs.Lists.{once_next}
use Rattle.redn_emit.proofs.constants.constants_of.Goals as goal

pub loop-ring-preserved : goal.loop-ring-preserved
loop-ring-preserved c =
    let f : Draft → List ℕ = λ (d : Draft). number_read d.local in
    let g : Plain → List ℕ = λ (r : Plain). flat_map f (drafts_of r.segments) in
    c.in_ok-add_segments.ensures {u = tt} ∙ ap (λ (ss : List (List Draft)). each_once c.loop-ring.seen.keys (flat_map f (drafts_of ss))) (c.segments.ensures ∙ ap (λ (r : Plain). r.segments) c.ring-item.is) ∙ ap (λ (s : List ℕ). each_once s (g (get_or c.args.rings.now c.loop-ring.ring-index c.ring-item.result))) c.loop-ring.invariant ∙ sym (once_next g [] c.args.rings.now c.loop-ring.ring-index c.ring-item.result c.loop-ring-test.true)
