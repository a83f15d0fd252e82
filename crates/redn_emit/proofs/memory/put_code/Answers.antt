use Rattle.std.proofs.Common.{List, ℕ, ◌++◌, ap, ◌∙◌}
use Rattle.redn_segment.specs.declared.types.Draft.{Draft}
use Rattle.redn_emit.specs.Layout.{Plain, home, ring_bytes, with_its_laps}
use Rattle.redn_emit.proofs.Lists.{append_step}
use Rattle.redn_emit.proofs.memory.put_code.Goals as goal

pub loop-ring-preserved : goal.loop-ring-preserved
loop-ring-preserved c =
    let f : Plain → List ℕ = λ (r : Plain). ring_bytes (home c.args.plan.now c.args.tables.now) (with_its_laps r) in
    append_step f c.args.out.now.items c.loop-ring.out.items c.put_segments.new.out.items c.rings-ring-items.result.now c.loop-ring.ring-index c.ring-item.result c.loop-ring-test.true (c.in_ok-put_segments.ensures {u = tt} ∙ ap (λ (s : List (List Draft)). c.loop-ring.out.items ++ ring_bytes (home c.args.plan.now c.args.tables.now) s) c.with_its_laps.ensures.laps ∙ ap (λ (r : Plain). c.loop-ring.out.items ++ f r) c.ring-item.is) c.loop-ring.invariant
