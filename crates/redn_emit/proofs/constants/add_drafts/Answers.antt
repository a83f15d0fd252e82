use Rattle.std.proofs.Common.{ℕ, List}
use Rattle.redn_segment.specs.declared.types.Draft.{Draft}
use Rattle.redn_emit.specs.Layout.{number_read}
use Rattle.redn_emit.proofs.Lists.{once_step}
use Rattle.redn_emit.proofs.constants.add_drafts.Goals as goal

pub loop-d-preserved : goal.loop-d-preserved
loop-d-preserved c =
    let f : Draft → List ℕ = λ (d : Draft). number_read d.local in
    once_step f c.args.seen.now.keys c.loop-d.seen.keys c.add_draft.new.seen.keys c.args.drafts.now c.loop-d.d-index _ c.loop-d-test.true (c.in_ok-add_draft.ensures {u = tt}) c.loop-d.invariant
