use Rattle.std.proofs.Common.{[], ◌∷◌, ◌++◌, ap, ◌∙◌}
use Rattle.redn_image.specs.Rules.{QueueNumbers}
use Rattle.redn_image.specs.Spelling.{queue_at}
use Rattle.redn_image.proofs.Reading.{rows_more}
use Rattle.redn_image.proofs.read.read_queues.Goals as goal

pub loop-i-preserved : goal.loop-i-preserved
loop-i-preserved c =
    c.in_ok-push.ensures.items ∙ ap (λ (x : QueueNumbers). c.loop-i.rows.items ++ x ∷ []) c.read_queue.ensures ∙ rows_more queue_at 32 c.args.bytes.now c.args.at c.loop-i.i _ c.loop-i.invariant
