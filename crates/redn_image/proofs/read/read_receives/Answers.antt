use Rattle.std.proofs.Common.{[], ◌∷◌, ◌++◌, ap, ◌∙◌}
use Rattle.redn_words.specs.declared.types.Receive.{Receive}
use Rattle.redn_image.specs.Spelling.{receive_at}
use Rattle.redn_image.proofs.Reading.{rows_more}
use Rattle.redn_image.proofs.read.read_receives.Goals as goal

pub loop-i-preserved : goal.loop-i-preserved
loop-i-preserved c =
    c.in_ok-push.ensures.items ∙ ap (λ (x : Receive). c.loop-i.rows.items ++ x ∷ []) c.read_receive.ensures ∙ rows_more receive_at 16 c.args.bytes.now c.args.at c.loop-i.i _ c.loop-i.invariant
