use Rattle.std.proofs.Common.{◌++◌, ◌∷◌, [], sym, ap, ◌∙◌}
use Rattle.redn_words.specs.Arguments.{argument_words}
use Rattle.redn_words.proofs.Arguments.{words_more}
use Rattle.redn_source.proofs.start.argument_words.Goals as goal

pub loop-i-preserved : goal.loop-i-preserved
loop-i-preserved c =
    let before = argument_words c.args.bytes.now 0 c.loop-i.i in
    c.in_ok-push.ensures.items ∙ ap (λ ws. ws ++ c.in-Some.word ∷ []) c.loop-i.invariant ∙ ap (λ w. before ++ w ∷ []) c.in-Some.ensures.value ∙ sym (words_more c.args.bytes.now c.loop-i.i)
