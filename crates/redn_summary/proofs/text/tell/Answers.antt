use Rattle.std.proofs.Common.{◌++◌, List, ap, ◌∙◌}
use Rattle.redn_words.specs.declared.types.Obs.{Obs}
use Rattle.redn_summary.specs.Counting.{replies_text}
use Rattle.redn_summary.proofs.Replies.{told_none, told_more}
use Rattle.redn_summary.proofs.text.tell.Goals as goal

pub loop-chain-init : goal.loop-chain-init
loop-chain-init c =
    told_none c.args.number c.args.chains c.args.counted.now c.from.result c.from-2.result c.new-text.result.items c.add_line.new.text.items c.add_line-2.new.text.items c.add_line-3.new.text.items c.add_line-4.new.text.items
    c.new-text.ensures.items c.from.ensures c.from-2.ensures c.in_ok-add_line.ensures c.in_ok-add_line-2.ensures c.in_ok-add_line-3.ensures c.in_ok-add_line-4.ensures

pub loop-chain-preserved : goal.loop-chain-preserved
loop-chain-preserved c =
    told_more c.args.number c.args.chains c.args.counted.now c.loop-chain.chain c.loop-chain.text.items c.add_replies.new.text.items c.loop-chain.invariant
    (c.in_ok-add_replies.ensures ∙ ap (λ (l : List Obs). c.loop-chain.text.items ++ replies_text l c.loop-chain.chain) c.deref.ensures.value)
