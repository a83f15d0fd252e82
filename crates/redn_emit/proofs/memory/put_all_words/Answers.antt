use Rattle.std.proofs.Common.{◌++◌, ap, ◌∙◌}
use Rattle.redn_emit.specs.Layout.{ChainPlan, chain_words}
use Rattle.redn_emit.proofs.Lists.{append_step}
use Rattle.redn_emit.proofs.memory.put_all_words.Goals as goal

pub loop-plan-preserved : goal.loop-plan-preserved
loop-plan-preserved c =
    append_step chain_words c.args.out.now.items c.loop-plan.out.items c.put_chain_words.new.out.items c.args.plans.now c.loop-plan.plan-index c.plan-item.result c.loop-plan-test.true (c.in_ok-put_chain_words.ensures {u = tt} ∙ ap (λ (q : ChainPlan). c.loop-plan.out.items ++ chain_words q) c.plan-item.is) c.loop-plan.invariant
