use Rattle.std.proofs.Common.{sym, ap, ◌∙◌}
use Rattle.std.specs.Prelude.{is_some}
use Rattle.redn_sched.specs.MadeSchedules.{chain_acts}
use Rattle.redn_sched.proofs.Turning.{found_at, none_with}
use Rattle.redn_sched.proofs.ChainTurns.{acts_next}
use Rattle.redn_sched.proofs.fair.Fair.first_acting.Goals as goal

pub returns-in-Some-clause-chain : goal.returns-in-Some-clause-chain
returns-in-Some-clause-chain c =
    let s = c.args.a.now.state in
    let acts = sym (acts_next s c.loop-chain.chain c.index.result.now) ∙ ap is_some (sym c.chain_turn.ensures ∙ c.in-Some.is) in
    sym (found_at (chain_acts s) c.args.from c.args.to c.loop-chain.chain c.loop-chain.auto.chain c.loop-chain-test.true c.loop-chain.invariant acts)

pub loop-chain-preserved : goal.loop-chain-preserved
loop-chain-preserved c =
    let s = c.args.a.now.state in
    let rests = sym (acts_next s c.loop-chain.chain c.index.result.now) ∙ ap is_some (sym c.chain_turn.ensures ∙ c.in_default.is) in
    none_with (chain_acts s) c.args.from c.loop-chain.chain c.loop-chain.auto.chain c.loop-chain.invariant rests
