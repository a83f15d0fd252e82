use Rattle.std.proofs.Common.{◌∙◌, ap}
use Rattle.redn_check.specs.Faults.{first_of}
use Rattle.redn_check.specs.Rules.{chain_faults}
use Rattle.redn_check.proofs.EarliestOf.{stepped, first_more}
use Rattle.redn_check.proofs.rules.first_in_chains.Goals as goal

pub loop-chain-preserved : goal.loop-chain-preserved
loop-chain-preserved c =
    let f = c.args.f.now in
    let next = c.in_ok-next.ensures ∙ ap (λ t. first_of (chain_faults t c.chain-item.result)) c.as_slice.ensures in
    stepped _ _ _ _ _ _ c.earlier-first.ensures c.loop-chain.invariant next (first_more (chain_faults f.tables) c.as_slice-chain-items.result.now _ c.chain-item.result c.loop-chain-test.true c.chain-item.is)
