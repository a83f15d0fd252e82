use Rattle.std.proofs.Common.{◌∙◌, ◌++◌, ap, take, map, take}
use Rattle.std.specs.List.{flat_map}
use Rattle.redn_check.specs.Flow.{load_of}
use Rattle.redn_check.specs.Rules.{weights, weight_at}
use Rattle.redn_check.proofs.Weighed.{in_body, chain_more}
use Rattle.redn_check.proofs.weight.first_too_heavy.Goals as goal

pub loop-chain-preserved : goal.loop-chain-preserved
loop-chain-preserved c =
    let before = flat_map weights (take c.loop-chain.chain-index c.args.chains.now) in
    let chain = c.chain-item.result in
    let args = c.with_arguments-args.ensures before c.loop-chain.invariant ∙ ap (λ a. load_of (before ++ map (λ n. weight_at n.at 1) a)) c.as_slice.ensures in
    let body = c.with_body-load.ensures (before ++ map (λ n. weight_at n.at 1) chain.args) args ∙ ap (λ b. load_of ((before ++ map (λ n. weight_at n.at 1) chain.args) ++ in_body b)) c.as_slice-in-loop-chain.ensures in
    body ∙ ap load_of (chain_more c.args.chains.now _ chain c.loop-chain-test.true c.chain-item.is)
