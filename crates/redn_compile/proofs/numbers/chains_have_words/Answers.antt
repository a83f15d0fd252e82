use Rattle.std.proofs.Common.{◌<◌, ◌^◌, ℕ, arith, subst}
use Rattle.std.proofs.lemmas.List.{take_all}
use Rattle.std.specs.List.{All}
use Rattle.std.specs.Prelude.{List}
use Rattle.redn_kernel.specs.declared.types.ChainInit.{ChainInit}
use Rattle.redn_block.proofs.Slots.{all_next}
use Rattle.redn_compile.proofs.numbers.chains_have_words.Goals as goal

pub loop-chain-preserved : goal.loop-chain-preserved
loop-chain-preserved c =
    let words : All (λ (v : ℕ). v < 2 ^ 64) c.chain-item.result.vars = subst (λ (l : List ℕ). All (λ (v : ℕ). v < 2 ^ 64) l) c.as_slice.ensures c.are_words.ensures in
    all_next (λ (x : ChainInit). All (λ (v : ℕ). v < 2 ^ 64) x.vars) c.args.chains.now c.loop-chain.chain-index c.chain-item.result (omega arith) c.loop-chain.invariant (subst (λ (x : ChainInit). All (λ (v : ℕ). v < 2 ^ 64) x.vars) c.chain-item.is words)

pub returns : goal.returns
returns c = subst (λ (l : List ChainInit). All (λ (x : ChainInit). All (λ (v : ℕ). v < 2 ^ 64) x.vars) l) (take_all c.loop-chain.chain-index c.args.chains.now (omega arith)) c.loop-chain.invariant
