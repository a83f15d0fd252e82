use Rattle.std.proofs.Common.{◌<◌, ◌^◌, ℕ, take}
use Rattle.std.specs.List.{All}
use Rattle.redn_kernel.specs.declared.types.ChainInit.{ChainInit}
use Rattle.redn_compile.proofs.numbers.chains_have_words.Given as goal

abbrev pub invariant-loop-chain : goal.invariant-loop-chain
invariant-loop-chain l = All (λ (c : ChainInit). All (λ (v : ℕ). v < 2 ^ 64) c.vars) (take l.chain-index l.chains)
