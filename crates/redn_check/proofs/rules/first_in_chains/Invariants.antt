use Rattle.std.proofs.Common.{◌≡◌, take}
use Rattle.std.specs.List.{flat_map}
use Rattle.redn_check.specs.Faults.{first_of}
use Rattle.redn_check.specs.Rules.{chain_faults}
use Rattle.redn_check.proofs.rules.first_in_chains.Given as goal

-- those so far
abbrev pub invariant-loop-chain : goal.invariant-loop-chain
invariant-loop-chain l = l.first ≡ first_of (flat_map (chain_faults l.f.tables) (take l.chain-index l.chain-items))
