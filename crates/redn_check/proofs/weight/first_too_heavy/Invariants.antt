use Rattle.std.proofs.Common.{◌≡◌, take}
use Rattle.std.specs.List.{flat_map}
use Rattle.redn_check.specs.Flow.{load_of}
use Rattle.redn_check.specs.Rules.{weights}
use Rattle.redn_check.proofs.weight.first_too_heavy.Given as goal

-- those so far
abbrev pub invariant-loop-chain : goal.invariant-loop-chain
invariant-loop-chain l = l.load ≡ load_of (flat_map weights (take l.chain-index l.chains))
