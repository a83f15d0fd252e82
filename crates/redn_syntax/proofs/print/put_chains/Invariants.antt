use Rattle.std.proofs.Common.{◌≡◌, ◌++◌, string_bytes, take}
use Rattle.std.specs.List.{flat_map}
use Rattle.redn_syntax.specs.Canonical.{spaced, chain}
use Rattle.redn_syntax.proofs.print.put_chains.Given as goal

-- those so far
abbrev pub invariant-loop-chain : goal.invariant-loop-chain
invariant-loop-chain l =
    string_bytes l.out ≡ string_bytes l.initial.out ++ spaced (flat_map chain (take l.chain-index l.chains))
