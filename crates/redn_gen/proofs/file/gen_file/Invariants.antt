use Rattle.std.proofs.Common.{◌≡◌, map}
use Rattle.redn_gen.specs.Generated.{below, chain}
use Rattle.redn_gen.proofs.file.gen_file.Given as goal

-- the chains so far
abbrev pub invariant-loop-number : goal.invariant-loop-number
invariant-loop-number l = l.chains ≡ map chain (below l.number)
