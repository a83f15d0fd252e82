use Rattle.std.proofs.Common.{◌≡◌, take}
use Rattle.redn_check.specs.Faults.{first_of}
use Rattle.redn_check.specs.Names.{Holds, chain_names}
use Rattle.redn_check.specs.Rules.{twice}
use Rattle.redn_check.proofs.names.declare_chains.Given as goal

-- those so far
abbrev pub invariant-loop-i : goal.invariant-loop-i
invariant-loop-i l = record {
  holds : Holds l.names.places (chain_names (take l.i l.chains));
  told : l.first ≡ first_of (twice (chain_names (take l.i l.chains)));
}
