use Rattle.std.proofs.Common.{◌≡◌, take}
use Rattle.redn_check.specs.Faults.{first_of}
use Rattle.redn_check.specs.Names.{Holds}
use Rattle.redn_check.specs.Rules.{twice}
use Rattle.redn_check.proofs.names.declare_arguments.Given as goal

-- those so far
abbrev pub invariant-loop-i : goal.invariant-loop-i
invariant-loop-i l = record {
  holds : Holds l.names.places (take l.i l.args);
  told : l.first ≡ first_of (twice (take l.i l.args));
}
