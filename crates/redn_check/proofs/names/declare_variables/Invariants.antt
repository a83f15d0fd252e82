use Rattle.std.proofs.Common.{◌≡◌, ◌++◌, take}
use Rattle.redn_check.specs.Faults.{first_of}
use Rattle.redn_check.specs.Names.{Holds, variable_names}
use Rattle.redn_check.specs.Rules.{twice}
use Rattle.redn_check.proofs.names.declare_variables.Given as goal

-- those so far, behind the arguments
abbrev pub invariant-loop-i : goal.invariant-loop-i
invariant-loop-i l = record {
  holds : Holds l.names.places (l.args ++ variable_names (take l.i l.vars));
  told : l.first ≡ first_of (twice (l.args ++ variable_names (take l.i l.vars)));
}
