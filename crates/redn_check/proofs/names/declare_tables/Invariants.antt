use Rattle.std.proofs.Common.{◌≡◌, take}
use Rattle.redn_check.specs.Faults.{first_of}
use Rattle.redn_check.specs.Names.{Holds, table_names}
use Rattle.redn_check.specs.Rules.{twice}
use Rattle.redn_check.proofs.names.declare_tables.Given as goal

-- those so far
abbrev pub invariant-loop-i : goal.invariant-loop-i
invariant-loop-i l = record {
  holds : Holds l.names.places (table_names (take l.i l.tables));
  told : l.first ≡ first_of (twice (table_names (take l.i l.tables)));
}
