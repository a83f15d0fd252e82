use Rattle.std.proofs.Common.{◌≡◌, ◌-◌, ◌^◌, min, take}
use Rattle.std.specs.List.{flat_map}
use Rattle.redn_check.specs.Faults.{first_of}
use Rattle.redn_check.specs.Rules.{lengths, table_faults}
use Rattle.redn_check.specs.Statements.{with_earlier}
use Rattle.redn_check.proofs.limits.first_in_tables.Given as goal

-- those so far
abbrev pub invariant-loop-i : goal.invariant-loop-i
invariant-loop-i l = record {
  summed : l.total ≡ min (lengths (take l.i l.tables)) (2 ^ 64 - 1);
  told : l.first ≡ first_of (flat_map (λ e. table_faults e.0 e.1) (with_earlier (take l.i l.tables)));
}
