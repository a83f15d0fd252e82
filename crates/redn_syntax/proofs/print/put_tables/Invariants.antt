use Rattle.std.proofs.Common.{◌≡◌, ◌++◌, string_bytes, take}
use Rattle.std.specs.List.{flat_map}
use Rattle.redn_syntax.specs.Canonical.{spaced, table}
use Rattle.redn_syntax.proofs.print.put_tables.Given as goal

-- those so far
abbrev pub invariant-loop-table : goal.invariant-loop-table
invariant-loop-table l =
    string_bytes l.out ≡ string_bytes l.initial.out ++ spaced (flat_map table (take l.table-index l.tables))
