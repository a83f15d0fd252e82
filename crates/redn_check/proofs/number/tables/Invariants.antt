use Rattle.std.proofs.Common.{◌≡◌, take, map}
use Rattle.redn_check.specs.Numbering.{table_init}
use Rattle.redn_check.proofs.number.tables.Given as goal

-- those so far
abbrev pub invariant-loop-table : goal.invariant-loop-table
invariant-loop-table l = l.list ≡ map table_init (take l.table-index l.tables)
