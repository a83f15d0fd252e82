use Rattle.std.proofs.Common.{◌≡◌, ◌++◌, map, take}
use Rattle.redn_emit.specs.Layout as layout
use Rattle.redn_emit.proofs.rows.push_table_rows.Given as goal

abbrev pub invariant-loop-table : goal.invariant-loop-table
invariant-loop-table l = l.rows.items ≡ l.initial.rows.items ++ map (layout.table_row l.plan) (take l.table-index l.tables)
