use Rattle.std.proofs.Common.{◌≡◌, map, take}
use Rattle.redn_source.proofs.start.first_tables.Given as goal

-- those so far
abbrev pub invariant-loop-table : goal.invariant-loop-table
invariant-loop-table l = map (λ v. v.items) l.all.items ≡ map (λ t. t.bytes) (take l.table-index l.tables)
