use Rattle.redn_check.proofs.Accepted.{placed_items}
use Rattle.redn_check.proofs.number.tables.Goals as goal

pub table_bytes-requires : goal.table_bytes-requires
table_bytes-requires c = placed_items c.args.tables.now c.requires _ c.table-item.result c.loop-table-test.true c.table-item.is
