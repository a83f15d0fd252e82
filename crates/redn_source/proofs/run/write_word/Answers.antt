use Rattle.redn_source.proofs.Tables.{written}
use Rattle.redn_source.proofs.run.write_word.Goals as goal

pub returns-then-table-tables : goal.returns-then-table-tables
returns-then-table-tables c =
    let p = c.put_word.ensures in
    written _ _ _ _ c.index-tables-table.result _ _ _ c.if-table-tables.true c.deref_mut.ensures.value c.put_word.auto.bytes p.fits p.written p.unchanged
