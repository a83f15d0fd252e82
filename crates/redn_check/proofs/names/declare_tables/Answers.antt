use Rattle.std.proofs.Common.{sym, subst, take}
use Rattle.redn_check.specs.Names.{Holds, table_names}
use Rattle.redn_check.proofs.Twice.{twice_more, mapped_more, mapped_length}
use Rattle.redn_check.proofs.names.declare_tables.Goals as goal

pub loop-i-preserved : goal.loop-i-preserved
loop-i-preserved c =
    let tables = c.args.tables.now in
    let before = table_names (take c.loop-i.i tables) in
    let held = c.loop-i.invariant.holds in
    let more = mapped_more (λ t. t.name) tables c.loop-i.i c.index-tables-i.result c.loop-i-test.true c.index-tables-i.is in
    let size = mapped_length (λ t. t.name) tables c.loop-i.i c.index-tables-i.result c.loop-i-test.true c.index-tables-i.is in
    record {
      holds = subst (Holds c.add.new.self.places) (sym more) (c.in_ok-found.ensures.holds before held size);
      told = twice_more before _ _ _ _ _ more c.earlier-first.ensures c.loop-i.invariant.told (c.in_ok-found.ensures.twice before held);
    }
