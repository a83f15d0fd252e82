use Rattle.std.proofs.Common.{◌∙◌, ap, sym, take, length, ◌==◌, ◌++◌, arith, refl}
use Rattle.std.proofs.lemmas.List.{length-take-le}
use Rattle.redn_check.specs.Faults.{first_of, fault, when}
use Rattle.redn_check.specs.Rules.{bad_length, bad_items, table_faults}
use Rattle.redn_check.proofs.Behind.{sum_more, capped}
use Rattle.redn_check.proofs.EarliestOf.{stepped, first_of-append, first_more_earlier}
use Rattle.redn_check.proofs.limits.first_in_tables.Goals as goal

pub loop-i-preserved : goal.loop-i-preserved
loop-i-preserved c =
    let tables = c.args.tables.now in
    let t = c.index-tables-i.result in
    let before = take c.loop-i.i tables in
    let more = sum_more (λ u. u.length.value) tables c.loop-i.i t c.loop-i-test.true c.index-tables-i.is in
    let size = length-take-le c.loop-i.i tables (omega arith) in
    let a = when (length before == 64) (fault 12 t.name.at 65) in
    let many = c.when-one_more.ensures ∙ ap (λ n. first_of (when (n == 64) (fault 12 t.name.at 65))) (sym size) in
    let long = c.bad_length.ensures before t c.loop-i.invariant.summed refl in
    let two = stepped _ _ _ _ _ _ c.earlier-own.ensures many long (first_of-append a (bad_length before t)) in
    let three = stepped _ _ _ _ _ _ c.earlier.ensures two c.bad_items.ensures (first_of-append (a ++ bad_length before t) (bad_items t)) in
    record {
      summed = capped _ _ _ _ _ _ c.saturating_add-total.ensures c.loop-i.invariant.summed more;
      told = stepped _ _ _ _ _ _ c.earlier-first.ensures c.loop-i.invariant.told three (first_more_earlier (λ e. table_faults e.0 e.1) tables c.loop-i.i t c.loop-i-test.true c.index-tables-i.is);
    }
