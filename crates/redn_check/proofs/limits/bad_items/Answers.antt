use Rattle.std.proofs.Common.{take}
use Rattle.std.proofs.lemmas.List.{get_or_default}
use Rattle.redn_check.specs.Rules.{misplaced}
use Rattle.redn_check.proofs.Behind.{end_more}
use Rattle.redn_check.proofs.EarliestOf.{stepped, first_more_earlier}
use Rattle.redn_check.proofs.limits.bad_items.Goals as goal

pub loop-item-preserved : goal.loop-item-preserved
loop-item-preserved c =
    let items = c.as_slice-item-items.result.now in
    let i = c.loop-item.item-index in
    let len = c.args.table.now.length.value in
    record {
      ended = end_more _ _ _ i items _ c.loop-item-test.true c.loop-item.invariant.ended c.offset_behind.type_inv c.offset_behind.ensures c.saturating_add-end.ensures;
      told = stepped _ _ _ _ _ _ c.earlier-first.ensures c.loop-item.invariant.told (c.misplaced.ensures (take i items) c.loop-item.invariant.ended) (first_more_earlier (λ e. misplaced len e.0 e.1) items i _ c.loop-item-test.true (get_or_default items i _ _ c.loop-item-test.true));
    }
