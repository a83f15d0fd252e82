use Rattle.std.proofs.Common.{arith, length, ◌≤◌, ◌+◌}
use Rattle.redn_check.proofs.Behind.{fits_here, good_last}
use Rattle.redn_check.proofs.Written.{written_more}
use Rattle.redn_check.proofs.number.write_items.Goals as goal

pub overflow_add-end : goal.overflow_add-end
overflow_add-end c =
    let len = c.args.table.now.length.value in
    let fits : c.offset_behind-offset.result + 8 ≤ len =
    fits_here len _ _ _ _ c.as_slice-item-items.ensures c.loop-item-test.true c.requires.placed _ _ c.loop-item.invariant.ended c.offset_behind-offset.ensures
    in
    omega (arith, c.requires.whole)

pub loop-item-preserved : goal.loop-item-preserved
loop-item-preserved c =
    let len = c.args.table.now.length.value in
    let fits : c.offset_behind-offset.result + 8 ≤ len =
    fits_here len _ _ _ _ c.as_slice-item-items.ensures c.loop-item-test.true c.requires.placed _ _ c.loop-item.invariant.ended c.offset_behind-offset.ensures
    in
    let room : c.offset_behind-offset.result + 8 ≤ length c.loop-item.bytes = omega (arith, c.requires.whole, c.loop-item.auto.bytes) in
    record {
      ended = good_last _ _ _ c.as_slice-item-items.result.now _ c.loop-item-test.true c.loop-item.invariant.ended c.offset_behind-offset.ensures;
      written = written_more _ _ _ c.as_slice-item-items.result.now _ _ _ _ _ c.loop-item-test.true c.loop-item.invariant.ended c.offset_behind-offset.ensures c.loop-item.invariant.written (c.put_word.ensures.fits.1 room) c.put_word.ensures.written;
    }
