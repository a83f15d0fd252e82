use Rattle.std.proofs.Common.{arith}
use Rattle.redn_disasm.proofs.Slots.{other_index, other_queue, ring_read, slot_missing, slot_read, slot_wrong, same_numbers, slots_none}
use Rattle.redn_disasm.proofs.filling.read_ring.Goals as goal

pub loop-i-init : goal.loop-i-init
loop-i-init c = record { low = omega arith; goes = slots_none c.args.first c.args.text.now c.args.k c.args.row.now.base c.args.row.now.slots c.args.memory.now }

pub returns-in_default-clause-refused : goal.returns-in_default-clause-refused
returns-in_default-clause-refused c = slot_missing c.args.first c.args.text.now c.args.k c.args.row.now.base c.args.row.now.slots c.args.memory.now c.loop-i.line c.loop-i.rest.now c.loop-i.memory c.loop-i.i c.loop-i.invariant.goes c.in_default.ensures.none

pub returns-in_default-slot_in-clause-refused : goal.returns-in_default-slot_in-clause-refused
returns-in_default-slot_in-clause-refused c = slot_wrong c.args.first c.args.text.now c.args.k c.args.row.now.base c.args.row.now.slots c.args.memory.now c.loop-i.line c.loop-i.rest.now c.loop-i.memory c.loop-i.i c.in-Some.slot.now c.in-Some.behind.now c.loop-i-test.true c.loop-i.invariant.goes c.in-Some.ensures.found (c.in_default-slot_in.ensures.none c.args.k c.loop-i.i)

pub returns-then-queue-k-clause-refused : goal.returns-then-queue-k-clause-refused
returns-then-queue-k-clause-refused c = slot_wrong c.args.first c.args.text.now c.args.k c.args.row.now.base c.args.row.now.slots c.args.memory.now c.loop-i.line c.loop-i.rest.now c.loop-i.memory c.loop-i.i c.in-Some.slot.now c.in-Some.behind.now c.loop-i-test.true c.loop-i.invariant.goes c.in-Some.ensures.found (other_queue c.in-Some.slot.now c.args.k c.in-Some-slot_in.queue c.loop-i.i c.in-Some-slot_in.index c.in-Some-slot_in.request c.in-Some-slot_in.ensures.found c.if-queue-k.true)

pub returns-then-index-i-clause-refused : goal.returns-then-index-i-clause-refused
returns-then-index-i-clause-refused c = slot_wrong c.args.first c.args.text.now c.args.k c.args.row.now.base c.args.row.now.slots c.args.memory.now c.loop-i.line c.loop-i.rest.now c.loop-i.memory c.loop-i.i c.in-Some.slot.now c.in-Some.behind.now c.loop-i-test.true c.loop-i.invariant.goes c.in-Some.ensures.found (other_index c.in-Some.slot.now c.args.k c.in-Some-slot_in.queue c.loop-i.i c.in-Some-slot_in.index c.in-Some-slot_in.request c.in-Some-slot_in.ensures.found c.if-index-i.true)

pub loop-i-preserved : goal.loop-i-preserved
loop-i-preserved c = record {
  low = let short = c.in-Some.ensures.shorter in let before = c.loop-i.invariant.low in omega arith;
  goes = slot_read c.args.first c.args.text.now c.args.k c.args.row.now.base c.args.row.now.slots c.args.memory.now c.loop-i.line c.loop-i.rest.now c.loop-i.memory c.loop-i.i c.in-Some.slot.now c.in-Some.behind.now _ c.in-Some-slot_in.request c.loop-i-test.true c.loop-i.invariant.goes c.in-Some.ensures.found c.in-Some.ensures.shorter (same_numbers c.in-Some.slot.now c.args.k c.in-Some-slot_in.queue c.loop-i.i c.in-Some-slot_in.index c.in-Some-slot_in.request c.in-Some-slot_in.ensures.found c.if-queue-k.false c.if-index-i.false) c.put_slot.ensures;
}

pub returns-clause-read : goal.returns-clause-read
returns-clause-read c = ring_read c.args.first c.args.text.now c.args.k c.args.row.now.base c.args.row.now.slots c.args.memory.now c.loop-i.line c.loop-i.rest.now c.loop-i.memory c.loop-i.i c.loop-i-test.false c.loop-i.invariant.goes
