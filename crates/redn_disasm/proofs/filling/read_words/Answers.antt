use Rattle.std.proofs.Common.{arith}
use Rattle.std.specs.Prelude.{codes}
use Rattle.redn_disasm.proofs.Going.{told_apart, told_same}
use Rattle.redn_disasm.proofs.Words.{all_read, end_missing, too_long, word_read, word_wrong}
use Rattle.redn_disasm.proofs.filling.read_words.Goals as goal

pub returns-then-ne-clause-refused : goal.returns-then-ne-clause-refused
returns-then-ne-clause-refused c = word_wrong c.args.first c.args.text.now c.args.memory.now c.loop-row.line c.loop-row.rest.now c.loop-row.memory c.in-Some.row.now c.in-Some.behind.now c.loop-row.invariant.goes c.loop-row.auto.memory c.in-Some.ensures.found c.if-not-put_line.ensures.none (told_apart c.in-Some.row.now c.as_slice.result.now (codes "end\n") c.ne.result c.ne.ensures c.if-ne.true c.as_slice.ensures)

pub returns-in-Some-next_line-clause-refused : goal.returns-in-Some-next_line-clause-refused
returns-in-Some-next_line-clause-refused c = too_long c.args.first c.args.text.now c.args.memory.now c.loop-row.line c.loop-row.rest.now c.loop-row.memory c.in-Some.row.now c.in-Some.behind.now c.in-Some-next_line.field-0.0.now c.in-Some-next_line.field-0.1.now c.loop-row.invariant.goes c.in-Some.ensures.found c.in-Some.ensures.shorter (told_same c.in-Some.row.now c.as_slice.result.now (codes "end\n") c.ne.result c.ne.ensures c.if-ne.false c.as_slice.ensures) c.in-Some-next_line.ensures.found

pub returns-in-None-clause-read : goal.returns-in-None-clause-read
returns-in-None-clause-read c = rw c.if-not-put_line.ensures.same (all_read c.args.first c.args.text.now c.args.memory.now c.loop-row.line c.loop-row.rest.now c.loop-row.memory c.in-Some.row.now c.in-Some.behind.now c.loop-row.invariant.goes c.in-Some.ensures.found c.in-Some.ensures.shorter (told_same c.in-Some.row.now c.as_slice.result.now (codes "end\n") c.ne.result c.ne.ensures c.if-ne.false c.as_slice.ensures) c.in-None.ensures.none)

pub loop-row-preserved : goal.loop-row-preserved
loop-row-preserved c = record {
  low = let short = c.in-Some.ensures.shorter in let before = c.loop-row.invariant.low in omega arith;
  goes = word_read c.args.first c.args.text.now c.args.memory.now c.loop-row.line c.loop-row.rest.now c.loop-row.memory c.in-Some.row.now c.in-Some.behind.now c.put_line.new.memory c.loop-row.invariant.goes c.loop-row.auto.memory c.in-Some.ensures.found c.in-Some.ensures.shorter c.if-not-put_line.ensures.put;
}

pub returns-clause-refused : goal.returns-clause-refused
returns-clause-refused c = end_missing c.args.first c.args.text.now c.args.memory.now c.loop-row.line c.loop-row.rest.now c.loop-row.memory c.loop-row.invariant.goes c.in_default.ensures.none
