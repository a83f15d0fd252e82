use Rattle.std.proofs.Common.{refl, subst}
use Rattle.std.specs.Prelude.{codes}
use Rattle.redn_disasm.specs.Assembly.{Begun, Named, memory_formats}
use Rattle.redn_disasm.specs.Fields.{IsRow}
use Rattle.redn_disasm.specs.Going.{GoesOn}
use Rattle.redn_disasm.proofs.Going.{goes_missing, goes_more, goes_none, goes_wrong, leads_named, leads_size, none_named, none_size, told_apart, told_same}
use Rattle.redn_disasm.proofs.Listed.{one, same_length}
use Rattle.redn_disasm.proofs.assembler.read_size.Goals as goal

pub returns-then-ne-clause-refused : goal.returns-then-ne-clause-refused
returns-then-ne-clause-refused c =
    let text = c.args.text.now in
    goes_wrong 1 Begun text 1 Begun text c.in-Some.first.now c.in-Some.behind.now (goes_none 1 Begun text) c.in-Some.ensures.found refl (none_named c.in-Some.first.now (told_apart c.in-Some.first.now c.as_slice.result.now (codes "redn 1\n") c.ne.result c.ne.ensures c.if-ne.true c.as_slice.ensures))

pub returns-in_default-next_line-clause-refused : goal.returns-in_default-next_line-clause-refused
returns-in_default-next_line-clause-refused c =
    let text = c.args.text.now in
    let named : GoesOn 1 Begun text 2 Named c.in-Some.behind.now = goes_more 1 Begun text 1 Begun text c.in-Some.first.now c.in-Some.behind.now Named (goes_none 1 Begun text) c.in-Some.ensures.found c.in-Some.ensures.shorter refl (leads_named c.in-Some.first.now (told_same c.in-Some.first.now c.as_slice.result.now (codes "redn 1\n") c.ne.result c.ne.ensures c.if-ne.false c.as_slice.ensures)) in
    goes_missing 1 Begun text 2 Named c.in-Some.behind.now named c.in_default-next_line.ensures.none refl

pub returns-in_default-read_row-clause-refused : goal.returns-in_default-read_row-clause-refused
returns-in_default-read_row-clause-refused c =
    let text = c.args.text.now in
    let named : GoesOn 1 Begun text 2 Named c.in-Some.behind.now = goes_more 1 Begun text 1 Begun text c.in-Some.first.now c.in-Some.behind.now Named (goes_none 1 Begun text) c.in-Some.ensures.found c.in-Some.ensures.shorter refl (leads_named c.in-Some.first.now (told_same c.in-Some.first.now c.as_slice.result.now (codes "redn 1\n") c.ne.result c.ne.ensures c.if-ne.false c.as_slice.ensures)) in
    goes_wrong 1 Begun text 2 Named c.in-Some.behind.now c.in-Some-next_line.second.now c.in-Some-next_line.rest.now named c.in-Some-next_line.ensures.found refl (none_size c.in-Some-next_line.second.now c.in_default-read_row.ensures.none)

pub returns-clause-read : goal.returns-clause-read
returns-clause-read c =
    let text = c.args.text.now in
    let values = c.in-Some-read_row.values in
    let row = c.in-Some-read_row.ensures.found in
    let named : GoesOn 1 Begun text 2 Named c.in-Some.behind.now = goes_more 1 Begun text 1 Begun text c.in-Some.first.now c.in-Some.behind.now Named (goes_none 1 Begun text) c.in-Some.ensures.found c.in-Some.ensures.shorter refl (leads_named c.in-Some.first.now (told_same c.in-Some.first.now c.as_slice.result.now (codes "redn 1\n") c.ne.result c.ne.ensures c.if-ne.false c.as_slice.ensures)) in
    goes_more 1 Begun text 2 Named c.in-Some.behind.now c.in-Some-next_line.second.now c.in-Some-next_line.rest.now _ named c.in-Some-next_line.ensures.found c.in-Some-next_line.ensures.shorter refl (leads_size c.in-Some-next_line.second.now _ (subst (IsRow (codes "memory") memory_formats c.in-Some-next_line.second.now) (one values (same_length memory_formats row.0 values row.2)) row))
