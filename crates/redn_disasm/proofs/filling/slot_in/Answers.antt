use Rattle.std.proofs.Common.{subst}
use Rattle.std.specs.Prelude.{codes}
use Rattle.redn_disasm.specs.Assembly.{slot_formats, slot_values}
use Rattle.redn_disasm.specs.Fields.{IsRow}
use Rattle.redn_disasm.proofs.Listed.{same_length, twelve}
use Rattle.redn_disasm.proofs.filling.slot_in.Goals as goal

pub returns-in_default-clause-none : goal.returns-in_default-clause-none
returns-in_default-clause-none c = λ k i r. c.in_default.ensures.none (slot_values k i r)

pub returns-clause-found : goal.returns-clause-found
returns-clause-found c =
    let values = c.in-Some.values in
    let row = c.in-Some.ensures.found in
    subst (IsRow (codes "slot") slot_formats c.args.line.now) (twelve values (same_length slot_formats row.0 values row.2)) row
