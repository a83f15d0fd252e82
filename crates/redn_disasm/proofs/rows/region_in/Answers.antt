use Rattle.std.proofs.Common.{subst}
use Rattle.std.specs.Prelude.{codes}
use Rattle.redn_disasm.specs.Assembly.{region_formats, region_values}
use Rattle.redn_disasm.specs.Fields.{IsRow}
use Rattle.redn_disasm.proofs.Listed.{same_length, seven}
use Rattle.redn_disasm.proofs.rows.region_in.Goals as goal

pub returns-in_default-clause-none : goal.returns-in_default-clause-none
returns-in_default-clause-none c = λ r. c.in_default.ensures.none (region_values r)

pub returns-clause-found : goal.returns-clause-found
returns-clause-found c =
    let values = c.in-Some.values in
    let row = c.in-Some.ensures.found in
    subst (IsRow (codes "region") region_formats c.args.line.now) (seven values (same_length region_formats row.0 values row.2)) row
