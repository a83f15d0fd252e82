use Rattle.std.proofs.Common.{◌∙◌, ap}
use Rattle.std.specs.List.{flat_map}
use Rattle.redn_check.specs.Rules.{table_faults}
use Rattle.redn_check.specs.Statements.{with_earlier}
use Rattle.redn_check.proofs.Accepted.{good_tables}
use Rattle.redn_check.proofs.number.program.Goals as goal

pub tables-requires : goal.tables-requires
tables-requires c = ap (λ l. flat_map (λ e. table_faults e.0 e.1) (with_earlier l)) c.as_slice-2.ensures ∙ good_tables c.args.f.now c.requires
