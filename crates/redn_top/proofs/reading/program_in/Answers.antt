use Rattle.std.specs.Prelude.{Some}
use Rattle.std.proofs.lemmas.Result.{IfOk-weaker, IfErr-weaker}
use Rattle.redn_kernel.specs.declared.types.Program.{Program}
use Rattle.redn_top.specs.Sources.{Means}
use Rattle.redn_top.specs.Reasons.{NoneHolds, source_reasons}
use Rattle.redn_top.specs.Refusals.{SourceRefused, Refuses}
use Rattle.redn_top.proofs.Contents.{means_none, source_refused}
use Rattle.redn_top.proofs.reading.program_in.Goals as goal

pub returns-clause-accepted : goal.returns-clause-accepted
returns-clause-accepted c =
    IfOk-weaker c.read_program.result (Means c.args.text.now) (λ (p : Program). NoneHolds (source_reasons (Some c.args.text.now))) (means_none c.args.text.now) c.read_program.ensures.means

pub returns-clause-refused : goal.returns-clause-refused
returns-clause-refused c =
    IfErr-weaker c.read_program.result (SourceRefused c.args.text.now) (Refuses (source_reasons (Some c.args.text.now))) (source_refused c.args.text.now) c.read_program.ensures.refused
