use Rattle.std.proofs.Common.{ap, ◌∙◌}
use Rattle.redn_kernel.specs.Source.{ChainState}
use Rattle.redn_source.proofs.Arguments.{enough_in}
use Rattle.redn_source.proofs.start.first_run.Goals as goal

pub put_arguments-requires-clause-message : goal.put_arguments-requires-clause-message
put_arguments-requires-clause-message c =
    enough_in _ _ _ (ap (λ (t : ChainState). t.message) c.put_statements.ensures.items ∙ c.in_ok-message.ensures)
