use Rattle.redn_disasm.specs.Assembly.{receive_values}
use Rattle.redn_disasm.proofs.rows.receive_in.Goals as goal

pub returns-in_default-clause-none : goal.returns-in_default-clause-none
returns-in_default-clause-none c = λ k r. c.in_default.ensures.none (receive_values k r)
