use Rattle.redn_source.proofs.Arguments.{IsPut}
use Rattle.redn_source.proofs.run.Run.put_arguments.Given as goal

abbrev pub invariant-loop-i : goal.invariant-loop-i
invariant-loop-i l = IsPut l.initial.self l.self l.count l.i
