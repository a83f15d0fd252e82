use Rattle.redn_sched.specs.MadeSchedules.{fair_from}
use Rattle.redn_summary.proofs.OneMore.{CountedSoFar}
use Rattle.redn_summary.proofs.run.count_run.Given as goal

abbrev pub invariant-loop : goal.invariant-loop
invariant-loop l = CountedSoFar l.fn.adapter l.fn.steps (fair_from l.fn.steps l.fn.adapter.state l.fn.fair) l.counter l.adapter l.fair l.counted
