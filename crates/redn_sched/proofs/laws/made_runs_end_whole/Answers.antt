use Rattle.redn_sched.proofs.MadeEnds.{both_end}
use Rattle.redn_sched.proofs.laws.made_runs_end_whole.Goals as goal

pub returns : goal.returns
returns c n z s owners = both_end n z s owners
