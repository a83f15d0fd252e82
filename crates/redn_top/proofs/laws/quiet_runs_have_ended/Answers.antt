use Rattle.redn_top.proofs.QuietRuns.{quiet_runs}
use Rattle.redn_top.proofs.laws.quiet_runs_have_ended.Goals as goal

pub returns : goal.returns
returns c = quiet_runs c.made_runs_end_whole.ensures
