use Rattle.redn_segment.proofs.Moved.{runs_renamed}
use Rattle.redn_segment.proofs.laws.runs_renumbered.Goals as goal

pub returns : goal.returns
returns c = λ f is chain at ds s. runs_renamed f is.apart is.next chain ds at s
