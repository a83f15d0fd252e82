use Rattle.redn_proof_chain.proofs.States.{steps_show}
use Rattle.redn_proof_chain.proofs.laws.steps_show.Goals as goal

pub returns : goal.returns
returns c = steps_show
