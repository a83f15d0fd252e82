use Rattle.redn_proof_chain.proofs.Layings.{layings_form}
use Rattle.redn_proof_chain.proofs.laws.layings_form.Goals as goal

pub returns : goal.returns
returns c = layings_form
