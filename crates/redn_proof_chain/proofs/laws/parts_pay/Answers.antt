use Rattle.redn_proof_chain.proofs.Pays.{parts_pay}
use Rattle.redn_proof_chain.proofs.laws.parts_pay.Goals as goal

pub returns : goal.returns
returns c = parts_pay
