use Rattle.redn_proof_chain.proofs.Promising as proofs
use Rattle.redn_proof_chain.proofs.laws.rings_promise.Goals as goal

pub returns : goal.returns
returns g c = proofs.rings_promise g.R.ChainRings.together g.R.ChainRings.number g.R.ChainRings.among
