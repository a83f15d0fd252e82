use Rattle.redn_proof_layout.proofs.Beside as proofs
use Rattle.redn_proof_layout.proofs.place_laws.chains_lie_apart.Goals as goal

pub returns : goal.returns
returns c = proofs.chains_lie_apart
