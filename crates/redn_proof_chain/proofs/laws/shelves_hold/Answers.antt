use Rattle.redn_proof_chain.proofs.Shelved.{shelves_hold}
use Rattle.redn_proof_chain.proofs.laws.shelves_hold.Goals as goal

pub returns : goal.returns
returns c = shelves_hold
