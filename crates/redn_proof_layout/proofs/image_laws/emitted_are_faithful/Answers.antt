use Rattle.redn_proof_layout.proofs.Sides as sides
use Rattle.redn_proof_layout.proofs.image_laws.emitted_are_faithful.Goals as goal

pub returns : goal.returns
returns c = sides.emitted_are_faithful
