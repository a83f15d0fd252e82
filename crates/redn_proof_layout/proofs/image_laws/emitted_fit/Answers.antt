use Rattle.redn_proof_layout.proofs.Fits.{fits}
use Rattle.redn_proof_layout.proofs.image_laws.emitted_fit.Goals as goal

pub returns : goal.returns
returns c = λ p graphs i are is. fits p graphs are i is
