use Rattle.redn_proof_layout.proofs.Its.{all_have_entries}
use Rattle.redn_proof_layout.proofs.Sides.{stand_together}
use Rattle.redn_proof_layout.proofs.image_laws.emitted_stand_together.Goals as goal

pub returns-clause-entries : goal.returns-clause-entries
returns-clause-entries c = all_have_entries

pub returns-clause-together : goal.returns-clause-together
returns-clause-together c = λ p graphs i are numbers is entries messages sent. stand_together p graphs are numbers i is entries messages sent
