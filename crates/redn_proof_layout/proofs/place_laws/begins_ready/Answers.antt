use Rattle.redn_proof_layout.proofs.FirstSeen as proofs
use Rattle.redn_proof_layout.proofs.place_laws.begins_ready.Goals as goal

pub returns : goal.returns
returns g c = proofs.begins_ready g.M.Meant.program g.M.Meant.graphs g.M.Meant.chain g.M.Meant.meaning
