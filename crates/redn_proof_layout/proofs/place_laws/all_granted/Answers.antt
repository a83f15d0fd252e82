use Rattle.redn_proof_layout.proofs.Granted as proofs
use Rattle.redn_proof_layout.proofs.place_laws.all_granted.Goals as goal

pub returns-clause-granted : goal.returns-clause-granted
returns-clause-granted c = proofs.all_granted

pub returns-clause-written : goal.returns-clause-written
returns-clause-written c = proofs.written_are_all
