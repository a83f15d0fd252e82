use Rattle.redn_proof_layout.proofs.Queues as proofs
use Rattle.redn_proof_layout.proofs.place_laws.all_queues_stand.Goals as goal

pub returns-clause-queues : goal.returns-clause-queues
returns-clause-queues c = proofs.all_queues_stand

pub returns-clause-entered : goal.returns-clause-entered
returns-clause-entered c = proofs.all_entered
