use Rattle.redn_proof_layout.proofs.FirstSeen as proofs
use Rattle.redn_proof_layout.proofs.FirstBytes as bytes
use Rattle.redn_proof_layout.proofs.place_laws.all_begin.Goals as goal

pub returns-clause-begin : goal.returns-clause-begin
returns-clause-begin c = proofs.all_begin

pub returns-clause-bytes : goal.returns-clause-bytes
returns-clause-bytes c = bytes.all_bytes
