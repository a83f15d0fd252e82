use Rattle.redn_proof_block.proofs.Lapped as proofs
use Rattle.redn_proof_block.proofs.laps_laws.laps_change_nothing.Goals as goal

pub returns : goal.returns
returns c = proofs.laps_change_nothing
