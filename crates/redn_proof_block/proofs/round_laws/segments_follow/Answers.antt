use Rattle.redn_proof_block.proofs.RoundStages as proofs
use Rattle.redn_proof_block.proofs.round_laws.segments_follow.Goals as goal

pub returns : goal.returns
returns c = proofs.segments_follow
