use Rattle.redn_proof_layout.proofs.RingBlocks as proofs
use Rattle.redn_proof_layout.proofs.place_laws.all_have_graphs.Goals as goal

pub returns : goal.returns
returns c = proofs.all_have_graphs
