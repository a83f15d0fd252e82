use Rattle.redn_proof_layout.proofs.Orders as orders
use Rattle.redn_proof_layout.proofs.image_laws.emitted_are_faithful_to_graphs.Goals as goal

pub returns : goal.returns
returns c = orders.emitted_follow_graphs
