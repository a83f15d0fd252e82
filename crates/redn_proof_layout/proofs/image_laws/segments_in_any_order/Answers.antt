use Rattle.redn_proof_layout.proofs.Orders as orders
use Rattle.redn_proof_layout.proofs.image_laws.segments_in_any_order.Goals as goal

pub returns : goal.returns
returns c = orders.segments_in_any_order
