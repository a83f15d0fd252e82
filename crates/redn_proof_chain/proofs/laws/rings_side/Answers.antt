use Rattle.redn_proof_chain.proofs.Siding.{ring_side}
use Rattle.redn_proof_chain.proofs.laws.rings_side.Goals as goal

pub returns : goal.returns
returns g c = ring_side g.I.ImageRings.program g.I.ImageRings.image g.I.ImageRings.graphs g.I.ImageRings.messages g.I.ImageRings.together g.I.ImageRings.its
