use Rattle.redn_proof_ring.proofs.Laying.{laid}
use Rattle.redn_proof_ring.proofs.lap_laws.layouts_are_laid.Goals as goal

pub returns : goal.returns
returns c = laid
