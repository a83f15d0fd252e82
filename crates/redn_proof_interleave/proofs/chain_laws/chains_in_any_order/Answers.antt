use Rattle.redn_proof_interleave.proofs.Explained.{every_order}
use Rattle.redn_proof_interleave.proofs.chain_laws.chains_in_any_order.Goals as goal

pub returns : goal.returns
returns g c = every_order g.C.Chains.world g.C.Chains.promised g.C.Chains.machines g.C.Chains.begun
