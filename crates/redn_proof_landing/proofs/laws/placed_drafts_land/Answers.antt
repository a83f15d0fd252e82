use Rattle.redn_proof_landing.proofs.Decoding.{lands_placed}
use Rattle.redn_proof_landing.proofs.laws.placed_drafts_land.Goals as goal

pub returns : goal.returns
returns c = lands_placed
