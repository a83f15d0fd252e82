use Rattle.redn_proof_interleave.proofs.Headline as headline
use Rattle.redn_proof_interleave.proofs.chain_laws.compiled_is_faithful.Goals as goal

pub returns : goal.returns
returns g c = headline.compiled_is_faithful g.C.Compiled.program g.C.Compiled.image g.C.Compiled.worlds g.C.Compiled.fits g.C.Compiled.compiled
