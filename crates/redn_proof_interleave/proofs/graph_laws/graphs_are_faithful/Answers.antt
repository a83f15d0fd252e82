use Rattle.redn_proof_interleave.proofs.GraphHeadline as headline
use Rattle.redn_proof_interleave.proofs.graph_laws.graphs_are_faithful.Goals as goal

pub returns : goal.returns
returns g c = headline.graphs_are_faithful g.G.GraphImage.program g.G.GraphImage.image g.G.GraphImage.graphs g.G.GraphImage.worlds g.G.GraphImage.followed g.G.GraphImage.fits g.G.GraphImage.rings
