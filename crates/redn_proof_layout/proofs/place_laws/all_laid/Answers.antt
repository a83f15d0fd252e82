use Rattle.redn_proof_layout.proofs.Whole as proofs
use Rattle.redn_proof_layout.proofs.place_laws.all_laid.Goals as goal

pub returns-clause-laid_out : goal.returns-clause-laid_out
returns-clause-laid_out c = proofs.all_laid_out

pub returns-clause-laid : goal.returns-clause-laid
returns-clause-laid c = proofs.all_laid c.layouts_are_laid.ensures
