use Rattle.redn_image.proofs.OneSpelling.{accepted, one_image, one_spelling}
use Rattle.redn_image.proofs.laws.an_image_has_one_spelling.Goals as goal

pub returns-clause-image : goal.returns-clause-image
returns-clause-image c = one_image

pub returns-clause-spelling : goal.returns-clause-spelling
returns-clause-spelling c = one_spelling

pub returns-clause-accepted : goal.returns-clause-accepted
returns-clause-accepted c = accepted
