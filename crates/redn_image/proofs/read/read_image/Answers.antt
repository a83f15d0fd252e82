use Rattle.redn_image.proofs.OneSpelling.{reads_back}
use Rattle.redn_image.proofs.read.read_image.Goals as goal

pub returns-clause-read_back : goal.returns-clause-read_back
returns-clause-read_back c = λ i s. reads_back c.args.bytes.now i c.image_in.result s c.image_in.ensures.image c.image_in.ensures.refusal
