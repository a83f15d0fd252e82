use Rattle.redn_image.specs.Rules.{numbers_of}
use Rattle.redn_top.proofs.Contents.{listing_none}
use Rattle.redn_top.proofs.reading.image_of_listing.Goals as goal

pub returns-in-Ok-clause-accepted : goal.returns-in-Ok-clause-accepted
returns-in-Ok-clause-accepted c = listing_none c.args.text.now c.a_text_has_one_meaning.ensures (numbers_of c.in-Ok.image) c.in-Ok.image.memory c.in-Ok.ensures.image

pub returns-in-Err-clause-refused : goal.returns-in-Err-clause-refused
returns-in-Err-clause-refused c = c.refused_listing.ensures c.a_text_has_one_meaning.ensures c.args.text.now c.in-Err.ensures.refused
