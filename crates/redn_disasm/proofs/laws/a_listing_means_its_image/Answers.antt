use Rattle.redn_disasm.proofs.Images.{listed, listed_alone, listed_short}
use Rattle.redn_disasm.proofs.laws.a_listing_means_its_image.Goals as goal

pub returns-clause-back : goal.returns-clause-back
returns-clause-back c = listed

pub returns-clause-alone : goal.returns-clause-alone
returns-clause-alone c = listed_alone

pub returns-clause-short : goal.returns-clause-short
returns-clause-short c = listed_short
