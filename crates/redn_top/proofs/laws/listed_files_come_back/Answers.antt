use Rattle.redn_top.proofs.ComeBack.{come_back}
use Rattle.redn_top.proofs.laws.listed_files_come_back.Goals as goal

pub returns : goal.returns
returns c =
    let spelled = c.an_image_has_one_spelling.ensures in
    let listed = c.a_listing_means_its_image.ensures in
    come_back spelled.image spelled.spelling spelled.accepted c.a_text_has_one_meaning.ensures listed.back listed.alone listed.short
