use Rattle.redn_disasm.proofs.Images.{read_alone}
use Rattle.redn_disasm.proofs.assembler.assemble.Goals as goal

pub returns-clause-back : goal.returns-clause-back
returns-clause-back c = λ i l. read_alone c.args.text.now c.read_listing.result i c.read_listing.ensures.image c.read_listing.ensures.refused l
