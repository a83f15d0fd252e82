use Rattle.std.proofs.Common.{subst}
use Rattle.redn_image.specs.Rules.{fault_at}
use Rattle.redn_disasm.specs.declared.assembler.ListFault.{ListFault}
use Rattle.redn_disasm.specs.Going.{SaysWhy}
use Rattle.redn_top.proofs.Contents.{wrong_line_first, broken_rows_first}
use Rattle.redn_top.proofs.reading.refused_listing.Goals as goal

pub returns-in-Line : goal.returns-in-Line
returns-in-Line c one text h = wrong_line_first text c.in-Line.line (subst (λ (f : ListFault). SaysWhy text f) c.in-Line.is h)

pub returns-in-Rule : goal.returns-in-Rule
returns-in-Rule c one text h = broken_rows_first text one (fault_at c.in-Rule.number c.in-Rule.index) (subst (λ (f : ListFault). SaysWhy text f) c.in-Rule.is h)
