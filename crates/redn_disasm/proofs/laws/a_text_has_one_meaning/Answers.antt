use Rattle.redn_disasm.specs.Assembly.{Begun}
use Rattle.redn_text.specs.Texts.{lines_of}
use Rattle.redn_disasm.proofs.OneOutcome.{one_outcome}
use Rattle.redn_disasm.proofs.laws.a_text_has_one_meaning.Goals as goal

pub returns : goal.returns
returns c = λ text a b. one_outcome 1 Begun (lines_of text) a b
