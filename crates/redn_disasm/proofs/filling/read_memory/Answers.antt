use Rattle.std.proofs.Common.{sym, ◌∙◌}
use Rattle.redn_disasm.proofs.Words.{refuses_then}
use Rattle.redn_disasm.proofs.filling.read_memory.Goals as goal

pub returns-in-Err-clause-refused : goal.returns-in-Err-clause-refused
returns-in-Err-clause-refused c = λ n is. c.in-Err.ensures.refused n

pub returns-in-Ok-read_words-clause-read : goal.returns-in-Ok-read_words-clause-read
returns-in-Ok-read_words-clause-read c = λ n is. (c.in-Ok.ensures.read n).whole _ (c.in-Ok-read_words.ensures.read n (is ∙ sym c.read_slots.auto.memory))

pub returns-in-Err-read_words-clause-refused : goal.returns-in-Err-read_words-clause-refused
returns-in-Err-read_words-clause-refused c = λ n is. refuses_then c.args.first _ c.args.text.now c.in-Ok.left.line _ c.in-Ok.left.text.now c.in-Err-read_words.fault (c.in-Ok.ensures.read n) (c.in-Err-read_words.ensures.refused n (is ∙ sym c.read_slots.auto.memory))
