use Rattle.redn_disasm.proofs.Words.{word_odd, word_outside}
use Rattle.redn_disasm.proofs.filling.put_line.Goals as goal

pub returns-in_default-clause-none : goal.returns-in_default-clause-none
returns-in_default-clause-none c = λ n after size h. c.in_default.ensures.none h.0 h.1 h.2

pub returns-then-offset-ne0-clause-none : goal.returns-then-offset-ne0-clause-none
returns-then-offset-ne0-clause-none c = word_odd c.args.memory.now c.args.line.now c.in-Some.offset c.in-Some.word c.in-Some.ensures.found c.if-offset-ne0.true

pub returns-then-not-put_word-clause-none : goal.returns-then-not-put_word-clause-none
returns-then-not-put_word-clause-none c = word_outside c.args.memory.now c.args.line.now c.in-Some.offset c.in-Some.word c.in-Some.ensures.found (λ inside. let yes = c.put_word.ensures.fits.1 inside in let is = c.if-not-put_word.true in absurd (cc))
