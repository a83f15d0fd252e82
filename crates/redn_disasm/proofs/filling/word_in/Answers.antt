use Rattle.std.proofs.Common.{[], ◌∷◌}
use Rattle.redn_disasm.proofs.filling.word_in.Goals as goal

pub returns-in_default-clause-none : goal.returns-in_default-clause-none
returns-in_default-clause-none c = λ offset w. c.in_default.ensures.none (offset ∷ w ∷ [])
