use Rattle.std.proofs.Common.{◌≢◌, ℕ, ◌<◌}
use Rattle.redn_disasm.specs.Reading.{name_word}
use Rattle.redn_disasm.proofs.fields.read_name.Given as goal

abbrev pub invariant-loop-n : goal.invariant-loop-n
invariant-loop-n l = (m : ℕ) → m < l.n → l.text ≢ name_word l.format m
