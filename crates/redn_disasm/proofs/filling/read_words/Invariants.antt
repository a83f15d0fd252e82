use Rattle.std.proofs.Common.{◌≤◌, ◌+◌, length}
use Rattle.redn_disasm.proofs.Words.{WordsTo}
use Rattle.redn_disasm.proofs.filling.read_words.Given as goal

abbrev pub invariant-loop-row : goal.invariant-loop-row
invariant-loop-row l = record { low : l.line + length l.rest ≤ l.first + length l.text; goes : WordsTo l.first l.text l.fn.memory l.line l.rest l.memory }

abbrev pub decreases-loop-row : goal.decreases-loop-row
decreases-loop-row l = length l.rest
