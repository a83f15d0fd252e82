use Rattle.std.proofs.Common.{drop, map, string_bytes}
use Rattle.redn_command.proofs.Parts.{Seen}
use Rattle.redn_command.proofs.line.are_parts.Given as goal

abbrev pub invariant-loop-word : goal.invariant-loop-word
invariant-loop-word l = Seen (map string_bytes l.words) (map string_bytes (drop l.word-index l.words)) l.wants_value
