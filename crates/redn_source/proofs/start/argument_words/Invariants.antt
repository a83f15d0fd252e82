use Rattle.std.proofs.Common.{◌≡◌}
use Rattle.redn_words.specs.Arguments.{argument_words}
use Rattle.redn_source.proofs.start.argument_words.Given as goal

-- those so far
abbrev pub invariant-loop-i : goal.invariant-loop-i
invariant-loop-i l = l.words.items ≡ argument_words l.bytes 0 l.i
