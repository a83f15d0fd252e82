use Rattle.std.proofs.Common.{length, ◌≤◌}
use Rattle.redn_syntax.specs.Grammar as g
use Rattle.redn_syntax.specs.Grammar.{SamePlace}
use Rattle.redn_parse.proofs.Lists.{commas}
use Rattle.redn_parse.proofs.statement.reply_words.Given as goal

-- those so far, with a comma behind each
abbrev pub invariant-loop-words : goal.invariant-loop-words
invariant-loop-words l = record {
  reads : commas (g.value SamePlace) l.words l.initial.reader l.reader;
  fewer : length l.reader ≤ length l.initial.reader;
}

abbrev pub decreases-loop-words : goal.decreases-loop-words
decreases-loop-words l = length l.reader
