use Rattle.std.proofs.Common.{length, ◌≤◌}
use Rattle.redn_syntax.specs.Grammar as g
use Rattle.redn_syntax.specs.Grammar.{SamePlace}
use Rattle.redn_parse.proofs.Lists.{commas}
use Rattle.redn_parse.proofs.table.items.Given as goal

-- those so far, with a comma behind each
abbrev pub invariant-loop-items : goal.invariant-loop-items
invariant-loop-items l = record {
  reads : commas (g.item SamePlace) l.items l.initial.reader l.reader;
  fewer : length l.reader ≤ length l.initial.reader;
}

abbrev pub decreases-loop-items : goal.decreases-loop-items
decreases-loop-items l = length l.reader
