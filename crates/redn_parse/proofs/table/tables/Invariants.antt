use Rattle.std.proofs.Common.{length, ◌≤◌}
use Rattle.redn_syntax.specs.Grammar as g
use Rattle.redn_syntax.specs.Grammar.{SamePlace}
use Rattle.redn_parse.proofs.table.tables.Given as goal

-- those so far
abbrev pub invariant-tables : goal.invariant-tables
invariant-tables l = record {
  reads : g.each (g.table SamePlace) l.tables l.initial.reader l.reader;
  fewer : length l.reader ≤ length l.initial.reader;
}

abbrev pub decreases-tables : goal.decreases-tables
decreases-tables l = length l.reader
