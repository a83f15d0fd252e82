use Rattle.std.proofs.Common.{length, ◌≤◌}
use Rattle.redn_syntax.specs.Grammar as g
use Rattle.redn_syntax.specs.Grammar.{SamePlace}
use Rattle.redn_parse.proofs.chain.arguments.Given as goal

-- those so far
abbrev pub invariant-arguments : goal.invariant-arguments
invariant-arguments l = record {
  reads : g.each (g.argument SamePlace) l.args l.initial.reader l.reader;
  fewer : length l.reader ≤ length l.initial.reader;
}

abbrev pub decreases-arguments : goal.decreases-arguments
decreases-arguments l = length l.reader
