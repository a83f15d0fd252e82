use Rattle.std.proofs.Common.{length, ◌≤◌}
use Rattle.redn_syntax.specs.Grammar as g
use Rattle.redn_syntax.specs.Grammar.{SamePlace}
use Rattle.redn_parse.proofs.chain.variables.Given as goal

-- those so far
abbrev pub invariant-variables : goal.invariant-variables
invariant-variables l = record {
  reads : g.each (g.variable SamePlace) l.vars l.initial.reader l.reader;
  fewer : length l.reader ≤ length l.initial.reader;
}

abbrev pub decreases-variables : goal.decreases-variables
decreases-variables l = length l.reader
