use Rattle.std.proofs.Common.{length, ◌≤◌, ◌+◌, ◌*◌}
use Rattle.redn_syntax.specs.Grammar as g
use Rattle.redn_parse.proofs.Sole.{sole}
use Rattle.redn_parse.proofs.statement.+statement.Given as goal

-- the statements so far
abbrev pub invariant-body-body : goal.invariant-body-body
invariant-body-body l = record {
  reads : g.each (sole l.room) l.statements l.initial.reader l.reader;
  fewer : length l.reader ≤ length l.initial.reader;
}

abbrev pub decreases-body-body : goal.decreases-body-body
decreases-body-body l = length l.reader

-- how many blocks may be nested, and what stands around what
abbrev pub decreases-block : goal.decreases-block
decreases-block l = 6 * l.room

abbrev pub decreases-otherwise : goal.decreases-otherwise
decreases-otherwise l = 6 * l.room + 1

abbrev pub decreases-if_statement : goal.decreases-if_statement
decreases-if_statement l = 6 * l.room + 2

abbrev pub decreases-loop_statement : goal.decreases-loop_statement
decreases-loop_statement l = 6 * l.room + 2

abbrev pub decreases-repeat_statement : goal.decreases-repeat_statement
decreases-repeat_statement l = 6 * l.room + 2

abbrev pub decreases-statement_kind : goal.decreases-statement_kind
decreases-statement_kind l = 6 * l.room + 3

abbrev pub decreases-statement : goal.decreases-statement
decreases-statement l = 6 * l.room + 4

abbrev pub decreases-body : goal.decreases-body
decreases-body l = 6 * l.room + 5
