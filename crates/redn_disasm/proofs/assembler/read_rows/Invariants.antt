use Rattle.std.proofs.Common.{length}
use Rattle.redn_disasm.specs.Assembly.{GivenRows, no_rows}
use Rattle.redn_disasm.specs.Going.{GoesOn}
use Rattle.redn_disasm.specs.Reading.{numbers}
use Rattle.redn_disasm.proofs.assembler.read_rows.Given as goal

abbrev pub invariant-loop-row : goal.invariant-loop-row
invariant-loop-row l = GoesOn l.first (GivenRows (no_rows l.size)) l.text l.line (GivenRows (numbers l.rows)) l.rest

abbrev pub decreases-loop-row : goal.decreases-loop-row
decreases-loop-row l = length l.rest
