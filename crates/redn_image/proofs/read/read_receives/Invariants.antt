use Rattle.std.proofs.Common.{◌≡◌}
use Rattle.redn_image.specs.Spelling.{receive_at, rows_from}
use Rattle.redn_image.proofs.read.read_receives.Given as goal

abbrev pub invariant-loop-i : goal.invariant-loop-i
invariant-loop-i l = l.rows.items ≡ rows_from receive_at 16 l.bytes l.at l.i
