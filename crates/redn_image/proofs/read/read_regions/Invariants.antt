use Rattle.std.proofs.Common.{◌≡◌}
use Rattle.redn_image.specs.Spelling.{region_at, rows_from}
use Rattle.redn_image.proofs.read.read_regions.Given as goal

abbrev pub invariant-loop-i : goal.invariant-loop-i
invariant-loop-i l = l.rows.items ≡ rows_from region_at 32 l.bytes l.at l.i
