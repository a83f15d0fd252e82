use Rattle.std.proofs.Common.{◌+◌, ◌≤◌, length}
use Rattle.redn_tests_images.proofs.schedules.told.Given as goal

abbrev pub invariant-loop-rest : goal.invariant-loop-rest
invariant-loop-rest l = l.reader.lines + length l.rest ≤ length l.text

abbrev pub decreases-loop-rest : goal.decreases-loop-rest
decreases-loop-rest l = length l.rest
