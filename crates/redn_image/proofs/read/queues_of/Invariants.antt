use Rattle.std.proofs.Common.{◌≡◌, map, take}
use Rattle.redn_image.specs.Rules.{queue_numbers}
use Rattle.redn_image.proofs.read.queues_of.Given as goal

abbrev pub invariant-loop-row : goal.invariant-loop-row
invariant-loop-row l = map queue_numbers l.queues.items ≡ take l.row-index l.rows
