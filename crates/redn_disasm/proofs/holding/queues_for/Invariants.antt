use Rattle.std.proofs.Common.{map, take}
use Rattle.redn_image.specs.Rules.{queue_numbers}
use Rattle.redn_disasm.specs.Holding.{StandFor, StandsForQueue}
use Rattle.redn_disasm.specs.Reading.{queue_of}
use Rattle.redn_disasm.proofs.holding.queues_for.Given as goal

abbrev pub invariant-loop-row : goal.invariant-loop-row
invariant-loop-row l = StandFor StandsForQueue (map queue_of (take l.row-index l.rows)) (map queue_numbers l.queues.items)
