use Rattle.std.proofs.Common.{◌≡◌, map, take}
use Rattle.redn_words.specs.States.{fresh_queue}
use Rattle.redn_adapter.proofs.opening.first_queues.Given as goal

abbrev pub invariant-loop-row : goal.invariant-loop-row
invariant-loop-row l = l.queues.items ≡ map fresh_queue (take l.row-index l.rows)
