use Rattle.std.proofs.Common.{◌≡◌, ◌++◌, take}
use Rattle.std.specs.List.{flat_map}
use Rattle.redn_image.specs.Rules.{queue_numbers}
use Rattle.redn_image.specs.Spelling.{spelled_queue}
use Rattle.redn_image.proofs.write.put_queues.Given as goal

abbrev pub invariant-loop-row : goal.invariant-loop-row
invariant-loop-row l = l.out.items ≡ l.initial.out.items ++ flat_map (λ q. spelled_queue (queue_numbers q)) (take l.row-index l.rows)
