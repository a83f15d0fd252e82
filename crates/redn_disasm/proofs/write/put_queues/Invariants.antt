use Rattle.std.proofs.Common.{◌≡◌, ◌++◌, take}
use Rattle.redn_image.specs.Rules.{queue_numbers}
use Rattle.redn_disasm.specs.Listing.{flat_from, queue_line}
use Rattle.redn_disasm.proofs.write.put_queues.Given as goal

abbrev pub invariant-loop-k : goal.invariant-loop-k
invariant-loop-k l = l.out.items ≡ l.initial.out.items ++ flat_from (λ k q. queue_line k (queue_numbers q)) 0 (take l.k l.rows)
