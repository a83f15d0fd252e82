use Rattle.std.proofs.Common.{◌≡◌, ◌+◌, take}
use Rattle.std.specs.List.{sum_by}
use Rattle.redn_image.specs.Rules.{QueueNumbers, slots_are_few}
use Rattle.redn_image.proofs.Faults.{PassedTo}
use Rattle.redn_image.proofs.rules.slot_fault.Given as goal

abbrev pub invariant-loop-index : goal.invariant-loop-index
invariant-loop-index l =
    record {
      few : l.left + sum_by (λ (q : QueueNumbers). q.slots) (take l.index l.rows) ≡ 524288;
      passed : PassedTo 16 slots_are_few l.rows l.index;
    }
