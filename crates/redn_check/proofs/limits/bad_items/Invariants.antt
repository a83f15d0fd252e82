use Rattle.std.proofs.Common.{◌≡◌, ◌-◌, ◌^◌, min, take}
use Rattle.std.specs.List.{flat_map}
use Rattle.redn_check.specs.Faults.{first_of}
use Rattle.redn_check.specs.Rules.{end_of, misplaced}
use Rattle.redn_check.specs.Statements.{with_earlier}
use Rattle.redn_check.proofs.limits.bad_items.Given as goal

-- where the items so far end, and their fault that is told
abbrev pub invariant-loop-item : goal.invariant-loop-item
invariant-loop-item l = record {
  ended : l.end ≡ min (end_of (take l.item-index l.item-items)) (2 ^ 64 - 1);
  told : l.first ≡ first_of (flat_map (λ e. misplaced l.length e.0 e.1) (with_earlier (take l.item-index l.item-items)));
}
