use Rattle.std.proofs.Common.{◌≡◌, ◌++◌, take}
use Rattle.std.specs.List.{flat_map}
use Rattle.redn_emit.specs.Layout as layout
use Rattle.redn_emit.proofs.memory.put_code.Given as goal

abbrev pub invariant-loop-ring : goal.invariant-loop-ring
invariant-loop-ring l = l.out.items ≡ l.initial.out.items ++ flat_map (λ r. layout.ring_bytes (layout.home l.plan l.tables) (layout.with_its_laps r)) (take l.ring-index l.ring-items)
