use Rattle.std.proofs.Common.{◌≡◌, ◌++◌, take}
use Rattle.std.specs.List.{flat_map}
use Rattle.redn_emit.specs.Layout as layout
use Rattle.redn_emit.proofs.rows.push_all_ring_rows.Given as goal

abbrev pub invariant-loop-plan : goal.invariant-loop-plan
invariant-loop-plan l = l.rows.items ≡ l.initial.rows.items ++ flat_map layout.ring_rows (take l.plan-index l.plans)
