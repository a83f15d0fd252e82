use Rattle.std.proofs.Common.{◌≡◌, ◌++◌, take}
use Rattle.std.specs.List.{flat_map}
use Rattle.redn_emit.specs.Layout as layout
use Rattle.redn_emit.proofs.memory.put_entries.Given as goal

abbrev pub invariant-loop-plan : goal.invariant-loop-plan
invariant-loop-plan l = l.out.items ≡ l.initial.out.items ++ flat_map layout.entry_bytes (take l.plan-index l.plans)
