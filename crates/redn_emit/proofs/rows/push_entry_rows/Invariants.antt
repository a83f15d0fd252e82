use Rattle.std.proofs.Common.{◌≡◌, ◌++◌, map, take}
use Rattle.redn_emit.specs.Layout as layout
use Rattle.redn_emit.proofs.rows.push_entry_rows.Given as goal

abbrev pub invariant-loop-plan : goal.invariant-loop-plan
invariant-loop-plan l = l.rows.items ≡ l.initial.rows.items ++ map (layout.entry_row l.base) (take l.plan-index l.plans)
