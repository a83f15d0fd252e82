use Rattle.std.proofs.Common.{◌≡◌, map, take}
use Rattle.redn_emit.specs.Layout as layout
use Rattle.redn_emit.proofs.rows.receives_of.Given as goal

abbrev pub invariant-loop-plan : goal.invariant-loop-plan
invariant-loop-plan l = l.rows.items ≡ map layout.receive (take l.plan-index l.plans)
