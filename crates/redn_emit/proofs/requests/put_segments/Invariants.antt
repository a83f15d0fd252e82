use Rattle.std.proofs.Common.{◌≡◌, ◌++◌, take}
use Rattle.redn_emit.specs.Layout as layout
use Rattle.redn_emit.proofs.requests.put_segments.Given as goal

abbrev pub invariant-loop-segment : goal.invariant-loop-segment
invariant-loop-segment l = l.out.items ≡ l.initial.out.items ++ layout.ring_bytes (layout.home l.plan l.tables) (take l.segment-index l.segments)
