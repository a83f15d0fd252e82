use Rattle.std.proofs.Common.{◌≡◌, length, take}
use Rattle.redn_segment.specs.Building.{drafts_of}
use Rattle.redn_emit.proofs.ring.count.Given as goal

abbrev pub invariant-loop-segment : goal.invariant-loop-segment
invariant-loop-segment l = l.drafts ≡ length (drafts_of (take l.segment-index l.segments))
