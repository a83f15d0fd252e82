use Rattle.std.proofs.Common.{◌≡◌, ℕ, map}
use Rattle.std.specs.List.{range_with_len}
use Rattle.redn_recycle.specs.Lapped.{ring_of, lapped_segment}
use Rattle.redn_recycle.proofs.laps.with_laps.Given as goal

-- the segments so far
abbrev pub invariant-loop-j : goal.invariant-loop-j
invariant-loop-j l =
    (domain base : ℕ) → l.segments.items ≡ map (lapped_segment l.fn.r.ring (ring_of l.fn.r.segments.items l.fn.r.ring domain base)) (range_with_len 0 l.j)
