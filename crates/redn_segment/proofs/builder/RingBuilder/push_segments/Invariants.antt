use Rattle.std.proofs.Common.{◌≡◌, ◌++◌}
use Rattle.redn_segment.proofs.builder.RingBuilder.push_segments.Given as goal

-- those so far are appended, and the others are left
abbrev pub invariant-loop-s : goal.invariant-loop-s
invariant-loop-s l =
    (l.self ≡ record l.fn.self { segments = l.fn.self.segments ++ l.yielded }) × (l.yielded ++ l.s-iterator.rest.items ≡ l.fn.segments.items)
