use Rattle.std.proofs.Common.{◌≡◌, ◌≤◌, ◌+◌, ◌*◌, ◌++◌, take}
use Rattle.std.specs.List.{flat_map}
use Rattle.redn_trace.specs.EventText.{field}
use Rattle.redn_trace.proofs.event.line.Given as goal

abbrev pub invariant-loop-n : goal.invariant-loop-n
invariant-loop-n l =
    (l.at ≤ 9 + 21 * l.n-index) × (take l.at l.buf ≡ l.word ++ flat_map field (take l.n-index l.numbers))
