use Rattle.std.proofs.Common.{◌≡◌, ◌+◌, ◌*◌, ◌++◌, drop}
use Rattle.redn_emit.specs.Layout as layout
use Rattle.redn_emit.proofs.rows.push_ring_rows.Given as goal

abbrev pub invariant-loop-ring : goal.invariant-loop-ring
invariant-loop-ring l =
    record {
      made : l.rows.items ++ layout.ring_rows_from l.domain l.base (drop l.ring-index l.rings) ≡ l.initial.rows.items ++ layout.ring_rows_from l.domain l.initial.base l.rings;
      room : l.base + 64 * layout.code_slots (drop l.ring-index l.rings) ≡ l.initial.base + 64 * layout.code_slots l.rings;
    }
