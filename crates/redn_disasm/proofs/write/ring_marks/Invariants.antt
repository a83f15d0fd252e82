use Rattle.std.proofs.Common.{◌≡◌, ℕ, ◌*◌, ◌/◌, get_or, false, take, length}
use Rattle.std.specs.List.{list_any}
use Rattle.redn_disasm.specs.Listing.{lies_in}
use Rattle.redn_disasm.proofs.write.ring_marks.Given as goal

abbrev pub invariant-loop-row : goal.invariant-loop-row
invariant-loop-row l =
    record {
      size : length l.marks.items ≡ l.size / 64;
      marked : (p : ℕ) → get_or l.marks.items p false ≡ list_any (lies_in (64 * p)) (take l.row-index l.rows);
    }
