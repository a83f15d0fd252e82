use Rattle.std.proofs.Common.{◌≡◌, ℕ, ◌+◌, ◌≤◌, length, take, get_or}
use Rattle.redn_emit.specs.Layout.{code_slots}
use Rattle.redn_emit.proofs.chain.starts_of.Given as goal

abbrev pub invariant-loop-ring : goal.invariant-loop-ring
invariant-loop-ring l =
    record {
      start : l.start ≡ code_slots (take l.ring-index l.rings);
      len : length l.starts.items ≡ l.ring-index + 1;
      starts : (i : ℕ) → i ≤ l.ring-index → get_or l.starts.items i 0 ≡ code_slots (take i l.rings);
    }
