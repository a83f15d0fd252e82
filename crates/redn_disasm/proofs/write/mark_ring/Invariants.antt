use Rattle.std.proofs.Common.{◌≡◌, ℕ, ◌+◌, ◌||◌, ◌&&◌, get_or, false}
use Rattle.std.specs.Prelude.{nat_le, nat_lt}
use Rattle.redn_disasm.proofs.write.mark_ring.Given as goal

abbrev pub invariant-loop-i : goal.invariant-loop-i
invariant-loop-i l =
    (p : ℕ) → get_or l.marks p false ≡ (get_or l.initial.marks p false || (nat_le l.first p && nat_lt p (l.first + l.i)))
