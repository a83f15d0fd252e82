use Rattle.std.proofs.Common.{◌≡◌, ◌++◌}
use Rattle.redn_disasm.specs.Listing.{flat_below, slot_line, slot_of}
use Rattle.redn_disasm.proofs.write.put_slots.Given as goal

abbrev pub invariant-loop-i : goal.invariant-loop-i
invariant-loop-i l = l.out.items ≡ l.initial.out.items ++ flat_below (λ i. slot_line l.k i (slot_of l.memory l.row i)) l.i
