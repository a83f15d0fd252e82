use Rattle.std.proofs.Common.{◌≡◌, ◌++◌, take}
use Rattle.redn_disasm.specs.Listing.{flat_from, receive_line}
use Rattle.redn_disasm.proofs.write.put_receives.Given as goal

abbrev pub invariant-loop-k : goal.invariant-loop-k
invariant-loop-k l = l.out.items ≡ l.initial.out.items ++ flat_from receive_line 0 (take l.k l.rows)
