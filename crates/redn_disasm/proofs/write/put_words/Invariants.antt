use Rattle.std.proofs.Common.{◌≡◌, ◌++◌, ◌*◌}
use Rattle.redn_disasm.specs.Listing.{flat_below, data_text}
use Rattle.redn_disasm.proofs.write.put_words.Given as goal

abbrev pub invariant-loop-k : goal.invariant-loop-k
invariant-loop-k l = l.out.items ≡ l.initial.out.items ++ flat_below (λ k. data_text l.rows l.memory (8 * k)) l.k
