use Rattle.std.proofs.Common.{◌≡◌, ◌++◌, take}
use Rattle.std.specs.List.{flat_map}
use Rattle.redn_emit.specs.Layout as layout
use Rattle.redn_emit.proofs.memory.put_all_words.Given as goal

abbrev pub invariant-loop-plan : goal.invariant-loop-plan
invariant-loop-plan l = l.out.items ≡ l.initial.out.items ++ flat_map layout.chain_words (take l.plan-index l.plans)
