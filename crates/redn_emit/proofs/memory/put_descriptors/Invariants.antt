use Rattle.std.proofs.Common.{◌≡◌, ◌++◌, take}
use Rattle.std.specs.List.{flat_map}
use Rattle.redn_emit.specs.Layout as layout
use Rattle.redn_emit.proofs.memory.put_descriptors.Given as goal

abbrev pub invariant-loop-ring : goal.invariant-loop-ring
invariant-loop-ring l = l.out.items ≡ l.initial.out.items ++ flat_map layout.descriptor (take l.ring-index l.rings)
