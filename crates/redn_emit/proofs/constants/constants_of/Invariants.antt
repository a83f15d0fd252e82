use Rattle.std.proofs.Common.{◌≡◌, take}
use Rattle.redn_emit.specs.Placed.{constants_of}
use Rattle.redn_emit.proofs.constants.constants_of.Given as goal

abbrev pub invariant-loop-ring : goal.invariant-loop-ring
invariant-loop-ring l = l.seen.keys ≡ constants_of (take l.ring-index l.rings)
