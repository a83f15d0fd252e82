use Rattle.std.proofs.Common.{◌≡◌, ◌+◌, ◌++◌, drop}
use Rattle.redn_emit.specs.Layout.{rings_from}
use Rattle.redn_emit.proofs.chain.rings_of.Given as goal

-- the rings so far and those to come
abbrev pub invariant-loop-i : goal.invariant-loop-i
invariant-loop-i l = l.rings.items ++ rings_from l.first (l.first + l.i) (drop l.i l.blocks) ≡ rings_from l.first l.first l.blocks
