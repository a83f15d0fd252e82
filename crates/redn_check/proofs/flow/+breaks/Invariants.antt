use Rattle.std.proofs.Common.{◌≡◌, take}
use Rattle.redn_check.specs.Faults.{first_of}
use Rattle.redn_check.specs.Rules.{loose_breaks}
use Rattle.redn_check.proofs.flow.+breaks.Given as goal

-- those so far
abbrev pub invariant-first_loose_break-loop-s : goal.invariant-first_loose_break-loop-s
invariant-first_loose_break-loop-s l = l.first ≡ first_of (loose_breaks (take l.s-index l.body))
