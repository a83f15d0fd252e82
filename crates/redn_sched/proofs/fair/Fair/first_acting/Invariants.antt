use Rattle.std.proofs.Common.{◌≡◌, ◌-◌, None}
use Rattle.std.specs.List.{find, range_with_len}
use Rattle.redn_sched.specs.MadeSchedules.{chain_acts}
use Rattle.redn_sched.proofs.fair.Fair.first_acting.Given as goal

abbrev pub invariant-loop-chain : goal.invariant-loop-chain
invariant-loop-chain l = find (chain_acts l.fn.a.state) (range_with_len l.fn.from (l.chain - l.fn.from)) ≡ None
