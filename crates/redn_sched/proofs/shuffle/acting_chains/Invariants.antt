use Rattle.std.proofs.Common.{◌≡◌, ◌≤◌, length}
use Rattle.std.specs.List.{filter, range_with_len}
use Rattle.redn_sched.specs.MadeSchedules.{chain_acts}
use Rattle.redn_sched.proofs.shuffle.acting_chains.Given as goal

abbrev pub invariant-loop-chain : goal.invariant-loop-chain
invariant-loop-chain l = record {
  items : l.chains.items ≡ filter (chain_acts l.fn.a.state) (range_with_len 0 l.chain);
  few : length l.chains.items ≤ l.chain;
}
