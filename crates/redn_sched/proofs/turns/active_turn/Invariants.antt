use Rattle.std.proofs.Common.{ℕ, ◌<◌, ◌^◌, get_or, take}
use Rattle.redn_sched.specs.ChainTurns.{IsTurn}
use Rattle.redn_sched.proofs.ChainTurns.{cursor_of}
use Rattle.redn_sched.proofs.Nearest.{IsFirst}
use Rattle.redn_sched.proofs.turns.active_turn.Given as goal

-- the first of those that were looked at
abbrev pub invariant-loop-queue : goal.invariant-loop-queue
invariant-loop-queue l = record {
  found : IsFirst l.fn.a.state l.chain l.cursor (take l.queue-index l.queue-items) (cursor_of l.first);
  turn : IsTurn l.fn.a.state l.first;
  words : (i : ℕ) → get_or l.queue-items i 0 < 2 ^ 32;
}
