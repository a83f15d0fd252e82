use Rattle.std.proofs.Common.{◌≡◌}
use Rattle.redn_summary.proofs.Replies.{told_below}
use Rattle.redn_summary.proofs.text.tell.Given as goal

abbrev pub invariant-loop-chain : goal.invariant-loop-chain
invariant-loop-chain l = l.text.items ≡ told_below l.number l.chains l.counted l.chain
