use Rattle.std.proofs.Common.{◌≡◌, ◌++◌, take}
use Rattle.redn_summary.specs.Counting.{replies_text}
use Rattle.redn_summary.proofs.text.add_replies.Given as goal

abbrev pub invariant-loop-event : goal.invariant-loop-event
invariant-loop-event l = l.text.items ≡ l.fn.text.items ++ replies_text (take l.event-index l.replies) l.chain
