use Rattle.std.proofs.Common.{sym, ap, ◌∙◌}
use Rattle.redn_sched.specs.MadeSchedules.{cyclically, queues_of}
use Rattle.redn_sched.proofs.ChainTurns.{cursor_of, its_queue}
use Rattle.redn_sched.proofs.turns.active_queue.Goals as goal

pub returns-in_err-active_turn : goal.returns-in_err-active_turn
returns-in_err-active_turn c =
    let s = c.args.a.now.state in
    c.from_residual.ensures ∙ ap cursor_of (sym c.in_err-active_turn.was ∙ c.active_turn.ensures) ∙ its_queue s (cyclically c.args.cursor (queues_of s c.args.chain))
