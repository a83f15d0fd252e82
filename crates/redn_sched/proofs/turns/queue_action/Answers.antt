use Rattle.std.proofs.Common.{◌≡◌, Some, sym, ap, ◌∙◌}
use Rattle.std.specs.Prelude.{slice_get}
use Rattle.std.specs.Option.{option_copied}
use Rattle.redn_sched.proofs.Active.{lands_next, fetches_next}
use Rattle.redn_sched.proofs.turns.queue_action.Goals as goal
use Rattle.redn_sched.proofs.turns.queue_action.Goals.{In_ok-u}

there : (c : In_ok-u) → slice_get c.args.a.now.state.queues c.args.queue ≡ Some c.in_ok-u.u.now
there c = sym c.queue.ensures ∙ ap option_copied c.in_ok-u.was

pub returns-in-Some : goal.returns-in-Some
returns-in-Some c =
    sym (lands_next c.args.a.now.state c.args.queue c.in_ok-u.u.now (there (goal.at.returns-in-Some c).In_ok-u) (sym c.stopped.ensures ∙ c.if-stopped.false) (sym c.oldest_landed.ensures ∙ c.if-oldest_landed.false) c.in-Some.index (sym c.oldest_unlanded.ensures ∙ c.in-Some.is))

pub returns : goal.returns
returns c =
    sym (fetches_next c.args.a.now.state c.args.queue c.in_ok-u.u.now (there (goal.at.returns c).In_ok-u) (sym c.stopped.ensures ∙ c.if-stopped.false) (sym c.oldest_landed.ensures ∙ c.if-oldest_landed.false) c.in_ok-index.index (sym c.oldest_unlanded.ensures ∙ c.in_default.is) (sym c.possible.ensures ∙ c.if-possible.false) (sym c.least_unheld.ensures ∙ c.in_ok-index.was))
