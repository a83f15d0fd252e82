use Rattle.std.proofs.Common.{length, sym, ap, ◌∙◌}
use Rattle.redn_sched.specs.MadeSchedules.{Cursors}
use Rattle.redn_sched.proofs.Rows.{chains_stay}
use Rattle.redn_sched.proofs.Possible.{next_possible, next_useful}
use Rattle.redn_sched.proofs.NoAction.{none_acts, moved_many}
use Rattle.redn_sched.proofs.fair.Fair.next_fair.Goals as goal

pub returns-clause-quiet : goal.returns-clause-quiet
returns-clause-quiet c =
    let s = c.args.a.now.state in
    let is = none_acts s c.args.self.now (rw c.chain_count.ensures.count at c.chain_count.ensures.domains) in
    (λ e. is.0 (sym c.take.ensures.action ∙ e), λ quiet. c.take.ensures.action ∙ is.1 quiet)

pub returns-clause-stays : goal.returns-clause-stays
returns-clause-stays c =
    let s = c.args.a.now.state in
    λ act. ap (λ (k : Cursors). length k.queues) c.take.ensures.cursors ∙ moved_many s c.args.self.now ∙ c.requires ∙ sym (chains_stay s act)

pub returns-clause-possible : goal.returns-clause-possible
returns-clause-possible c = rw c.take.ensures.action (next_possible c.args.a.now.state c.args.self.now)

pub returns-clause-useful : goal.returns-clause-useful
returns-clause-useful c = rw c.take.ensures.action (next_useful c.args.a.now.state c.args.self.now)
