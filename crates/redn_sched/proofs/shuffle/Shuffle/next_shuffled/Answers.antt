use Rattle.std.proofs.Common.{length, sym, ap, ◌∙◌}
use Rattle.redn_sched.specs.Shuffles.{Shuffling}
use Rattle.redn_sched.proofs.Rows.{chains_stay}
use Rattle.redn_sched.proofs.Drawing.{shuffled_possible, none_drawn, drawn_many}
use Rattle.redn_sched.proofs.shuffle.Shuffle.next_shuffled.Goals as goal

pub returns-clause-possible : goal.returns-clause-possible
returns-clause-possible c = rw c.take.ensures.action (shuffled_possible c.args.a.now.state c.args.self.now)

pub returns-clause-quiet : goal.returns-clause-quiet
returns-clause-quiet c =
    let s = c.args.a.now.state in
    let is = none_drawn s c.args.self.now c.take.ensures.domains in
    (λ e. is.0 (sym c.take.ensures.action ∙ e), λ quiet. c.take.ensures.action ∙ is.1 quiet)

pub returns-clause-stays : goal.returns-clause-stays
returns-clause-stays c =
    let s = c.args.a.now.state in
    λ act. ap (λ (k : Shuffling). length k.queues) c.take.ensures.now ∙ drawn_many s c.args.self.now ∙ c.requires ∙ sym (chains_stay s act)
