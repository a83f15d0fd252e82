use Rattle.std.proofs.Common.{◌≤◌, length, sym, ap, ◌∙◌, arith}
use Rattle.redn_sched.specs.MadeSchedules.{Cursors, chain_acts}
use Rattle.redn_sched.proofs.Turning.{turned_on, turned_below}
use Rattle.redn_sched.proofs.fair.Fair.acting_chain.Goals as goal
use Rattle.redn_sched.proofs.fair.Fair.acting_chain.Goals.{After-first_acting}

within : (c : After-first_acting) → c.self.inside.chain ≤ length c.args.a.now.state.chains
within c = omega (arith, c.self.invariant, ap (λ (k : Cursors). length k.queues) c.self.view_is, c.requires.many)

pub returns-in-Some-clause-chain : goal.returns-in-Some-clause-chain
returns-in-Some-clause-chain c =
    let s = c.args.a.now.state in
    let e = rw c.requires.count at (sym c.in-Some.ensures.chain) in
    rw (← c.self.view_is) (sym (turned_on (chain_acts s) c.self.inside.chain (length s.chains) c.in-Some.found.0 (within (goal.at.returns-in-Some-clause-chain c).After-first_acting) e))

pub returns-in-None-clause-chain : goal.returns-in-None-clause-chain
returns-in-None-clause-chain c =
    let s = c.args.a.now.state in
    let e = rw c.requires.count at (sym c.in-None.ensures.chain) in
    rw (← c.self.view_is) (c.first_acting-in-None.ensures.chain ∙ sym (turned_below (chain_acts s) c.self.inside.chain (length s.chains) (within (goal.at.returns-in-None-clause-chain c).After-first_acting) e))
