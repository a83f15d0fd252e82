use Rattle.std.proofs.Common.{◌≡◌, refl, sym, ap}
use Rattle.redn_sched.specs.MadeSchedules.{fair_next}
use Rattle.redn_sched.proofs.ChainTurns.{turned, taken, a_turn}
use Rattle.redn_sched.proofs.fair.Fair.take.Goals as goal
use Rattle.redn_sched.proofs.fair.Fair.take.Goals.{In_ok-chain}

next : (c : In_ok-chain) → fair_next c.args.a.now.state c.args.self.now ≡ taken c.args.self.now c.in_ok-chain.chain c.in_ok-chain.turn
next c = a_turn c.args.a.now.state c.args.self.now c.in_ok-chain.chain c.in_ok-chain.turn (sym c.in_ok-chain.ensures.chain) c.in_ok-chain.ensures.turn

pub returns-clause-action : goal.returns-clause-action
returns-clause-action c = rw (next (goal.at.returns-clause-action c).In_ok-chain) refl

pub returns-clause-cursors : goal.returns-clause-cursors
returns-clause-cursors c =
    rw (next (goal.at.returns-clause-cursors c).In_ok-chain) (ap (turned c.in_ok-chain.chain c.in_ok-chain.turn) c.self.view_is)
