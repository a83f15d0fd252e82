use Rattle.redn_proof_window.proofs.Moves.{moves, same_stage, goes_on, count_tells}
use Rattle.redn_proof_window.proofs.Ends.{opens, first_budget, ends, in_order_writes}
use Rattle.redn_proof_window.proofs.laws.a_window_in_any_order.Goals as goal

pub returns-clause-opens : goal.returns-clause-opens
returns-clause-opens c = λ w s u o. (opens w s u o, first_budget w u.held)

pub returns-clause-moves : goal.returns-clause-moves
returns-clause-moves c = moves

pub returns-clause-stays : goal.returns-clause-stays
returns-clause-stays c = λ w ok s r t event h same. same_stage w ok s t event h r same

pub returns-clause-goes_on : goal.returns-clause-goes_on
returns-clause-goes_on c = goes_on

pub returns-clause-counts : goal.returns-clause-counts
returns-clause-counts c = count_tells

pub returns-clause-ends : goal.returns-clause-ends
returns-clause-ends c = λ w ok s t event h all.
    record { bytes = λ p ours. ends w ok s t event h all p ours; writes = λ k inside other. in_order_writes w ok event h.standing.fits h.standing.reached k inside other }
