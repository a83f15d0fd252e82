use Rattle.redn_proof_window.proofs.GateQueues.{gates_move, gate_goes_on}
use Rattle.redn_proof_window.proofs.laws.gates_in_any_order.Goals as goal

pub returns-clause-moves : goal.returns-clause-moves
returns-clause-moves c = gates_move

pub returns-clause-goes_on : goal.returns-clause-goes_on
returns-clause-goes_on c = gate_goes_on
