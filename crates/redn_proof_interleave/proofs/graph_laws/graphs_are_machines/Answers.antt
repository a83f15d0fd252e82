use Rattle.redn_proof_interleave.proofs.GraphMachines.{itself_runs}
use Rattle.redn_proof_interleave.proofs.SilentSteps.{silent_step}
use Rattle.redn_proof_interleave.proofs.graph_laws.graphs_are_machines.Goals as goal

pub returns-clause-machine : goal.returns-clause-machine
returns-clause-machine c = itself_runs

pub returns-clause-silent : goal.returns-clause-silent
returns-clause-silent c = λ n words g t u x silent. let s = silent_step n words t u x g silent in record { tables = s.tables; again = s.again; vars = s.vars }
