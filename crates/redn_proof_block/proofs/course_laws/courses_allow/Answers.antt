use Rattle.redn_proof_block.proofs.Allowing as proofs
use Rattle.redn_proof_block.proofs.Beginning as beginning
use Rattle.redn_proof_block.proofs.course_laws.courses_allow.Goals as goal

pub returns-clause-allows : goal.returns-clause-allows
returns-clause-allows c = proofs.courses_allow

pub returns-clause-turn : goal.returns-clause-turn
returns-clause-turn c = proofs.courses_turn

pub returns-clause-begin : goal.returns-clause-begin
returns-clause-begin c = beginning.courses_begin

pub returns-clause-script : goal.returns-clause-script
returns-clause-script c = proofs.courses_are_script
