use Rattle.redn_proof_ring.proofs.LapScript.{laps_are_script, goes_on}
use Rattle.redn_proof_ring.proofs.lap_laws.laps_are_script.Goals as goal

pub returns-clause-script : goal.returns-clause-script
returns-clause-script g c = laps_are_script g.L.LaidOut.plan g.L.LaidOut.laid g.L.LaidOut.meaning g.L.LaidOut.promises

pub returns-clause-goes_on : goal.returns-clause-goes_on
returns-clause-goes_on g c = goes_on g.L.LaidOut.plan g.L.LaidOut.laid g.L.LaidOut.meaning g.L.LaidOut.promises
