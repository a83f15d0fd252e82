use Rattle.redn_proof_ring.proofs.LapScript.{laps_are_script}
use Rattle.redn_proof_ring.specs.RingLaws.{Blocks}
use Rattle.redn_proof_ring.specs.Runs.{meaning}
use Rattle.redn_proof_ring.proofs.Promised.{promised}
use Rattle.redn_proof_ring.proofs.ring_laws.blocks_promise.Goals as goal

pub returns-clause-promises : goal.returns-clause-promises
returns-clause-promises g c =
    let b : Blocks = g.B.HasBlocks.blocks in
    promised b.plan b.takes b.ghost b.tells b.fails b.entry b.laid b.allows

pub returns-clause-script : goal.returns-clause-script
returns-clause-script g c =
    let b : Blocks = g.B.HasBlocks.blocks in
    laps_are_script b.plan b.laid (meaning b.plan b.takes b.ghost b.tells b.fails b.entry) (promised b.plan b.takes b.ghost b.tells b.fails b.entry b.laid b.allows)
