use Rattle.redn_image.specs.Rules.{queue_numbers}
use Rattle.redn_disasm.specs.Holding.{StandsForQueue}
use Rattle.redn_disasm.specs.Reading.{queue_of}
use Rattle.redn_disasm.proofs.Standing.{stand_all, stand_step}
use Rattle.redn_disasm.proofs.holding.queues_for.Goals as goal

pub loop-row-preserved : goal.loop-row-preserved
loop-row-preserved c = stand_step StandsForQueue queue_of queue_numbers c.args.rows.now c.loop-row.queues.items _ c.loop-row.row-index _ _ c.loop-row-test.true c.loop-row.invariant c.queue_for.ensures c.in_ok-push.ensures.items

pub returns : goal.returns
returns c = stand_all StandsForQueue queue_of queue_numbers c.args.rows.now c.loop-row.queues.items c.loop-row.row-index c.loop-row-test.false c.loop-row.invariant
