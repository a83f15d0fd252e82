use Rattle.redn_source.proofs.Arguments.{put_next}
use Rattle.redn_source.proofs.run.Run.put_arguments.Goals as goal

pub loop-i-preserved : goal.loop-i-preserved
loop-i-preserved c =
    let p = c.put.ensures in put_next _ c.loop-i.self _ _ _ c.loop-i.invariant c.loop-i-test.true c.loop-i.auto.i p.keeps p.one p.capacity p.items
