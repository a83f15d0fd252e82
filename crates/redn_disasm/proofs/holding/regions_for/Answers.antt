use Rattle.redn_image.specs.Rules.{region_numbers}
use Rattle.redn_disasm.specs.Holding.{StandsForRegion}
use Rattle.redn_disasm.specs.Reading.{region_of}
use Rattle.redn_disasm.proofs.Standing.{stand_all, stand_step}
use Rattle.redn_disasm.proofs.holding.regions_for.Goals as goal

pub loop-row-preserved : goal.loop-row-preserved
loop-row-preserved c = stand_step StandsForRegion region_of region_numbers c.args.rows.now c.loop-row.regions.items _ c.loop-row.row-index _ _ c.loop-row-test.true c.loop-row.invariant c.region_for.ensures c.in_ok-push.ensures.items

pub returns : goal.returns
returns c = stand_all StandsForRegion region_of region_numbers c.args.rows.now c.loop-row.regions.items c.loop-row.row-index c.loop-row-test.false c.loop-row.invariant
