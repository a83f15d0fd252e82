use Rattle.std.proofs.Common.{map, take}
use Rattle.redn_image.specs.Rules.{region_numbers}
use Rattle.redn_disasm.specs.Holding.{StandFor, StandsForRegion}
use Rattle.redn_disasm.specs.Reading.{region_of}
use Rattle.redn_disasm.proofs.holding.regions_for.Given as goal

abbrev pub invariant-loop-row : goal.invariant-loop-row
invariant-loop-row l = StandFor StandsForRegion (map region_of (take l.row-index l.rows)) (map region_numbers l.regions.items)
