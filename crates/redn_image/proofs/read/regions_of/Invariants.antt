use Rattle.std.proofs.Common.{◌≡◌, map, take}
use Rattle.redn_image.specs.Rules.{region_numbers}
use Rattle.redn_image.proofs.read.regions_of.Given as goal

abbrev pub invariant-loop-row : goal.invariant-loop-row
invariant-loop-row l = map region_numbers l.regions.items ≡ take l.row-index l.rows
