use Rattle.std.proofs.Common.{◌≡◌, ◌++◌, take}
use Rattle.std.specs.List.{flat_map}
use Rattle.redn_image.specs.Rules.{region_numbers}
use Rattle.redn_disasm.specs.Listing.{region_line}
use Rattle.redn_disasm.proofs.write.put_regions.Given as goal

abbrev pub invariant-loop-row : goal.invariant-loop-row
invariant-loop-row l = l.out.items ≡ l.initial.out.items ++ flat_map (λ r. region_line (region_numbers r)) (take l.row-index l.rows)
