use Rattle.std.proofs.Common.{◌≡◌, ◌++◌, take}
use Rattle.std.specs.List.{flat_map}
use Rattle.redn_image.specs.Spelling.{spelled_receive}
use Rattle.redn_image.proofs.write.put_receives.Given as goal

abbrev pub invariant-loop-row : goal.invariant-loop-row
invariant-loop-row l = l.out.items ≡ l.initial.out.items ++ flat_map spelled_receive (take l.row-index l.rows)
