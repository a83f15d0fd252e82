use Rattle.std.proofs.Common.{◌≡◌, map, take}
use Rattle.redn_kernel.specs.Source.{value_of}
use Rattle.redn_source.proofs.Padded.{padded}
use Rattle.redn_source.proofs.run.Run.eight_values.Given as goal

abbrev pub invariant-loop-i : goal.invariant-loop-i
invariant-loop-i l = l.words ≡ padded (map (value_of l.self.vars.items) (take l.i l.list)) l.i
