use Rattle.std.proofs.Common.{◌≡◌, ◌++◌, List, ℕ, length}
use Rattle.std.specs.Option.{option_map}
use Rattle.redn_top.specs.Refusals.{FaultsStay}
use Rattle.redn_top.proofs.run.put_lines.Given as goal

abbrev pub invariant-loop-line : goal.invariant-loop-line
invariant-loop-line g l =
    FaultsStay (g.K.Sink.seen l.fn.out) (g.K.Sink.seen l.out)
    × ((done : List ℕ) × (l.fn.text ≡ done ++ l.rest) × ((g.K.Sink.seen l.out).told ≡ option_map (λ before. before ++ done) (g.K.Sink.seen l.fn.out).told))

abbrev pub decreases-loop-line : goal.decreases-loop-line
decreases-loop-line g l = length l.rest
