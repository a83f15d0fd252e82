use Rattle.std.proofs.Common.{◌≡◌, map, drop}
use Rattle.std.specs.Option.{option_map}
use Rattle.redn_source.specs.Starting.{misfits}
use Rattle.redn_source.proofs.start.first_misfit.Given as goal

abbrev pub invariant-loop-k : goal.invariant-loop-k
invariant-loop-k l =
    misfits l.k (drop l.k l.chains) (drop l.k (map (option_map (λ v. v.items)) l.messages)) ≡ misfits 0 l.chains (map (option_map (λ v. v.items)) l.messages)
