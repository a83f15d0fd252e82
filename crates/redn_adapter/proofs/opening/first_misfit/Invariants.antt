use Rattle.std.proofs.Common.{◌≡◌, map, drop}
use Rattle.std.specs.Option.{option_map}
use Rattle.redn_adapter.specs.Opening.{misfits}
use Rattle.redn_adapter.proofs.opening.first_misfit.Given as goal

abbrev pub invariant-loop-k : goal.invariant-loop-k
invariant-loop-k l =
    misfits l.k (drop l.k l.places) (drop l.k (map (option_map (λ v. v.items)) l.messages)) ≡ misfits 0 l.places (map (option_map (λ v. v.items)) l.messages)
