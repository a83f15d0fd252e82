use Rattle.std.proofs.Common.{◌≡◌, ◌++◌, map, drop}
use Rattle.std.specs.List.{All}
use Rattle.std.specs.Option.{option_map}
use Rattle.redn_kernel.specs.Source.{fresh_chains}
use Rattle.redn_source.specs.RunView.{run_view, IsRun}
use Rattle.redn_source.proofs.start.first_runs.Given as goal

-- those so far, and those of the other chains
abbrev pub invariant-loop-k : goal.invariant-loop-k
invariant-loop-k l =
    All IsRun l.runs.items × (map run_view l.runs.items ++ fresh_chains (drop l.k l.chains) (drop l.k (map (option_map (λ v. v.items)) l.messages)) ≡ fresh_chains l.chains (map (option_map (λ v. v.items)) l.messages))
