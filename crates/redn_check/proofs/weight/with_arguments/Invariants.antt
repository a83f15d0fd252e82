use Rattle.std.proofs.Common.{◌≡◌, ◌++◌, List, map, take}
use Rattle.redn_check.specs.Flow.{load_of}
use Rattle.redn_check.specs.Rules.{Weight, weight_at}
use Rattle.redn_check.proofs.weight.with_arguments.Given as goal

-- those so far
abbrev pub invariant-loop-name : goal.invariant-loop-name
invariant-loop-name l = (ws : List Weight) → l.initial.sum ≡ load_of ws → l.sum ≡ load_of (ws ++ map (λ n. weight_at n.at 1) (take l.name-index l.args))
