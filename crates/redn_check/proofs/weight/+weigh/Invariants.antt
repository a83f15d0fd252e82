use Rattle.std.proofs.Common.{◌≡◌, ◌++◌, List, take}
use Rattle.redn_check.specs.Flow.{load_of}
use Rattle.redn_check.specs.Rules.{Weight, weights_in}
use Rattle.redn_check.specs.Statements.{each_of}
use Rattle.redn_check.proofs.weight.+weigh.Given as goal

-- those so far
abbrev pub invariant-with_body-loop-s : goal.invariant-with_body-loop-s
invariant-with_body-loop-s l = (ws : List Weight) → l.initial.sum ≡ load_of ws → l.sum ≡ load_of (ws ++ weights_in (each_of (take l.s-index l.body)))
