use Rattle.std.proofs.Common.{◌≡◌, take}
use Rattle.redn_check.specs.Flow.{body_flow}
use Rattle.redn_check.proofs.flow.+flow.Given as goal

-- those so far
abbrev pub invariant-flow_of_body-loop-s : goal.invariant-flow_of_body-loop-s
invariant-flow_of_body-loop-s l = l.flow ≡ body_flow (take l.s-index l.body)
