use Rattle.std.proofs.Common.{◌≡◌, ◌||◌, ◌∙◌, false}
use Rattle.redn_check.specs.Faults.{earlier}
use Rattle.redn_check.proofs.Flows.{flow, flow_repeat}
use Rattle.redn_check.proofs.flow.flow_of_repeat.Goals as goal
use Rattle.redn_check.proofs.flow.flow_of_repeat.Goals.{then-body, else-body}

pub returns : goal.returns
returns c = λ s count inner layer body.
    let falls : c.if-body.result ≡ (c.args.body.falls || c.args.body.breaks) = elim c.if-body.branch [ then-body w ↦ cc | else-body w ↦ cc ] in
    let either = falls ∙ (λ j. (body j).falls || (body j).breaks) in
    let first = c.earlier.ensures ∙ (λ j. earlier (body j).unreached (body j).inner) in
    (λ j. flow (either j) false false false (first j)) ∙ flow_repeat s count inner layer
