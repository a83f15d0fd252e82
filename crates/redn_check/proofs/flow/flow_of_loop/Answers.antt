use Rattle.std.proofs.Common.{◌∙◌, false}
use Rattle.redn_check.specs.Faults.{earlier, first_of, when, fault}
use Rattle.redn_check.proofs.Flows.{flow, flow_loop}
use Rattle.redn_check.proofs.flow.flow_of_loop.Goals as goal

pub returns : goal.returns
returns c = λ s inner layer at body.
    let first =
    c.earlier.ensures ∙ (λ j. earlier (c.when.ensures j) (c.earlier-inner.ensures j))
    ∙ (λ j. earlier (first_of (when (body j).is_idle (fault 7 (at j) 0))) (earlier (body j).unreached (body j).inner))
    in
    (λ j. flow (body j).breaks false false (body j).breaks_idly (first j)) ∙ flow_loop s inner layer
