use Rattle.std.proofs.Common.{◌≡◌, ◌||◌, ◌∙◌, false}
use Rattle.redn_check.specs.Faults.{earlier}
use Rattle.redn_check.proofs.Flows.{flow, flow_if}
use Rattle.redn_check.proofs.flow.flow_of_if.Goals as goal
use Rattle.redn_check.proofs.flow.flow_of_if.Goals.{then-yes, else-yes, then-yes-2, else-yes-2}

pub returns : goal.returns
returns c = λ s wide left right met unmet layer is_met is_unmet.
    let falls : c.if-yes.result ≡ (c.args.yes.falls || c.args.no.falls) = elim c.if-yes.branch [ then-yes w ↦ cc | else-yes w ↦ cc ] in
    let breaks : c.if-yes-2.result ≡ (c.args.yes.breaks || c.args.no.breaks) = elim c.if-yes-2.branch [ then-yes-2 w ↦ cc | else-yes-2 w ↦ cc ] in
    let all_falls = falls ∙ (λ j. (is_met j).falls || (is_unmet j).falls) in
    let all_breaks = breaks ∙ (λ j. (is_met j).breaks || (is_unmet j).breaks) in
    let first =
    c.earlier-3.ensures ∙ (λ j. earlier (c.earlier.ensures j) (c.earlier-2.ensures j))
    ∙ (λ j. earlier (earlier (is_met j).unreached (is_unmet j).unreached) (earlier (is_met j).inner (is_unmet j).inner))
    in
    (λ j. flow (all_falls j) (all_breaks j) false false (first j)) ∙ flow_if s wide left right met unmet layer
