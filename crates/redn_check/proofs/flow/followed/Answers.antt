use Rattle.std.proofs.Common.{◌≡◌, ◌||◌, ◌&&◌, ◌∙◌, not}
use Rattle.redn_check.specs.Faults.{earlier, first_of, when, fault}
use Rattle.redn_check.proofs.Flows.{body_push}
use Rattle.redn_check.proofs.flow.followed.Goals as goal
use Rattle.redn_check.proofs.flow.followed.Goals.{then-flow, else-flow, then-flow-2, else-flow-2, then-flow-3, else-flow-3+then-flow-4, else-flow-3+else-flow-4, then-flow-5, else-flow-5}

pub returns : goal.returns
returns c = λ body s flow next at.
    let falls : c.if-flow.result ≡ (c.args.flow.falls && c.args.next.falls) = elim c.if-flow.branch [ then-flow w ↦ cc | else-flow w ↦ cc ] in
    let breaks : c.if-flow-2.result ≡ (c.args.flow.breaks || c.args.next.breaks) = elim c.if-flow-2.branch [ then-flow-2 w ↦ cc | else-flow-2 w ↦ cc ] in
    let idly : c.if-flow-3.result ≡ (c.args.flow.breaks_idly || (c.args.flow.is_idle && c.args.next.is_break)) =
    elim c.if-flow-3.branch [ then-flow-3 w ↦ cc | else-flow-3+then-flow-4 w ↦ cc | else-flow-3+else-flow-4 w ↦ cc ]
    in
    let idle : c.if-flow-5.result ≡ (c.args.flow.is_idle && c.args.next.is_idle) = elim c.if-flow-5.branch [ then-flow-5 w ↦ cc | else-flow-5 w ↦ cc ] in
    let before = c.earlier.ensures ∙ (λ j. earlier (flow j).unreached ((c.when.ensures ∙ (λ k. first_of (when (not (flow k).falls) (fault 6 (at k) 0)))) j)) in
    let inside = c.earlier-2.ensures ∙ (λ j. earlier (flow j).inner (next j).first) in
    body_push body s _ _ _ _ _ _ (falls ∙ (λ j. (flow j).falls && (next j).falls)) (breaks ∙ (λ j. (flow j).breaks || (next j).breaks))
    (idly ∙ (λ j. (flow j).breaks_idly || ((flow j).is_idle && (next j).is_break))) (idle ∙ (λ j. (flow j).is_idle && (next j).is_idle)) before inside
