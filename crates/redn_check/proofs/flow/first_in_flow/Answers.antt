use Rattle.std.proofs.Common.{◌∙◌, ap, ◌++◌}
use Rattle.std.specs.List.{flat_map}
use Rattle.redn_check.specs.Faults.{first_of, when, fault}
use Rattle.redn_check.specs.Flow.{body_flow}
use Rattle.redn_check.specs.Rules.{loose_breaks, open_end, unreached, flow_faults}
use Rattle.redn_check.specs.Statements.{each_of}
use Rattle.redn_check.proofs.EarliestOf.{stepped, first_of-append}
use Rattle.redn_check.proofs.flow.first_in_flow.Goals as goal

pub returns : goal.returns
returns c =
    let chain = c.args.chain.now in
    let flow = c.flow_of_body-flow.ensures ∙ ap body_flow c.as_slice-body.ensures in
    let a = loose_breaks chain.body in
    let b = open_end chain in
    let d = unreached chain.body in
    let e = flat_map flow_faults (each_of chain.body) in
    let breaks = c.first_loose_break.ensures ∙ ap (λ l. first_of (loose_breaks l)) c.as_slice-body.ensures in
    let ends = c.when.ensures ∙ ap (λ f. first_of (when f.falls (fault 5 chain.close 0))) flow in
    let two = stepped _ _ _ _ _ _ c.earlier-ends.ensures breaks ends (first_of-append a b) in
    let three = stepped _ _ _ _ _ _ c.earlier.ensures two (ap (λ f. f.unreached) flow) (first_of-append (a ++ b) d) in
    stepped _ _ _ _ _ _ c.earlier-2.ensures three (ap (λ f. f.inner) flow) (first_of-append (a ++ b ++ d) e)
