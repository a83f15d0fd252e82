use Rattle.std.proofs.Common.{List, sym, ap, ◌∙◌}
use Rattle.std.proofs.lemmas.Bool.{OnTrue_from}
use Rattle.redn_segment.specs.declared.types.Draft.{Draft}
use Rattle.redn_segment.specs.Footprints.{is_apart}
use Rattle.redn_segment.specs.Orders.{LandInAnyOrder}
use Rattle.redn_segment.proofs.AnyOrder.{lands_in_any_order}
use Rattle.redn_segment.proofs.footprints.footprints_apart.Goals as goal

pub returns-clause-any_order : goal.returns-clause-any_order
returns-clause-any_order c =
    OnTrue_from c.are_apart.result (LandInAnyOrder c.args.s.now c.args.first) (λ h. lands_in_any_order c.args.s.now c.args.first (sym (c.are_apart.ensures ∙ ap (λ (l : List Draft). is_apart l c.args.first) (c.as_slice.ensures.value ∙ c.s.view_is)) ∙ h))
