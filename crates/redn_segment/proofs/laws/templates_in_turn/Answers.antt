use Rattle.std.proofs.Common.{List, ◌+◌, ◌++◌, sym, ap, ◌∙◌, append_assoc}
use Rattle.std.proofs.lemmas.List.{append_cancel_left}
use Rattle.std.proofs.lemmas.List.Sums.{sum_by-append}
use Rattle.redn_segment.specs.declared.types.Draft.{Draft}
use Rattle.redn_segment.specs.Building.{Building}
use Rattle.redn_segment.specs.Costs.{segment_slots, segment_actions}
use Rattle.redn_segment.proofs.Growing.{with_more}
use Rattle.redn_segment.proofs.Both.{appends_in_turn}
use Rattle.redn_segment.proofs.RightsInTurn.{rights_in_turn}
use Rattle.redn_segment.proofs.laws.templates_in_turn.Goals as goal

pub returns-clause-appended : goal.returns-clause-appended
returns-clause-appended c = appends_in_turn

pub returns-clause-cost : goal.returns-clause-cost
returns-clause-cost c = λ a b d slots more_slots actions more_actions x y.
    record {
      added = x.added ++ y.added;
      appended = y.appended ∙ (ap (λ (e : Building). with_more e y.added) x.appended ∙ ap (λ (l : List (List Draft)). let e : Building = record a { segments = l } in e) (append_assoc a.segments x.added y.added));
      slots_are = sum_by-append segment_slots x.added y.added ∙ (λ i. x.slots_are i + y.slots_are i);
      actions_are = sum_by-append segment_actions x.added y.added ∙ (λ i. x.actions_are i + y.actions_are i);
    }

pub returns-clause-rights : goal.returns-clause-rights
returns-clause-rights c = rights_in_turn

pub returns-clause-added : goal.returns-clause-added
returns-clause-added c = λ a b segments drafts more effect written x y.
    append_cancel_left a.segments x.added y.added (ap (λ (e : Building). e.segments) (sym x.appended ∙ y.appended))
