use Rattle.std.proofs.Common.{ℕ, List, [], length, ap, ◌∙◌, arith}
use Rattle.std.proofs.lemmas.Result.{on_ok_weaker}
use Rattle.redn_segment.specs.declared.types.SlotRef.{SlotRef}
use Rattle.redn_segment.specs.declared.types.Draft.{Draft}
use Rattle.redn_segment.specs.Building.{drafts_of}
use Rattle.redn_segment.specs.Drafts.{slot_from}
use Rattle.redn_segment.specs.Effects.{adds, first_slot}
use Rattle.redn_segment.specs.Footprints.{segments_apart}
use Rattle.redn_segment.proofs.Appending.{appends, stands_apart}
use Rattle.redn_segment.proofs.Suiting.{template_rights}
use Rattle.redn_segment.proofs.Growing.{with_more}
use Rattle.redn_move.specs.Adding.{add_segments, add_count}
use Rattle.redn_move.proofs.Moving.{add_suits, add_is, few_added, add_slots, add_actions}
use Rattle.redn_move.proofs.moves.add_template.Goals as goal

pub push_segments-requires : goal.push_segments-requires
push_segments-requires c =
    let a = c.args in
    record {
      few = omega (arith, ap (λ (l : List (List Draft)). length (drafts_of l)) c.in_ok-segments.ensures, (add_is a.to a.by c.requires.target).drafts_are (slot_from a.b.now.ring (length (drafts_of a.b.now.segments))), few_added a.by);
      apart = ap (segments_apart (first_slot a.b.now)) c.in_ok-segments.ensures ∙ stands_apart (λ (slot : ℕ → SlotRef). add_segments slot a.to a.by) (λ (slot : ℕ → SlotRef). adds a.to a.by) (add_count a.by) (add_count a.by) 0 (add_is a.to a.by c.requires.target) a.b.now;
    }

pub returns-clause-appended : goal.returns-clause-appended
returns-clause-appended c =
    let a = c.args in
    let append = appends (λ (slot : ℕ → SlotRef). add_segments slot a.to a.by) (λ (slot : ℕ → SlotRef). adds a.to a.by) (add_count a.by) (add_count a.by) 0 (add_is a.to a.by c.requires.target) a.b.now c.push_segments.new.self in
    on_ok_weaker c.push_segments.result (λ e. append (e ∙ ap (with_more a.b.now) c.in_ok-segments.ensures)) c.push_segments.ensures

pub returns-clause-cost : goal.returns-clause-cost
returns-clause-cost c =
    let a = c.args in
    let slot = slot_from a.b.now.ring (length (drafts_of a.b.now.segments)) in
    on_ok_weaker c.push_segments.result (λ e.
    record {
      added = add_segments slot a.to a.by;
      appended = e ∙ ap (with_more a.b.now) c.in_ok-segments.ensures;
      slots_are = add_slots slot a.to a.by;
      actions_are = add_actions slot a.to a.by;
    }) c.push_segments.ensures

pub returns-clause-rights : goal.returns-clause-rights
returns-clause-rights c =
    let a = c.args in
    let rights = template_rights (λ (slot : ℕ → SlotRef). add_segments slot a.to a.by) (λ (slot : ℕ → SlotRef). adds a.to a.by) (add_count a.by) (add_count a.by) 0 (add_is a.to a.by c.requires.target) [] (add_suits a.to a.by c.requires.target) a.b.now c.push_segments.new.self in
    on_ok_weaker c.push_segments.result (λ e. rights (e ∙ ap (with_more a.b.now) c.in_ok-segments.ensures)) c.push_segments.ensures

pub returns-clause-made : goal.returns-clause-made
returns-clause-made c =
    on_ok_weaker c.push_segments.result (λ e. e ∙ ap (with_more c.args.b.now) c.in_ok-segments.ensures) c.push_segments.ensures
