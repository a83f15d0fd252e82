use Rattle.std.proofs.Common.{ℕ, List, [], length, refl, ap, ◌∙◌, arith}
use Rattle.std.proofs.lemmas.Result.{on_ok_weaker}
use Rattle.redn_segment.specs.declared.types.SlotRef.{SlotRef}
use Rattle.redn_segment.specs.declared.types.Draft.{Draft}
use Rattle.redn_segment.specs.Building.{drafts_of}
use Rattle.redn_segment.specs.Drafts.{slot_from}
use Rattle.redn_segment.specs.Effects.{probes, first_slot}
use Rattle.redn_segment.specs.Footprints.{segments_apart}
use Rattle.redn_segment.proofs.Appending.{appends, stands_apart}
use Rattle.redn_segment.proofs.Suiting.{template_rights}
use Rattle.redn_segment.proofs.Growing.{with_more}
use Rattle.redn_cas.specs.Tests.{probe}
use Rattle.redn_cas.proofs.Probe.{probe_suits, probe_is}
use Rattle.redn_cas.proofs.tests_of.probe_template.Goals as goal

pub push_segments-requires : goal.push_segments-requires
push_segments-requires c =
    let a = c.args in
    record {
      few = omega (arith, ap (λ (l : List (List Draft)). length (drafts_of l)) c.in_ok-segments.ensures);
      apart = ap (segments_apart (first_slot a.b.now)) c.in_ok-segments.ensures ∙ stands_apart (λ (slot : ℕ → SlotRef). probe slot a.to a.table a.offset a.key a.hit a.miss) (λ (slot : ℕ → SlotRef). probes a.to a.table a.offset a.key a.hit a.miss (slot 6) (slot 13) (slot 15)) 6 15 1 (probe_is a.to c.requires.target a.table a.offset a.key a.hit a.miss) a.b.now;
    }

pub returns-clause-appended : goal.returns-clause-appended
returns-clause-appended c =
    let a = c.args in
    let append = appends (λ (slot : ℕ → SlotRef). probe slot a.to a.table a.offset a.key a.hit a.miss) (λ (slot : ℕ → SlotRef). probes a.to a.table a.offset a.key a.hit a.miss (slot 6) (slot 13) (slot 15)) 6 15 1 (probe_is a.to c.requires.target a.table a.offset a.key a.hit a.miss) a.b.now c.push_segments.new.self in
    on_ok_weaker c.push_segments.result (λ e. append (e ∙ ap (with_more a.b.now) c.in_ok-segments.ensures)) c.push_segments.ensures

pub returns-clause-cost : goal.returns-clause-cost
returns-clause-cost c =
    let a = c.args in
    let slot = slot_from a.b.now.ring (length (drafts_of a.b.now.segments)) in
    on_ok_weaker c.push_segments.result (λ e.
    record {
      added = probe slot a.to a.table a.offset a.key a.hit a.miss;
      appended = e ∙ ap (with_more a.b.now) c.in_ok-segments.ensures;
      slots_are = refl;
      actions_are = refl;
    }) c.push_segments.ensures

pub returns-clause-rights : goal.returns-clause-rights
returns-clause-rights c =
    let a = c.args in
    let rights = template_rights (λ (slot : ℕ → SlotRef). probe slot a.to a.table a.offset a.key a.hit a.miss) (λ (slot : ℕ → SlotRef). probes a.to a.table a.offset a.key a.hit a.miss (slot 6) (slot 13) (slot 15)) 6 15 1 (probe_is a.to c.requires.target a.table a.offset a.key a.hit a.miss) [] (probe_suits a.to c.requires.target a.table a.offset a.key a.hit a.miss) a.b.now c.push_segments.new.self in
    on_ok_weaker c.push_segments.result (λ e. rights (e ∙ ap (with_more a.b.now) c.in_ok-segments.ensures)) c.push_segments.ensures

pub returns-clause-made : goal.returns-clause-made
returns-clause-made c =
    on_ok_weaker c.push_segments.result (λ e. e ∙ ap (with_more c.args.b.now) c.in_ok-segments.ensures) c.push_segments.ensures
