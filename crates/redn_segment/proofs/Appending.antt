-- A template appends what it should, wherever it does so.
use Rattle.std.proofs.Common.{◌≡◌, ℕ, ◌+◌, true, List, ◌++◌, length, map, sym, ap, ◌∙◌, subst}
use Rattle.std.specs.List.{list_all}
use Rattle.redn_segment.specs.declared.types.SlotRef.{SlotRef}
use Rattle.redn_segment.specs.declared.types.Draft.{Draft}
use Rattle.redn_segment.specs.Building.{Building, drafts_of}
use Rattle.redn_segment.specs.Plain.{Bytes, View}
use Rattle.redn_segment.specs.Drafts.{slot_from}
use Rattle.redn_segment.specs.Effects.{Effect, Does, first_slot}
use Rattle.redn_segment.specs.Footprints.{segments_apart}
use Rattle.redn_segment.specs.Parts.{WritesWithin, IsTame}
use Rattle.redn_segment.specs.Templates.{Appends, is_filled, one_event}
use Rattle.redn_segment.specs.Renaming.{pulled_view, renamed, pulled, moved, IsSame}
use Rattle.redn_segment.proofs.Moving.{own, does_moved, in_place, slot_ref}
use Rattle.redn_segment.proofs.ApartMoved.{segments_moved}
use Rattle.redn_segment.proofs.Telling.{tells, tell_opcodes}
use Rattle.redn_segment.proofs.TellingMoved.{told_moved}
use Rattle.redn_segment.proofs.Within.{stays, within_by, stays_moved}

-- a template is made of its slots; its effect may name the slot behind its last one
pub record IsTemplate (template : (ℕ → SlotRef) → List (List Draft)) (effect : (ℕ → SlotRef) → View → Bytes → Effect) (segments drafts more : ℕ) : Type 0 where
  pub segments_are : (slot : ℕ → SlotRef) → length (template slot) ≡ segments
  pub drafts_are : (slot : ℕ → SlotRef) → length (drafts_of (template slot)) ≡ drafts
  pub filled : (slot : ℕ → SlotRef) → is_filled more (template slot) ≡ true
  pub one_event : (slot : ℕ → SlotRef) → list_all one_event (template slot) ≡ true
  pub apart : segments_apart (own 0) (template own) ≡ true
  pub stays : list_all (stays (own 0) (drafts + more)) (drafts_of (template own)) ≡ true
  pub renames : (ring first : ℕ) → map (renamed (moved ring first)) (drafts_of (template own)) ≡ drafts_of (template (λ (k : ℕ). moved ring first (own k)))
  pub renames_segments : (ring first : ℕ) → map (map (renamed (moved ring first))) (template own) ≡ template (λ (k : ℕ). moved ring first (own k))
  pub same : (ring first : ℕ) (chain : View) (s : Bytes) → IsSame (moved ring first) s (effect own (pulled_view (moved ring first) chain) (pulled (moved ring first) s)) (effect (λ (k : ℕ). moved ring first (own k)) chain s)
  pub tame : (ring first : ℕ) → IsTame (slot_ref ring first) (drafts + more) (effect (slot_from ring first))
  pub does : Does (own 0) (drafts_of (template own)) (effect own)
  pub opcodes : tells (own 0) (template own) ≡ true

module _ (template : (ℕ → SlotRef) → List (List Draft)) (effect : (ℕ → SlotRef) → View → Bytes → Effect) (segments drafts more : ℕ) (is : IsTemplate template effect segments drafts more) where
  -- its segments lie apart wherever a ring has grown to
  pub stands_apart : (b : Building) → segments_apart (first_slot b) (template (slot_from b.ring (length (drafts_of b.segments)))) ≡ true
  stands_apart b =
      let ring : ℕ = b.ring in
      let first : ℕ = length (drafts_of b.segments) in
      let moved_apart : segments_apart (moved ring first (own 0)) (template (λ (k : ℕ). moved ring first (own k))) ≡ true = ap (segments_apart (moved ring first (own 0))) (sym (is.renames_segments ring first)) ∙ (segments_moved ring first (template own) (own 0) ∙ is.apart) in
      in_place ring first (λ (q : SlotRef) (slot : ℕ → SlotRef). segments_apart q (template slot) ≡ true) moved_apart

  pub appends : (old new : Building) → new ≡ record old { segments = old.segments ++ template (slot_from old.ring (length (drafts_of old.segments))) } → Appends old new segments drafts more (effect (slot_from old.ring (length (drafts_of old.segments))))
  appends old new e =
      let ring : ℕ = old.ring in
      let first : ℕ = length (drafts_of old.segments) in
      let added : List (List Draft) = template (slot_from ring first) in
      let long : length (drafts_of added) ≡ drafts = is.drafts_are (slot_from ring first) in
      let moved_stays : list_all (stays (moved ring first (own 0)) (drafts + more)) (drafts_of (template (λ (k : ℕ). moved ring first (own k)))) ≡ true = ap (list_all (stays (moved ring first (own 0)) (drafts + more))) (sym (is.renames ring first)) ∙ (stays_moved ring first (drafts + more) (drafts_of (template own)) ∙ is.stays) in
      record {
        added = added;
        appended = e;
        segments_are = is.segments_are (slot_from ring first);
        drafts_are = long;
        filled = is.filled (slot_from ring first);
        one_event = is.one_event (slot_from ring first);
        apart = stands_apart old;
        part = record {
          does = does_moved ring first (λ (slot : ℕ → SlotRef). drafts_of (template slot)) effect (is.renames ring first) (is.same ring first) is.does;
          within = subst (λ (n : ℕ). WritesWithin (first_slot old) (n + more) (drafts_of added)) (sym long) (in_place ring first (λ (q : SlotRef) (slot : ℕ → SlotRef). WritesWithin q (drafts + more) (drafts_of (template slot))) (within_by (moved ring first (own 0)) (drafts + more) (drafts_of (template (λ (k : ℕ). moved ring first (own k)))) moved_stays));
          tame = subst (λ (n : ℕ). IsTame (first_slot old) (n + more) (effect (slot_from ring first))) (sym long) (is.tame ring first);
        };
        opcodes = told_moved ring first template (is.renames ring first) (is.renames_segments ring first) (tell_opcodes (own 0) (template own) is.opcodes);
      }
