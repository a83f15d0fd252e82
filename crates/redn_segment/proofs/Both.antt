-- What two templates append, one after the other.
use Rattle.std.proofs.Common.{◌≡◌, inl, inr, ℕ, zero, suc, ◌+◌, true, List, [], ◌∷◌, ◌++◌, length, Bool, refl, sym, ap, ◌∙◌, subst, append_assoc, length-append}
use Rattle.std.specs.List.{list_all}
use Rattle.std.proofs.lemmas.Bool.{and_parts, and_from}
use Rattle.redn_segment.specs.declared.types.SlotRef.{SlotRef}
use Rattle.redn_segment.specs.declared.types.Draft.{Draft}
use Rattle.redn_segment.specs.Building.{Building, drafts_of}
use Rattle.redn_words.specs.declared.types.Obs.{Obs}
use Rattle.redn_words.specs.declared.types.Opcode.{Opcode}
use Rattle.redn_segment.specs.declared.types.Space.TheVariants as space
use Rattle.redn_segment.specs.Sites.{next_slot}
use Rattle.redn_segment.specs.Plain.{Bytes, View, Put, placed, Outcome, Went, after, follow, opcode_in, runs}
use Rattle.redn_segment.specs.Primed.{Primed}
use Rattle.redn_segment.specs.Opcodes.{IsMade, MayHave, SegmentMayHave, HaveOpcodes, TellOpcodes}
use Rattle.redn_segment.specs.Effects.{Effect, first_slot, slot_behind}
use Rattle.redn_segment.specs.Footprints.{segments_apart}
use Rattle.redn_segment.specs.Parts.{IsPart, in_turn}
use Rattle.redn_segment.specs.Templates.{Appends, is_some, all_filled, is_filled, one_event}
use Rattle.redn_segment.specs.Laws.{TemplatesInTurn}
use Rattle.redn_segment.proofs.Growing.{behind_twice, with_more, first_behind, apart_append, length-drafts, drafts_append}
use Rattle.redn_segment.proofs.Composing.{parts_in_turn, primed_first, second_begins, behind_none, placed_append, runs_append}

pub all_append : {X : Type 0} (test : X → Bool) (xs ys : List X) → list_all test xs ≡ true → list_all test ys ≡ true → list_all test (xs ++ ys) ≡ true
all_append test [] ys h k = k
all_append test (x ∷ xs) ys h k = let parts = and_parts (test x) (list_all test xs) h in and_from (test x) _ parts.0 (all_append test xs ys parts.1 k)

filled_more : (x : List Draft) (rest : List (List Draft)) → is_some x ≡ true → all_filled rest ≡ true → all_filled (x ∷ rest) ≡ true
filled_more x [] h k = refl
filled_more x (y ∷ rest) h k = and_from (is_some x) _ h k

filled_append : (more : ℕ) (xs ys : List (List Draft)) → list_all is_some xs ≡ true → is_filled more ys ≡ true → is_filled more (xs ++ ys) ≡ true
filled_append zero xs ys h k = all_append is_some xs ys h k
filled_append (suc more) [] ys h k = k
filled_append (suc more) (x ∷ xs) ys h k = let parts = and_parts (is_some x) (list_all is_some xs) h in filled_more x (xs ++ ys) parts.0 (filled_append (suc more) xs ys parts.1 k)

-- more drafts may make no less
made_front : (es fs : List Draft) (q : SlotRef) (op : Opcode) → IsMade es q op → IsMade (es ++ fs) q op
made_front [] fs q op m = absurd m
made_front (e ∷ es) fs q op (inl m) = inl m
made_front (e ∷ es) fs q op (inr m) = inr (made_front es fs q op m)

made_behind : (es fs : List Draft) (q : SlotRef) (op : Opcode) → IsMade fs q op → IsMade (es ++ fs) q op
made_behind [] fs q op m = m
made_behind (e ∷ es) fs q op m = inr (made_behind es fs q op m)

abbrev Wider : List Draft → List Draft → Type 0
Wider all more = (q : SlotRef) (op : Opcode) → IsMade all q op → IsMade more q op

may_wider : (all more : List Draft) → Wider all more → (q : SlotRef) (d : Draft) (op : Opcode) → MayHave all q d op → MayHave more q d op
may_wider all more w q d op (inl m) = inl m
may_wider all more w q d op (inr m) = inr (w q op m)

segment_wider : (all more : List Draft) → Wider all more → (ds : List Draft) (at : SlotRef) (s : Bytes) → SegmentMayHave all at ds s → SegmentMayHave more at ds s
segment_wider all more w [] at s h = tt
segment_wider all more w (d ∷ ds) at s h = (may_wider all more w at d (opcode_in (s (space.Slot at))) h.0, segment_wider all more w ds (next_slot at) s h.1)

have_wider : (all more : List Draft) → Wider all more → (chain : View) (segments : List (List Draft)) (at : SlotRef) (s : Bytes) → HaveOpcodes all chain at segments s → HaveOpcodes more chain at segments s
have_wider all more w chain [] at s h = tt
have_wider all more w chain (ds ∷ rest) at s h = (segment_wider all more w ds at s h.0, λ us shown goes. have_wider all more w chain rest (slot_behind at (length ds)) (placed s us) (h.1 us shown goes))

-- segments, and those behind them once they have gone through
have_append : (all : List Draft) (chain : View) (xs ys : List (List Draft)) (at : SlotRef) (s : Bytes) → HaveOpcodes all chain at xs s → ((us : List Put) (shown : List Obs) → runs chain at (drafts_of xs) s ≡ Went us shown → HaveOpcodes all chain (slot_behind at (length (drafts_of xs))) ys (placed s us)) → HaveOpcodes all chain at (xs ++ ys) s
have_append all chain [] ys at s h then_ys = subst (λ (q : SlotRef). HaveOpcodes all chain q ys s) (behind_none at) (then_ys [] [] refl)
have_append all chain (ds ∷ xs) ys at s h then_ys = (
  h.0,
  λ us shown goes.
      have_append all chain xs ys (slot_behind at (length ds)) (placed s us) (h.1 us shown goes) (λ vs more went.
      let whole : runs chain at (ds ++ drafts_of xs) s ≡ Went (us ++ vs) (shown ++ more) = runs_append chain (drafts_of xs) ds at s ∙ (ap (λ (o : Outcome). follow o (λ (ws : List Put). runs chain (slot_behind at (length ds)) (drafts_of xs) (placed s ws))) goes ∙ ap (after us shown) went) in
      let place : slot_behind at (length (ds ++ drafts_of xs)) ≡ slot_behind (slot_behind at (length ds)) (length (drafts_of xs)) = ap (slot_behind at) (length-append ds (drafts_of xs)) ∙ sym (behind_twice at (length ds) (length (drafts_of xs))) in
      subst (λ (q : SlotRef). HaveOpcodes all chain q ys (placed (placed s us) vs)) place (subst (λ (t : Bytes). HaveOpcodes all chain (slot_behind at (length (ds ++ drafts_of xs))) ys t) (placed_append us vs s) (then_ys (us ++ vs) (shown ++ more) whole))),
)

module _ (a b c : Building) (segments others drafts more_drafts more : ℕ) (first second : View → Bytes → Effect) (x : Appends a b segments drafts 0 first) (y : Appends b c others more_drafts more second) where
  abbrev added : List (List Draft)
  added = x.added ++ y.added

  grows_by_both : c ≡ with_more a added
  grows_by_both =
      y.appended ∙ (ap (λ (d : Building). with_more d y.added) x.appended ∙ ap (λ (l : List (List Draft)). let e : Building = record a { segments = l } in e) (append_assoc a.segments x.added y.added))

  second_from : first_slot b ≡ slot_behind (first_slot a) (length (drafts_of x.added))
  second_from = ap first_slot x.appended ∙ first_behind a x.added

  both_are_a_part : IsPart (first_slot a) (drafts_of added) more (in_turn first second)
  both_are_a_part =
      subst (λ (l : List Draft). IsPart (first_slot a) l more (in_turn first second)) (sym (drafts_append x.added y.added)) (parts_in_turn (first_slot a) (drafts_of x.added) (drafts_of y.added) more first second x.part (subst (λ (q : SlotRef). IsPart q (drafts_of y.added) more second) second_from y.part))

  tell_both : TellOpcodes (first_slot a) added
  tell_both chain bytes s whole room primed =
      let at : SlotRef = first_slot a in
      let ds : List Draft = drafts_of x.added in
      let es : List Draft = drafts_of y.added in
      let all : List Draft = drafts_of added in
      let both : all ≡ ds ++ es = drafts_append x.added y.added in
      let second_part : IsPart (slot_behind at (length ds)) es more second = subst (λ (q : SlotRef). IsPart q es more second) second_from y.part in
      let second_told : TellOpcodes (slot_behind at (length ds)) y.added = subst (λ (q : SlotRef). TellOpcodes q y.added) second_from y.opcodes in
      let primed_both : Primed (ds ++ es) at (ds ++ es) s = subst (λ (l : List Draft). Primed l at l s) both primed in
      let front : HaveOpcodes ds chain at x.added s = x.opcodes chain bytes s whole room (primed_first at ds es more first second x.part second_part s primed_both) in
      let wide_front : HaveOpcodes (ds ++ es) chain at x.added s = have_wider ds (ds ++ es) (λ q op m. made_front ds es q op m) chain x.added at s front in
      let behind : (us : List Put) (shown : List Obs) → runs chain at ds s ≡ Went us shown → HaveOpcodes (ds ++ es) chain (slot_behind at (length ds)) y.added (placed s us) = λ us shown goes.
      let begins = second_begins at ds es more first second x.part second_part chain bytes s whole room primed_both us shown goes in
      have_wider es (ds ++ es) (λ q op m. made_behind ds es q op m) chain y.added (slot_behind at (length ds)) (placed s us) (second_told chain bytes (placed s us) begins.0 begins.1 begins.2) in
      subst (λ (l : List Draft). HaveOpcodes l chain at added s) (sym both) (have_append (ds ++ es) chain x.added y.added at s wide_front behind)

  append_both : Appends a c (segments + others) (drafts + more_drafts) more (in_turn first second)
  append_both =
      record {
        added = added;
        appended = grows_by_both;
        segments_are = length-append x.added y.added ∙ (λ i. x.segments_are i + y.segments_are i);
        drafts_are = length-drafts x.added y.added ∙ (λ i. x.drafts_are i + y.drafts_are i);
        filled = filled_append more x.added y.added x.filled y.filled;
        one_event = all_append one_event x.added y.added x.one_event y.one_event;
        apart = apart_append (first_slot a) x.added y.added ∙ and_from (segments_apart (first_slot a) x.added) _ x.apart (ap (λ (q : SlotRef). segments_apart q y.added) (sym second_from) ∙ y.apart);
        part = both_are_a_part;
        opcodes = tell_both;
      }

pub appends_in_turn : TemplatesInTurn
appends_in_turn a b c segments others drafts more_drafts more first second x y = append_both a b c segments others drafts more_drafts more first second x y
