-- Opcodes suit drafts, by a test of the drafts.
use Rattle.std.proofs.Common.{◌≡◌, ◌⊎◌, inl, inr, ℕ, ◌+◌, ◌≤◌, Bool, true, false, not, cond, ◌&&◌, ◌||◌, ◌==◌, List, [], ◌∷◌, length, map, refl, sym, ap, ◌∙◌, subst, arith}
use Rattle.std.specs.Prelude.{nat_le}
use Rattle.std.specs.List.{list_all, count_by}
use Rattle.std.proofs.lemmas.List.Sums.{sum_by-cons}
use Rattle.std.proofs.lemmas.List.{length-map}
use Rattle.std.proofs.lemmas.Bool.{false≢true, and_parts, or_cases, leb-true, false_from_ne_true}
use Rattle.redn_words.specs.declared.types.Need.{Need}
use Rattle.redn_words.specs.declared.types.Need.TheVariants.{Any}
use Rattle.redn_words.specs.declared.types.Opcode.{Opcode}
use Rattle.redn_words.specs.declared.types.Opcode.TheVariants.{Noop, Read, Send}
use Rattle.redn_words.specs.Landings.{local_need, remote_need}
use Rattle.redn_segment.specs.declared.types.SlotRef.{SlotRef}
use Rattle.redn_segment.specs.declared.types.Site.{Site}
use Rattle.redn_segment.specs.declared.types.Site.TheVariants as site
use Rattle.redn_segment.specs.declared.types.Space.{Space}
use Rattle.redn_segment.specs.declared.types.Space.TheVariants as space
use Rattle.redn_segment.specs.declared.types.Draft.{Draft}
use Rattle.redn_segment.specs.Sites.{space_of, start_of, kind_of, same_space, next_slot}
use Rattle.redn_segment.specs.Plain.{Bytes, View, local_space, remote_space}
use Rattle.redn_segment.specs.Building.{Building, drafts_of}
use Rattle.redn_segment.specs.Drafts.{slot_from}
use Rattle.redn_segment.specs.Effects.{Effect, first_slot, is_own}
use Rattle.redn_segment.specs.Opcodes.{word_opcode, is_swap, turns, IsMade, MayHave}
use Rattle.redn_segment.specs.Templates.{is_variable, is_shown, may_show_by, may_show}
use Rattle.redn_segment.specs.Rights.{allows, has_remote, is_descriptor, Suits, AllSuit, Rights}
use Rattle.redn_segment.specs.Renaming.{renamed_site, renamed, moved}
use Rattle.redn_segment.proofs.Kept.{not_true}
use Rattle.redn_segment.proofs.SameSpace.{same_space_is}
use Rattle.redn_segment.proofs.Renamed.{space_renamed, start_renamed}
use Rattle.redn_segment.proofs.Moved.{same_renamed}
use Rattle.redn_segment.proofs.Moving.{own, keeps, next, own_moved, in_place}
use Rattle.redn_segment.proofs.ApartMoved.{all_moved}
use Rattle.redn_segment.proofs.TellingMoved.{turns_moved}
use Rattle.redn_segment.proofs.Telling.{is_noop, noop_is}
use Rattle.redn_segment.proofs.Growing.{with_more}
use Rattle.redn_segment.proofs.Appending.{IsTemplate}
use Rattle.redn_segment.proofs.SlotBytes.{same_self as same_itself}

abbrev is_any : Need → Bool
is_any Any = true
is_any _ = false

any_is : (n : Need) → is_any n ≡ true → n ≡ Any
any_is Any h = refl
any_is _ h = absurd (false≢true h)

-- what is tested of a draft and an opcode that its slot may have
module _ (written : List ℕ) (d : Draft) where
  abbrev pub granted : Opcode → Bool
  granted op =
      allows written (kind_of (local_space d)) (local_need op) && ((not (has_remote op) || (allows written (kind_of (remote_space d)) (remote_need op) && not (is_descriptor (remote_space d)))) && (not (is_descriptor (local_space d)) || is_any (local_need op)))

  abbrev pub turned_well : Opcode → Bool
  turned_well op = granted op && ((may_show d || not (may_show_by d op)) && (is_noop d.op && nat_le 8 d.length))

  abbrev pub slot_suits : List Draft → SlotRef → Bool
  slot_suits all q = granted d.op && list_all (λ (e : Draft). not (turns q e) || turned_well (word_opcode e.second)) all

abbrev pub all_suit : List ℕ → List Draft → SlotRef → List Draft → Bool
all_suit written all at [] = true
all_suit written all at (d ∷ ds) = slot_suits written d all at && all_suit written all (next_slot at) ds

abbrev pub may_turn : Draft → Bool
may_turn e = is_swap e.op && (start_of e.remote + e.remote_byte == 0)

-- two drafts can turn one slot
abbrev pub both_turn : Draft → Draft → Bool
both_turn e f = may_turn e && (may_turn f && same_space (remote_space e) (remote_space f))

abbrev pub turned_once : List Draft → Bool
turned_once [] = true
turned_once (e ∷ es) = list_all (λ (f : Draft). not (both_turn e f)) es && turned_once es

abbrev pub slot_within : SlotRef → ℕ → Space → Bool
slot_within at n (space.Slot q) = is_own at n (space.Slot q)
slot_within at n _ = true

abbrev pub turns_within : SlotRef → ℕ → Draft → Bool
turns_within at n e = not (may_turn e) || slot_within at n (remote_space e)

-- all that is tested of drafts
abbrev pub suiting : List ℕ → SlotRef → List Draft → Bool
suiting written at ds = all_suit written ds at ds && (turned_once ds && list_all (turns_within at (length ds)) ds)

module _ (written : List ℕ) (d : Draft) where
  suits_by : (op : Opcode) → granted written d op ≡ true → (may_show d ≡ false → may_show_by d op ≡ false) → (op ≡ d.op) ⊎ ((d.op ≡ Noop) × (8 ≤ d.length)) → Suits written d op
  suits_by op h silent follows =
      let a = and_parts (allows written (kind_of (local_space d)) (local_need op)) _ h in
      let b = and_parts (not (has_remote op) || (allows written (kind_of (remote_space d)) (remote_need op) && not (is_descriptor (remote_space d)))) (not (is_descriptor (local_space d)) || is_any (local_need op)) a.1 in
      let sides : has_remote op ≡ true → (allows written (kind_of (remote_space d)) (remote_need op) && not (is_descriptor (remote_space d))) ≡ true = λ two. elim (or_cases (not (has_remote op)) _ b.0) [ inl none ↦ absurd (false≢true (sym (not_true (has_remote op) none) ∙ two)) | inr both ↦ both ] in
      record {
        local = a.0;
        remote = λ two. (and_parts (allows written (kind_of (remote_space d)) (remote_need op)) _ (sides two)).0;
        local_descriptor = λ is. elim (or_cases (not (is_descriptor (local_space d))) (is_any (local_need op)) b.1) [ inl none ↦ absurd (false≢true (sym (not_true (is_descriptor (local_space d)) none) ∙ is)) | inr any ↦ any_is (local_need op) any ];
        remote_descriptor = λ two. not_true (is_descriptor (remote_space d)) (and_parts (allows written (kind_of (remote_space d)) (remote_need op)) _ (sides two)).1;
        silent = silent;
        follows = follows;
      }

  turned_suits : (op : Opcode) → turned_well written d op ≡ true → Suits written d op
  turned_suits op h =
      let a = and_parts (granted written d op) _ h in
      let b = and_parts (may_show d || not (may_show_by d op)) _ a.1 in
      let c = and_parts (is_noop d.op) (nat_le 8 d.length) b.1 in
      suits_by op a.0 (λ quiet. elim (or_cases (may_show d) (not (may_show_by d op)) b.0) [ inl shows ↦ absurd (false≢true (sym quiet ∙ shows)) | inr none ↦ not_true (may_show_by d op) none ]) (inr (noop_is d.op c.0, leb-true 8 d.length c.1))

  made_suits : (es : List Draft) (q : SlotRef) (op : Opcode) → list_all (λ (e : Draft). not (turns q e) || turned_well written d (word_opcode e.second)) es ≡ true → IsMade es q op → Suits written d op
  made_suits [] q op h m = absurd m
  made_suits (e ∷ es) q op h (inl m) =
      let parts = and_parts (not (turns q e) || turned_well written d (word_opcode e.second)) _ h in
      elim (or_cases (not (turns q e)) (turned_well written d (word_opcode e.second)) parts.0) [
        | inl none ↦ absurd (false≢true (sym (not_true (turns q e) none) ∙ m.0))
        | inr well ↦ subst (Suits written d) (sym m.1) (turned_suits (word_opcode e.second) well)
      ]
  made_suits (e ∷ es) q op h (inr m) =
      let parts = and_parts (not (turns q e) || turned_well written d (word_opcode e.second)) _ h in
      made_suits es q op parts.1 m

  slot_has : (all : List Draft) (q : SlotRef) → slot_suits written d all q ≡ true → (op : Opcode) → MayHave all q d op → Suits written d op
  slot_has all q h op (inl m) =
      let parts = and_parts (granted written d d.op) _ h in
      subst (Suits written d) (sym m) (suits_by d.op parts.0 (λ quiet. quiet) (inl refl))
  slot_has all q h op (inr m) =
      let parts = and_parts (granted written d d.op) _ h in
      made_suits all q op parts.1 m

suit_from : (written : List ℕ) (all : List Draft) (at : SlotRef) (ds : List Draft) → all_suit written all at ds ≡ true → AllSuit written all at ds
suit_from written all at [] h = tt
suit_from written all at (d ∷ ds) h =
    let parts = and_parts (slot_suits written d all at) _ h in
    (slot_has written d all at parts.0, suit_from written all (next_slot at) ds parts.1)

-- how many drafts turn a slot
turns_parts : (q : SlotRef) (e : Draft) → turns q e ≡ true → (may_turn e ≡ true) × (remote_space e ≡ space.Slot q)
turns_parts q e h =
    let a = and_parts (is_swap e.op) _ h in
    let b = and_parts (same_space (remote_space e) (space.Slot q)) (start_of e.remote + e.remote_byte == 0) a.1 in
    let swap = a.0 in
    let start = b.1 in
    (rw (swap, start) refl, same_space_is (remote_space e) (space.Slot q) b.0)

abbrev pub one_if : Bool → ℕ
one_if b = cond b 1 0

-- none of those that pass a test turns the slot
count_none : (q : SlotRef) (test : Draft → Bool) → ((e : Draft) → test e ≡ true → turns q e ≡ false) → (es : List Draft) → list_all test es ≡ true → count_by (turns q) es ≡ 0
count_none q test none [] h = refl
count_none q test none (e ∷ es) h =
    let parts = and_parts (test e) (list_all test es) h in
    let here = none e parts.0 in
    let rest = count_none q test none es parts.1 in
    sum_by-cons (λ (f : Draft). one_if (turns q f)) e es ∙ rw (here, rest) refl

no_other : (q : SlotRef) (e : Draft) → turns q e ≡ true → (f : Draft) → not (both_turn e f) ≡ true → turns q f ≡ false
no_other q e t f h =
    false_from_ne_true (turns q f) (λ u.
    let a = turns_parts q e t in
    let b = turns_parts q f u in
    let one = a.0 in
    let other = b.0 in
    let same : same_space (remote_space e) (remote_space f) ≡ true = (λ i. same_space (a.1 i) (b.1 i)) ∙ same_itself q in
    let both : both_turn e f ≡ true = rw (one, other, same) refl in
    false≢true (sym (not_true (both_turn e f) h) ∙ both))

count_once : (q : SlotRef) (es : List Draft) → turned_once es ≡ true → count_by (turns q) es ≤ 1
count_once q [] h = omega arith
count_once q (e ∷ es) h =
    let parts = and_parts (list_all (λ (f : Draft). not (both_turn e f)) es) (turned_once es) h in
    elim (turns q e) as (λ b. turns q e ≡ b → count_by (turns q) (e ∷ es) ≤ 1) [
      | true ↦ λ t.
          let none : count_by (turns q) es ≡ 0 = count_none q (λ (f : Draft). not (both_turn e f)) (no_other q e t) es parts.0 in
          let one : one_if (turns q e) ≡ 1 = rw t refl in
          omega (arith, sum_by-cons (λ (f : Draft). one_if (turns q f)) e es, none, one)
      | false ↦ λ t.
          let rest : count_by (turns q) es ≤ 1 = count_once q es parts.1 in
          let nothing : one_if (turns q e) ≡ 0 = rw t refl in
          omega (arith, sum_by-cons (λ (f : Draft). one_if (turns q f)) e es, rest, nothing)
    ] refl

not_within : (at : SlotRef) (n : ℕ) (q : SlotRef) → is_own at n (space.Slot q) ≡ false → (e : Draft) → turns_within at n e ≡ true → turns q e ≡ false
not_within at n q other e h =
    false_from_ne_true (turns q e) (λ t.
    let parts = turns_parts q e t in
    elim (or_cases (not (may_turn e)) (slot_within at n (remote_space e)) h) [
      | inl none ↦ false≢true (sym (not_true (may_turn e) none) ∙ parts.0)
      | inr its ↦ false≢true (sym other ∙ (ap (slot_within at n) (sym parts.1) ∙ its))
    ])

pub rights_by : (old new : Building) (written : List ℕ) (added : List (List Draft)) → new ≡ with_more old added → suiting written (first_slot old) (drafts_of added) ≡ true → Rights old new written
rights_by old new written added e h =
    let ds : List Draft = drafts_of added in
    let at : SlotRef = first_slot old in
    let a = and_parts (all_suit written ds at ds) _ h in
    let b = and_parts (turned_once ds) (list_all (turns_within at (length ds)) ds) a.1 in
    record {
      added = added;
      appended = e;
      suit = suit_from written ds at ds a.0;
      once = λ q. count_once q ds b.0;
      within = λ q other. count_none q (turns_within at (length ds)) (not_within at (length ds) q other) ds b.1;
    }

-- the tests go the same from any slot on
module _ (ring first : ℕ) where
  abbrev at : SlotRef → SlotRef
  at = moved ring first

  kind_moved : (x : Site) → kind_of (space_of (renamed_site at x)) ≡ kind_of (space_of x)
  kind_moved (site.Field x) = refl
  kind_moved _ = refl

  descriptor_moved : (x : Site) → is_descriptor (space_of (renamed_site at x)) ≡ is_descriptor (space_of x)
  descriptor_moved (site.Field x) = refl
  descriptor_moved _ = refl

  variable_moved : (x : Site) → is_variable (renamed_site at x) ≡ is_variable x
  variable_moved (site.Field x) = refl
  variable_moved _ = refl

  shown_moved : (x : Site) → is_shown (renamed_site at x) ≡ is_shown x
  shown_moved (site.Field x) = refl
  shown_moved (site.Table t o) = refl
  shown_moved (site.Cell c) = refl
  shown_moved _ = refl

  shows_moved : (d : Draft) (op : Opcode) → may_show_by (renamed at d) op ≡ may_show_by d op
  shows_moved d Send = refl
  shows_moved d Read = λ i. shown_moved d.remote i || variable_moved d.local i
  shows_moved d _ = shown_moved d.remote

  granted_moved : (written : List ℕ) (d : Draft) (op : Opcode) → granted written (renamed at d) op ≡ granted written d op
  granted_moved written d op =
      λ i. allows written (kind_moved d.local i) (local_need op) && ((not (has_remote op) || (allows written (kind_moved d.remote i) (remote_need op) && not (descriptor_moved d.remote i))) && (not (descriptor_moved d.local i) || is_any (local_need op)))

  well_moved : (written : List ℕ) (d : Draft) (op : Opcode) → turned_well written (renamed at d) op ≡ turned_well written d op
  well_moved written d op =
      λ i. granted_moved written d op i && ((shows_moved d d.op i || not (shows_moved d op i)) && (is_noop d.op && nat_le 8 d.length))

  slot_moved : (written : List ℕ) (d : Draft) (all : List Draft) (q : SlotRef) → slot_suits written (renamed at d) (map (renamed at) all) (at q) ≡ slot_suits written d all q
  slot_moved written d all q =
      λ i. granted_moved written d d.op i && all_moved ring first (λ (e : Draft). not (turns (at q) e) || turned_well written (renamed at d) (word_opcode e.second)) (λ (e : Draft). not (turns q e) || turned_well written d (word_opcode e.second)) all (λ e j. not (turns_moved ring first q e j) || well_moved written d (word_opcode e.second) j) i

  suit_moved : (written : List ℕ) (all : List Draft) (q : SlotRef) (ds : List Draft) → all_suit written (map (renamed at) all) (at q) (map (renamed at) ds) ≡ all_suit written all q ds
  suit_moved written all q [] = refl
  suit_moved written all q (d ∷ ds) =
      ap (λ (r : SlotRef). slot_suits written (renamed at d) (map (renamed at) all) (at q) && all_suit written (map (renamed at) all) r (map (renamed at) ds)) (sym (next ring first q)) ∙ (λ i. slot_moved written d all q i && suit_moved written all (next_slot q) ds i)

  both_moved : (e f : Draft) → both_turn (renamed at e) (renamed at f) ≡ both_turn e f
  both_moved e f =
      let same : same_space (remote_space (renamed at e)) (remote_space (renamed at f)) ≡ same_space (remote_space e) (remote_space f) = (λ i. same_space (space_renamed at e.remote i) (space_renamed at f.remote i)) ∙ same_renamed at (keeps ring first) (remote_space e) (remote_space f) in
      λ i. (is_swap e.op && (start_renamed at e.remote i + e.remote_byte == 0)) && ((is_swap f.op && (start_renamed at f.remote i + f.remote_byte == 0)) && same i)

  once_moved : (ds : List Draft) → turned_once (map (renamed at) ds) ≡ turned_once ds
  once_moved [] = refl
  once_moved (e ∷ es) =
      λ i. all_moved ring first (λ (f : Draft). not (both_turn (renamed at e) f)) (λ (f : Draft). not (both_turn e f)) es (λ f j. not (both_moved e f j)) i && once_moved es i

  space_within : (n : ℕ) (x : Site) → slot_within (at (own 0)) n (space_of (renamed_site at x)) ≡ slot_within (own 0) n (space_of x)
  space_within n (site.Field x) = own_moved ring first n x.slot
  space_within n _ = refl

  within_moved : (n : ℕ) (e : Draft) → turns_within (at (own 0)) n (renamed at e) ≡ turns_within (own 0) n e
  within_moved n e =
      λ i. not (is_swap e.op && (start_renamed at e.remote i + e.remote_byte == 0)) || space_within n e.remote i

  suiting_moved : (written : List ℕ) (ds : List Draft) → suiting written (at (own 0)) (map (renamed at) ds) ≡ suiting written (own 0) ds
  suiting_moved written ds =
      ap (λ (n : ℕ). all_suit written (map (renamed at) ds) (at (own 0)) (map (renamed at) ds) && (turned_once (map (renamed at) ds) && list_all (turns_within (at (own 0)) n) (map (renamed at) ds))) (length-map ds (renamed at)) ∙ (λ i. suit_moved written ds (own 0) ds i && (once_moved ds i && all_moved ring first (turns_within (at (own 0)) (length ds)) (turns_within (own 0) (length ds)) ds (within_moved (length ds)) i))

-- what a template asks, wherever it stands
pub template_rights : (template : (ℕ → SlotRef) → List (List Draft)) (effect : (ℕ → SlotRef) → View → Bytes → Effect) (segments drafts more : ℕ) → IsTemplate template effect segments drafts more → (written : List ℕ) → suiting written (own 0) (drafts_of (template own)) ≡ true → (old new : Building) → new ≡ with_more old (template (slot_from old.ring (length (drafts_of old.segments)))) → Rights old new written
template_rights template effect segments drafts more is written test old new e =
    let ring : ℕ = old.ring in
    let first : ℕ = length (drafts_of old.segments) in
    let there : suiting written (moved ring first (own 0)) (drafts_of (template (λ (k : ℕ). moved ring first (own k)))) ≡ true = ap (suiting written (moved ring first (own 0))) (sym (is.renames ring first)) ∙ (suiting_moved ring first written (drafts_of (template own)) ∙ test) in
    rights_by old new written (template (slot_from ring first)) e (in_place ring first (λ (q : SlotRef) (slot : ℕ → SlotRef). suiting written q (drafts_of (template slot)) ≡ true) there)
