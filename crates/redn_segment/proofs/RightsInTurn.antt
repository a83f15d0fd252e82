-- What two templates ask of regions, one after the other.
use Rattle.std.proofs.Common.{◌≡◌, ◌⊎◌, inl, inr, ℕ, ◌+◌, ◌≤◌, ◌<◌, Bool, true, false, ◌==◌, List, [], ◌∷◌, ◌++◌, length, refl, sym, ap, ◌∙◌, subst, arith, append_assoc, append-nil, length-append}
use Rattle.std.specs.List.{list_any, count_by}
use Rattle.std.proofs.lemmas.List.Sums.{sum_by-cons, sum_by-append}
use Rattle.std.proofs.lemmas.Bool.{false≢true, or_left, or_right, or_cases}
use Rattle.redn_words.specs.declared.types.Need.{Need}
use Rattle.redn_words.specs.declared.types.Need.TheVariants.{Any, LocalWrite, RemoteRead, RemoteWrite, Atomic}
use Rattle.redn_words.specs.declared.types.Kind.{Kind}
use Rattle.redn_words.specs.declared.types.Kind.TheVariants as kind
use Rattle.redn_words.specs.declared.types.Opcode.{Opcode}
use Rattle.redn_words.specs.Landings.{local_need, remote_need}
use Rattle.redn_segment.specs.declared.types.SlotRef.{SlotRef}
use Rattle.redn_segment.specs.declared.types.Space.TheVariants as space
use Rattle.redn_segment.specs.declared.types.Draft.{Draft}
use Rattle.redn_segment.specs.Sites.{kind_of, next_slot}
use Rattle.redn_segment.specs.Plain.{local_space, remote_space}
use Rattle.redn_segment.specs.Building.{Building, drafts_of}
use Rattle.redn_segment.specs.Effects.{first_slot, slot_behind, is_own}
use Rattle.redn_segment.specs.Opcodes.{turns, IsMade, MayHave}
use Rattle.redn_segment.specs.Rights.{allows, Suits, AllSuit, Rights}
use Rattle.redn_segment.specs.Laws.{RightsInTurn}
use Rattle.redn_segment.proofs.Growing.{with_more, first_behind, drafts_append}
use Rattle.redn_segment.proofs.Suiting.{one_if}
use Rattle.redn_segment.proofs.Composing.{Lies, lies_from, lies_to, not_owns, behind_none, behind_next}

-- more tables may be written
any_more : (test : ℕ → Bool) (before l behind : List ℕ) → list_any test l ≡ true → list_any test (before ++ (l ++ behind)) ≡ true
any_more test (x ∷ before) l behind h = or_right (test x) (list_any test (before ++ (l ++ behind))) (any_more test before l behind h)
any_more test [] [] behind h = absurd (false≢true h)
any_more test [] (x ∷ l) behind h =
    elim (or_cases (test x) (list_any test l) h) [ inl here ↦ or_left (test x) (list_any test (l ++ behind)) here | inr there ↦ or_right (test x) (list_any test (l ++ behind)) (any_more test [] l behind there) ]

allows_more : (before l behind : List ℕ) (k : Kind) (need : Need) → allows l k need ≡ true → allows (before ++ (l ++ behind)) k need ≡ true
allows_more before l behind k Any h = refl
allows_more before l behind k LocalWrite h = h
allows_more before l behind k RemoteRead h = h
allows_more before l behind k Atomic h = h
allows_more before l behind (kind.Table t) RemoteWrite h = any_more (λ (u : ℕ). u == t) before l behind h
allows_more before l behind kind.Vars RemoteWrite h = h
allows_more before l behind kind.Code RemoteWrite h = h
allows_more before l behind kind.Control RemoteWrite h = h
allows_more before l behind kind.Message RemoteWrite h = h

suits_more : (before l behind : List ℕ) (d : Draft) (op : Opcode) → Suits l d op → Suits (before ++ (l ++ behind)) d op
suits_more before l behind d op x =
    record {
      local = allows_more before l behind (kind_of (local_space d)) (local_need op) x.local;
      remote = λ two. allows_more before l behind (kind_of (remote_space d)) (remote_need op) (x.remote two);
      local_descriptor = x.local_descriptor;
      remote_descriptor = x.remote_descriptor;
      silent = x.silent;
      follows = x.follows;
    }

-- none turns the slot
made_none : (es : List Draft) (q : SlotRef) (op : Opcode) → count_by (turns q) es ≡ 0 → IsMade es q op → ⊥
made_none [] q op h m = m
made_none (e ∷ es) q op h (inl m) =
    let t = m.0 in
    let one : one_if (turns q e) ≡ 1 = rw t refl in
    omega (arith, sum_by-cons (λ (f : Draft). one_if (turns q f)) e es, one, h)
made_none (e ∷ es) q op h (inr m) =
    made_none es q op (let c = sum_by-cons (λ (f : Draft). one_if (turns q f)) e es in omega (arith, c, h)) m

made_of : (ds es : List Draft) (q : SlotRef) (op : Opcode) → IsMade (ds ++ es) q op → IsMade ds q op ⊎ IsMade es q op
made_of [] es q op m = inr m
made_of (d ∷ ds) es q op (inl m) = inl (inl m)
made_of (d ∷ ds) es q op (inr m) = elim (made_of ds es q op m) [ inl k ↦ inl (inr k) | inr k ↦ inr k ]

-- what a slot may have among more drafts of which none turns it
may_less : (all more : List Draft) (q : SlotRef) (d : Draft) (op : Opcode) → (IsMade more q op → IsMade all q op) → MayHave more q d op → MayHave all q d op
may_less all more q d op less (inl m) = inl m
may_less all more q d op less (inr m) = inr (less m)

suit_more : (before l behind : List ℕ) (all more : List Draft) (first : SlotRef) (n : ℕ) → ((q : SlotRef) (op : Opcode) → Lies first n q → IsMade more q op → IsMade all q op) → (ds : List Draft) (at : SlotRef) → at.ring ≡ first.ring → first.slot ≤ at.slot → at.slot + length ds ≤ first.slot + n → AllSuit l all at ds → AllSuit (before ++ (l ++ behind)) more at ds
suit_more before l behind all more first n less [] at ring low high x = tt
suit_more before l behind all more first n less (d ∷ ds) at ring low high x = (
  λ op may. suits_more before l behind d op (x.0 op (may_less all more at d op (less at op (ring, low, omega arith)) may)),
  suit_more before l behind all more first n less ds (next_slot at) ring (omega arith) (omega arith) x.1,
)

suit_append : (written : List ℕ) (all ds es : List Draft) (at : SlotRef) → AllSuit written all at ds → AllSuit written all (slot_behind at (length ds)) es → AllSuit written all at (ds ++ es)
suit_append written all [] es at x y = subst (λ (q : SlotRef). AllSuit written all q es) (behind_none at) y
suit_append written all (d ∷ ds) es at x y =
    (x.0, suit_append written all ds es (next_slot at) x.1 (subst (λ (q : SlotRef). AllSuit written all q es) (sym (behind_next at (length ds))) y))

module _ (a b c : Building) (written others : List ℕ) (x : Rights a b written) (y : Rights b c others) where
  abbrev ds : List Draft
  ds = drafts_of x.added

  abbrev es : List Draft
  es = drafts_of y.added

  abbrev at : SlotRef
  at = first_slot a

  both_are : drafts_of (x.added ++ y.added) ≡ ds ++ es
  both_are = drafts_append x.added y.added

  second_from : first_slot b ≡ slot_behind at (length ds)
  second_from = ap first_slot x.appended ∙ first_behind a x.added

  -- no slot is turned by both
  first_alone : (q : SlotRef) → Lies at (length ds) q → count_by (turns q) es ≡ 0
  first_alone q l =
      y.within q (subst (λ (r : SlotRef). is_own r (length es) (space.Slot q) ≡ false) (sym second_from) (not_owns (slot_behind at (length ds)) (length es) q (λ m. let low : at.slot + length ds ≤ q.slot = m.1 in let high : q.slot < at.slot + length ds = l.2 in omega arith)))

  second_alone : (q : SlotRef) → Lies (slot_behind at (length ds)) (length es) q → count_by (turns q) ds ≡ 0
  second_alone q l =
      x.within q (not_owns at (length ds) q (λ m. let low : at.slot + length ds ≤ q.slot = l.1 in let high : q.slot < at.slot + length ds = m.2 in omega arith))

  count_both : (q : SlotRef) → count_by (turns q) (ds ++ es) ≡ count_by (turns q) ds + count_by (turns q) es
  count_both q = sum_by-append (λ (f : Draft). one_if (turns q f)) ds es

  once_both : (q : SlotRef) → count_by (turns q) (ds ++ es) ≤ 1
  once_both q =
      elim (is_own at (length ds) (space.Slot q)) as (λ v. is_own at (length ds) (space.Slot q) ≡ v → count_by (turns q) (ds ++ es) ≤ 1) [
        | true ↦ λ h. omega (arith, count_both q, x.once q, first_alone q (lies_from at (length ds) q h))
        | false ↦ λ h. omega (arith, count_both q, x.within q h, y.once q)
      ] refl

  within_both : (q : SlotRef) → is_own at (length (ds ++ es)) (space.Slot q) ≡ false → count_by (turns q) (ds ++ es) ≡ 0
  within_both q other =
      let l = length-append ds es in
      let not_first : is_own at (length ds) (space.Slot q) ≡ false = not_owns at (length ds) q (λ m. let high : q.slot < at.slot + length ds = m.2 in false≢true (sym other ∙ lies_to at (length (ds ++ es)) q (m.0, m.1, omega (arith, l, high)))) in
      let not_second : is_own (slot_behind at (length ds)) (length es) (space.Slot q) ≡ false = not_owns (slot_behind at (length ds)) (length es) q (λ m. let low : at.slot + length ds ≤ q.slot = m.1 in let high : q.slot < (at.slot + length ds) + length es = m.2 in false≢true (sym other ∙ lies_to at (length (ds ++ es)) q (m.0, omega arith, omega (arith, l, high)))) in
      omega (arith, count_both q, x.within q not_first, y.within q (subst (λ (r : SlotRef). is_own r (length es) (space.Slot q) ≡ false) (sym second_from) not_second))

  suit_both : AllSuit (written ++ others) (ds ++ es) at (ds ++ es)
  suit_both =
      suit_append (written ++ others) (ds ++ es) ds es at (suit_more [] written others ds (ds ++ es) at (length ds) (λ q op l m. elim (made_of ds es q op m) [ inl k ↦ k | inr k ↦ absurd (made_none es q op (first_alone q l) k) ]) ds at refl (omega arith) (omega arith) x.suit) (subst (λ (w : List ℕ). AllSuit w (ds ++ es) (slot_behind at (length ds)) es) (ap (λ (w : List ℕ). written ++ w) (append-nil others)) (suit_more written others [] es (ds ++ es) (slot_behind at (length ds)) (length es) (λ q op l m. elim (made_of ds es q op m) [ inl k ↦ absurd (made_none ds q op (second_alone q l) k) | inr k ↦ k ]) es (slot_behind at (length ds)) refl (omega arith) (omega arith) (subst (λ (q : SlotRef). AllSuit others es q es) second_from y.suit)))

  rights_both : Rights a c (written ++ others)
  rights_both =
      record {
        added = x.added ++ y.added;
        appended = y.appended ∙ (ap (λ (e : Building). with_more e y.added) x.appended ∙ ap (λ (l : List (List Draft)). let e : Building = record a { segments = l } in e) (append_assoc a.segments x.added y.added));
        suit = subst (λ (l : List Draft). AllSuit (written ++ others) l at l) (sym both_are) suit_both;
        once = λ q. subst (λ (l : List Draft). count_by (turns q) l ≤ 1) (sym both_are) (once_both q);
        within = λ q. subst (λ (l : List Draft). is_own at (length l) (space.Slot q) ≡ false → count_by (turns q) l ≡ 0) (sym both_are) (within_both q);
      }

pub rights_in_turn : RightsInTurn
rights_in_turn a b c written others x y = rights_both a b c written others x y
