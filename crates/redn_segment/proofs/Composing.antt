-- Two parts that follow one another are a part.
use Rattle.std.proofs.Common.{◌≡◌, ℕ, suc, ◌+◌, ◌<◌, ◌≤◌, ◌⊎◌, inl, inr, Bool, true, false, ◌&&◌, ◌||◌, List, [], ◌∷◌, ◌++◌, length, refl, sym, ap, ◌∙◌, subst, arith, length-append, append_assoc}
use Rattle.std.specs.Prelude.{slice_index, ◌==◌, nat_le, nat_lt}
use Rattle.std.proofs.lemmas.Bool.{false≢true, eqb-true, eq-eqb, or_parts as neither, and_parts as both}
use Rattle.std.proofs.lemmas.Bool.Decides.{nat_tests}
use Rattle.redn_words.specs.declared.types.Obs.{Obs}
use Rattle.redn_kernel.specs.declared.types.Cell.TheVariants.{Num}
use Rattle.redn_segment.specs.declared.types.SlotRef.{SlotRef}
use Rattle.redn_segment.specs.declared.types.Space.{Space}
use Rattle.redn_segment.specs.declared.types.Space.TheVariants as space
use Rattle.redn_segment.specs.declared.types.Draft.{Draft}
use Rattle.redn_segment.specs.Sites.{next_slot}
use Rattle.redn_segment.specs.Plain.{Bytes, View, Put, with_put, placed, Outcome, Went, Faults, Bad, after, follow, step, runs}
use Rattle.redn_segment.specs.Primed.{SeesBytes, IsPrimed, Primed, IsWhole, HasRoom, IsBytes, writes_at, writes_slot}
use Rattle.redn_segment.specs.Effects.{Effect, Leaves, Stops, is_own, slot_behind, IsLeft, Meets, Does}
use Rattle.redn_segment.specs.Parts.{WritesWithin, IsAside, Agree, Alike, LeavesWhole, KeepsSlots, IsPart, with_events, goes_to, in_turn}

pub placed_append : (us vs : List Put) (s : Bytes) → placed s (us ++ vs) ≡ placed (placed s us) vs
placed_append [] vs s = refl
placed_append (u ∷ us) vs s = placed_append us vs (with_put s u)

after_after : (us vs : List Put) (before shown : List Obs) (o : Outcome) → after us before (after vs shown o) ≡ after (us ++ vs) (before ++ shown) o
after_after us vs before shown (Went ws more) = λ i. Went (sym (append_assoc us vs ws) i) (sym (append_assoc before shown more) i)
after_after us vs before shown (Faults ws more) = λ i. Faults (sym (append_assoc us vs ws) i) (sym (append_assoc before shown more) i)
after_after us vs before shown Bad = refl

pub behind_next : (at : SlotRef) (n : ℕ) → slot_behind (next_slot at) n ≡ slot_behind at (suc n)
behind_next at n = ap (λ (k : ℕ). let q : SlotRef = record at { slot = k } in q) (let e : (at.slot + 1) + n ≡ at.slot + suc n = omega arith in e)

pub behind_none : (at : SlotRef) → slot_behind at 0 ≡ at
behind_none at = ap (λ (k : ℕ). let q : SlotRef = record at { slot = k } in q) (let e : at.slot + 0 ≡ at.slot = omega arith in e)

after_nothing : (o : Outcome) → after [] [] o ≡ o
after_nothing (Went us shown) = refl
after_nothing _ = refl

module _ (chain : View) (es : List Draft) where
  follows_after : (us : List Put) (shown : List Obs) (o : Outcome) (q : SlotRef) (s : Bytes) → after us shown (follow o (λ (vs : List Put). runs chain q es (placed (placed s us) vs))) ≡ follow (after us shown o) (λ (vs : List Put). runs chain q es (placed s vs))
  follows_after us shown (Went vs more) q s = after_after us vs shown more (runs chain q es (placed (placed s us) vs)) ∙ ap (λ (t : Bytes). after (us ++ vs) (shown ++ more) (runs chain q es t)) (sym (placed_append us vs s))
  follows_after us shown _ q s = refl

  follows : (ds : List Draft) (at : SlotRef) (s : Bytes) → ((t : Bytes) → runs chain (next_slot at) (ds ++ es) t ≡ follow (runs chain (next_slot at) ds t) (λ (us : List Put). runs chain (slot_behind at (suc (length ds))) es (placed t us))) → (o : Outcome) → follow o (λ (us : List Put). runs chain (next_slot at) (ds ++ es) (placed s us)) ≡ follow (follow o (λ (us : List Put). runs chain (next_slot at) ds (placed s us))) (λ (us : List Put). runs chain (slot_behind at (suc (length ds))) es (placed s us))
  follows ds at s rest (Went us shown) =
      ap (after us shown) (rest (placed s us)) ∙ follows_after us shown (runs chain (next_slot at) ds (placed s us)) (slot_behind at (suc (length ds))) s
  follows ds at s rest (Faults us shown) = refl
  follows ds at s rest Bad = refl

  -- drafts and those behind them
  pub runs_append : (ds : List Draft) (at : SlotRef) (s : Bytes) → runs chain at (ds ++ es) s ≡ follow (runs chain at ds s) (λ (us : List Put). runs chain (slot_behind at (length ds)) es (placed s us))
  runs_append [] at s = ap (λ (q : SlotRef). runs chain q es s) (sym (behind_none at)) ∙ sym (after_nothing (runs chain (slot_behind at 0) es s))
  runs_append (d ∷ ds) at s =
      follows ds at s (λ t. runs_append ds (next_slot at) t ∙ ap (λ (q : SlotRef). follow (runs chain (next_slot at) ds t) (λ (us : List Put). runs chain q es (placed t us))) (behind_next at (length ds))) (step chain at d s)

-- which slots are a part's own
abbrev pub Owns : SlotRef → ℕ → SlotRef → Type 0
Owns at n q = is_own at n (space.Slot q) ≡ true

abbrev pub Lies : SlotRef → ℕ → SlotRef → Type 0
Lies at n q = (q.ring ≡ at.ring) × (at.slot ≤ q.slot) × (q.slot < at.slot + n)

pub lies_from : (at : SlotRef) (n : ℕ) (q : SlotRef) → Owns at n q → Lies at n q
lies_from at n q h =
    let parts = both (q.ring == at.ring) (nat_le at.slot q.slot && nat_lt q.slot (at.slot + n)) h in
    let more = both (nat_le at.slot q.slot) (nat_lt q.slot (at.slot + n)) parts.1 in
    let from : nat_le at.slot q.slot ≡ true = more.0 in
    let to : nat_lt q.slot (at.slot + n) ≡ true = more.1 in
    (eqb-true q.ring at.ring parts.0, grind (arith, nat_tests), grind (arith, nat_tests))

pub lies_to : (at : SlotRef) (n : ℕ) (q : SlotRef) → Lies at n q → Owns at n q
lies_to at n q h =
    let ring : (q.ring == at.ring) ≡ true = eq-eqb q.ring at.ring h.0 in
    let low : at.slot ≤ q.slot = h.1 in
    let high : q.slot < at.slot + n = h.2 in
    let from : nat_le at.slot q.slot ≡ true = grind (arith, nat_tests) in
    let to : nat_lt q.slot (at.slot + n) ≡ true = grind (arith, nat_tests) in
    rw (ring, from, to) refl

pub not_owns : (at : SlotRef) (n : ℕ) (q : SlotRef) → (Lies at n q → ⊥) → is_own at n (space.Slot q) ≡ false
not_owns at n q h =
    elim (is_own at n (space.Slot q)) as (λ b. is_own at n (space.Slot q) ≡ b → b ≡ false) [
      | true ↦ λ e. absurd (h (lies_from at n q e))
      | false ↦ λ e. refl
    ] refl

wider : (at : SlotRef) (m n : ℕ) (q : SlotRef) → m ≤ n → Owns at m q → Owns at n q
wider at m n q h o =
    let l = lies_from at m q o in
    let high : q.slot < at.slot + m = l.2 in
    lies_to at n q (l.0, l.1, omega arith)

owns_next : (at : SlotRef) (n : ℕ) (q : SlotRef) → Owns (next_slot at) n q → Owns at (suc n) q
owns_next at n q o =
    let l = lies_from (next_slot at) n q o in
    let low : at.slot + 1 ≤ q.slot = l.1 in
    let high : q.slot < (at.slot + 1) + n = l.2 in
    lies_to at (suc n) q (l.0, omega arith, omega arith)

owns_itself : (at : SlotRef) (n : ℕ) → 1 ≤ n → Owns at n at
owns_itself at n h = lies_to at n at (refl, omega arith, omega arith)

owns_behind : (at : SlotRef) (k n m : ℕ) (q : SlotRef) → k + n ≡ m → Owns (slot_behind at k) n q → Owns at m q
owns_behind at k n m q e o =
    let l = lies_from (slot_behind at k) n q o in
    let low : at.slot + k ≤ q.slot = l.1 in
    let high : q.slot < (at.slot + k) + n = l.2 in
    lies_to at m q (l.0, omega arith, omega arith)

pub apart : (at : SlotRef) (k n : ℕ) (q : SlotRef) → Owns (slot_behind at k) n q → is_own at k (space.Slot q) ≡ false
apart at k n q o =
    let l = lies_from (slot_behind at k) n q o in
    let low : at.slot + k ≤ q.slot = l.1 in
    not_owns at k q (λ m. let high : q.slot < at.slot + k = m.2 in omega arith)

apart_front : (at : SlotRef) (k n : ℕ) (q : SlotRef) → Owns at k q → is_own (slot_behind at k) n (space.Slot q) ≡ false
apart_front at k n q o =
    let l = lies_from at k q o in
    let high : q.slot < at.slot + k = l.2 in
    not_owns (slot_behind at k) n q (λ m. let low : at.slot + k ≤ q.slot = m.1 in omega arith)

-- slots that are the same are primed alike
primed_same : (all es : List Draft) (at : SlotRef) (s t : Bytes) → ((q : SlotRef) → Owns at (length es) q → t (space.Slot q) ≡ s (space.Slot q)) → length (t (space.Slot (slot_behind at (length es)))) ≡ 64 → Primed all at es s → Primed all at es t
primed_same all [] at s t h l p = subst (λ (q : SlotRef). length (t (space.Slot q)) ≡ 64) (behind_none at) l
primed_same all (d ∷ es) at s t h l p =
    (subst (IsPrimed (writes_slot all at) d) (sym (h at (owns_itself at (length (d ∷ es)) (omega arith)))) p.0, primed_same all es (next_slot at) s t (λ q o. h q (owns_next at (length es) q o)) (subst (λ (q : SlotRef). length (t (space.Slot q)) ≡ 64) (sym (behind_next at (length es))) l) p.1)

pub ends_long : (all es : List Draft) (at : SlotRef) (s : Bytes) → Primed all at es s → length (s (space.Slot (slot_behind at (length es)))) ≡ 64
ends_long all [] at s p = subst (λ (q : SlotRef). length (s (space.Slot q)) ≡ 64) (sym (behind_none at)) p
ends_long all (d ∷ es) at s p = subst (λ (q : SlotRef). length (s (space.Slot q)) ≡ 64) (behind_next at (length es)) (ends_long all es (next_slot at) s p.1)

-- as are slots of which other drafts write the same
pub primed_by : (all part ds : List Draft) (at : SlotRef) (s : Bytes) → ((q : SlotRef) (i : ℕ) → Owns at (length ds) q → writes_slot part q i ≡ false → writes_slot all q i ≡ false) → Primed all at ds s → Primed part at ds s
primed_by all part [] at s h p = p
primed_by all part (d ∷ ds) at s h p = (
  record {
    len = p.0.len;
    bytes = λ i small says_it untouched. p.0.bytes i small says_it (h at i (owns_itself at (length (d ∷ ds)) (omega arith)) untouched);
  },
  primed_by all part ds (next_slot at) s (λ q i o. h q i (owns_next at (length ds) q o)) p.1,
)

starts_long : (all es : List Draft) (at : SlotRef) (s : Bytes) → Primed all at es s → length (s (space.Slot at)) ≡ 64
starts_long all [] at s p = p
starts_long all (d ∷ es) at s p = p.0.len

pub primed_front : (all ds es : List Draft) (at : SlotRef) (s : Bytes) → Primed all at (ds ++ es) s → Primed all at ds s
primed_front all [] es at s p = starts_long all es at s p
primed_front all (d ∷ ds) es at s p = (p.0, primed_front all ds es (next_slot at) s p.1)

pub primed_behind : (all ds es : List Draft) (at : SlotRef) (s : Bytes) → Primed all at (ds ++ es) s → Primed all (slot_behind at (length ds)) es s
primed_behind all [] es at s p = subst (λ (q : SlotRef). Primed all q es s) (sym (behind_none at)) p
primed_behind all (d ∷ ds) es at s p =
    subst (λ (q : SlotRef). Primed all q es s) (behind_next at (length ds)) (primed_behind all ds es (next_slot at) s p.1)

primed_joined : (all ds es : List Draft) (at : SlotRef) (s : Bytes) → Primed all at ds s → Primed all (slot_behind at (length ds)) es s → Primed all at (ds ++ es) s
primed_joined all [] es at s p r = subst (λ (q : SlotRef). Primed all q es s) (behind_none at) r
primed_joined all (d ∷ ds) es at s p r =
    (p.0, primed_joined all ds es (next_slot at) s p.1 (subst (λ (q : SlotRef). Primed all q es s) (sym (behind_next at (length ds))) r))

pub writes_both : (ds es : List Draft) (q : SlotRef) (i : ℕ) → writes_slot (ds ++ es) q i ≡ (writes_slot ds q i || writes_slot es q i)
writes_both [] es q i = refl
writes_both (d ∷ ds) es q i =
    ap (λ (b : Bool). writes_at (space.Slot q) i d || b) (writes_both ds es q i) ∙ or_assoc (writes_at (space.Slot q) i d) (writes_slot ds q i) (writes_slot es q i)
  where
    or_assoc : (a b c : Bool) → a || (b || c) ≡ (a || b) || c
    or_assoc true b c = refl
    or_assoc false b c = refl

unwritten : (at : SlotRef) (n : ℕ) (ds : List Draft) → WritesWithin at n ds → (q : SlotRef) (i : ℕ) → is_own at n (space.Slot q) ≡ false → writes_slot ds q i ≡ false
unwritten at n ds within q i h =
    elim (writes_slot ds q i) as (λ b. writes_slot ds q i ≡ b → b ≡ false) [
      | true ↦ λ e. absurd (false≢true (sym h ∙ within q i e))
      | false ↦ λ e. refl
    ] refl

whole_same : (s t : Bytes) (n : ℕ) (at : SlotRef) → Agree (is_own at n) s t → IsWhole t → IsWhole s
whole_same s t n at e h =
    record {
      cells = λ c. (ap length (e (space.Cell c) refl) ∙ (h.cells c).0, subst IsBytes (sym (e (space.Cell c) refl)) (h.cells c).1);
      numbers = λ k. e (space.Cell (Num k)) refl ∙ h.numbers k;
      descriptors = λ ring. ap length (e (space.Descriptor ring) refl) ∙ h.descriptors ring;
      tables = λ t. subst IsBytes (sym (e (space.Table t) refl)) (h.tables t);
    }

own_aside : (at : SlotRef) (n : ℕ) → IsAside (is_own at n)
own_aside at n = record { cells = λ c. refl; descriptors = λ ring. refl; tables = λ t. refl }

-- what isn't the whole's own isn't a part's
narrower : (at : SlotRef) (n : ℕ) (from : SlotRef) (m : ℕ) → ((q : SlotRef) → Owns from m q → Owns at n q) → (p : Space) → is_own at n p ≡ false → is_own from m p ≡ false
narrower at n from m h (space.Slot q) k = not_owns from m q (λ l. false≢true (sym k ∙ h q (lies_to from m q l)))
narrower at n from m h (space.Cell c) k = refl
narrower at n from m h (space.Descriptor c) k = refl
narrower at n from m h (space.Table c) k = refl
narrower at n from m h _ k = k

module _ (at : SlotRef) (ds es : List Draft) (more : ℕ) (first second : View → Bytes → Effect) (p : IsPart at ds 0 first) (r : IsPart (slot_behind at (length ds)) es more second) where
  abbrev mid : SlotRef
  mid = slot_behind at (length ds)

  abbrev all : List Draft
  all = ds ++ es

  no_more : length ds + 0 ≡ length ds
  no_more = omega arith

  sum : length all ≡ length ds + length es
  sum = length-append ds es

  within_first : WritesWithin at (length ds) ds
  within_first = subst (λ (n : ℕ). WritesWithin at n ds) no_more p.within

  front_untouched : (q : SlotRef) (i : ℕ) → Owns at (length ds) q → writes_slot ds q i ≡ false → writes_slot all q i ≡ false
  front_untouched q i o h =
      let other : writes_slot es q i ≡ false = unwritten mid (length es + more) es r.within q i (apart_front at (length ds) (length es + more) q o) in
      writes_both ds es q i ∙ rw (h, other) refl

  behind_untouched : (q : SlotRef) (i : ℕ) → Owns mid (length es) q → writes_slot es q i ≡ false → writes_slot all q i ≡ false
  behind_untouched q i o h =
      let other : writes_slot ds q i ≡ false = unwritten at (length ds) ds within_first q i (apart at (length ds) (length es) q o) in
      writes_both ds es q i ∙ rw (h, other) refl

  joined : (s : Bytes) → Primed ds at ds s → Primed es mid es s → Primed all at all s
  joined s a b =
      primed_joined all ds es at s (primed_by ds all ds at s (λ q i o h. (neither _ _ (sym (writes_both ds es q i) ∙ h)).0) a) (primed_by es all es mid s (λ q i o h. (neither _ _ (sym (writes_both ds es q i) ∙ h)).1) b)

  narrow_front : (q : SlotRef) → Owns at (length ds) q → Owns at (length all) q
  narrow_front q o = wider at (length ds) (length all) q (omega (arith, sum)) o

  narrow_behind : (q : SlotRef) → Owns mid (length es) q → Owns at (length all) q
  narrow_behind q o = owns_behind at (length ds) (length es) (length all) q (sym sum) o

  last_front : (q : SlotRef) → Owns at (length ds) q → Owns at (length all + 1) q
  last_front q o = wider at (length ds) (length all + 1) q (omega (arith, sum)) o

  last_front_too : (q : SlotRef) → Owns at (length ds + 1) q → Owns at (length all + 1) q
  last_front_too q o = wider at (length ds + 1) (length all + 1) q (omega (arith, sum)) o

  last_behind : (q : SlotRef) → Owns mid (length es + 1) q → Owns at (length all + 1) q
  last_behind q o = owns_behind at (length ds) (length es + 1) (length all + 1) q (omega (arith, sum)) o

  module _ (chain : View) (bytes : SeesBytes chain) (s : Bytes) where
    -- the second part, from where the first one left
    after_second : (us : List Put) (shown events : List Obs) (t : Bytes) → shown ≡ events → IsLeft at ds s us (is_own at (length ds)) t → (o : Outcome) (a b : Effect) → Meets mid es (placed s us) o a → Alike (is_own at (length ds)) a b → KeepsSlots mid (length es + more) (placed s us) a → Meets at all s (after us shown o) (with_events events b)
    after_second us shown events t e left (Went vs seen) (Leaves u told) (Leaves w said) m alike keeps = (
      (λ i. e i ++ (m.0 ∙ alike.0) i),
      record {
        spaces = λ q k.
            ap (λ (v : Bytes). v q) (placed_append us vs s) ∙ (m.1.spaces q (narrower at (length all) mid (length es) narrow_behind q k) ∙ alike.1 q (narrower at (length all) at (length ds) narrow_front q k));
        primed = subst (Primed all at all) (sym (placed_append us vs s)) (joined (placed (placed s us) vs) (primed_same ds ds at (placed s us) (placed (placed s us) vs) (λ q o. m.1.spaces (space.Slot q) (apart_front at (length ds) (length es) q o) ∙ keeps q (apart_front at (length ds) (length es + more) q o)) (starts_long es es mid (placed (placed s us) vs) m.1.primed) left.primed) m.1.primed);
        slots = λ q long.
            let one = left.slots q long in
            let two = m.1.slots q one.0 in
            let e : placed s (us ++ vs) (space.Slot q) ≡ placed (placed s us) vs (space.Slot q) = ap (λ (v : Bytes). v (space.Slot q)) (placed_append us vs s) in (
              ap length e ∙ two.0,
              λ i untouched.
                  let parts = neither _ _ (sym (writes_both ds es q i) ∙ untouched) in
                  ap (λ (l : List ℕ). slice_index l i) e ∙ (two.1 i parts.1 ∙ one.1 i parts.0),
            );
        room = subst HasRoom (sym (placed_append us vs s)) m.1.room;
      },
    )
    after_second us shown events t e left (Faults vs seen) (Stops u told) (Stops w said) m alike keeps =
        ((λ i. e i ++ (m.0 ∙ alike.0) i), λ q k. ap (λ (v : Bytes). v q) (placed_append us vs s) ∙ (m.1 q (narrower at (length all + 1) mid (length es + 1) last_behind q k) ∙ alike.1 q (narrower at (length all + 1) at (length ds) last_front q k)))
    after_second us shown events t e left o (Leaves u told) (Stops w said) m alike keeps = absurd alike
    after_second us shown events t e left o (Stops u told) (Leaves w said) m alike keeps = absurd alike
    after_second us shown events t e left (Went vs seen) (Stops u told) b m alike keeps = absurd m
    after_second us shown events t e left (Faults vs seen) (Leaves u told) b m alike keeps = absurd m
    after_second us shown events t e left Bad a b m alike keeps = absurd m

    -- the first part, and then the second
    after_first : IsWhole s → Primed es mid es s → (o : Outcome) (a : Effect) → Meets at ds s o a → LeavesWhole a → KeepsSlots at (length ds) s a → Meets at all s (follow o (λ (us : List Put). runs chain mid es (placed s us))) (goes_to a (second chain))
    after_first whole rest (Went us shown) (Leaves t events) m w keeps =
        let there : Bytes = placed s us in
        let stays : (q : SlotRef) → Owns mid (length es) q → there (space.Slot q) ≡ s (space.Slot q) = λ q o. m.1.spaces (space.Slot q) (apart at (length ds) (length es) q o) ∙ keeps q (apart at (length ds) (length es) q o) in
        let last : SlotRef = slot_behind mid (length es) in
        let last_own : Owns mid (length es + 1) last = lies_to mid (length es + 1) last (refl, omega arith, omega arith) in
        let last_stays : there (space.Slot last) ≡ s (space.Slot last) = m.1.spaces (space.Slot last) (apart at (length ds) (length es + 1) last last_own) ∙ keeps last (apart at (length ds) (length es + 1) last last_own) in
        let primed_there : Primed es mid es there = primed_same es es mid s there stays (ap length last_stays ∙ ends_long es es mid s rest) rest in
        let m2 : Meets mid es there (runs chain mid es there) (second chain there) = r.does chain bytes there (whole_same there t (length ds) at m.1.spaces w) m.1.room primed_there in
        after_second us shown events t m.0 m.1 (runs chain mid es there) (second chain there) (second chain t) m2 (r.tame.alike chain there t (is_own at (length ds)) (own_aside at (length ds)) m.1.spaces) (r.tame.slots chain there)
    after_first whole rest (Faults us shown) (Stops t events) m w keeps =
        (m.0, λ q k. m.1 q (narrower at (length all + 1) at (length ds + 1) last_front_too q k))
    after_first whole rest (Went us shown) (Stops t events) m w keeps = absurd m
    after_first whole rest (Faults us shown) (Leaves t events) m w keeps = absurd m
    after_first whole rest Bad a m w keeps = absurd m

    -- what the second part begins with
    abbrev pub Begins : Bytes → Type 0
    Begins t = IsWhole t × HasRoom t × Primed es mid es t

    begins : Primed es mid es s → (us : List Put) (shown : List Obs) (o : Outcome) (a : Effect) → o ≡ Went us shown → Meets at ds s o a → LeavesWhole a → KeepsSlots at (length ds) s a → Begins (placed s us)
    begins rest us shown (Went vs seen) (Leaves t events) e m w keeps =
        let same : vs ≡ us = cc in
        let there : Bytes = placed s vs in
        let stays : (q : SlotRef) → Owns mid (length es) q → there (space.Slot q) ≡ s (space.Slot q) = λ q o. m.1.spaces (space.Slot q) (apart at (length ds) (length es) q o) ∙ keeps q (apart at (length ds) (length es) q o) in
        let last : SlotRef = slot_behind mid (length es) in
        let last_own : Owns mid (length es + 1) last = lies_to mid (length es + 1) last (refl, omega arith, omega arith) in
        let last_stays : there (space.Slot last) ≡ s (space.Slot last) = m.1.spaces (space.Slot last) (apart at (length ds) (length es + 1) last last_own) ∙ keeps last (apart at (length ds) (length es + 1) last last_own) in
        subst (λ (l : List Put). Begins (placed s l)) same (whole_same there t (length ds) at m.1.spaces w, m.1.room, primed_same es es mid s there stays (ap length last_stays ∙ ends_long es es mid s rest) rest)
    begins rest us shown (Went vs seen) (Stops t events) e m w keeps = absurd m
    begins rest us shown (Faults vs seen) a e m w keeps = absurd (cc)
    begins rest us shown Bad a e m w keeps = absurd (cc)

  -- the slots of each part are primed
  pub primed_first : (s : Bytes) → Primed all at all s → Primed ds at ds s
  primed_first s primed = primed_by all ds ds at s front_untouched (primed_front all ds es at s primed)

  pub second_begins : (chain : View) → SeesBytes chain → (s : Bytes) → IsWhole s → HasRoom s → Primed all at all s → (us : List Put) (shown : List Obs) → runs chain at ds s ≡ Went us shown → IsWhole (placed s us) × HasRoom (placed s us) × Primed es mid es (placed s us)
  second_begins chain bytes s whole room primed us shown goes =
      let behind : Primed es mid es s = primed_by all es es mid s behind_untouched (primed_behind all ds es at s primed) in
      let keeps : KeepsSlots at (length ds) s (first chain s) = subst (λ (n : ℕ). KeepsSlots at n s (first chain s)) no_more (p.tame.slots chain s) in
      begins chain bytes s behind us shown (runs chain at ds s) (first chain s) goes (p.does chain bytes s whole room (primed_first s primed)) (p.tame.whole chain bytes s whole) keeps

  does_both : Does at all (in_turn first second)
  does_both chain bytes s whole room primed =
      let front : Primed ds at ds s = primed_by all ds ds at s front_untouched (primed_front all ds es at s primed) in
      let behind : Primed es mid es s = primed_by all es es mid s behind_untouched (primed_behind all ds es at s primed) in
      let keeps : KeepsSlots at (length ds) s (first chain s) = subst (λ (n : ℕ). KeepsSlots at n s (first chain s)) no_more (p.tame.slots chain s) in
      subst (λ (o : Outcome). Meets at all s o (in_turn first second chain s)) (sym (runs_append chain es ds at s)) (after_first chain bytes s whole behind (runs chain at ds s) (first chain s) (p.does chain bytes s whole room front) (p.tame.whole chain bytes s whole) keeps)

  within_both : WritesWithin at (length all + more) all
  within_both q i h =
      elim (one_of (writes_slot ds q i) (writes_slot es q i) (sym (writes_both ds es q i) ∙ h)) [
        | inl l ↦ wider at (length ds) (length all + more) q (omega (arith, sum)) (within_first q i l)
        | inr l ↦ owns_behind at (length ds) (length es + more) (length all + more) q (omega (arith, sum)) (r.within q i l)
      ]
    where
      one_of : (a b : Bool) → a || b ≡ true → (a ≡ true) ⊎ (b ≡ true)
      one_of true b k = inl refl
      one_of false b k = inr k

  alike_events : (aside : Space → Bool) (before told : List Obs) → before ≡ told → (a b : Effect) → Alike aside a b → Alike aside (with_events before a) (with_events told b)
  alike_events aside before told e (Leaves s events) (Leaves t shown) m = (λ i. e i ++ m.0 i, m.1)
  alike_events aside before told e (Stops s events) (Stops t shown) m = (λ i. e i ++ m.0 i, m.1)
  alike_events aside before told e (Leaves s events) (Stops t shown) m = absurd m
  alike_events aside before told e (Stops s events) (Leaves t shown) m = absurd m

  alike_turn : (chain : View) (aside : Space → Bool) → IsAside aside → (a b : Effect) → Alike aside a b → Alike aside (goes_to a (second chain)) (goes_to b (second chain))
  alike_turn chain aside free (Leaves s events) (Leaves t shown) m = alike_events aside events shown m.0 (second chain s) (second chain t) (r.tame.alike chain s t aside free m.1)
  alike_turn chain aside free (Stops s events) (Stops t shown) m = m
  alike_turn chain aside free (Leaves s events) (Stops t shown) m = absurd m
  alike_turn chain aside free (Stops s events) (Leaves t shown) m = absurd m

  whole_events : (before : List Obs) (a : Effect) → LeavesWhole a → LeavesWhole (with_events before a)
  whole_events before (Leaves t events) h = h
  whole_events before (Stops t events) h = h

  whole_turn : (chain : View) → SeesBytes chain → (a : Effect) → LeavesWhole a → LeavesWhole (goes_to a (second chain))
  whole_turn chain bytes (Leaves t events) h = whole_events events (second chain t) (r.tame.whole chain bytes t h)
  whole_turn chain bytes (Stops t events) h = tt

  slots_events : (s t : Bytes) (before : List Obs) (a : Effect) → ((q : SlotRef) → is_own at (length all + more) (space.Slot q) ≡ false → t (space.Slot q) ≡ s (space.Slot q)) → KeepsSlots mid (length es + more) t a → KeepsSlots at (length all + more) s (with_events before a)
  slots_events s t before (Leaves u events) h k = λ q o. k q (narrower at (length all + more) mid (length es + more) (λ v w. owns_behind at (length ds) (length es + more) (length all + more) v (omega (arith, sum)) w) (space.Slot q) o) ∙ h q o
  slots_events s t before (Stops u events) h k = tt

  slots_turn : (chain : View) (s : Bytes) (a : Effect) → KeepsSlots at (length ds + 0) s a → KeepsSlots at (length all + more) s (goes_to a (second chain))
  slots_turn chain s (Leaves t events) k =
      slots_events s t events (second chain t) (λ q o. k q (narrower at (length all + more) at (length ds + 0) (λ v w. wider at (length ds + 0) (length all + more) v (omega (arith, sum)) w) (space.Slot q) o)) (r.tame.slots chain t)
  slots_turn chain s (Stops t events) k = tt

  -- two parts that follow one another are a part, which does one after the other
  pub parts_in_turn : IsPart at all more (in_turn first second)
  parts_in_turn =
      record {
        does = does_both;
        within = within_both;
        tame = record {
          alike = λ chain s t aside free h. alike_turn chain aside free (first chain s) (first chain t) (p.tame.alike chain s t aside free h);
          whole = λ chain bytes s whole. whole_turn chain bytes (first chain s) (p.tame.whole chain bytes s whole);
          slots = λ chain s. slots_turn chain s (first chain s) (p.tame.slots chain s);
        };
      }
