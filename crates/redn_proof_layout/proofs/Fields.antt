-- Which bytes of slots drafts write: of their own slots none that is fixed, and of the one behind only operands.
use Rattle.std.proofs.Common.{◌≡◌, ℕ, zero, suc, ◌+◌, ◌<◌, ◌≤◌, inl, inr, Bool, true, false, not, ◌&&◌, ◌||◌, ◌==◌, List, [], ◌∷◌, map, refl, sym, ap, ◌∙◌, arith}
use Rattle.std.specs.Prelude.{Option, Some, None, slice_get, nat_le, nat_lt}
use Rattle.std.specs.List.{list_all}
use Rattle.std.proofs.lemmas.Bool.{and_parts, and_from, or_cases, leb-true, ltb-true, false≢true, ne_eqb}
use Rattle.redn_segment.specs.declared.types.SlotRef.{SlotRef}
use Rattle.redn_segment.specs.declared.types.Side.{Side}
use Rattle.redn_segment.specs.declared.types.Space.{Space}
use Rattle.redn_segment.specs.declared.types.Space.TheVariants as space
use Rattle.redn_segment.specs.declared.types.Draft.{Draft}
use Rattle.redn_segment.specs.Sites.{space_of, same_space, next_slot, is_table}
use Rattle.redn_segment.specs.Effects.{slot_behind}
use Rattle.redn_segment.specs.Primed.{covers, writes_at, writes_slot}
use Rattle.redn_segment.specs.Footprints.{local_by, remote_by, holds_of, both_sides, from}
use Rattle.redn_segment.specs.Renaming.{renamed_space, renamed, moved}
use Rattle.redn_segment.proofs.Sides.{side_test}
use Rattle.redn_segment.proofs.Renamed.{table_renamed, start_renamed, space_renamed}
use Rattle.redn_segment.proofs.Moved.{same_renamed}
use Rattle.redn_segment.proofs.Moving.{keeps, lt_moved, next}
use Rattle.redn_proof_landing.specs.Requested.{is_fixed, SparesFixed}
use Rattle.redn_proof_ring.proofs.Named.{side_named, both_named}
use Rattle.redn_proof_ring.proofs.RingWrites.{Writing, writing, covered}
use Rattle.redn_segment.proofs.Composing.{behind_next as next_behind}

-- a side writes none of these bytes of a slot
abbrev pub is_clear : SlotRef → ℕ → ℕ → Side → Bool
is_clear q lo hi a = not (a.writes && same_space (space_of a.site) (space.Slot q)) || (nat_le (from a + a.len) lo || nat_le hi (from a))

-- and no fixed byte of the slot of a draft
abbrev pub spares_fixed : SlotRef → Draft → Side → Bool
spares_fixed q d a =
    is_clear q 8 24 a && (is_clear q 32 40 a && (is_clear q 56 64 a && (is_table d.remote || is_clear q 24 32 a)))

abbrev pub keeps_fixed : SlotRef → List Draft → List Draft → Bool
keeps_fixed at all [] = true
keeps_fixed at all (d ∷ ds) = list_all (both_sides (spares_fixed at d)) all && keeps_fixed (next_slot at) all ds

clear_of : (q : SlotRef) (lo hi i : ℕ) (a : Side) → is_clear q lo hi a ≡ true → a.writes ≡ true → same_space (space_of a.site) (space.Slot q) ≡ true → from a ≤ i → i < from a + a.len → lo ≤ i → i < hi → ⊥
clear_of q lo hi i a h w s low high f g =
    let parts : (nat_le (from a + a.len) lo || nat_le hi (from a)) ≡ true = by_test a.writes (same_space (space_of a.site) (space.Slot q)) w s h in
    elim (or_cases (nat_le (from a + a.len) lo) (nat_le hi (from a)) parts) [
      | inl before ↦ let l = leb-true (from a + a.len) lo before in omega (arith, l, high, f)
      | inr behind ↦ let l = leb-true hi (from a) behind in omega (arith, l, low, g)
    ]
  where
    by_test : (x y : Bool) → x ≡ true → y ≡ true → (not (x && y) || (nat_le (from a + a.len) lo || nat_le hi (from a))) ≡ true → (nat_le (from a + a.len) lo || nat_le hi (from a)) ≡ true
    by_test true true x y k = k
    by_test true false x y k = absurd (false≢true y)
    by_test false y x z k = absurd (false≢true x)

-- so none of them writes a fixed byte
spared_by : (q : SlotRef) (d e : Draft) (i : ℕ) → both_sides (spares_fixed q d) e ≡ true → is_fixed d i ≡ true → writes_at (space.Slot q) i e ≡ false
spared_by q d e i h fixed = by_test (writes_at (space.Slot q) i e) refl
  where
    never : Writing e (space.Slot q) i → ⊥
    never w =
        let a : Side = w.side in
        let s : spares_fixed q d a ≡ true = side_test e (spares_fixed q d) a h w.its in
        let p1 = and_parts (is_clear q 8 24 a) (is_clear q 32 40 a && (is_clear q 56 64 a && (is_table d.remote || is_clear q 24 32 a))) s in
        let p2 = and_parts (is_clear q 32 40 a) (is_clear q 56 64 a && (is_table d.remote || is_clear q 24 32 a)) p1.1 in
        let p3 = and_parts (is_clear q 56 64 a) (is_table d.remote || is_clear q 24 32 a) p2.1 in
        let one : (lo hi len : ℕ) → hi ≡ lo + len → is_clear q lo hi a ≡ true → covers lo len i ≡ true → ⊥ = λ lo hi len e k f. hit_by w lo hi len e k f in
        elim (or_cases (covers 8 16 i) _ fixed) [
          | inl f ↦ one 8 24 16 refl p1.0 f
          | inr f ↦ elim (or_cases (covers 32 8 i) _ f) [
            | inl g ↦ one 32 40 8 refl p2.0 g
            | inr g ↦ elim (or_cases (covers 56 8 i) _ g) [
              | inl k ↦ one 56 64 8 refl p3.0 k
              | inr k ↦ let t = and_parts (not (is_table d.remote)) (covers 24 8 i) k in one 24 32 8 refl (no_table (is_table d.remote) (is_clear q 24 32 a) t.0 p3.1) t.1
            ]
          ]
        ]
      where
        hit_by : (w : Writing e (space.Slot q) i) (lo hi len : ℕ) → hi ≡ lo + len → is_clear q lo hi w.side ≡ true → covers lo len i ≡ true → ⊥
        hit_by w lo hi len f k g =
            let at = covered lo len i g in
            let above = at.0 in
            let below = at.1 in
            clear_of q lo hi i w.side k w.writes w.there w.low w.high above (omega (arith, below, f))

        no_table : (t b : Bool) → not t ≡ true → (t || b) ≡ true → b ≡ true
        no_table true b f g = absurd (false≢true f)
        no_table false b f g = g

    by_test : (b : Bool) → writes_at (space.Slot q) i e ≡ b → b ≡ false
    by_test false f = refl
    by_test true f = absurd (never (writing e (space.Slot q) i f))

all_spared : (q : SlotRef) (d : Draft) (i : ℕ) (es : List Draft) → list_all (both_sides (spares_fixed q d)) es ≡ true → is_fixed d i ≡ true → writes_slot es q i ≡ false
all_spared q d i [] h fixed = refl
all_spared q d i (e ∷ es) h fixed =
    let parts = and_parts (both_sides (spares_fixed q d) e) (list_all (both_sides (spares_fixed q d)) es) h in
    let here = spared_by q d e i parts.0 fixed in
    rw here (all_spared q d i es parts.1 fixed)

-- the fixed bytes of the slots of these drafts, from one on, are written by none of those
abbrev pub KeepsFixed : SlotRef → List Draft → List Draft → Type 0
KeepsFixed at all ds = (k : ℕ) (d : Draft) → slice_get ds k ≡ Some d → SparesFixed (writes_slot all (slot_behind at k)) d

none_behind : (at : SlotRef) → at ≡ slot_behind at 0
none_behind at = ap (λ (n : ℕ). let q : SlotRef = record { ring = at.ring; slot = n } in q) (let e : at.slot ≡ at.slot + 0 = omega arith in e)

pub keeps_each : (at : SlotRef) (all ds : List Draft) → keeps_fixed at all ds ≡ true → KeepsFixed at all ds
keeps_each at all [] h k d e i fixed = absurd (cc)
keeps_each at all (x ∷ ds) h zero d e i fixed =
    let parts = and_parts (list_all (both_sides (spares_fixed at x)) all) (keeps_fixed (next_slot at) all ds) h in
    let same : x ≡ d = cc in
    ap (λ (q : SlotRef). writes_slot all q i) (sym (none_behind at)) ∙ all_spared at x i all parts.0 (ap (λ (y : Draft). is_fixed y i) same ∙ fixed)
keeps_each at all (x ∷ ds) h (suc k) d e i fixed =
    let parts = and_parts (list_all (both_sides (spares_fixed at x)) all) (keeps_fixed (next_slot at) all ds) h in
    ap (λ (q : SlotRef). writes_slot all q i) (sym (next_behind at k)) ∙ keeps_each (next_slot at) all ds parts.1 k d e i fixed

-- a side writes a slot below a number, or operands
abbrev pub is_low : ℕ → Space → Bool
is_low n (space.Slot q) = nat_lt q.slot n
is_low n _ = true

abbrev pub is_operand : Side → Bool
is_operand a = nat_le 40 (from a) && nat_le (from a + a.len) 56

abbrev pub low_or_operand : ℕ → Side → Bool
low_or_operand n a = not a.writes || (is_low n (space_of a.site) || is_operand a)

-- a side that writes a slot fills its operands alone
abbrev pub fills : SlotRef → Side → Bool
fills q a = not (a.writes && same_space (space_of a.site) (space.Slot q)) || is_operand a

low_other : (n : ℕ) (p : Space) (q : SlotRef) → n ≤ q.slot → is_low n p ≡ true → same_space p (space.Slot q) ≡ false
low_other n (space.Slot r) q l h =
    let below = ltb-true r.slot n h in
    let other : (r.slot == q.slot) ≡ false = ne_eqb r.slot q.slot (λ e. omega (arith, e, below, l)) in
    rw other (both_false (r.ring == q.ring))
  where
    both_false : (b : Bool) → (b && false) ≡ false
    both_false true = refl
    both_false false = refl
low_other n (space.Cell c) q l h = refl
low_other n _ q l h = refl

fills_side : (n : ℕ) (q : SlotRef) (a : Side) → n ≤ q.slot → low_or_operand n a ≡ true → fills q a ≡ true
fills_side n q a l h = by_test a.writes (is_low n (space_of a.site)) (is_operand a) h (low_other n (space_of a.site) q l)
  where
    by_test : (w b o : Bool) → (not w || (b || o)) ≡ true → (b ≡ true → same_space (space_of a.site) (space.Slot q) ≡ false) → (not (w && same_space (space_of a.site) (space.Slot q)) || o) ≡ true
    by_test false b o e f = refl
    by_test true true o e f = let none = f refl in rw none refl
    by_test true false true e f = last (not (same_space (space_of a.site) (space.Slot q)))
      where
        last : (x : Bool) → (x || true) ≡ true
        last true = refl
        last false = refl
    by_test true false false e f = absurd (false≢true e)

side_all : (test other : Side → Bool) (d : Draft) → ((a : Side) → test a ≡ true → other a ≡ true) → both_sides test d ≡ true → both_sides other d ≡ true
side_all test other d f h =
    let parts = and_parts (holds_of test (local_by d d.op)) (holds_of test (remote_by d d.op)) h in
    and_from (holds_of other (local_by d d.op)) (holds_of other (remote_by d d.op)) (one (local_by d d.op) parts.0) (one (remote_by d d.op) parts.1)
  where
    one : (o : Option Side) → holds_of test o ≡ true → holds_of other o ≡ true
    one None h = refl
    one (Some a) h = f a h

pub all_sides : (test other : Side → Bool) (ds : List Draft) → ((a : Side) → test a ≡ true → other a ≡ true) → list_all (both_sides test) ds ≡ true → list_all (both_sides other) ds ≡ true
all_sides test other [] f h = refl
all_sides test other (d ∷ ds) f h =
    let parts = and_parts (both_sides test d) (list_all (both_sides test) ds) h in
    and_from (both_sides other d) (list_all (both_sides other) ds) (side_all test other d f parts.0) (all_sides test other ds f parts.1)

pub all_fill : (n : ℕ) (q : SlotRef) (ds : List Draft) → n ≤ q.slot → list_all (both_sides (low_or_operand n)) ds ≡ true → list_all (both_sides (fills q)) ds ≡ true
all_fill n q ds l h = all_sides (low_or_operand n) (fills q) ds (λ a k. fills_side n q a l k) h

-- tests of drafts at slot 0 of ring 0 hold of them further on
module _ (ring first : ℕ) where
  abbrev at : SlotRef → SlotRef
  at = moved ring first

  same_spaces : (p q : Space) → same_space (renamed_space at p) (renamed_space at q) ≡ same_space p q
  same_spaces = same_renamed at (keeps ring first)

  both_moved : (test other : Side → Bool) (d : Draft) → ((a : Side) → test (side_named at a) ≡ other a) → both_sides test (renamed at d) ≡ both_sides other d
  both_moved test other d h = both_named at test d ∙ ap (λ (t : Side → Bool). both_sides t d) (λ i a. h a i)

  all_moved : (test other : Side → Bool) (ds : List Draft) → ((a : Side) → test (side_named at a) ≡ other a) → list_all (both_sides test) (map (renamed at) ds) ≡ list_all (both_sides other) ds
  all_moved test other [] h = refl
  all_moved test other (d ∷ ds) h = λ i. both_moved test other d h i && all_moved test other ds h i

  clear_moved : (q : SlotRef) (lo hi : ℕ) (a : Side) → is_clear (at q) lo hi (side_named at a) ≡ is_clear q lo hi a
  clear_moved q lo hi a =
      let same : same_space (renamed_space at (space_of a.site)) (space.Slot (at q)) ≡ same_space (space_of a.site) (space.Slot q) = same_spaces (space_of a.site) (space.Slot q) in
      simp (start_renamed at, space_renamed at, same) refl

  fixed_moved : (q : SlotRef) (d : Draft) (a : Side) → spares_fixed (at q) (renamed at d) (side_named at a) ≡ spares_fixed q d a
  fixed_moved q d a =
      λ i. clear_moved q 8 24 a i && (clear_moved q 32 40 a i && (clear_moved q 56 64 a i && (table_renamed at d.remote i || clear_moved q 24 32 a i)))

  pub keeps_moved : (q : SlotRef) (all ds : List Draft) → keeps_fixed (at q) (map (renamed at) all) (map (renamed at) ds) ≡ keeps_fixed q all ds
  keeps_moved q all [] = refl
  keeps_moved q all (d ∷ ds) =
      (λ i. all_moved (spares_fixed (at q) (renamed at d)) (spares_fixed q d) all (fixed_moved q d) i && keeps_fixed (sym (next ring first q) i) (map (renamed at) all) (map (renamed at) ds)) ∙ ap (λ (b : Bool). list_all (both_sides (spares_fixed q d)) all && b) (keeps_moved (next_slot q) all ds)

  low_moved : (n : ℕ) (a : Side) → low_or_operand (first + n) (side_named at a) ≡ low_or_operand n a
  low_moved n a = (λ i. not a.writes || (is_low (first + n) (space_renamed at a.site i) || (nat_le 40 (start_renamed at a.site i + a.byte) && nat_le ((start_renamed at a.site i + a.byte) + a.len) 56))) ∙ ap (λ (b : Bool). not a.writes || (b || is_operand a)) (by_space (space_of a.site))
    where
      by_space : (p : Space) → is_low (first + n) (renamed_space at p) ≡ is_low n p
      by_space (space.Slot q) = lt_moved first q.slot n (first + n) refl
      by_space (space.Cell c) = refl
      by_space space.Reply = refl
      by_space space.Key = refl
      by_space (space.Scratch i) = refl
      by_space (space.Descriptor i) = refl
      by_space (space.Table t) = refl

  pub lows_moved : (n : ℕ) (ds : List Draft) → list_all (both_sides (low_or_operand (first + n))) (map (renamed at) ds) ≡ list_all (both_sides (low_or_operand n)) ds
  lows_moved n ds = all_moved (low_or_operand (first + n)) (low_or_operand n) ds (low_moved n)
