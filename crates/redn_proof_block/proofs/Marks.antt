-- Where a segment is in its block, by how many segments each part has.
use Rattle.std.proofs.Common.{◌≡◌, ◌⊎◌, inl, inr, ℕ, zero, suc, ◌+◌, ◌-◌, ◌<◌, ◌≤◌, Bool, true, false, cond, ◌==◌, List, [], ◌∷◌, ◌++◌, length, map, refl, sym, ap, ◌∙◌, arith, length-append}
use Rattle.std.specs.Prelude.{nat_lt, get_or}
use Rattle.std.proofs.Math.ListN.{get_or-append}
use Rattle.std.proofs.Math.Seq.{get_or-append_right}
use Rattle.std.proofs.lemmas.Bool.{eq-eqb, ne_eqb, cases_lt, le-ltb as lt_false}
use Rattle.redn_segment.specs.declared.types.SlotRef.{SlotRef}
use Rattle.redn_segment.specs.declared.types.Draft.{Draft}
use Rattle.redn_segment.specs.Effects.{slot_behind}
use Rattle.redn_block.specs.Blocks.{Part, part_segments, part_size, all_segments}
use Rattle.redn_proof_ring.proofs.LapWindows.{lt_true}
use Rattle.redn_proof_block.specs.Parts.{Mark, is_last, marks_of, all_marks}
use Rattle.redn_proof_block.specs.Shares.{parts_from, place_in, begins_in, left_in, closes_in}

abbrev mark : ℕ → Bool → Bool → Mark
mark place opens closes = record { place = place; opens = opens; closes = closes }

length-marks : (place : ℕ) (opens : Bool) (xs : List (List Draft)) → length (marks_of place opens xs) ≡ length xs
length-marks place opens [] = refl
length-marks place opens (x ∷ xs) = let h = length-marks place false xs in omega (arith, h)

-- in a part
last_is : (rest : List (List Draft)) → is_last rest ≡ (suc (length rest) - 1 == 0)
last_is [] = sym (eq-eqb (suc 0 - 1) 0 (let e : suc 0 - 1 ≡ 0 = omega arith in e))
last_is (x ∷ rest) = sym (ne_eqb (suc (suc (length rest)) - 1) 0 (λ e. omega (arith, e)))

one_or_none : (b : Bool) → cond b false false ≡ false
one_or_none true = refl
one_or_none false = refl

mark_at : (xs : List (List Draft)) (place : ℕ) (opens : Bool) (j : ℕ) (d : Mark) → j < length xs → get_or (marks_of place opens xs) j d ≡ mark place (cond (j == 0) opens false) (length xs - suc j == 0)
mark_at [] place opens j d l = absurd (omega (arith, l))
mark_at (x ∷ rest) place opens zero d l = ap (mark place opens) (last_is rest)
mark_at (x ∷ rest) place opens (suc i) d l =
    let h = mark_at rest place false i d (omega (arith, l)) in
    let other : (suc i == 0) ≡ false = ne_eqb (suc i) 0 (λ e. omega (arith, e)) in
    let left : length rest - suc i ≡ suc (length rest) - suc (suc i) = omega arith in
    h ∙ (ap (λ (b : Bool). mark place b (length rest - suc i == 0)) (one_or_none (i == 0) ∙ ap (λ (b : Bool). cond b opens false) (sym other)) ∙ ap (λ (n : ℕ). mark place (cond (suc i == 0) opens false) (n == 0)) left)

opens_is : (b : Bool) → cond b true false ≡ b
opens_is true = refl
opens_is false = refl

abbrev counts : SlotRef → List Part → List ℕ
counts at ps = map (λ (part : List (List Draft)). length part) (parts_from at ps)

-- in all parts from one on
pub marks_are : (ps : List Part) (place : ℕ) (at : SlotRef) (j : ℕ) (d : Mark) → j < length (all_segments at ps) → get_or (all_marks place at ps) j d ≡ mark (place + place_in (counts at ps) j) (begins_in (counts at ps) j) (closes_in (counts at ps) j)
marks_are [] place at j d l = absurd (omega (arith, l))
marks_are (p ∷ ps) place at j d l = by_part (cases_lt j n) (λ i small. marks_are ps (suc place) (slot_behind at (part_size at p)) i d small)
  where
    xs : List (List Draft)
    xs = part_segments at p

    n : ℕ
    n = length xs

    behind : SlotRef
    behind = slot_behind at (part_size at p)

    by_part : (j < n) ⊎ (n ≤ j) → ((i : ℕ) → i < length (all_segments behind ps) → get_or (all_marks (suc place) behind ps) i d ≡ mark (suc place + place_in (counts behind ps) i) (begins_in (counts behind ps) i) (closes_in (counts behind ps) i)) → get_or (marks_of place true xs ++ all_marks (suc place) behind ps) j d ≡ mark (place + cond (nat_lt j n) 0 (suc (place_in (counts behind ps) (j - n)))) (cond (nat_lt j n) (j == 0) (begins_in (counts behind ps) (j - n))) (cond (nat_lt j n) (n - suc j) (left_in (counts behind ps) (j - n)) == 0)
    by_part (inl low) again =
        let long = length-marks place true xs in
        let test : nat_lt j n ≡ true = lt_true j n low in
        get_or-append (marks_of place true xs) (all_marks (suc place) behind ps) d j (omega (arith, long, low)) ∙ (mark_at xs place true j d low ∙ (ap (λ (b : Bool). mark place b (n - suc j == 0)) (opens_is (j == 0)) ∙ (ap (λ (m : ℕ). mark m (j == 0) (n - suc j == 0)) (let e : place ≡ place + 0 = omega arith in e) ∙ ap (λ (b : Bool). mark (place + cond b 0 (suc (place_in (counts behind ps) (j - n)))) (cond b (j == 0) (begins_in (counts behind ps) (j - n))) (cond b (n - suc j) (left_in (counts behind ps) (j - n)) == 0)) (sym test))))
    by_part (inr high) again =
        let long = length-marks place true xs in
        let test : nat_lt j n ≡ false = lt_false j n high in
        let rest = again (j - n) (let total = length-append xs (all_segments behind ps) in omega (arith, l, total, high)) in
        get_or-append_right (marks_of place true xs) (all_marks (suc place) behind ps) j d (omega (arith, long, high)) ∙ (ap (λ (m : ℕ). get_or (all_marks (suc place) behind ps) (j - m) d) long ∙ (rest ∙ (ap (λ (m : ℕ). mark m (begins_in (counts behind ps) (j - n)) (closes_in (counts behind ps) (j - n))) (let e : suc place + place_in (counts behind ps) (j - n) ≡ place + suc (place_in (counts behind ps) (j - n)) = omega arith in e) ∙ ap (λ (b : Bool). mark (place + cond b 0 (suc (place_in (counts behind ps) (j - n)))) (cond b (j == 0) (begins_in (counts behind ps) (j - n))) (cond b (n - suc j) (left_in (counts behind ps) (j - n)) == 0)) (sym test))))
