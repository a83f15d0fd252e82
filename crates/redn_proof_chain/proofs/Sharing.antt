-- Which part of a list of parts a segment belongs to.
use Rattle.std.proofs.Common.{◌≡◌, ℕ, zero, suc, ◌+◌, ◌-◌, ◌<◌, ◌≤◌, inl, inr, Bool, true, false, cond, ◌==◌, List, [], ◌∷◌, ◌++◌, map, length, refl, sym, ap, ◌∙◌, arith, length-append, append_assoc}
use Rattle.std.specs.Prelude.{nat_lt, slice_get, Some}
use Rattle.std.proofs.lemmas.Bool.{cases_lt, eqb-true, ne_eqb, le-ltb as lt_false}
use Rattle.redn_segment.specs.declared.types.Draft.{Draft}
use Rattle.redn_proof_block.specs.Shares.{place_in, begins_in, left_in}
use Rattle.redn_proof_ring.proofs.LapWindows.{lt_true}

pub cond_true : {A : Type 0} (b : Bool) (x y : A) → b ≡ true → cond b x y ≡ x
cond_true b x y e = rw e refl

pub cond_false : {A : Type 0} (b : Bool) (x y : A) → b ≡ false → cond b x y ≡ y
cond_false b x y e = rw e refl

module _ (n : ℕ) (ns : List ℕ) (j : ℕ) where
  pub place_here : j < n → place_in (n ∷ ns) j ≡ 0
  place_here l = cond_true (nat_lt j n) 0 (suc (place_in ns (j - n))) (lt_true j n l)

  pub place_later : n ≤ j → place_in (n ∷ ns) j ≡ suc (place_in ns (j - n))
  place_later l = cond_false (nat_lt j n) 0 (suc (place_in ns (j - n))) (lt_false j n l)

  pub left_here : j < n → left_in (n ∷ ns) j ≡ n - suc j
  left_here l = cond_true (nat_lt j n) (n - suc j) (left_in ns (j - n)) (lt_true j n l)

  pub left_later : n ≤ j → left_in (n ∷ ns) j ≡ left_in ns (j - n)
  left_later l = cond_false (nat_lt j n) (n - suc j) (left_in ns (j - n)) (lt_false j n l)

  pub begins_here : j < n → begins_in (n ∷ ns) j ≡ (j == 0)
  begins_here l = cond_true (nat_lt j n) (j == 0) (begins_in ns (j - n)) (lt_true j n l)

  pub begins_later : n ≤ j → begins_in (n ∷ ns) j ≡ begins_in ns (j - n)
  begins_later l = cond_false (nat_lt j n) (j == 0) (begins_in ns (j - n)) (lt_false j n l)

abbrev pub flat : List (List (List Draft)) → List (List Draft)
flat [] = []
flat (p ∷ ps) = p ++ flat ps

abbrev pub counts : List (List (List Draft)) → List ℕ
counts ps = map (λ (part : List (List Draft)). length part) ps

-- the part that begins at segment j
pub record Cut (ps : List (List (List Draft))) (j : ℕ) : Type 0 where
  pub before : List (List Draft)
  pub part : List (List Draft)
  pub behind : List (List Draft)
  pub whole : flat ps ≡ before ++ (part ++ behind)
  pub size : length before ≡ j
  pub there : slice_get ps (place_in (counts ps) j) ≡ Some part
  pub left : suc (left_in (counts ps) j) ≡ length part

pub cut : (ps : List (List (List Draft))) (j : ℕ) → j < length (flat ps) → begins_in (counts ps) j ≡ true → Cut ps j
cut [] j l b = absurd (omega (arith, l))
cut (p ∷ ps) j l b =
    elim (cases_lt j (length p)) [
      | inl low ↦
          let none : j ≡ 0 = eqb-true j 0 (sym (begins_here (length p) (counts ps) j low) ∙ b) in
          let place = place_here (length p) (counts ps) j low in
          let left = left_here (length p) (counts ps) j low in
          record { before = []; part = p; behind = flat ps; whole = refl; size = sym none; there = ap (slice_get (p ∷ ps)) place; left = omega (arith, left, none, low) }
      | inr high ↦
          let total : length (p ++ flat ps) ≡ length p + length (flat ps) = length-append p (flat ps) in
          let inner : Cut ps (j - length p) = cut ps (j - length p) (omega (arith, total, l, high)) (sym (begins_later (length p) (counts ps) j high) ∙ b) in
          later inner high
    ]
  where
    later : Cut ps (j - length p) → length p ≤ j → Cut (p ∷ ps) j
    later c high =
        let place = place_later (length p) (counts ps) j high in
        let left = left_later (length p) (counts ps) j high in
        let size : length (p ++ c.before) ≡ length p + length c.before = length-append p c.before in
        let inner = c.size in
        let rest = c.left in
        record {
          before = p ++ c.before;
          part = c.part;
          behind = c.behind;
          whole = ap (λ (x : List (List Draft)). p ++ x) c.whole ∙ sym (append_assoc p c.before (c.part ++ c.behind));
          size = omega (arith, size, inner, high);
          there = ap (slice_get (p ∷ ps)) place ∙ c.there;
          left = ap suc left ∙ rest;
        }

-- where a part begins
pub begins_first : (ns : List ℕ) → begins_in ns 0 ≡ true
begins_first [] = refl
begins_first (zero ∷ ns) = begins_first ns
begins_first (suc n ∷ ns) = begins_here (suc n) ns 0 (omega arith)

-- behind a segment that isn't its part's last stands the next one of the part; behind the last one begins the next part
pub record Behind (ns : List ℕ) (j : ℕ) : Type 0 where
  pub inside : (k : ℕ) → left_in ns j ≡ suc k → (left_in ns (suc j) ≡ k) × (place_in ns (suc j) ≡ place_in ns j) × (begins_in ns (suc j) ≡ false)
  pub over : left_in ns j ≡ 0 → begins_in ns (suc j) ≡ true

pub behind : (ns : List ℕ) (j : ℕ) → Behind ns j
behind [] j = record { inside = λ k e. absurd (omega (arith, e)); over = λ e. refl }
behind (n ∷ ns) j =
    elim (cases_lt j n) [
      | inl low ↦
          let here = left_here n ns j low in
          record {
            inside = λ k e.
                let next : suc j < n = omega (arith, e, here, low) in
                let left = left_here n ns (suc j) next in
                (omega (arith, left, e, here), place_here n ns (suc j) next ∙ sym (place_here n ns j low), begins_here n ns (suc j) next ∙ ne_eqb (suc j) 0 (λ z. omega (arith, z)));
            over = λ e. let past : suc j ≡ n = omega (arith, e, here, low) in begins_later n ns (suc j) (omega (arith, past)) ∙ ap (begins_in ns) (omega (arith, past)) ∙ begins_first ns;
          }
      | inr high ↦
          let h : Behind ns (j - n) = behind ns (j - n) in
          let same : suc j - n ≡ suc (j - n) = omega (arith, high) in
          let past : n ≤ suc j = omega (arith, high) in
          let here = left_later n ns j high in
          record {
            inside = λ k e.
                let inner = h.inside k (sym here ∙ e) in (
                  left_later n ns (suc j) past ∙ ap (left_in ns) same ∙ inner.0,
                  place_later n ns (suc j) past ∙ ap (λ (x : ℕ). suc (place_in ns x)) same ∙ ap suc inner.1 ∙ sym (place_later n ns j high),
                  begins_later n ns (suc j) past ∙ ap (begins_in ns) same ∙ inner.2,
                );
            over = λ e. begins_later n ns (suc j) past ∙ ap (begins_in ns) same ∙ h.over (sym here ∙ e);
          }
    ]

-- the last segment of all is the last of its part
pub left_last : (ps : List (List (List Draft))) (j : ℕ) → suc j ≡ length (flat ps) → left_in (counts ps) j ≡ 0
left_last [] j e = absurd (omega (arith, e))
left_last (p ∷ ps) j e =
    let total : length (p ++ flat ps) ≡ length p + length (flat ps) = length-append p (flat ps) in
    elim (cases_lt j (length p)) [
      | inl low ↦ let left = left_here (length p) (counts ps) j low in omega (arith, left, low, e, total)
      | inr high ↦ left_later (length p) (counts ps) j high ∙ left_last ps (j - length p) (omega (arith, high, e, total))
    ]
