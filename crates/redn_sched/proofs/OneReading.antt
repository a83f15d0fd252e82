-- A text is read in one way: a line is skipped, is one action's, or is bad.
use Rattle.std.proofs.Common.{◌≡◌, ℕ, ◌+◌, ◌^◌, ◌<◌, List, [], ◌∷◌, drop, decimal, refl, sym, ap, subst, ◌∙◌, inl, inr, arith}
use Rattle.std.specs.Prelude.{Option, Some, None}
use Rattle.std.proofs.lemmas.Fmt.{decimal_injective}
use Rattle.redn_words.specs.declared.types.Action.{Action}
use Rattle.redn_words.specs.declared.types.Action.TheVariants.{Deliver, Fetch, Start, Land, Complete}
use Rattle.redn_sched.specs.declared.text.Numbered.{Numbered}
use Rattle.redn_sched.specs.ScheduleText.{pair_text, action_text, Fits, IsAction, IsSkipped, Reads}
use Rattle.redn_text.proofs.Fields.{pair_split, same_split}

abbrev pub first_byte : List ℕ → ℕ
first_byte [] = 0
first_byte (b ∷ line) = b

-- an action's line is no empty one and no remark
not_skipped : (a : Action) → ¬ IsSkipped (action_text a)
unfolding action_text
not_skipped (Deliver c) s = omega arith
not_skipped (Fetch q i) s = omega arith
not_skipped (Start q) s = omega arith
not_skipped (Land q i) s = omega arith
not_skipped (Complete q) s = omega arith

same_small : (m n : ℕ) → m < 2 ^ 32 → n < 2 ^ 32 → decimal m ≡ decimal n → m ≡ n
same_small m n a b e = decimal_injective m n (omega arith) (omega arith) e

same_pair : (q i r j : ℕ) → (q < 2 ^ 32) × (i < 2 ^ 64) → (r < 2 ^ 32) × (j < 2 ^ 64) → pair_text q i ≡ pair_text r j → (q ≡ r) × (i ≡ j)
same_pair q i r j a b e =
    let wide : q < 2 ^ 64 = omega (arith, a.0) in
    let wide' : r < 2 ^ 64 = omega (arith, b.0) in
    let same = same_split 32 (pair_text q i) (decimal q) (decimal i) (decimal r) (decimal j) (pair_split q i _ wide refl) (pair_split r j _ wide' e) in
    (decimal_injective q r wide wide' same.0, decimal_injective i j a.1 b.1 same.1)

-- two actions whose numbers fit have two lines
pub same_action : (a b : Action) → Fits a → Fits b → action_text a ≡ action_text b → a ≡ b
unfolding action_text
same_action (Deliver c) (Deliver d) f g e = ap Deliver (same_small c d f g (ap (drop 2) e))
same_action (Fetch q i) (Fetch r j) f g e = let same = same_pair q i r j f g (ap (drop 2) e) in cc
same_action (Start q) (Start r) f g e = ap Start (same_small q r f g (ap (drop 2) e))
same_action (Land q i) (Land r j) f g e = let same = same_pair q i r j f g (ap (drop 2) e) in cc
same_action (Complete q) (Complete r) f g e = ap Complete (same_small q r f g (ap (drop 2) e))
same_action a b f g e = absurd (omega (arith, ap first_byte e))

-- a line is at most one action's
pub one_action : (line : List ℕ) (a b : Action) → IsAction line a → IsAction line b → a ≡ b
one_action line a b h k = same_action a b h.fits k.fits (sym h.text ∙ k.text)

-- and then it isn't skipped
pub no_skipped_action : (line : List ℕ) (a : Action) → IsAction line a → ¬ IsSkipped line
no_skipped_action line a h s = not_skipped a (subst IsSkipped h.text s)

same_numbered : (x y : Numbered) → x.line ≡ y.line → x.action ≡ y.action → x ≡ y
same_numbered x y e f = ap (λ (n : ℕ). let z : Numbered = record { line = n; action = x.action } in z) e ∙ ap (λ (a : Action). let z : Numbered = record { line = y.line; action = a } in z) f

-- two readings of the same lines have the same list, and the same bad line
pub one_reading : (n : ℕ) (lines : List (List ℕ)) (xs ys : List Numbered) (bad other : Option ℕ) → Reads n lines xs bad → Reads n lines ys other → (xs ≡ ys) × (bad ≡ other)
one_reading n [] [] [] None None h k = (refl, refl)
one_reading n [] [] [] None (Some m) h k = absurd k
one_reading n [] [] [] (Some m) other h k = absurd h
one_reading n [] [] (y ∷ ys) bad other h k = absurd k
one_reading n [] (x ∷ xs) ys bad other h k = absurd h
one_reading n (line ∷ rest) [] [] bad other h k =
    elim h [
      | inl b ↦ elim k [ inl c ↦ (refl, b.1 ∙ sym c.1) | inr s ↦ absurd (b.0.meant s.0) ]
      | inr s ↦ elim k [ inl c ↦ absurd (c.0.meant s.0) | inr t ↦ one_reading (n + 1) rest [] [] bad other s.1 t.1 ]
    ]
one_reading n (line ∷ rest) [] (y ∷ ys) bad other h k =
    elim h [
      | inl b ↦ elim k [ inl c ↦ absurd (b.0.no_action y.action c.0) | inr s ↦ absurd (b.0.meant s.0) ]
      | inr s ↦ elim k [ inl c ↦ absurd (no_skipped_action line y.action c.0 s.0) | inr t ↦ one_reading (n + 1) rest [] (y ∷ ys) bad other s.1 t.1 ]
    ]
one_reading n (line ∷ rest) (x ∷ xs) [] bad other h k =
    elim h [
      | inl b ↦ elim k [ inl c ↦ absurd (c.0.no_action x.action b.0) | inr s ↦ absurd (no_skipped_action line x.action b.0 s.0) ]
      | inr s ↦ elim k [ inl c ↦ absurd (c.0.meant s.0) | inr t ↦ one_reading (n + 1) rest (x ∷ xs) [] bad other s.1 t.1 ]
    ]
one_reading n (line ∷ rest) (x ∷ xs) (y ∷ ys) bad other h k =
    elim h [
      | inl b ↦
          elim k [
            | inl c ↦
                let later = one_reading (n + 1) rest xs ys bad other b.2 c.2 in
                let first = same_numbered x y (b.1 ∙ sym c.1) (one_action line x.action y.action b.0 c.0) in
                (ap (λ z. z ∷ xs) first ∙ ap (λ zs. y ∷ zs) later.0, later.1)
            | inr s ↦ absurd (no_skipped_action line x.action b.0 s.0)
          ]
      | inr s ↦
          elim k [
            | inl c ↦ absurd (no_skipped_action line y.action c.0 s.0)
            | inr t ↦ one_reading (n + 1) rest (x ∷ xs) (y ∷ ys) bad other s.1 t.1
          ]
    ]
