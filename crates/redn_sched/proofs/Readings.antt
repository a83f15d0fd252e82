-- Each line of a schedule is skipped, an action or bad, so each text is read.
use Rattle.std.proofs.Common.{◌≡◌, ℕ, ◌+◌, ◌^◌, ◌<◌, Bool, true, false, List, [], ◌∷◌, ◌++◌, take, drop, decimal, inl, inr, refl, sym, ap, subst, ◌∙◌, arith}
use Rattle.std.specs.Prelude.{◌⊎◌, Option, Some, None, codes, nat_eq}
use Rattle.std.specs.List.{prefix_len}
use Rattle.std.specs.Str.Parse.{digits_value}
use Rattle.std.specs.Cmp.Lexicographic.{pointwise, bytes_decides}
use Rattle.std.proofs.lemmas.Bool.{true≢false, cases_lt, cases_eq}
use Rattle.std.proofs.lemmas.Fmt.{decimal_is_IsNumeral, decimal_injective}
use Rattle.redn_words.specs.declared.types.Action.{Action}
use Rattle.redn_words.specs.declared.types.Action.TheVariants.{Deliver, Fetch, Start, Land, Complete}
use Rattle.redn_sched.specs.declared.text.Numbered.{Numbered}
use Rattle.redn_text.specs.Texts.{is_not}
use Rattle.redn_sched.specs.ScheduleText.{pair_text, action_text, IsAction, IsSkipped, lines_of, Reads, Begins}
use Rattle.redn_sched.specs.Laws.{EachTextIsRead, EachTextIsReadOnce, BeginningsAreRead}
use Rattle.redn_text.proofs.Fields.{pair_split, front_of, behind_of}
use Rattle.redn_sched.proofs.OneReading.{one_action, no_skipped_action, one_reading}

-- it is so, or it isn't
abbrev Decided : Type 0 → Type 0
Decided P = P ⊎ (¬ P)

same_or_not : (xs ys : List ℕ) → Decided (xs ≡ ys)
same_or_not xs ys = by_test (pointwise nat_eq xs ys) refl
  where
    by_test : (b : Bool) → pointwise nat_eq xs ys ≡ b → Decided (xs ≡ ys)
    by_test true e = inl ((bytes_decides xs ys).0 e)
    by_test false e = inr (λ q. true≢false (sym ((bytes_decides xs ys).1 q) ∙ e))

-- these digits are a number's below a bound
abbrev IsOfNumber : ℕ → List ℕ → Type 0
IsOfNumber bound digits = (n : ℕ) × (n < bound) × (digits ≡ decimal n)

number_of : (digits : List ℕ) → Decided (IsOfNumber (2 ^ 64) digits)
number_of digits = elim (cases_lt (digits_value 10 digits) (2 ^ 64)) [
  | inl l ↦ elim (same_or_not digits (decimal (digits_value 10 digits))) [
    | inl e ↦ inl (digits_value 10 digits, l, e)
    | inr none ↦ inr (λ x. none (x.2 ∙ ap decimal (sym (value x))))
  ]
  | inr g ↦ inr (λ x. let v = value x in omega (arith, g, v, x.1))
]
  where
    value : (x : IsOfNumber (2 ^ 64) digits) → digits_value 10 digits ≡ x.0
    value x = ap (digits_value 10) x.2 ∙ (decimal_is_IsNumeral x.0 x.1).1

small_of : (digits : List ℕ) → Decided (IsOfNumber (2 ^ 32) digits)
small_of digits = elim (number_of digits) [
  | inl x ↦ elim (cases_lt x.0 (2 ^ 32)) [
    | inl l ↦ inl (x.0, l, x.2)
    | inr g ↦ inr (λ y. let wide : y.0 < 2 ^ 64 = omega (arith, y.1) in let same = decimal_injective x.0 y.0 x.1 wide (sym x.2 ∙ y.2) in omega (arith, g, same, y.1))
  ]
  | inr none ↦ inr (λ y. let wide : y.0 < 2 ^ 64 = omega (arith, y.1) in none (y.0, wide, y.2))
]

-- this text is of two numbers
abbrev IsOfPair : List ℕ → Type 0
IsOfPair text = (q : ℕ) × (i : ℕ) × (q < 2 ^ 32) × (i < 2 ^ 64) × (text ≡ pair_text q i)

pair_of : (text : List ℕ) → Decided (IsOfPair text)
pair_of text = elim (small_of front) [
  | inl q ↦ elim (number_of behind) [
    | inl i ↦ elim (same_or_not text (pair_text q.0 i.0)) [
      | inl e ↦ inl (q.0, i.0, q.1, i.1, e)
      | inr none ↦ inr (λ x. none (x.4 ∙ ap (λ d. d ++ (codes " " ++ decimal x.1)) (sym (fronts x) ∙ q.2) ∙ ap (λ d. decimal q.0 ++ (codes " " ++ d)) (sym (behinds x) ∙ i.2)))
    ]
    | inr none ↦ inr (λ x. none (x.1, x.3, behinds x))
  ]
  | inr none ↦ inr (λ x. none (x.0, x.2, fronts x))
]
  where
    front : List ℕ
    front = take (prefix_len (is_not 32) text) text

    behind : List ℕ
    behind = drop 1 (drop (prefix_len (is_not 32) text) text)

    fronts : (x : IsOfPair text) → front ≡ decimal x.0
    fronts x = front_of 32 text (decimal x.0) (decimal x.1) (pair_split x.0 x.1 text (let wide : x.0 < 2 ^ 64 = omega (arith, x.2) in wide) x.4)

    behinds : (x : IsOfPair text) → behind ≡ decimal x.1
    behinds x = ap (drop 1) (behind_of 32 text (decimal x.0) (decimal x.1) (pair_split x.0 x.1 text (let wide : x.0 < 2 ^ 64 = omega (arith, x.2) in wide) x.4))

-- a text begins with these two bytes
two_first : (a b : ℕ) (line : List ℕ) → Decided (line ≡ a ∷ b ∷ drop 2 line)
two_first a b line = same_or_not line (a ∷ b ∷ drop 2 line)

-- ---- a line is an action's, or no action's

module _ (line : List ℕ) where
  abbrev OfOne : ℕ → (ℕ → Action) → Type 0
  OfOne letter action = (n : ℕ) × (n < 2 ^ 32) × (line ≡ letter ∷ 32 ∷ decimal n)

  of_one : (letter : ℕ) (action : ℕ → Action) → Decided (OfOne letter action)
  of_one letter action = elim (two_first letter 32 line) [
    | inl e ↦ elim (small_of (drop 2 line)) [
      | inl x ↦ inl (x.0, x.1, e ∙ ap (λ d. letter ∷ 32 ∷ d) x.2)
      | inr none ↦ inr (λ y. none (y.0, y.1, ap (drop 2) y.2))
    ]
    | inr none ↦ inr (λ y. none (y.2 ∙ ap (λ d. letter ∷ 32 ∷ d) (sym (ap (drop 2) y.2))))
  ]

  abbrev OfTwo : ℕ → Type 0
  OfTwo letter = (q : ℕ) × (i : ℕ) × (q < 2 ^ 32) × (i < 2 ^ 64) × (line ≡ letter ∷ 32 ∷ pair_text q i)

  of_two : (letter : ℕ) → Decided (OfTwo letter)
  of_two letter = elim (two_first letter 32 line) [
    | inl e ↦ elim (pair_of (drop 2 line)) [
      | inl x ↦ inl (x.0, x.1, x.2, x.3, e ∙ ap (λ d. letter ∷ 32 ∷ d) x.4)
      | inr none ↦ inr (λ y. none (y.0, y.1, y.2, y.3, ap (drop 2) y.4))
    ]
    | inr none ↦ inr (λ y. none (y.4 ∙ ap (λ d. letter ∷ 32 ∷ d) (sym (ap (drop 2) y.4))))
  ]

  action_of : Decided ((a : Action) × IsAction line a)
  unfolding action_text
  action_of = elim (of_one 100 Deliver) [
    | inl d ↦ inl (Deliver d.0, record { text = d.2; fits = d.1 })
    | inr no_d ↦ elim (of_two 102) [
      | inl f ↦ inl (Fetch f.0 f.1, record { text = f.4; fits = (f.2, f.3) })
      | inr no_f ↦ elim (of_one 115 Start) [
        | inl s ↦ inl (Start s.0, record { text = s.2; fits = s.1 })
        | inr no_s ↦ elim (of_two 108) [
          | inl l ↦ inl (Land l.0 l.1, record { text = l.4; fits = (l.2, l.3) })
          | inr no_l ↦ elim (of_one 99 Complete) [
            | inl c ↦ inl (Complete c.0, record { text = c.2; fits = c.1 })
            | inr no_c ↦ inr (λ x. none_of no_d no_f no_s no_l no_c x.0 x.1)
          ]
        ]
      ]
    ]
  ]
    where
      none_of : (¬ OfOne 100 Deliver) → (¬ OfTwo 102) → (¬ OfOne 115 Start) → (¬ OfTwo 108) → (¬ OfOne 99 Complete) → (a : Action) → ¬ IsAction line a
      none_of d f s l c (Deliver n) h = d (n, h.fits, h.text)
      none_of d f s l c (Fetch q i) h = f (q, i, h.fits.0, h.fits.1, h.text)
      none_of d f s l c (Start n) h = s (n, h.fits, h.text)
      none_of d f s l c (Land q i) h = l (q, i, h.fits.0, h.fits.1, h.text)
      none_of d f s l c (Complete n) h = c (n, h.fits, h.text)

skipped : (line : List ℕ) → Decided (IsSkipped line)
skipped [] = inl tt
skipped (b ∷ rest) = cases_eq b 35

-- ---- the lines of a text

from_line : (n : ℕ) (lines : List (List ℕ)) → (xs : List Numbered) × (bad : Option ℕ) × Reads n lines xs bad
from_line n [] = ([], None, tt)
from_line n (line ∷ rest) = elim (skipped line) [
  | inl skip ↦ let more = from_line (n + 1) rest in (more.0, more.1, behind_skipped more.0 more.1 skip more.2)
  | inr meant ↦ elim (action_of line) [
    | inl a ↦ let more = from_line (n + 1) rest in (record { line = n; action = a.0 } ∷ more.0, more.1, inl (a.1, refl, more.2))
    | inr none ↦ ([], Some n, inl (record { meant = meant; no_action = λ a h. none (a, h) }, refl))
  ]
]
  where
    behind_skipped : (xs : List Numbered) (bad : Option ℕ) → IsSkipped line → Reads (n + 1) rest xs bad → Reads n (line ∷ rest) xs bad
    behind_skipped [] bad skip h = inr (skip, h)
    behind_skipped (x ∷ xs) bad skip h = inr (skip, h)

pub each_text : EachTextIsRead
each_text = λ text. from_line 1 (lines_of text)

pub each_text_once : EachTextIsReadOnce
each_text_once = λ text lines others bad other h k. one_reading 1 (lines_of text) lines others bad other h k

-- ---- first actions

same_numbered : (n : ℕ) (line : List ℕ) (x y : Numbered) → IsAction line x.action → x.line ≡ n → IsAction line y.action → y.line ≡ n → y ≡ x
same_numbered n line x y a e b f =
    let action = one_action line y.action x.action b a in
    let number : y.line ≡ x.line = f ∙ sym e in
    ap (λ (k : ℕ). let z : Numbered = record { line = k; action = y.action } in z) number ∙ ap (λ (c : Action). let z : Numbered = record { line = x.line; action = c } in z) action

reads_first : (n : ℕ) (lines : List (List ℕ)) (xs ys : List Numbered) (bad : Option ℕ) → Begins n lines xs → Reads n lines ys bad → (more : List Numbered) × (ys ≡ xs ++ more)
reads_first n lines [] ys bad b r = (ys, refl)
reads_first n [] (x ∷ xs) ys bad b r = absurd b
reads_first n (line ∷ rest) (x ∷ xs) [] bad (inl a) (inl r) = absurd (r.0.no_action x.action a.0)
reads_first n (line ∷ rest) (x ∷ xs) [] bad (inl a) (inr r) = absurd (no_skipped_action line x.action a.0 r.0)
reads_first n (line ∷ rest) (x ∷ xs) [] bad (inr s) (inl r) = absurd (r.0.meant s.0)
reads_first n (line ∷ rest) (x ∷ xs) [] bad (inr s) (inr r) = reads_first (n + 1) rest (x ∷ xs) [] bad s.1 r.1
reads_first n (line ∷ rest) (x ∷ xs) (y ∷ ys) bad (inl a) (inl r) =
    let more = reads_first (n + 1) rest xs ys bad a.2 r.2 in
    (more.0, ap (λ l. y ∷ l) more.1 ∙ ap (λ z. z ∷ (xs ++ more.0)) (same_numbered n line x y a.0 a.1 r.0 r.1))
reads_first n (line ∷ rest) (x ∷ xs) (y ∷ ys) bad (inl a) (inr r) = absurd (no_skipped_action line x.action a.0 r.0)
reads_first n (line ∷ rest) (x ∷ xs) (y ∷ ys) bad (inr s) (inl r) = absurd (no_skipped_action line y.action r.0 s.0)
reads_first n (line ∷ rest) (x ∷ xs) (y ∷ ys) bad (inr s) (inr r) = reads_first (n + 1) rest (x ∷ xs) (y ∷ ys) bad s.1 r.1

begins_read : (n : ℕ) (lines : List (List ℕ)) (xs more : List Numbered) (bad : Option ℕ) → Reads n lines (xs ++ more) bad → Begins n lines xs
begins_read n lines [] more bad r = tt
begins_read n [] (x ∷ xs) more None r = absurd r
begins_read n [] (x ∷ xs) more (Some m) r = absurd r
begins_read n (line ∷ rest) (x ∷ xs) more bad (inl r) = inl (r.0, r.1, begins_read (n + 1) rest xs more bad r.2)
begins_read n (line ∷ rest) (x ∷ xs) more bad (inr r) = inr (r.0, begins_read (n + 1) rest (x ∷ xs) more bad r.1)

pub beginnings : BeginningsAreRead
beginnings = λ text lines bad r first. (
  λ b. reads_first 1 (lines_of text) first lines bad b r,
  λ m. begins_read 1 (lines_of text) first m.0 bad (subst (λ (l : List Numbered). Reads 1 (lines_of text) l bad) m.1 r),
)
