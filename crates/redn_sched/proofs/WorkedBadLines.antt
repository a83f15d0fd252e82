-- Bad lines typed by hand.
use Rattle.std.proofs.Common.{◌≡◌, ◌≢◌, ℕ, zero, suc, ◌^◌, ◌<◌, true, List, [], ◌∷◌, ◌++◌, drop, decimal, get_or, ap, arith, lit<}
use Rattle.std.specs.Prelude.{codes}
use Rattle.std.specs.Fmt.{digits}
use Rattle.std.specs.List.{list_all}
use Rattle.std.proofs.lemmas.Fmt.{decimal_digit, decimal_injective, first_decimal}
use Rattle.redn_words.specs.declared.types.Action.{Action}
use Rattle.redn_words.specs.declared.types.Action.TheVariants.{Deliver, Fetch, Start, Land, Complete}
use Rattle.redn_text.specs.Texts.{is_not}
use Rattle.redn_sched.specs.ScheduleText.{pair_text, action_text, IsAction, IsBad}
use Rattle.redn_text.proofs.Fields.{pair_split, behind_of, decimal_has_none}
use Rattle.redn_sched.proofs.OneReading.{first_byte}

-- behind `d ` stands no number of 32 bits
bad_deliver : (rest : List ℕ) → ((c : ℕ) → c < 2 ^ 32 → rest ≢ decimal c) → IsBad (codes "d " ++ rest)
unfolding action_text
bad_deliver rest none = record { meant = λ s. omega arith; no_action = no_other }
  where
    no_other : (a : Action) → ¬ IsAction (codes "d " ++ rest) a
    no_other (Deliver c) h = none c h.fits (ap (drop 2) h.text)
    no_other a h = omega (arith, ap first_byte h.text)

-- behind `s ` stands no number of 32 bits
bad_start : (rest : List ℕ) → ((q : ℕ) → q < 2 ^ 32 → rest ≢ decimal q) → IsBad (codes "s " ++ rest)
unfolding action_text
bad_start rest none = record { meant = λ s. omega arith; no_action = no_other }
  where
    no_other : (a : Action) → ¬ IsAction (codes "s " ++ rest) a
    no_other (Start q) h = none q h.fits (ap (drop 2) h.text)
    no_other a h = omega (arith, ap first_byte h.text)

-- behind `f ` stand no two numbers
bad_fetch : (rest : List ℕ) → ((q i : ℕ) → q < 2 ^ 32 → i < 2 ^ 64 → rest ≢ pair_text q i) → IsBad (codes "f " ++ rest)
unfolding action_text
bad_fetch rest none = record { meant = λ s. omega arith; no_action = no_other }
  where
    no_other : (a : Action) → ¬ IsAction (codes "f " ++ rest) a
    no_other (Fetch q i) h = none q i h.fits.0 h.fits.1 (ap (drop 2) h.text)
    no_other a h = omega (arith, ap first_byte h.text)

-- a line begins with another byte
bad_first : (b : ℕ) (rest : List ℕ) → b ≢ 35 → b ≢ 100 → b ≢ 102 → b ≢ 115 → b ≢ 108 → b ≢ 99 → IsBad (b ∷ rest)
unfolding action_text
bad_first b rest remark d f s l c = record { meant = remark; no_action = no_letter }
  where
    no_letter : (a : Action) → ¬ IsAction (b ∷ rest) a
    no_letter (Deliver n) h = d (ap first_byte h.text)
    no_letter (Fetch q i) h = f (ap first_byte h.text)
    no_letter (Start q) h = s (ap first_byte h.text)
    no_letter (Land q i) h = l (ap first_byte h.text)
    no_letter (Complete q) h = c (ap first_byte h.text)

another_letter : IsBad (codes "x")
another_letter = bad_first 120 [] (omega arith) (omega arith) (omega arith) (omega arith) (omega arith) (omega arith)

a_space_first : IsBad (codes " d 0")
a_space_first = bad_first 32 (codes "d 0") (omega arith) (omega arith) (omega arith) (omega arith) (omega arith) (omega arith)

no_index : IsBad (codes "f 0")
no_index =
    bad_fetch (codes "0") (λ q i small fits e.
    let wide : q < 2 ^ 64 = omega arith in
    let none : [] ≡ 32 ∷ decimal i = behind_of 32 (codes "0") (decimal q) (decimal i) (pair_split q i (codes "0") wide e) in
    cc)

pub a_leading_zero : IsBad (codes "s 01")
a_leading_zero = bad_start (codes "01") none
  where
    none : (q : ℕ) → q < 2 ^ 32 → codes "01" ≢ decimal q
    none zero small e = let short : decimal 0 ≡ 48 ∷ [] = decimal_digit 0 (lit< tt) in cc
    none (suc n) small e =
        let above = first_decimal (suc n) (omega arith) (omega arith) in
        omega (arith, ap (λ ds. get_or ds 0 0) e)

a_wide_chain : IsBad (codes "d 4294967296")
unfolding digits
a_wide_chain =
    bad_deliver (codes "4294967296") (λ c small e.
    let same : 4294967296 ≡ c = decimal_injective 4294967296 c (lit< tt) (omega arith) e in
    omega arith)

a_space_last : IsBad (codes "s 0 ")
a_space_last =
    bad_start (codes "0 ") (λ q small e.
    let none : list_all (is_not 32) (decimal q) ≡ true = decimal_has_none q (omega arith) in
    let one = ap (list_all (is_not 32)) e in
    cc)
