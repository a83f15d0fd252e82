-- The values of a line, one by one.
use Rattle.std.proofs.Common.{◌≡◌, ℕ, List, [], ◌∷◌, length, get_or, refl, arith}
use Rattle.redn_disasm.specs.declared.formats.Format.{Format}
use Rattle.redn_disasm.specs.Fields.{FieldsAre}

pub same_length : (formats : List Format) (text values : List ℕ) → FieldsAre formats text values → length values ≡ length formats
same_length [] text [] h = refl
same_length [] text (n ∷ values) h = absurd h
same_length (f ∷ formats) text [] h = absurd h
same_length (f ∷ formats) text (n ∷ values) h = omega (arith, same_length formats h.1 values h.4)

abbrev at : List ℕ → ℕ → ℕ
at xs k = get_or xs k 0

pub six : (xs : List ℕ) → length xs ≡ 6 → xs ≡ at xs 0 ∷ at xs 1 ∷ at xs 2 ∷ at xs 3 ∷ at xs 4 ∷ at xs 5 ∷ []
six (a ∷ b ∷ c ∷ d ∷ e ∷ f ∷ []) h = refl
six xs h = absurd (omega arith)

pub seven : (xs : List ℕ) → length xs ≡ 7 → xs ≡ at xs 0 ∷ at xs 1 ∷ at xs 2 ∷ at xs 3 ∷ at xs 4 ∷ at xs 5 ∷ at xs 6 ∷ []
seven (a ∷ b ∷ c ∷ d ∷ e ∷ f ∷ g ∷ []) h = refl
seven xs h = absurd (omega arith)

pub twelve : (xs : List ℕ) → length xs ≡ 12 → xs ≡ at xs 0 ∷ at xs 1 ∷ at xs 2 ∷ at xs 3 ∷ at xs 4 ∷ at xs 5 ∷ at xs 6 ∷ at xs 7 ∷ at xs 8 ∷ at xs 9 ∷ at xs 10 ∷ at xs 11 ∷ []
twelve (a ∷ b ∷ c ∷ d ∷ e ∷ f ∷ g ∷ h ∷ i ∷ j ∷ k ∷ l ∷ []) e' = refl
twelve xs h = absurd (omega arith)

pub one : (xs : List ℕ) → length xs ≡ 1 → xs ≡ at xs 0 ∷ []
one (a ∷ []) h = refl
one xs h = absurd (omega arith)
