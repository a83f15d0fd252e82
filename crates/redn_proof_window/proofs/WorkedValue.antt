-- A byte by the bodies that have written it.
use Rattle.std.proofs.Common.{◌≡◌, ℕ, zero, suc, Bool, true, ◌==◌, List, [], ◌∷◌, refl}
use Rattle.redn_words.specs.Landings.{Change, change}
use Rattle.redn_proof_window.specs.Stages.{value}

-- two bodies that write bytes 4 and 5
abbrev both : ℕ → List Change
both zero = change 4 (1 ∷ 2 ∷ []) ∷ []
both (suc k) = change 4 (7 ∷ 8 ∷ []) ∷ []

-- the first has written both bytes, the second only byte 4
abbrev half : ℕ → ℕ → Bool
half zero p = true
half (suc k) p = p == 4

-- so byte 4 is the second's, byte 5 the first's, and byte 6 is as it was
second_wrote : value half both 2 4 9 ≡ 7
second_wrote = refl

first_wrote : value half both 2 5 9 ≡ 2
first_wrote = refl

none_wrote : value half both 2 6 9 ≡ 9
none_wrote = refl
