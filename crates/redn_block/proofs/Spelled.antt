-- Words of cells.
use Rattle.std.proofs.Common.{◌≡◌, ℕ, ◌^◌, ◌<◌, ◌≤◌, List, [], ◌∷◌, length, map, refl, arith}
use Rattle.std.specs.Prelude.{slice_index}
use Rattle.redn_words.specs.Words.{word, spelled}
use Rattle.redn_words.proofs.Numbers.{number-spelled}
use Rattle.redn_kernel.specs.Source.{eight}

pub word_spelled : (v : ℕ) → v < 2 ^ 64 → word (spelled 8 v) 0 ≡ v
word_spelled v h = number-spelled 8 v (omega arith)

-- up to eight words, and 0 past them
pub eight_words : (ws : List ℕ) → length ws ≤ 8 → map (λ (k : ℕ). slice_index ws k) (0 ∷ 1 ∷ 2 ∷ 3 ∷ 4 ∷ 5 ∷ 6 ∷ 7 ∷ []) ≡ eight ws
eight_words [] h = refl
eight_words (a ∷ []) h = refl
eight_words (a ∷ b ∷ []) h = refl
eight_words (a ∷ b ∷ c ∷ []) h = refl
eight_words (a ∷ b ∷ c ∷ d ∷ []) h = refl
eight_words (a ∷ b ∷ c ∷ d ∷ e ∷ []) h = refl
eight_words (a ∷ b ∷ c ∷ d ∷ e ∷ f ∷ []) h = refl
eight_words (a ∷ b ∷ c ∷ d ∷ e ∷ f ∷ g ∷ []) h = refl
eight_words (a ∷ b ∷ c ∷ d ∷ e ∷ f ∷ g ∷ i ∷ []) h = refl
eight_words (a ∷ b ∷ c ∷ d ∷ e ∷ f ∷ g ∷ i ∷ j ∷ rest) h = absurd (omega arith)
