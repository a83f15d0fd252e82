-- Which rows repeat a key, computed.
use Rattle.std.proofs.Common.{◌≡◌, ℕ, Bool, true, false, List, [], ◌∷◌, refl}
use Rattle.redn_words.specs.declared.types.Region.{Region}
use Rattle.redn_words.specs.declared.types.Kind.TheVariants.{Code}
use Rattle.redn_region.specs.Rows.{repeats}

row : ℕ → Region
row key = record { key = key; domain = 0; kind = Code; rights = 0; base = 0; len = 8 }

rows : List Region
rows = row 7 ∷ row 9 ∷ row 7 ∷ row 7 ∷ []

first_is_new : repeats rows 0 ≡ false
unfolding rows row
first_is_new = refl

second_is_new : repeats rows 1 ≡ false
unfolding rows row
second_is_new = refl

third_repeats : repeats rows 2 ≡ true
unfolding rows row
third_repeats = refl

none_past_the_end : repeats rows 4 ≡ false
unfolding rows row
none_past_the_end = refl
