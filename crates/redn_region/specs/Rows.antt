-- Rows of regions whose key stands twice.
use Rattle.std.specs.Prelude.{ℕ, Bool, List, take, is_some, slice_get, option_and_then}
use Rattle.redn_words.specs.declared.types.Region.{Region}
use Rattle.redn_words.specs.Access.{region_of}

-- whether the row at this place has the key of an earlier one
abbrev pub repeats : List Region → ℕ → Bool
repeats rows i = is_some (option_and_then (λ (r : Region). region_of (take i rows) r.key) (slice_get rows i))
