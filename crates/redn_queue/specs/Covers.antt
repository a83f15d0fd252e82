-- Rising numbers among which all those of a range are that pass a test.
use Rattle.std.specs.Prelude.{◌≡◌, ℕ, ◌-◌, ◌<◌, ◌≤◌, Bool, true, List, length, slice_index_or}
use Rattle.std.specs.List.{All, AllPairs, Contains}

pub record Covers (test : ℕ → Bool) (low high : ℕ) (numbers : List ℕ) : Type 0 where
  pub rising : AllPairs (λ (a b : ℕ). a < b) numbers
  pub from : All (λ (n : ℕ). low ≤ n) numbers
  pub below : All (λ (n : ℕ). n < high) numbers
  pub all : (n : ℕ) → low ≤ n → n < high → test n ≡ true → Contains numbers n

-- the first one passes, and the last one
abbrev pub FirstPasses : (ℕ → Bool) → List ℕ → Type 0
FirstPasses test numbers = (d : ℕ) → 0 < length numbers → test (slice_index_or numbers 0 d) ≡ true

abbrev pub LastPasses : (ℕ → Bool) → List ℕ → Type 0
LastPasses test numbers = (d : ℕ) → 0 < length numbers → test (slice_index_or numbers (length numbers - 1) d) ≡ true
