-- Numbers of groups, of which some are marked.
use Rattle.std.specs.Prelude.{ℕ, Bool, false, ◌&&◌, ◌==◌, List, Option, Some, None, slice_get}

-- the numbers from 0 on: of each its group, which is one of so many, and whether it is marked
pub record Marks : Type 0 where
  pub groups : ℕ
  pub group : List ℕ
  pub marked : List Bool

abbrev pub is_number : ℕ → Option ℕ → Bool
is_number c None = false
is_number c (Some d) = d == c

abbrev pub is_true : Option Bool → Bool
is_true None = false
is_true (Some b) = b

-- a number is there, of group c, and marked
abbrev pub is_marked : Marks → ℕ → ℕ → Bool
is_marked m c n = is_number c (slice_get m.group n) && is_true (slice_get m.marked n)
