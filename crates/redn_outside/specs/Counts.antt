-- Counts of what an object of the outside answered. A count is a u64: it rises by one and stays at its greatest value.
use Rattle.std.specs.Prelude.{ℕ, ◌+◌, ◌-◌, ◌^◌, ◌<◌, ◌≤◌, min}

-- the count with one answer more
abbrev pub one_more : ℕ → ℕ
one_more before = min (before + 1) (2 ^ 64 - 1)

-- the count rose
abbrev pub Rose : ℕ → ℕ → Type 0
Rose before now = one_more before ≤ now

-- the count did not fall, and is a u64 still
abbrev pub NeverFalls : ℕ → ℕ → Type 0
NeverFalls before now = (before ≤ now) × (now < 2 ^ 64)
