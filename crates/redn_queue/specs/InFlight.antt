-- The requests in flight, with room for so many, and their numbers.
use Rattle.std.specs.Prelude.{◌≡◌, ℕ, ◌+◌, ◌-◌, ◌%◌, ◌^◌, ◌<◌, Bool, true, false, not, List, length, Option, Some, None, slice_get}
use Rattle.redn_words.specs.declared.types.Flight.{Flight}
use Rattle.redn_words.specs.Steps.{is_landed}

pub record InFlight : Type 0 where
  pub room : ℕ
  pub list : List Flight  -- the oldest first

-- the place of the request of a number, where the oldest one has the number first. Numbers are taken modulo 2^64
abbrev pub place_from : ℕ → ℕ → ℕ
place_from first n = (n + (2 ^ 64 - first)) % 2 ^ 64

abbrev pub waits : Option Flight → Bool
waits None = false
waits (Some f) = not f.landed

-- whether the request of a place is unlanded
abbrev pub waits_at : List Flight → ℕ → Bool
waits_at flights k = waits (slice_get flights k)

-- whether the request of a number, if there is one, has landed
abbrev pub is_over : List Flight → ℕ → Option ℕ → Bool
is_over flights first None = false
is_over flights first (Some n) = is_landed (slice_get flights (place_from first n))

-- the place of the oldest unlanded request, and of the newest
pub record IsOldest (flights : List Flight) (place : ℕ) : Type 0 where
  pub within : place < length flights
  pub unlanded : waits_at flights place ≡ true
  pub others : (k : ℕ) → k < place → waits_at flights k ≡ false

pub record IsNewest (flights : List Flight) (place : ℕ) : Type 0 where
  pub within : place < length flights
  pub unlanded : waits_at flights place ≡ true
  pub others : (k : ℕ) → place < k → k < length flights → waits_at flights k ≡ false

abbrev pub AllLanded : List Flight → Type 0
AllLanded flights = (k : ℕ) → k < length flights → waits_at flights k ≡ false
