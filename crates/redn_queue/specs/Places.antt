-- Requests in flight, by place.
use Rattle.std.specs.Prelude.{◌≡◌, ℕ, ◌<◌, List, length}
use Rattle.std.specs.List.{HoldsAt}
use Rattle.redn_words.specs.declared.types.Flight.{Flight}

-- the request of an index stands at this place
pub record StandsAt (index : ℕ) (flights : List Flight) (place : ℕ) : Type 0 where
  pub within : place < length flights
  pub is : HoldsAt (λ (f : Flight). f.index ≡ index) flights place
