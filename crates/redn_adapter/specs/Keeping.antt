-- What no step changes, whatever the image.
use Rattle.std.specs.Prelude.{◌≡◌, ℕ, false, length, Some, slice_get}
use Rattle.redn_words.specs.declared.types.Flight.{Flight}
use Rattle.redn_words.specs.States.{Queue, State}
use Rattle.redn_words.specs.Landings.{Landing}
use Rattle.redn_words.specs.Steps.{flying, landing_at}
use Rattle.redn_words.specs.Laws.{HasRowsOf}

-- regions, places of messages and rows of queues are those of before, and memory is as long
pub record KeepsShape (before now : State) : Type 0 where
  pub rows : HasRowsOf before now
  pub size : length now.memory ≡ length before.memory

-- this request is in flight, and its landing is refused
pub record LandsRefused (s : State) (q i : ℕ) : Type 0 where
  pub queue : Queue
  pub flight : Flight
  pub there : slice_get s.queues q ≡ Some queue
  pub flies : flying queue i ≡ Some flight
  pub refused : (landing_at s q i queue flight.copy).allowed ≡ false
