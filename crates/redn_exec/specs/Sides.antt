-- The two sides of a request, where both are allowed.
use Rattle.std.specs.Prelude.{Result, Ok, Err}
use Rattle.redn_words.specs.declared.types.Obs.{Obs}
use Rattle.redn_words.specs.declared.types.Spot.{Spot}
use Rattle.redn_words.specs.Landings.{Landing, refused}
use Rattle.redn_exec.specs.declared.sides.Sides.{Sides}

-- the landing from the places of both sides, or from what is shown where one is refused
abbrev pub landed_on : Result Sides Obs → (Spot → Spot → Landing) → Landing
landed_on (Ok s) go = go s.local s.remote
landed_on (Err shown) go = refused shown
