-- A law of stale starts.
use Rattle.std.specs.Prelude.{◌≡◌, ◌↔◌, ℕ, true}
use Rattle.redn_words.specs.declared.types.Obs.TheVariants as shows
use Rattle.redn_words.specs.declared.types.Action.TheVariants.{Start}
use Rattle.redn_words.specs.States.{State}
use Rattle.redn_words.specs.Steps.{is_stale, shown}

-- a start shows that it is stale exactly where it is
abbrev pub StaleWhere : Type 0
StaleWhere = (s : State) (q : ℕ) → (is_stale s (Start q) ≡ true) ↔ ((i : ℕ) × (shown s (Start q) ≡ shows.Stale q i))
