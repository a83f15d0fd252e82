-- Runs of the adapter.
use Rattle.std.specs.Prelude.{◌≡◌, ℕ, ◌+◌, Bool, true, false, ◌&&◌, ◌==◌, if◌then◌else◌, List, [], ◌∷◌, Option, Some, None}
use Rattle.redn_words.specs.declared.types.Obs.{Obs}
use Rattle.redn_words.specs.declared.types.Obs.TheVariants as shows
use Rattle.redn_words.specs.declared.types.Action.{Action}
use Rattle.redn_words.specs.States.{State}
use Rattle.redn_words.specs.Steps.{possible, after, shown, is_useful, chain_of}

-- each action is possible in the state that the actions before it reach
abbrev pub AllPossible : State → List Action → Type 0
AllPossible s [] = Unit {0}
AllPossible s (a ∷ rest) = (possible s a ≡ true) × AllPossible (after s a) rest

-- the state that they reach
abbrev pub reached : State → List Action → State
reached s [] = s
reached s (a ∷ rest) = reached (after s a) rest

abbrev pub shown_then : Obs → List Obs → List Obs
shown_then shows.Nothing rest = rest
shown_then o rest = o ∷ rest

-- what they show, Nothing left out
abbrev pub all_shown : State → List Action → List Obs
all_shown s [] = []
all_shown s (a ∷ rest) = shown_then (shown s a) (all_shown (after s a) rest)

abbrev pub is_for : ℕ → Option ℕ → Bool
is_for c None = false
is_for c (Some d) = c == d

-- how many of them are useful for a chain
abbrev pub useful_for : ℕ → State → List Action → ℕ
useful_for c s [] = 0
useful_for c s (a ∷ rest) = (if is_useful s a && is_for c (chain_of s a) then 1 else 0) + useful_for c (after s a) rest
