-- One list of actions after another.
use Rattle.std.proofs.Common.{◌≡◌, List, [], ◌∷◌, ◌++◌, refl, ap, ◌∙◌}
use Rattle.redn_words.specs.declared.types.Obs.{Obs}
use Rattle.redn_words.specs.declared.types.Obs.TheVariants as shows
use Rattle.redn_words.specs.declared.types.Action.{Action}
use Rattle.redn_words.specs.States.{State}
use Rattle.redn_words.specs.Steps.{after, shown}
use Rattle.redn_words.specs.Runs.{AllPossible, reached, all_shown, shown_then}

pub reached_append : (s : State) (acts more : List Action) → reached s (acts ++ more) ≡ reached (reached s acts) more
reached_append s [] more = refl
reached_append s (a ∷ acts) more = reached_append (after s a) acts more

pub AllPossible_append : (s : State) (acts more : List Action) → AllPossible s acts → AllPossible (reached s acts) more → AllPossible s (acts ++ more)
AllPossible_append s [] more h g = g
AllPossible_append s (a ∷ acts) more h g = (h.0, AllPossible_append (after s a) acts more h.1 g)

pub AllPossible_parts : (s : State) (acts more : List Action) → AllPossible s (acts ++ more) → AllPossible s acts × AllPossible (reached s acts) more
AllPossible_parts s [] more h = (tt, h)
AllPossible_parts s (a ∷ acts) more h = let rest = AllPossible_parts (after s a) acts more h.1 in ((h.0, rest.0), rest.1)

shown_append : (o : Obs) (xs ys : List Obs) → shown_then o (xs ++ ys) ≡ shown_then o xs ++ ys
shown_append shows.Nothing xs ys = refl
shown_append _ xs ys = refl

-- what an action shows, and then the others
pub shown_first : (o : Obs) (xs : List Obs) → shown_then o xs ≡ shown_then o [] ++ xs
shown_first o xs = shown_append o [] xs

pub all_shown_append : (s : State) (acts more : List Action) → all_shown s (acts ++ more) ≡ all_shown s acts ++ all_shown (reached s acts) more
all_shown_append s [] more = refl
all_shown_append s (a ∷ acts) more =
    ap (shown_then (shown s a)) (all_shown_append (after s a) acts more) ∙ shown_append (shown s a) (all_shown (after s a) acts) (all_shown (reached (after s a) acts) more)
