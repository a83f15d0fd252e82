-- What is counted of a fair run, and the text that tells it.
use Rattle.std.specs.Prelude.{◌≡◌, ℕ, ◌<◌, ◌≤◌, Bool, true, false, ◌==◌, if◌then◌else◌, List, [], ◌∷◌, ◌++◌, length, filter, codes}
use Rattle.std.specs.List.{All, flat_map}
use Rattle.redn_words.specs.declared.types.Action.{Action}
use Rattle.redn_words.specs.declared.types.Obs.{Obs}
use Rattle.redn_words.specs.declared.types.Obs.TheVariants as shows
use Rattle.redn_words.specs.States.{State}
use Rattle.redn_words.specs.Steps.{after, is_useful}
use Rattle.redn_words.specs.Runs.{AllPossible, reached, all_shown}
use Rattle.redn_adapter.specs.Quiet.{IsQuiet}
use Rattle.redn_trace.specs.EventText.{event_text, IsPrintable}
use Rattle.redn_gen.specs.Generated.{below}
use Rattle.redn_gen.specs.Runs.{is_reply_of}
use Rattle.redn_summary.specs.declared.run.Counted.{Counted}
use Rattle.redn_summary.specs.Summary.{counted}

abbrev pub is_reply : Obs → Bool
is_reply (shows.Reply c n words) = true
is_reply _ = false

-- each action is useful
abbrev pub AllUseful : State → List Action → Type 0
AllUseful s [] = Unit {0}
AllUseful s (a ∷ rest) = (is_useful s a ≡ true) × AllUseful (after s a) rest

-- At most n actions are made, each of them possible and useful. Where they are fewer no useful one is left. How many there are, how many events they show, and the replies among these
pub record Counts (s : State) (n : ℕ) (acts : List Action) (c : Counted) : Type 0 where
  pub few : length acts ≤ n
  pub can : AllPossible s acts
  pub useful : AllUseful s acts
  pub quiet : length acts < n → IsQuiet (reached s acts)
  pub steps : c.steps ≡ length acts
  pub events : c.events ≡ length (all_shown s acts)
  pub replies : c.replies.items ≡ filter is_reply (all_shown s acts)
  pub printable : All IsPrintable c.replies.items

-- the lines of a chain's replies
abbrev pub replies_text : List Obs → ℕ → List ℕ
replies_text events c = flat_map event_text (filter (is_reply_of c) events)

-- what is told of a run that may take n steps
abbrev pub told : ℕ → ℕ → ℕ → Counted → List ℕ
told number chains n c =
    counted (codes "gen ") number
    ++ counted (codes "chains ") chains
    ++ counted (codes "events ") c.events
    ++ counted (codes "steps ") c.steps
    ++ flat_map (replies_text c.replies.items) (below chains)
    ++ (if c.steps == n then codes "end steps\n" else codes "end quiet\n")
