-- What a run prints, and what is recorded of it.
use Rattle.std.specs.Prelude.{◌≡◌, ◌≢◌, ℕ, false, take, List, [], ◌∷◌, ◌++◌, map, length, codes, ◌==◌, if◌then◌else◌, Some, None}
use Rattle.std.specs.List.{flat_map}
use Rattle.redn_words.specs.declared.types.Action.{Action}
use Rattle.redn_words.specs.States.{State}
use Rattle.redn_words.specs.Steps.{possible, shown}
use Rattle.redn_words.specs.Runs.{AllPossible, reached, all_shown}
use Rattle.redn_trace.specs.EventText.{event_text}
use Rattle.redn_sched.specs.MadeSchedules.{fair}
use Rattle.redn_sched.specs.Shuffles.{shuffled}
use Rattle.redn_sched.specs.ScheduleText.{lines_of, Reads, Begins}
use Rattle.redn_sched.specs.declared.text.Numbered.{Numbered}
use Rattle.redn_command.specs.Words.{Plan, Schedule, Fair, Shuffle}

abbrev pub actions_of : List Numbered → List Action
actions_of lines = map (λ (x : Numbered). x.action) lines

-- the lines of the events that some actions show
abbrev pub events_text : State → List Action → List ℕ
events_text s acts = flat_map event_text (all_shown s acts)

-- ---- under the text of a schedule

abbrev pub end_schedule : List ℕ
end_schedule = codes "end schedule\n"

-- no line is bad, all actions are possible, and this is printed
pub record RunsToEnd (s : State) (text : List ℕ) (printed : List ℕ) : Type 0 where
  pub lines : List Numbered
  pub reads : Reads 1 (lines_of text) lines None
  pub all_possible : AllPossible s (actions_of lines)
  pub prints : printed ≡ events_text s (actions_of lines) ++ end_schedule

-- this line is the first bad one, all actions before it are possible, and their events are printed
pub record MeetsBad (s : State) (text : List ℕ) (line : ℕ) (printed : List ℕ) : Type 0 where
  pub lines : List Numbered
  pub reads : Reads 1 (lines_of text) lines (Some line)
  pub all_possible : AllPossible s (actions_of lines)
  pub prints : printed ≡ events_text s (actions_of lines)

-- the action of this line is the first that isn't possible, no line before it is bad, and the events before it are printed
pub record StopsAt (s : State) (text : List ℕ) (line : ℕ) (printed : List ℕ) : Type 0 where
  pub before : List Numbered
  pub here : Numbered
  pub begins : Begins 1 (lines_of text) (before ++ here ∷ [])
  pub number : here.line ≡ line
  pub possible_before : AllPossible s (actions_of before)
  pub not_possible : possible (reached s (actions_of before)) here.action ≡ false
  pub prints : printed ≡ events_text s (actions_of before)

-- a put failed: the events of some actions are printed, and a part of the line of the next one, which shows something
pub record BreaksOff (s : State) (text : List ℕ) (printed : List ℕ) : Type 0 where
  pub before : List Numbered
  pub here : Numbered
  pub part : ℕ
  pub begins : Begins 1 (lines_of text) (before ++ here ∷ [])
  pub all_possible : AllPossible s (actions_of (before ++ here ∷ []))
  pub shows : event_text (shown (reached s (actions_of before)) here.action) ≢ []
  pub prints : printed ≡ events_text s (actions_of before) ++ take part (event_text (shown (reached s (actions_of before)) here.action))

-- ---- by a plan that makes the actions

-- the actions that such a plan makes from a state
abbrev pub planned : Plan → State → List Action
planned (Schedule file) s = []
planned (Fair steps) s = fair steps s
planned (Shuffle number steps) s = shuffled steps number s

-- how many it may make
abbrev pub steps_asked : Plan → ℕ
steps_asked (Schedule file) = 0
steps_asked (Fair steps) = steps
steps_asked (Shuffle number steps) = steps

-- the end line: whether all its steps were made, or fewer since nothing useful was left
abbrev pub made_end : ℕ → List Action → List ℕ
made_end steps acts = if length acts == steps then codes "end steps\n" else codes "end quiet\n"

-- what such a run prints from a state
abbrev pub made_text : State → ℕ → List Action → List ℕ
made_text s steps acts = events_text s acts ++ made_end steps acts
