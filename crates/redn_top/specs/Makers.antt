-- What makes the steps of a run, one after the other.
use Rattle.std.specs.Prelude.{◌≡◌, ◌≢◌, ℕ, ◌+◌, true, false, take, List, [], ◌++◌, length, Option, Some, None}
use Rattle.std.specs.Option.{option_map}
use Rattle.redn_words.specs.declared.types.Action.{Action}
use Rattle.redn_words.specs.States.{State}
use Rattle.redn_words.specs.Steps.{possible, shown}
use Rattle.redn_words.specs.Runs.{AllPossible, reached}
use Rattle.redn_adapter.specs.Running.{Running}
use Rattle.redn_outside.specs.Seen.{SinkSeen, PutFailed}
use Rattle.redn_trace.specs.EventText.{event_text}
use Rattle.redn_sched.specs.declared.text.Numbered.{Numbered}
use Rattle.redn_sched.specs.declared.reader.Got.{Got}
use Rattle.redn_sched.specs.declared.reader.Got.TheVariants.{Action as AnAction, Bad}
use Rattle.redn_sched.specs.ScheduleText.{lines_of, Reads}
use Rattle.redn_sched.specs.MadeSchedules.{first_cursors, fair_from}
use Rattle.redn_sched.specs.Shuffles.{first_shuffling, shuffled_from}
use Rattle.redn_command.specs.Words.{Plan, Schedule, Fair, Shuffle}
use Rattle.redn_top.specs.declared.run.Maker.{Maker}
use Rattle.redn_top.specs.declared.run.Maker.TheVariants as maker
use Rattle.redn_top.specs.declared.status.Status.{Status}
use Rattle.redn_top.specs.declared.status.Status.TheVariants as status
use Rattle.redn_top.specs.RunText.{actions_of, events_text}

-- ---- the lines of a text

-- the steps of these actions were made, and the lines of their events put
pub record Makes (lines : List Numbered) (before now : Running) (told told_now : Option (List ℕ)) : Type 0 where
  pub all_possible : AllPossible before.state (actions_of lines)
  pub state : now.state ≡ reached before.state (actions_of lines)
  pub puts : told_now ≡ option_map (λ text. text ++ events_text before.state (actions_of lines)) told
  pub steps : now.steps ≡ before.steps + length lines

-- why a line's step wasn't made or its event not put
abbrev pub StepRefused : Got → State → SinkSeen → SinkSeen → Status → Type 0
StepRefused (AnAction n a) s before now (status.Step line) = (line ≡ n) × (possible s a ≡ false) × (now ≡ before)
StepRefused (Bad n) s before now (status.Schedule line) = (line ≡ n) × (now ≡ before)
StepRefused (AnAction n a) s before now status.WriteFailed = (possible s a ≡ true) × (event_text (shown s a) ≢ []) × PutFailed before now × ((part : ℕ) × (now.told ≡ option_map (λ t. t ++ take part (event_text (shown s a))) before.told))
StepRefused _ s before now _ = ⊥

-- no line of a text is bad, all actions were possible, and their events are put
pub record RanAll (s : State) (text : List ℕ) (told told_now : Option (List ℕ)) : Type 0 where
  pub lines : List Numbered
  pub reads : Reads 1 (lines_of text) lines None
  pub all_possible : AllPossible s (actions_of lines)
  pub puts : told_now ≡ option_map (λ t. t ++ events_text s (actions_of lines)) told

-- ---- the actions that are made

-- at most n actions from a state on
abbrev pub made_from : ℕ → State → Maker → List Action
made_from n s (maker.Fair m) = fair_from n s m
made_from n s (maker.Shuffle m) = shuffled_from n s m

-- it makes the actions of an adapter in this state
abbrev pub IsFor : Maker → State → Type 0
IsFor (maker.Fair m) s = length m.queues ≡ length s.chains
IsFor (maker.Shuffle m) s = length m.queues ≡ length s.chains

-- it makes the actions of a plan from its first one on
abbrev pub IsMakerOf : Plan → State → Option Maker → Type 0
IsMakerOf (Schedule file) s o = o ≡ None
IsMakerOf (Fair steps) s o = o ≡ Some (maker.Fair (first_cursors s))
IsMakerOf (Shuffle number steps) s o = o ≡ Some (maker.Shuffle (first_shuffling s number))
