-- Laws on schedules.
use Rattle.std.specs.Prelude.{◌≡◌, ◌↔◌, ℕ, ◌<◌, List, ◌++◌, length, Option}
use Rattle.std.specs.List.{All}
use Rattle.redn_words.specs.declared.types.Action.{Action}
use Rattle.redn_words.specs.States.{Queue, State}
use Rattle.redn_words.specs.Runs.{AllPossible, reached}
use Rattle.redn_adapter.specs.Quiet.{IsQuiet}
use Rattle.redn_sched.specs.MadeSchedules.{fair}
use Rattle.redn_sched.specs.Shuffles.{shuffled}
use Rattle.redn_sched.specs.declared.text.Numbered.{Numbered}
use Rattle.redn_sched.specs.ScheduleText.{lines_of, Reads, Begins}

-- each text has its actions, up to its first bad line or to its end
abbrev pub EachTextIsRead : Type 0
EachTextIsRead = (text : List ℕ) → (lines : List Numbered) × (bad : Option ℕ) × Reads 1 (lines_of text) lines bad

-- and it has them in one way
abbrev pub EachTextIsReadOnce : Type 0
EachTextIsReadOnce = (text : List ℕ) (lines others : List Numbered) (bad other : Option ℕ) → Reads 1 (lines_of text) lines bad → Reads 1 (lines_of text) others other → (lines ≡ others) × (bad ≡ other)

-- lines begin with some actions where they have these, and perhaps more
abbrev pub BeginningsAreRead : Type 0
BeginningsAreRead = (text : List ℕ) (lines : List Numbered) (bad : Option ℕ) → Reads 1 (lines_of text) lines bad → (first : List Numbered) → Begins 1 (lines_of text) first ↔ ((more : List Numbered) × (lines ≡ first ++ more))

-- each queue belongs to a chain
abbrev pub HaveOwners : State → Type 0
HaveOwners s = All (λ (u : Queue). u.row.domain < length s.chains) s.queues

-- all actions are possible, and where they are fewer than n, no useful one is left behind them
pub record EndsWhole (n : ℕ) (s : State) (acts : List Action) : Type 0 where
  pub can : AllPossible s acts
  pub quiet : length acts < n → IsQuiet (reached s acts)

-- so it is with what the fair rules make, and with what a number draws
abbrev pub MadeRunsEndWhole : Type 0
MadeRunsEndWhole = (n z : ℕ) (s : State) → HaveOwners s → EndsWhole n s (fair n s) × EndsWhole n s (shuffled n z s)
