-- What the parts of a command refuse, and what each leaves.
use Rattle.std.specs.Prelude.{◌≡◌, ◌≢◌, ◌⊎◌, ℕ, ◌≤◌, List, [], ◌∷◌, ◌++◌, length, take, Option, Some, None}
use Rattle.std.specs.Option.{option_map}
use Rattle.redn_words.specs.States.{State}
use Rattle.redn_outside.specs.Files.{Files, OthersStay}
use Rattle.redn_outside.specs.Seen.{StoreSeen, SinkSeen, ReadFailed, WriteFailed, PutFailed, MissingRose, LongRose}
use Rattle.redn_image.specs.Rules.{Image}
use Rattle.redn_words.specs.declared.types.Action.{Action}
use Rattle.redn_syntax.specs.declared.tree.File.{File}
use Rattle.redn_check.specs.Faults.{fault, IsFirst}
use Rattle.redn_check.specs.Rules.{Accepts, faults}
use Rattle.redn_top.specs.declared.status.Status.{Status}
use Rattle.redn_top.specs.declared.status.Status.TheVariants as status
use Rattle.redn_command.specs.Words.{MessageWord, Plan, Schedule, Fair, Shuffle, Command, Run, Go, RunWords}
use Rattle.redn_command.specs.declared.limits.TheConstants.{MAX_STEPS}
use Rattle.hex.specs.Hex.{decode_of}
use Rattle.redn_top.specs.MessageWords.{bad_hex, messages}
use Rattle.redn_top.specs.Sources.{TextRefused, RuleBroken}
use Rattle.redn_top.specs.RunText.{BreaksOff, MeetsBad, StopsAt, steps_asked, made_text}
use Rattle.redn_top.specs.Reasons.{Finds, IsPlanInput, Reasons, First, read_reasons, run_reads}
use Rattle.redn_top.specs.Answers.{Written, with_written, kept, Ran, IsPartBy, RunsMade, RunsImage}
use Rattle.redn_top.specs.declared.limits.TheConstants.{MAX_SCHEDULE}

-- a file that is held and short enough
pub record IsHeld (told : Option Files) (name : List ℕ) (limit : ℕ) (bytes : List ℕ) : Type 0 where
  pub found : Finds told name (Some bytes)
  pub fits : length bytes ≤ limit

-- why reading told no bytes, by the first of these reasons
abbrev pub ReadsRefuse : Reasons → StoreSeen → StoreSeen → Status → Type 0
ReadsRefuse R before now status.ReadFailed = ReadFailed before now
ReadsRefuse R before now status.Memory = Unit {0}
ReadsRefuse R before now status.Missing = MissingRose before now × First R status.Missing
ReadsRefuse R before now (status.Long seen limit) = LongRose before now × First R (status.Long seen limit)
ReadsRefuse R before now _ = ⊥

-- what a read finds, where it is refused
pub record ReadRefused (told : Option Files) (name : List ℕ) (limit : ℕ) (before now : StoreSeen) (s : Status) : Type 0 where
  pub file : Option (List ℕ)
  pub found : Finds told name file
  pub refuses : ReadsRefuse (read_reasons file limit) before now s

-- a schedule that is held and short enough, where the plan reads one
abbrev pub IsPlanHeld : Option Files → Plan → Option (List ℕ) → Type 0
IsPlanHeld told (Schedule file) None = ⊥
IsPlanHeld told (Schedule file) (Some text) = IsHeld told file MAX_SCHEDULE text
IsPlanHeld told (Fair steps) text = text ≡ None
IsPlanHeld told (Shuffle number steps) text = text ≡ None

-- the text of a schedule, where the plan has one
abbrev pub HasText : Plan → Option (List ℕ) → Type 0
HasText (Schedule file) None = ⊥
HasText (Schedule file) (Some text) = length text ≤ MAX_SCHEDULE
HasText (Fair steps) text = text ≡ None
HasText (Shuffle number steps) text = text ≡ None

-- what the reads of a run find, where they are refused
pub record RunReadRefused (told : Option Files) (name : List ℕ) (limit : ℕ) (plan : Plan) (before now : StoreSeen) (s : Status) : Type 0 where
  pub file : Option (List ℕ)
  pub schedule : Option (List ℕ)
  pub found : Finds told name file
  pub schedule_found : IsPlanInput told plan schedule
  pub refuses : ReadsRefuse (run_reads file limit plan schedule) before now s

-- why contents are refused, by the first of these reasons
abbrev pub Refuses : Reasons → Status → Type 0
Refuses R status.Memory = Unit {0}
Refuses R (status.Text fault) = First R (status.Text fault)
Refuses R (status.Program rule at seen) = First R (status.Program rule at seen)
Refuses R (status.Image fault) = First R (status.Image fault)
Refuses R _ = ⊥

-- why a text has no tree
abbrev pub TreeRefused : List ℕ → Status → Type 0
TreeRefused text (status.Text fault) = TextRefused text fault
TreeRefused text status.Memory = Unit {0}
TreeRefused text _ = ⊥

-- why a tree has no program
abbrev pub RulesRefused : File → Status → Type 0
RulesRefused f (status.Program rule at seen) = IsFirst (fault rule at seen) (faults f) × (¬ Accepts f)
RulesRefused f status.Memory = Unit {0}
RulesRefused f _ = ⊥

-- why a source text has no program
abbrev pub SourceRefused : List ℕ → Status → Type 0
SourceRefused source (status.Text fault) = TextRefused source fault
SourceRefused source (status.Program rule at seen) = RuleBroken source rule at seen
SourceRefused source status.Memory = Unit {0}
SourceRefused source _ = ⊥

-- why digits are no message for a chain
abbrev pub DigitsRefused : ℕ → List ℕ → Status → Type 0
DigitsRefused chain digits status.Memory = Unit {0}
DigitsRefused chain digits (status.Message fault) = bad_hex chain (decode_of digits) ≡ fault ∷ []
DigitsRefused chain digits _ = ⊥

-- why words are no messages for so many chains
abbrev pub WordsRefused : Reasons → Status → Type 0
WordsRefused R status.Memory = Unit {0}
WordsRefused R (status.Message fault) = First R (status.Message fault)
WordsRefused R _ = ⊥

-- the count of a sink doesn't fall
pub record FaultsStay (before now : SinkSeen) : Type 0 where
  pub faults : before.faults ≤ now.faults
  pub reliable : now.reliable ≡ before.reliable

-- a part of a piece was put
abbrev pub PutPart : List ℕ → SinkSeen → SinkSeen → Type 0
PutPart piece before now = (part : ℕ) × (now.told ≡ option_map (λ text. text ++ take part piece) before.told)

-- why a piece wasn't put whole
abbrev pub PutRefused : List ℕ → SinkSeen → SinkSeen → Status → Type 0
PutRefused piece before now status.WriteFailed = PutFailed before now × PutPart piece before now
PutRefused piece before now _ = ⊥

-- a part of a text was put, piece by piece
abbrev pub LinesRefused : List ℕ → SinkSeen → SinkSeen → Status → Type 0
LinesRefused text before now status.WriteFailed = PutFailed before now × ((printed : List ℕ) × (rest : List ℕ) × (text ≡ printed ++ rest) × (now.told ≡ option_map (λ t. t ++ printed) before.told))
LinesRefused text before now _ = ⊥

-- why a schedule wasn't run to its end, from a state
abbrev pub RunRefused : State → List ℕ → SinkSeen → SinkSeen → Status → Type 0
RunRefused s text before now (status.Step line) = (printed : List ℕ) × StopsAt s text line printed × (now.told ≡ option_map (λ t. t ++ printed) before.told)
RunRefused s text before now (status.Schedule line) = (printed : List ℕ) × MeetsBad s text line printed × (now.told ≡ option_map (λ t. t ++ printed) before.told)
RunRefused s text before now status.WriteFailed = PutFailed before now × ((printed : List ℕ) × BreaksOff s text printed × (now.told ≡ option_map (λ t. t ++ printed) before.told))
RunRefused s text before now _ = ⊥

-- something ran so, and this was put
abbrev pub Printed : (Status → List ℕ → Type 0) → SinkSeen → SinkSeen → Status → Type 0
Printed Runs before now s = (printed : List ℕ) × Runs s printed × (now.told ≡ option_map (λ text. text ++ printed) before.told)

-- something may run so, and a part of what it prints was put
abbrev pub PrintedPart : (Status → List ℕ → Type 0) → SinkSeen → SinkSeen → Type 0
PrintedPart Runs before now = (printed : List ℕ) × IsPartBy Runs printed × (now.told ≡ option_map (λ text. text ++ printed) before.told)

-- the same of something that prints
abbrev pub PrintedSome : (Status → List ℕ → Type 0) → SinkSeen → SinkSeen → Type 0
PrintedSome Runs before now = (part : PrintedPart Runs before now) × (part.0 ++ part.1.1 ≢ [])

-- how something ran, and what it put before a put failed or memory was wanting
abbrev pub RanBy : (Status → List ℕ → Type 0) → SinkSeen → SinkSeen → Status → Type 0
RanBy Runs before now status.WriteFailed = PutFailed before now × PrintedSome Runs before now
RanBy Runs before now status.Memory = PrintedPart Runs before now
RanBy Runs before now status.Done = Printed Runs before now status.Done
RanBy Runs before now (status.Schedule line) = Printed Runs before now (status.Schedule line)
RanBy Runs before now (status.Step line) = Printed Runs before now (status.Step line)
RanBy Runs before now (status.Message fault) = Printed Runs before now (status.Message fault)
RanBy Runs before now _ = ⊥

-- how an image was run with messages under the text of a schedule
abbrev pub ImageRan : Image → List MessageWord → List ℕ → SinkSeen → SinkSeen → Status → Type 0
ImageRan image words text = RanBy (RunsImage image words text)

-- why it wasn't run to its end
abbrev pub MadeStopped : Image → List MessageWord → Plan → SinkSeen → SinkSeen → Status → Type 0
MadeStopped image words plan before now (status.Message fault) = Printed (RunsMade image words plan) before now (status.Message fault)
MadeStopped image words plan before now status.WriteFailed = PutFailed before now × PrintedSome (RunsMade image words plan) before now
MadeStopped image words plan before now status.Memory = PrintedPart (RunsMade image words plan) before now
MadeStopped image words plan before now _ = ⊥

-- it was run to its end
abbrev pub MadeWhole : Image → List MessageWord → Plan → SinkSeen → SinkSeen → Type 0
MadeWhole image words plan before now = Printed (RunsMade image words plan) before now status.Done

-- a part of what such a plan prints was put, from a state
abbrev pub MadePart : State → ℕ → List Action → SinkSeen → SinkSeen → Type 0
MadePart s steps acts before now = (printed : List ℕ) × (rest : List ℕ) × (made_text s steps acts ≡ printed ++ rest) × (now.told ≡ option_map (λ text. text ++ printed) before.told)

-- why a run by such a plan wasn't put whole
abbrev pub MadeRefused : State → ℕ → List Action → SinkSeen → SinkSeen → Status → Type 0
MadeRefused s steps acts before now status.WriteFailed = PutFailed before now × MadePart s steps acts before now
MadeRefused s steps acts before now status.Memory = MadePart s steps acts before now
MadeRefused s steps acts before now _ = ⊥

-- few enough steps
abbrev pub IsFew : Plan → Type 0
IsFew p = steps_asked p ≤ MAX_STEPS

-- a plan that makes the actions
abbrev pub MakesActions : Plan → Type 0
MakesActions (Schedule file) = ⊥
MakesActions (Fair steps) = Unit {0}
MakesActions (Shuffle number steps) = Unit {0}

-- why an image wasn't written
abbrev pub WriteRefused : StoreSeen → StoreSeen → Status → Type 0
WriteRefused before now status.WriteFailed = WriteFailed before now
WriteRefused before now status.Memory = now ≡ before
WriteRefused before now _ = ⊥

-- ---- a run by its plan

abbrev pub run_of : Plan → Option (List ℕ) → List MessageWord → RunWords
run_of plan keep messages = record { plan = plan; keep = keep; messages = messages }

-- a schedule's steps aren't recorded, and others are few enough
abbrev pub IsRunnable : Plan → Option (List ℕ) → Type 0
IsRunnable (Schedule file) keep = keep ≡ None
IsRunnable (Fair steps) keep = steps ≤ MAX_STEPS
IsRunnable (Shuffle number steps) keep = steps ≤ MAX_STEPS

abbrev pub CanRun : Command → Type 0
CanRun (Run image r) = IsRunnable r.plan r.keep
CanRun (Go file image r) = IsRunnable r.plan r.keep
CanRun _ = Unit {0}

-- an image was run by its plan, and the record of the steps made was written where it is asked for
pub record RunEnded (schedule : Option (List ℕ)) (r : RunWords) (image : Image) (before now : StoreSeen) (out out_now : SinkSeen) (s : Status) : Type 0 where
  pub printed : List ℕ
  pub ran : Ran schedule r.plan r.messages image s printed
  pub holds : now.told ≡ option_map (with_written (kept r image s)) before.told
  pub prints : out_now.told ≡ option_map (λ text. text ++ printed) out.told

-- memory was wanting, or a put failed
pub record RunBroke (schedule : Option (List ℕ)) (r : RunWords) (image : Image) (before now : StoreSeen) (out out_now : SinkSeen) : Type 0 where
  pub printed : List ℕ
  pub part : IsPartBy (Ran schedule r.plan r.messages image) printed
  pub holds : now.told ≡ before.told
  pub prints : out_now.told ≡ option_map (λ text. text ++ printed) out.told

-- a put failed: so there was something to print
pub record RunCut (schedule : Option (List ℕ)) (r : RunWords) (image : Image) (before now : StoreSeen) (out out_now : SinkSeen) : Type 0 where
  pub broke : RunBroke schedule r image before now out out_now
  pub some : broke.printed ++ broke.part.1 ≢ []

-- the write of the record failed
pub record RunLost (schedule : Option (List ℕ)) (r : RunWords) (image : Image) (before now : StoreSeen) (out out_now : SinkSeen) : Type 0 where
  pub printed : List ℕ
  pub last : Written
  pub failed : WriteFailed before now
  pub ran : Ran schedule r.plan r.messages image status.Done printed
  pub record_is : kept r image status.Done ≡ last ∷ []
  pub others : OthersStay last.name before.told now.told
  pub prints : out_now.told ≡ option_map (λ text. text ++ printed) out.told

abbrev pub RunEnds : Option (List ℕ) → RunWords → Image → StoreSeen → StoreSeen → SinkSeen → SinkSeen → Status → Type 0
RunEnds schedule r image before now out out_now status.Done = RunEnded schedule r image before now out out_now status.Done
RunEnds schedule r image before now out out_now (status.Schedule line) = RunEnded schedule r image before now out out_now (status.Schedule line)
RunEnds schedule r image before now out out_now (status.Step line) = RunEnded schedule r image before now out out_now (status.Step line)
RunEnds schedule r image before now out out_now (status.Message fault) = RunEnded schedule r image before now out out_now (status.Message fault)
RunEnds schedule r image before now out out_now status.WriteFailed = (PutFailed out out_now × RunCut schedule r image before now out out_now) ⊎ RunLost schedule r image before now out out_now
RunEnds schedule r image before now out out_now status.Memory = RunBroke schedule r image before now out out_now
RunEnds schedule r image before now out out_now _ = ⊥
