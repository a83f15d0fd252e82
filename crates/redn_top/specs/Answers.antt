-- What a command answers, prints and writes, by what it finds.
use Rattle.std.specs.Prelude.{◌≡◌, ◌≢◌, ◌⊎◌, ◌≤◌, ℕ, List, [], ◌∷◌, ◌++◌, length, Option, Some, None, Result, Ok, Err}
use Rattle.std.specs.Option.{option_map}
use Rattle.redn_syntax.specs.declared.tree.File.{File}
use Rattle.redn_syntax.specs.Canonical.{canonical_text}
use Rattle.redn_kernel.specs.declared.types.Program.{Program}
use Rattle.redn_check.specs.Rules.{Accepts}
use Rattle.redn_outside.specs.Files.{Files, file_at, with_file, OthersStay}
use Rattle.redn_outside.specs.Counts.{Rose}
use Rattle.redn_outside.specs.Seen.{StoreSeen, SinkSeen, ReadFailed, WriteFailed, PutFailed, MissingRose, LongRose}
use Rattle.redn_disasm.specs.Assembly.{Assembles, Made}
use Rattle.redn_disasm.specs.Listing.{listing_text}
use Rattle.redn_image.specs.Rules.{Image, numbers_of}
use Rattle.redn_image.specs.Spelling.{Spells}
use Rattle.redn_image.specs.Faithful.{Faithful, start_of}
use Rattle.redn_words.specs.States.{State}
use Rattle.redn_sched.specs.ScheduleText.{recorded}
use Rattle.redn_top.specs.declared.limits.TheConstants.{MAX_IMAGE}
use Rattle.redn_top.specs.declared.status.Status.{Status}
use Rattle.redn_top.specs.declared.status.Status.TheVariants as status
use Rattle.redn_command.specs.Words.{Command, Check, Compile, Run, Go, Disasm, Assemble, Gen, Plan, Schedule, Fair, Shuffle, RunWords, MessageWord}
use Rattle.redn_top.specs.MessageWords.{messages}
use Rattle.redn_top.specs.Reasons.{Input, IsInput, NoneHolds, First, reasons, message_reasons}
use Rattle.redn_top.specs.Sources.{IsTextOf, Means}
use Rattle.redn_top.specs.RunText.{RunsToEnd, MeetsBad, StopsAt, planned, steps_asked, made_text}
use Rattle.redn_summary.specs.Summary.{generated_program, summary}

-- a file that is written: its name and its bytes
pub record Written : Type 0 where
  pub name : List ℕ
  pub bytes : List ℕ

-- a file that is written, if it has a name
abbrev pub kept_under : Option (List ℕ) → List ℕ → List Written
kept_under None bytes = []
kept_under (Some name) bytes = record { name = name; bytes = bytes } ∷ []

-- ---- what each command does where no reason holds

-- the file is accepted, and its canonical text is printed
pub record Checked (i : Input) (s : Status) (printed : List ℕ) (written : List Written) : Type 0 where
  pub source : List ℕ
  pub file : File
  pub found : i.first ≡ Some source
  pub read : IsTextOf source file
  pub accepted : Accepts file
  pub done : s ≡ status.Done
  pub prints : printed ≡ canonical_text file
  pub writes : written ≡ []

-- the bytes written under a name spell an image that is faithful to the program that the file means, and aren't too many to be read
pub record Compiled (i : Input) (name : List ℕ) (image : Image) (written : List Written) : Type 0 where
  pub source : List ℕ
  pub program : Program
  pub bytes : List ℕ
  pub found : i.first ≡ Some source
  pub means : Means source program
  pub spells : Spells bytes image
  pub faithful : Faithful program image
  pub small : length bytes ≤ MAX_IMAGE
  pub writes : written ≡ record { name = name; bytes = bytes } ∷ []

-- the listing of an image is printed
pub record Listed (i : Input) (printed : List ℕ) : Type 0 where
  pub bytes : List ℕ
  pub image : Image
  pub found : i.first ≡ Some bytes
  pub spells : Spells bytes image
  pub prints : printed ≡ listing_text image

-- the bytes written under a name spell the image of a listing
pub record Assembled (i : Input) (name : List ℕ) (written : List Written) : Type 0 where
  pub text : List ℕ
  pub image : Image
  pub bytes : List ℕ
  pub found : i.first ≡ Some text
  pub means : Assembles text (Made (numbers_of image) image.memory)
  pub spells : Spells bytes image
  pub writes : written ≡ record { name = name; bytes = bytes } ∷ []

-- the state in which an image is opened with messages
abbrev pub opened : Image → List MessageWord → State
opened image words = start_of image (messages (length image.receives) words)

-- an image is run with messages under the text of a schedule: the messages are refused, or all actions are made, or one isn't possible, or a line is bad
pub data RunsImage (image : Image) (words : List MessageWord) (text : List ℕ) (s : Status) (printed : List ℕ) : Type 0 where
  BadMessages : First (message_reasons image words) s → printed ≡ [] → RunsImage image words text s printed
  ToEnd : NoneHolds (message_reasons image words) → s ≡ status.Done → RunsToEnd (opened image words) text printed → RunsImage image words text s printed
  Stops : (line : ℕ) → NoneHolds (message_reasons image words) → s ≡ status.Step line → StopsAt (opened image words) text line printed → RunsImage image words text s printed
  Meets : (line : ℕ) → NoneHolds (message_reasons image words) → s ≡ status.Schedule line → MeetsBad (opened image words) text line printed → RunsImage image words text s printed

-- an image is run under the schedule that is found
pub record RanSchedule (schedule : Option (List ℕ)) (words : List MessageWord) (image : Image) (s : Status) (printed : List ℕ) : Type 0 where
  pub text : List ℕ
  pub found : schedule ≡ Some text
  pub runs : RunsImage image words text s printed

-- an image is run with messages by a plan that makes the actions: the messages are refused, or all of them are made
pub data RunsMade (image : Image) (words : List MessageWord) (plan : Plan) (s : Status) (printed : List ℕ) : Type 0 where
  MadeMessages : First (message_reasons image words) s → printed ≡ [] → RunsMade image words plan s printed
  MadeEnd : NoneHolds (message_reasons image words) → s ≡ status.Done → printed ≡ made_text (opened image words) (steps_asked plan) (planned plan (opened image words)) → RunsMade image words plan s printed

-- an image is run by its plan
abbrev pub Ran : Option (List ℕ) → Plan → List MessageWord → Image → Status → List ℕ → Type 0
Ran schedule (Schedule file) words image s printed = RanSchedule schedule words image s printed
Ran schedule (Fair steps) words image s printed = RunsMade image words (Fair steps) s printed
Ran schedule (Shuffle number steps) words image s printed = RunsMade image words (Shuffle number steps) s printed

-- a part of what is printed by something that prints so with its status
abbrev pub IsPartBy : (Status → List ℕ → Type 0) → List ℕ → Type 0
IsPartBy Prints printed = (s : Status) × (rest : List ℕ) × Prints s (printed ++ rest)

-- after all steps the record of them is written, where it is asked for
abbrev pub kept : RunWords → Image → Status → List Written
kept r image status.Done = kept_under r.keep (recorded (planned r.plan (opened image r.messages)))
kept r image _ = []

-- the bytes written under a name spell an image that is faithful to the generated program, aren't too many to be read, and the summary on it is printed
pub record Generated (number : ℕ) (name : List ℕ) (printed : List ℕ) (written : List Written) : Type 0 where
  pub image : Image
  pub bytes : List ℕ
  pub spells : Spells bytes image
  pub faithful : Faithful (generated_program number) image
  pub small : length bytes ≤ MAX_IMAGE
  pub prints : printed ≡ summary number image
  pub writes : written ≡ record { name = name; bytes = bytes } ∷ []

abbrev pub Finishes : Command → Input → Status → List ℕ → List Written → Type 0
Finishes (Check file) i s printed written = Checked i s printed written
Finishes (Compile file name) i s printed written = ((image : Image) × Compiled i name image written) × (s ≡ status.Done) × (printed ≡ [])
Finishes (Run name r) i s printed written = (bytes : List ℕ) × (image : Image) × (i.first ≡ Some bytes) × Spells bytes image × Ran i.schedule r.plan r.messages image s printed × (written ≡ kept r image s)
Finishes (Disasm name) i s printed written = Listed i printed × (s ≡ status.Done) × (written ≡ [])
Finishes (Assemble listing name) i s printed written = Assembled i name written × (s ≡ status.Done) × (printed ≡ [])
Finishes (Go file name r) i s printed written = (image : Image) × (first : List Written) × Compiled i name image first × Ran i.schedule r.plan r.messages image s printed × (written ≡ first ++ kept r image s)
Finishes (Gen number name) i s printed written = Generated number name printed written × (s ≡ status.Done)

-- the first reason that holds is told and nothing else is done, or no reason holds and the command does its work
abbrev pub Answers : Command → Input → Status → List ℕ → List Written → Type 0
Answers c i s printed written = (First (reasons c i) s × (printed ≡ []) × (written ≡ [])) ⊎ (NoneHolds (reasons c i) × Finishes c i s printed written)

-- ---- before and after a command

-- the files after some writes
abbrev pub with_written : List Written → Files → Files
with_written [] files = files
with_written (w ∷ rest) files = with_written rest (with_file w.name w.bytes files)

-- what is told as held and as printed has grown by what the command answers
pub record Answered (c : Command) (before now : StoreSeen) (out out_now : SinkSeen) (s : Status) : Type 0 where
  pub input : Input
  pub printed : List ℕ
  pub written : List Written
  pub is_input : IsInput before.told c input
  pub answers : Answers c input s printed written
  pub holds : now.told ≡ option_map (with_written written) before.told
  pub prints : out_now.told ≡ option_map (λ text. text ++ printed) out.told

-- nothing was printed or written, as far as it is told
pub record Stayed (before now : StoreSeen) (out out_now : SinkSeen) : Type 0 where
  pub holds : now.told ≡ before.told
  pub prints : out_now.told ≡ out.told

-- a command that writes an image and runs it prints nothing before
abbrev pub IsBehindImage : Command → List ℕ → List Written → Type 0
IsBehindImage (Go file name r) printed written = written ≡ [] → printed ≡ []
IsBehindImage (Gen number name) printed written = written ≡ [] → printed ≡ []
IsBehindImage _ printed written = Unit {0}

-- of all that a command may print and write where no reason holds, this is a first part
pub record IsPart (c : Command) (i : Input) (printed : List ℕ) (written : List Written) : Type 0 where
  pub status : Status
  pub rest : List ℕ
  pub later : List Written
  pub finishes : Finishes c i status (printed ++ rest) (written ++ later)

-- no reason holds, and of the command's work a first part was done, as far as it is told
pub record BrokeOff (c : Command) (before now : StoreSeen) (out out_now : SinkSeen) : Type 0 where
  pub input : Input
  pub printed : List ℕ
  pub written : List Written
  pub is_input : IsInput before.told c input
  pub none : NoneHolds (reasons c input)
  pub part : IsPart c input printed written
  pub behind : IsBehindImage c printed written
  pub holds : now.told ≡ option_map (with_written written) before.told
  pub prints : out_now.told ≡ option_map (λ text. text ++ printed) out.told

-- a put failed: so there was something to print
pub record CutOff (c : Command) (before now : StoreSeen) (out out_now : SinkSeen) : Type 0 where
  pub broke : BrokeOff c before now out out_now
  pub some : broke.printed ++ broke.part.rest ≢ []

-- the name under which a command writes first
abbrev pub first_written : Command → Option (List ℕ)
first_written (Check file) = None
first_written (Compile file name) = Some name
first_written (Run image r) = r.keep
first_written (Go file name r) = Some name
first_written (Disasm image) = None
first_written (Assemble listing name) = Some name
first_written (Gen number name) = Some name

-- no reason holds, and the first write failed: what its name holds is open, all other files stay, and nothing was printed
pub record LostFirst (c : Command) (before now : StoreSeen) (out out_now : SinkSeen) : Type 0 where
  pub input : Input
  pub name : List ℕ
  pub is_first : first_written c ≡ Some name
  pub is_input : IsInput before.told c input
  pub none : NoneHolds (reasons c input)
  pub others : OthersStay name before.told now.told
  pub prints : out_now.told ≡ out.told

-- no reason holds, a first part was done, and the last of its writes failed: what its name holds is open
pub record LostLast (c : Command) (before now : StoreSeen) (out out_now : SinkSeen) : Type 0 where
  pub input : Input
  pub printed : List ℕ
  pub written : List Written
  pub last : Written
  pub is_input : IsInput before.told c input
  pub none : NoneHolds (reasons c input)
  pub part : IsPart c input printed (written ++ last ∷ [])
  pub behind : IsBehindImage c printed written
  pub others : OthersStay last.name (option_map (with_written written) before.told) now.told
  pub prints : out_now.told ≡ option_map (λ text. text ++ printed) out.told

-- with its status, a command did this
abbrev pub Ends : Command → StoreSeen → StoreSeen → SinkSeen → SinkSeen → Status → Type 0
Ends c before now out out_now status.ReadFailed = ReadFailed before now × Stayed before now out out_now
Ends c before now out out_now status.WriteFailed = (WriteFailed before now × (LostFirst c before now out out_now ⊎ LostLast c before now out out_now)) ⊎ (PutFailed out out_now × CutOff c before now out out_now)
Ends c before now out out_now status.Memory = Stayed before now out out_now ⊎ BrokeOff c before now out out_now
Ends c before now out out_now status.Missing = MissingRose before now × Answered c before now out out_now status.Missing
Ends c before now out out_now (status.Long seen limit) = LongRose before now × Answered c before now out out_now (status.Long seen limit)
Ends c before now out out_now s = Answered c before now out out_now s

-- of each name but these the same is told
abbrev pub OthersStayThan : Option (List ℕ) → Option (List ℕ) → StoreSeen → StoreSeen → Type 0
OthersStayThan None None before now = now.told ≡ before.told
OthersStayThan (Some name) None before now = OthersStay name before.told now.told
OthersStayThan None (Some name) before now = OthersStay name before.told now.told
OthersStayThan (Some name) (Some other) before now = (held : Option Files) × OthersStay name before.told held × OthersStay other held now.told

-- whatever its status: no file changes but those that the command writes
abbrev pub Spares : Command → StoreSeen → StoreSeen → Type 0
Spares (Check file) before now = now.told ≡ before.told
Spares (Compile file name) before now = OthersStay name before.told now.told
Spares (Run image r) before now = OthersStayThan None r.keep before now
Spares (Go file name r) before now = OthersStayThan (Some name) r.keep before now
Spares (Disasm name) before now = now.told ≡ before.told
Spares (Assemble listing name) before now = OthersStay name before.told now.told
Spares (Gen number name) before now = OthersStay name before.told now.told

-- a status that is no failed call and no want of memory
abbrev pub IfSpoken : Status → Type 0 → Type 0
IfSpoken status.ReadFailed P = Unit {0}
IfSpoken status.WriteFailed P = Unit {0}
IfSpoken status.Memory P = Unit {0}
IfSpoken _ P = P

-- how a run ends that was begun
abbrev pub IsRunEnd : Status → Type 0
IsRunEnd status.Done = Unit {0}
IsRunEnd (status.Schedule line) = Unit {0}
IsRunEnd (status.Step line) = Unit {0}
IsRunEnd (status.Message fault) = Unit {0}
IsRunEnd _ = ⊥

-- how a command ends that does its work
abbrev pub IsFinish : Command → Status → Type 0
IsFinish (Check file) s = s ≡ status.Done
IsFinish (Compile file name) s = s ≡ status.Done
IsFinish (Run name r) s = IsRunEnd s
IsFinish (Go file name r) s = IsRunEnd s
IsFinish (Disasm name) s = s ≡ status.Done
IsFinish (Assemble listing name) s = s ≡ status.Done
IsFinish (Gen number name) s = s ≡ status.Done

abbrev pub IsFinishOrWant : Command → Status → Type 0
IsFinishOrWant c s = IsFinish c s ⊎ (s ≡ status.Memory)

-- ---- where all is good

-- each line of a schedule is good and possible
abbrev pub GoodSchedule : Option (List ℕ) → Plan → State → Type 0
GoodSchedule schedule (Schedule file) s = (text : List ℕ) × (printed : List ℕ) × (schedule ≡ Some text) × RunsToEnd s text printed
GoodSchedule schedule (Fair steps) s = Unit {0}
GoodSchedule schedule (Shuffle number steps) s = Unit {0}

-- so is it, and the messages fit
abbrev pub GoodRun : Option (List ℕ) → RunWords → Image → Type 0
GoodRun schedule r image = NoneHolds (message_reasons image r.messages) × GoodSchedule schedule r.plan (opened image r.messages)

-- of the image that is run: that of IMAGE, or the one that is now told under its name
abbrev pub IsGood : Command → Input → Option Files → Type 0
IsGood (Run name r) i now = (bytes : List ℕ) (image : Image) → i.first ≡ Some bytes → Spells bytes image → GoodRun i.schedule r image
IsGood (Go file name r) i now = (files : Files) (bytes : List ℕ) (image : Image) → now ≡ Some files → file_at files name ≡ Some bytes → Spells bytes image → GoodRun i.schedule r image
IsGood _ i now = Unit {0}

abbrev pub DoneOrWant : Status → Type 0
DoneOrWant s = (s ≡ status.Done) ⊎ (s ≡ status.Memory)

-- the words are no command, or memory for them is wanting
abbrev pub IsNoCommand : Status → Type 0
IsNoCommand s = (s ≡ status.Words) ⊎ (s ≡ status.Memory)

-- no count of faults rose
pub record NoneFailed (before now : StoreSeen) (out out_now : SinkSeen) : Type 0 where
  pub reads : ¬ Rose before.counts.read_faults now.counts.read_faults
  pub writes : ¬ Rose before.counts.write_faults now.counts.write_faults
  pub puts : ¬ Rose out.faults out_now.faults

-- the status of a run
abbrev pub status_of : {A : Type 0} → Result A Status → Status
status_of (Ok done) = status.Done
status_of (Err s) = s
