-- Why a command does nothing more: for each command an ordered list of reasons, of which the first that holds is told.
use Rattle.std.specs.Prelude.{◌≡◌, ◌⊎◌, ℕ, ◌+◌, ◌<◌, List, [], ◌∷◌, length, Option, Some, None}
use Rattle.redn_outside.specs.Files.{Files, file_at}
use Rattle.redn_image.specs.Rules.{Image}
use Rattle.redn_image.specs.Spelling.{Refused, NotMagic, OtherVersion, TooShort, TooLong, Broken, refused}
use Rattle.redn_image.specs.declared.numbers.Fault.{Fault}
use Rattle.redn_disasm.specs.Assembly.{Assembles, WrongLine, BreaksRule}
use Rattle.redn_top.specs.declared.status.TextFault.TheVariants as text_fault
use Rattle.redn_top.specs.declared.limits.TheConstants.{MAX_FILE, MAX_IMAGE, MAX_LISTING, MAX_SCHEDULE}
use Rattle.redn_top.specs.declared.status.ImageFault.{ImageFault}
use Rattle.redn_top.specs.declared.status.ImageFault.TheVariants as image_fault
use Rattle.redn_top.specs.declared.status.MessageFault.{MessageFault}
use Rattle.redn_top.specs.declared.status.TextFault.{TextFault}
use Rattle.redn_top.specs.declared.status.Status.{Status}
use Rattle.redn_top.specs.declared.status.Status.TheVariants as status
use Rattle.redn_command.specs.Words.{Command, Check, Compile, Run, Go, Disasm, Assemble, Gen, Plan, Schedule, Fair, Shuffle, MessageWord}
use Rattle.redn_top.specs.MessageWords.{messages, word_faults, length_faults}
use Rattle.redn_top.specs.Sources.{TextRefused, RuleBroken}

-- ---- what is read

-- this was found under a name: what is held there, where the store tells; None is a file that isn't held
abbrev pub Finds : Option Files → List ℕ → Option (List ℕ) → Type 0
Finds None name found = Unit {0}
Finds (Some files) name found = file_at files name ≡ found

-- what a command finds: its FILE, or the IMAGE that is run, and the schedule
pub record Input : Type 0 where
  pub first : Option (List ℕ)
  pub schedule : Option (List ℕ)

-- a plan that is made reads nothing
abbrev pub IsPlanInput : Option Files → Plan → Option (List ℕ) → Type 0
IsPlanInput told (Schedule file) found = Finds told file found
IsPlanInput told (Fair steps) found = Unit {0}
IsPlanInput told (Shuffle number steps) found = Unit {0}

abbrev pub IsInput : Option Files → Command → Input → Type 0
IsInput told (Check file) i = Finds told file i.first
IsInput told (Compile file image) i = Finds told file i.first
IsInput told (Run image r) i = Finds told image i.first × IsPlanInput told r.plan i.schedule
IsInput told (Go file image r) i = Finds told file i.first × IsPlanInput told r.plan i.schedule
IsInput told (Disasm image) i = Finds told image i.first
IsInput told (Assemble listing image) i = Finds told listing i.first
IsInput told (Gen number image) i = Unit {0}

-- ---- reasons

-- a reason is a fact about a status: that it holds, and that this status tells it
module _ (found : Option (List ℕ)) where
  abbrev pub missing : Status → Type 0
  missing s = (found ≡ None) × (s ≡ status.Missing)

  -- of the text that is found
  abbrev pub of_text : (List ℕ → Status → Type 0) → Status → Type 0
  of_text R s = (text : List ℕ) × (found ≡ Some text) × R text s

  -- a file of more bytes than may be read: `seen` is one more than the limit
  abbrev pub too_long : ℕ → Status → Type 0
  too_long limit = of_text (λ text s. (limit < length text) × (s ≡ status.Long (limit + 1) limit))

  -- no tree has the text, or one that is nested too deep
  abbrev pub no_tree : Status → Type 0
  no_tree = of_text (λ text s. (fault : TextFault) × TextRefused text fault × (s ≡ status.Text fault))

  -- a rule of programs fails
  abbrev pub no_program : Status → Type 0
  no_program = of_text (λ text s. (rule : ℕ) × (at : ℕ) × (seen : ℕ) × RuleBroken text rule at seen × (s ≡ status.Program rule at seen))

  abbrev pub told_fault : Refused → ImageFault
  told_fault NotMagic = image_fault.Magic
  told_fault (OtherVersion v) = image_fault.Version v
  told_fault (TooShort need) = image_fault.Short need
  told_fault (TooLong n) = image_fault.Trailing n
  told_fault (Broken f) = image_fault.Rule f.rule f.index

  -- the bytes spell no image
  abbrev pub no_image : Status → Type 0
  no_image = of_text (λ bytes s. (why : Refused) × (refused bytes ≡ Some why) × (s ≡ status.Image (told_fault why)))

  -- a line of a listing that isn't the next one possible
  abbrev pub wrong_line : Status → Type 0
  wrong_line = of_text (λ text s. (line : ℕ) × Assembles text (WrongLine line) × (s ≡ status.Text (text_fault.Line line)))

  -- the rows of a listing break a rule
  abbrev pub broken_rows : Status → Type 0
  broken_rows = of_text (λ text s. (f : Fault) × Assembles text (BreaksRule f) × (s ≡ status.Image (image_fault.Rule f.rule f.index)))

-- the first of some faults of messages
abbrev pub first_fault : List MessageFault → Status → Type 0
first_fault faults s = (f : MessageFault) × (behind : List MessageFault) × (faults ≡ f ∷ behind) × (s ≡ status.Message f)

abbrev pub bad_word : Image → List MessageWord → Status → Type 0
bad_word i words = first_fault (word_faults (length i.receives) [] words)

abbrev pub bad_length : Image → List MessageWord → Status → Type 0
bad_length i words = first_fault (length_faults i.receives (messages (length i.receives) words))

-- ---- the first reason

pub data Reasons : Type 1 where
  Nil : Reasons
  Or : (R : Status → Type 0) (rest : Reasons) → Reasons

-- some reasons and behind them others
abbrev pub also : Reasons → Reasons → Reasons
also Nil others = others
also (Or R rest) others = Or R (also rest others)

abbrev pub Never : (Status → Type 0) → Type 0
Never R = (s : Status) → ¬ R s

abbrev pub NoneHolds : Reasons → Type 0
NoneHolds Nil = Unit {0}
NoneHolds (Or R rest) = Never R × NoneHolds rest

-- a reason holds and is told, and none before it holds
abbrev pub First : Reasons → Status → Type 0
First Nil s = ⊥
First (Or R rest) s = R s ⊎ (Never R × First rest s)

-- ---- the reasons of each command, in the order in which they are told

abbrev pub read_reasons : Option (List ℕ) → ℕ → Reasons
read_reasons found limit = Or (missing found) (Or (too_long found limit) Nil)

abbrev pub source_reasons : Option (List ℕ) → Reasons
source_reasons found = Or (no_tree found) (Or (no_program found) Nil)

abbrev pub image_reasons : Option (List ℕ) → Reasons
image_reasons found = Or (no_image found) Nil

abbrev pub listing_reasons : Option (List ℕ) → Reasons
listing_reasons found = Or (wrong_line found) (Or (broken_rows found) Nil)

abbrev pub plan_reads : Plan → Option (List ℕ) → Reasons
plan_reads (Schedule file) found = read_reasons found MAX_SCHEDULE
plan_reads (Fair steps) found = Nil
plan_reads (Shuffle number steps) found = Nil

-- the reads of a command that runs: its file and then the schedule
abbrev pub run_reads : Option (List ℕ) → ℕ → Plan → Option (List ℕ) → Reasons
run_reads found limit plan schedule = also (read_reasons found limit) (plan_reads plan schedule)

abbrev pub reasons : Command → Input → Reasons
reasons (Check file) i = also (read_reasons i.first MAX_FILE) (source_reasons i.first)
reasons (Compile file image) i = also (read_reasons i.first MAX_FILE) (source_reasons i.first)
reasons (Run image r) i = also (run_reads i.first MAX_IMAGE r.plan i.schedule) (image_reasons i.first)
reasons (Disasm image) i = also (read_reasons i.first MAX_IMAGE) (image_reasons i.first)
reasons (Assemble listing image) i = also (read_reasons i.first MAX_LISTING) (listing_reasons i.first)
reasons (Go file image r) i = also (run_reads i.first MAX_FILE r.plan i.schedule) (source_reasons i.first)
reasons (Gen number image) i = Nil

-- with an image at hand, those of messages
abbrev pub message_reasons : Image → List MessageWord → Reasons
message_reasons i words = Or (bad_word i words) (Or (bad_length i words) Nil)
