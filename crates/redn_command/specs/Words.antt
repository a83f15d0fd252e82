-- The words of a command.
use Rattle.std.specs.Prelude.{◌≡◌, ℕ, ◌^◌, ◌<◌, ◌≤◌, ◌==◌, if◌then◌else◌, List, [], ◌∷◌, ◌++◌, map, All, Option, Some, None, codes, decimal, string_bytes}
use Rattle.std.specs.List.{flat_map}
use Rattle.std.specs.Option.{option_map, option_to_list}
use Rattle.redn_command.specs.declared.limits.TheConstants.{MAX_STEPS, MAX_RECORDED}
use Rattle.redn_command.specs.declared.line.Choice.{Choice}
use Rattle.redn_command.specs.declared.line.Choice.TheVariants as choice
use Rattle.redn_command.specs.declared.command.MessageWord.{MessageWord as MessageView}
use Rattle.redn_command.specs.declared.command.Plan.{Plan as PlanView}
use Rattle.redn_command.specs.declared.command.Plan.TheVariants as plan
use Rattle.redn_command.specs.declared.command.Command.{Command as CommandView}
use Rattle.redn_command.specs.declared.command.Command.TheVariants as view

-- ---- commands

-- `C=HEX`: a message for a chain, by its hex digits
pub record MessageWord : Type 0 where
  pub chain : ℕ
  pub digits : List ℕ

-- what makes the actions of a run: the file of a schedule, the fair rules for so many steps, or the draws of a number for so many
pub data Plan : Type 0 where
  Schedule : (file : List ℕ) → Plan
  Fair : (steps : ℕ) → Plan
  Shuffle : (number steps : ℕ) → Plan

-- what an image is run with, and the file that the steps made are recorded in
pub record RunWords : Type 0 where
  pub plan : Plan
  pub keep : Option (List ℕ)
  pub messages : List MessageWord

pub data Command : Type 0 where
  Check : (file : List ℕ) → Command
  Compile : (file image : List ℕ) → Command
  Run : (image : List ℕ) (run : RunWords) → Command
  Go : (file image : List ℕ) (run : RunWords) → Command
  Disasm : (image : List ℕ) → Command
  Assemble : (listing image : List ℕ) → Command
  Gen : (number : ℕ) (image : List ℕ) → Command

-- ---- a line of words behind the verb

-- a name isn't empty and doesn't begin as an option does
abbrev pub IsName : List ℕ → Type 0
IsName [] = ⊥
IsName (b ∷ rest) = ¬ (b ≡ 45)

abbrev pub option_text : Choice → List ℕ
option_text choice.Schedule = codes "--schedule"
option_text choice.Fair = codes "--fair"
option_text choice.Shuffle = codes "--shuffle"
option_text choice.Steps = codes "--steps"
option_text choice.Record = codes "--record"

-- an option and its value
pub record Given : Type 0 where
  pub option : Choice
  pub value : List ℕ

pub data Part : Type 0 where
  AnOption : (given : Given) → Part
  APosition : (word : List ℕ) → Part

abbrev pub words_of_part : Part → List (List ℕ)
words_of_part (AnOption g) = option_text g.option ∷ g.value ∷ []
words_of_part (APosition w) = w ∷ []

abbrev pub IsPart : Part → Type 0
IsPart (AnOption g) = IsName g.value
IsPart (APosition w) = IsName w

abbrev pub options_in : Part → List Given
options_in (AnOption g) = g ∷ []
options_in (APosition w) = []

abbrev pub positions_in : Part → List (List ℕ)
positions_in (AnOption g) = []
positions_in (APosition w) = w ∷ []

-- options by their number
abbrev pub number_of : Choice → ℕ
number_of choice.Schedule = 0
number_of choice.Fair = 1
number_of choice.Shuffle = 2
number_of choice.Steps = 3
number_of choice.Record = 4

-- the value of an option, if it is the one of this number
abbrev pub value_for : ℕ → Given → List (List ℕ)
value_for n g = if number_of g.option == n then g.value ∷ [] else []

-- what stands behind the verb: for the number of each option the values that it is given, and the positions, in order
pub record Line : Type 0 where
  pub given : ℕ → List (List ℕ)
  pub positions : List (List ℕ)

-- words that are options, each with its value behind it, and positions
abbrev pub line_of : List Part → Line
line_of parts = record { given = λ n. flat_map (value_for n) (flat_map options_in parts); positions = flat_map positions_in parts }

pub record IsLine (words : List (List ℕ)) (line : Line) : Type 0 where
  pub parts : List Part
  pub are : words ≡ flat_map words_of_part parts
  pub names : All IsPart parts
  pub given : (n : ℕ) → line.given n ≡ (line_of parts).given n
  pub positions : line.positions ≡ (line_of parts).positions

abbrev pub values : Choice → Line → List (List ℕ)
values c line = line.given (number_of c)

-- ---- what a line means for a verb

abbrev pub verb_of : Command → List ℕ
verb_of (Check file) = codes "check"
verb_of (Compile file image) = codes "compile"
verb_of (Run image r) = codes "run"
verb_of (Go file image r) = codes "go"
verb_of (Disasm image) = codes "disasm"
verb_of (Assemble listing image) = codes "assemble"
verb_of (Gen number image) = codes "gen"

-- how a message is written
abbrev pub message_text : MessageWord → List ℕ
message_text m = decimal m.chain ++ (codes "=" ++ m.digits)

abbrev pub positions_of : Command → List (List ℕ)
positions_of (Check file) = file ∷ []
positions_of (Compile file image) = file ∷ image ∷ []
positions_of (Run image r) = image ∷ map message_text r.messages
positions_of (Go file image r) = file ∷ image ∷ map message_text r.messages
positions_of (Disasm image) = image ∷ []
positions_of (Assemble listing image) = listing ∷ image ∷ []
positions_of (Gen number image) = decimal number ∷ image ∷ []

-- no option stands
pub record GivesNone (line : Line) : Type 0 where
  pub schedule : values choice.Schedule line ≡ []
  pub fair : values choice.Fair line ≡ []
  pub shuffle : values choice.Shuffle line ≡ []
  pub steps : values choice.Steps line ≡ []
  pub recorded : values choice.Record line ≡ []

-- `--schedule F`
pub record GivesSchedule (line : Line) (file : List ℕ) (keep : Option (List ℕ)) : Type 0 where
  pub schedule : values choice.Schedule line ≡ file ∷ []
  pub fair : values choice.Fair line ≡ []
  pub shuffle : values choice.Shuffle line ≡ []
  pub steps : values choice.Steps line ≡ []
  pub recorded : values choice.Record line ≡ []
  pub kept : keep ≡ None

-- fewer steps may be recorded than made
abbrev pub most_steps : Option (List ℕ) → ℕ
most_steps None = MAX_STEPS
most_steps (Some file) = MAX_RECORDED

-- `--fair N`, and perhaps `--record F`
pub record GivesFair (line : Line) (n : ℕ) (keep : Option (List ℕ)) : Type 0 where
  pub schedule : values choice.Schedule line ≡ []
  pub fair : values choice.Fair line ≡ decimal n ∷ []
  pub shuffle : values choice.Shuffle line ≡ []
  pub steps : values choice.Steps line ≡ []
  pub recorded : values choice.Record line ≡ option_to_list keep
  pub few : n ≤ most_steps keep

-- `--shuffle S --steps N`, and perhaps `--record F`
pub record GivesShuffle (line : Line) (number n : ℕ) (keep : Option (List ℕ)) : Type 0 where
  pub schedule : values choice.Schedule line ≡ []
  pub fair : values choice.Fair line ≡ []
  pub shuffle : values choice.Shuffle line ≡ decimal number ∷ []
  pub steps : values choice.Steps line ≡ decimal n ∷ []
  pub recorded : values choice.Record line ≡ option_to_list keep
  pub small : number < 2 ^ 64
  pub few : n ≤ most_steps keep

abbrev pub GivesPlan : Line → Plan → Option (List ℕ) → Type 0
GivesPlan line (Schedule file) keep = GivesSchedule line file keep
GivesPlan line (Fair n) keep = GivesFair line n keep
GivesPlan line (Shuffle number n) keep = GivesShuffle line number n keep

-- the number of a chain has 32 bits
abbrev pub HasSmallChain : MessageWord → Type 0
HasSmallChain m = m.chain < 2 ^ 32

-- what the options give, and which numbers may stand
abbrev pub Gives : Line → Command → Type 0
Gives line (Check file) = GivesNone line
Gives line (Compile file image) = GivesNone line
Gives line (Run image r) = GivesPlan line r.plan r.keep × All HasSmallChain r.messages
Gives line (Go file image r) = GivesPlan line r.plan r.keep × All HasSmallChain r.messages
Gives line (Disasm image) = GivesNone line
Gives line (Assemble listing image) = GivesNone line
Gives line (Gen number image) = GivesNone line × (number < 2 ^ 32)

-- the line of a command's verb that means this command
pub record Means (line : Line) (c : Command) : Type 0 where
  pub positions : line.positions ≡ positions_of c
  pub gives : Gives line c

-- words mean a command
pub record IsCommand (words : List (List ℕ)) (c : Command) : Type 0 where
  pub behind : List (List ℕ)
  pub line : Line
  pub are : words ≡ verb_of c ∷ behind
  pub cut : IsLine behind line
  pub means : Means line c

-- a word is this message's
pub record IsMessageWord (word : List ℕ) (m : MessageWord) : Type 0 where
  pub text : word ≡ message_text m
  pub small : HasSmallChain m

-- ---- words as they are kept

abbrev pub message_view : MessageView → MessageWord
message_view m = record { chain = m.chain; digits = string_bytes m.hex }

abbrev pub plan_view : PlanView → Plan
plan_view (plan.Schedule file) = Schedule (string_bytes file)
plan_view (plan.Fair steps) = Fair steps
plan_view (plan.Shuffle number steps) = Shuffle number steps

abbrev pub command_view : CommandView → Command
command_view (view.Check file) = Check (string_bytes file)
command_view (view.Compile file image) = Compile (string_bytes file) (string_bytes image)
command_view (view.Run image p keep messages) = Run (string_bytes image) (record { plan = plan_view p; keep = option_map string_bytes keep; messages = map message_view messages.items })
command_view (view.Go file image p keep messages) = Go (string_bytes file) (string_bytes image) (record { plan = plan_view p; keep = option_map string_bytes keep; messages = map message_view messages.items })
command_view (view.Disasm image) = Disasm (string_bytes image)
command_view (view.Assemble listing image) = Assemble (string_bytes listing) (string_bytes image)
command_view (view.Gen number image) = Gen number (string_bytes image)
