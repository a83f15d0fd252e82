-- A line of words while it is read.
use Rattle.std.specs.Prelude.{◌≡◌, ℕ, ◌≤◌, List, [], ◌∷◌, length, map, All, Option, Some, None, true, codes, slice_index_or, unwrap_or}
use Rattle.std.specs.List.{flat_map}
use Rattle.std.specs.Option.{option_map, option_to_list}
use Rattle.clap.specs.Words.{App, Rule, Text, first_value, found_of, matched_of, new_app, new_rule, raw_values, with_rule}
use Rattle.clap.specs.declared.builder.action.ArgAction.TheVariants.{Append, Set}
use Rattle.clap.specs.declared.parser.matches.ArgMatches.{ArgMatches}
use Rattle.redn_command.specs.declared.line.Choice.{Choice}
use Rattle.redn_command.specs.declared.line.Choice.TheVariants as choice
use Rattle.redn_command.specs.declared.line.Options.{Options}
use Rattle.redn_command.specs.declared.line.Line.{Line as LineView}
use Rattle.redn_command.specs.Words.{IsPart, Line, Part, values, words_of_part}

-- the values of options by their numbers
abbrev pub slots : Options → List (Option (List ℕ))
slots o =
    option_map (λ s. s.now) o.schedule
    ∷ option_map (λ s. s.now) o.fair
    ∷ option_map (λ s. s.now) o.shuffle ∷ option_map (λ s. s.now) o.steps ∷ option_map (λ s. s.now) o.«record» ∷ []

-- a line as it is kept
abbrev pub line_view : LineView → Line
line_view l = record { given = λ n. option_to_list (slice_index_or (slots l.options) n None); positions = map (λ s. s.now) l.positions.items }

-- no option stands twice
abbrev pub GivesOnce : Line → Type 0
GivesOnce line = (c : Choice) → length (values c line) ≤ 1

-- the file that the steps made are recorded in
abbrev pub keep_view : LineView → Option (List ℕ)
keep_view l = option_map (λ s. s.now) l.options.«record»

-- words are these parts
pub record AreParts (words : List (List ℕ)) (parts : List Part) : Type 0 where
  pub are : words ≡ flat_map words_of_part parts
  pub names : All IsPart parts

-- ---- the command of `clap` that cuts a line

-- an option without its dashes
abbrev pub option_name : Choice → Text
option_name choice.Schedule = codes "schedule"
option_name choice.Fair = codes "fair"
option_name choice.Shuffle = codes "shuffle"
option_name choice.Steps = codes "steps"
option_name choice.Record = codes "record"

abbrev pub positions_name : Text
positions_name = codes "positions"

-- an option that takes one value
abbrev pub option_rule : Text → Rule
option_rule name = record (new_rule name) { long = Some name; action = Some Set }

-- positions, any number of them
abbrev pub positions_rule : Rule
positions_rule = record (new_rule positions_name) { action = Some Append }

-- no word is the program's, and none asks for help
abbrev pub bare_app : App
bare_app = let a = new_app (codes "redn") in record a { top = record a.top { no_binary_name = true; disable_help_flag = true } }

abbrev pub with_option : App → Choice → App
with_option a c = with_rule a (option_rule (option_name c))

abbrev pub with_options : App → App
with_options a =
    with_option (with_option (with_option (with_option (with_option a choice.Schedule) choice.Fair) choice.Shuffle) choice.Steps) choice.Record

abbrev pub line_app : App
line_app = with_rule (with_options bare_app) positions_rule

-- matches that hold what a line gives: no option stands twice
pub record IsMatchOf (line : Line) (m : ArgMatches) : Type 0 where
  pub given : (c : Choice) → option_to_list (first_value (found_of m) (option_name c)) ≡ values c line
  pub positions : unwrap_or (option_map raw_values (matched_of (found_of m) positions_name)) [] ≡ line.positions
