-- The summary of a run of the generated file of a number.
use Rattle.std.specs.Prelude.{ℕ, ◌+◌, ◌*◌, List, ◌++◌, length, codes, decimal}
use Rattle.std.specs.List.{flat_map}
use Rattle.redn_words.specs.declared.types.Action.{Action}
use Rattle.redn_kernel.specs.declared.types.Program.{Program}
use Rattle.redn_check.specs.Numbering.{program_of}
use Rattle.redn_image.specs.Rules.{Image}
use Rattle.redn_image.specs.Faithful.{start_of}
use Rattle.redn_sched.specs.MadeSchedules.{fair}
use Rattle.redn_gen.specs.Generated.{below, chain_count, sought, generated_file, generated_messages}
use Rattle.redn_summary.specs.declared.run.TheConstants.{MAX_SUMMARY_STEPS}

abbrev pub generated_program : ℕ → Program
generated_program n = program_of (generated_file n)

-- the fair actions on an image, from its start with the generated messages
abbrev pub generated_run : ℕ → Image → List Action
generated_run n image = fair MAX_SUMMARY_STEPS (start_of image (generated_messages n))

-- a word and a number
abbrev pub counted : List ℕ → ℕ → List ℕ
counted word number = word ++ decimal number ++ codes "\n"

-- the reply of a chain: 1,000 times the value of its bucket, and 1,000
abbrev pub reply_line : ℕ → ℕ → List ℕ
reply_line n c = codes "reply " ++ decimal c ++ codes " " ++ decimal (1000 * (n + sought n c)) ++ codes " 1000\n"

-- how many events each chain shows: its two arguments, four in each of 1,000 turns, and its reply
abbrev pub summary : ℕ → Image → List ℕ
summary n image =
    counted (codes "gen ") n
    ++ counted (codes "chains ") (chain_count n)
    ++ counted (codes "events ") (4003 * chain_count n)
    ++ counted (codes "steps ") (length (generated_run n image))
    ++ flat_map (reply_line n) (below (chain_count n))
    ++ codes "end quiet\n"
