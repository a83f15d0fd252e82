-- Parts of what a command does, typed by hand.
use Rattle.std.proofs.Common.{◌≡◌, ◌≤◌, ℕ, List, [], ◌∷◌, ◌++◌, length, inl, inr, refl, sym}
use Rattle.std.specs.Prelude.{codes, Some, None, true}
use Rattle.std.specs.FinMap as finite
use Rattle.redn_outside.specs.Files.{Files, with_file}
use Rattle.redn_outside.specs.Seen.{StoreSeen, SinkSeen}
use Rattle.redn_image.specs.Rules.{Image}
use Rattle.redn_image.specs.Spelling.{Spells}
use Rattle.redn_image.specs.Faithful.{Faithful}
use Rattle.redn_summary.specs.Summary.{generated_program, summary}
use Rattle.redn_command.specs.Words.{Command, Check, Gen, Fair, RunWords, MessageWord}
use Rattle.redn_top.specs.declared.status.Status.TheVariants.{Done, Memory, Missing, Message}
use Rattle.redn_outside.proofs.FileMaps.{OthersStay-with_file}
use Rattle.redn_words.specs.States.{State}
use Rattle.redn_top.specs.declared.limits.TheConstants.{MAX_IMAGE}
use Rattle.redn_top.specs.declared.status.Status.{Status}
use Rattle.redn_top.specs.declared.status.MessageFault.TheVariants.{NoChain}
use Rattle.redn_top.specs.Reasons.{Input}
use Rattle.redn_top.specs.Answers.{Written, Generated, IsPart, BrokeOff, CutOff, LostFirst, LostLast, Ends, GoodRun, IsGood, DoneOrWant}
use Rattle.redn_top.specs.Refusals.{RanBy, PrintedPart, PrintedSome, MadePart}

nothing_read : Input
nothing_read = record { first = None; schedule = None }

holding : Files → StoreSeen
holding files = record { told = Some files; calls = None; counts = record { read_faults = 0; write_faults = 0; missing_answers = 0; long_answers = 0 }; reliable = true }

with_text : List ℕ → SinkSeen
with_text text = record { told = Some text; faults = 0; reliable = true }

abbrev gen : Command
gen = Gen 5 (codes "g")

-- an image of the generated file of 5, and its summary behind the first line
module _ (image : Image) (bytes rest : List ℕ) (spells : Spells bytes image) (faithful : Faithful (generated_program 5) image) (small : length bytes ≤ MAX_IMAGE) (text : summary 5 image ≡ codes "gen 5\n" ++ rest) where
  abbrev its_image : Written
  its_image = record { name = codes "g"; bytes = bytes }

  -- the image is written and one line is printed
  one_line : IsPart gen nothing_read (codes "gen 5\n") (its_image ∷ [])
  one_line = record { status = Done; rest = rest; later = []; finishes = (record { image = image; bytes = bytes; spells = spells; faithful = faithful; small = small; prints = sym text; writes = refl }, refl) }

  -- nothing at all
  nothing_yet : IsPart gen nothing_read [] []
  nothing_yet = record { status = Done; rest = codes "gen 5\n" ++ rest; later = its_image ∷ []; finishes = (record { image = image; bytes = bytes; spells = spells; faithful = faithful; small = small; prints = sym text; writes = refl }, refl) }

  -- all of it
  whole : Generated 5 (codes "g") (codes "gen 5\n" ++ rest) (its_image ∷ [])
  whole = record { image = image; bytes = bytes; spells = spells; faithful = faithful; small = small; prints = sym text; writes = refl }

  -- the write of the image failed and left an empty file, and nothing was printed
  lost : LostLast gen (holding finite.empty) (holding (with_file (codes "g") [] finite.empty)) (with_text []) (with_text [])
  unfolding holding with_text nothing_read
  lost =
      record {
        input = nothing_read;
        printed = [];
        written = [];
        last = its_image;
        is_input = tt;
        none = tt;
        part = record { status = Done; rest = codes "gen 5\n" ++ rest; later = []; finishes = (whole, refl) };
        behind = λ e. refl;
        others = OthersStay-with_file (codes "g") [] finite.empty;
        prints = refl;
      }

  -- had a line been printed, it would be no such end
  not_printed : (x : LostLast gen (holding finite.empty) (holding (with_file (codes "g") [] finite.empty)) (with_text []) (with_text (codes "gen 5\n"))) → x.written ≡ [] → x.printed ≡ codes "gen 5\n" → ⊥
  not_printed x none line = let empty : x.printed ≡ [] = x.behind none in absurd (cc)

  -- memory was wanting behind that line, over an empty store
  broke : BrokeOff gen (holding finite.empty) (holding (with_file (codes "g") bytes finite.empty)) (with_text []) (with_text (codes "gen 5\n"))
  unfolding holding with_text nothing_read
  broke = record { input = nothing_read; printed = codes "gen 5\n"; written = its_image ∷ []; is_input = tt; none = tt; part = one_line; behind = λ e. absurd (cc); holds = refl; prints = refl }

  -- had a put failed there, it would have been that of a line
  cut : CutOff gen (holding finite.empty) (holding (with_file (codes "g") bytes finite.empty)) (with_text []) (with_text (codes "gen 5\n"))
  unfolding broke
  cut = record { broke = broke; some = λ e. absurd (cc) }

  told_so : Ends gen (holding finite.empty) (holding (with_file (codes "g") bytes finite.empty)) (with_text []) (with_text (codes "gen 5\n")) Memory
  told_so = inr broke

-- the first write failed
first_lost : LostFirst gen (holding finite.empty) (holding finite.empty) (with_text []) (with_text [])
first_lost = record { input = nothing_read; name = codes "g"; is_first = refl; is_input = tt; none = tt; others = record { tells = refl; others = λ other not. refl }; prints = refl }

-- which statuses are where all is good
spoken : DoneOrWant Done × DoneOrWant Memory
spoken = (inl refl, inr refl)

-- ---- runs

-- something that prints "ab" and is done
abbrev Letters : Status → List ℕ → Type 0
Letters s text = (s ≡ Done) × (text ≡ codes "ab")

ran_whole : RanBy Letters (with_text []) (with_text (codes "ab")) Done
unfolding with_text
ran_whole = (codes "ab", (refl, refl), refl)

ran_part : PrintedPart Letters (with_text (codes "-")) (with_text (codes "-a"))
unfolding with_text
ran_part = (codes "a", (Done, codes "b", (refl, refl)), refl)

-- a put of it may fail, and none of what prints nothing
cut_short : PrintedSome Letters (with_text (codes "-")) (with_text (codes "-a"))
unfolding ran_part
cut_short = (ran_part, λ e. absurd (cc))

nothing_to_put : PrintedSome (λ s text. text ≡ []) (with_text []) (with_text []) → ⊥
nothing_to_put h = h.1 h.0.1.2

wanted : RanBy Letters (with_text (codes "-")) (with_text (codes "-a")) Memory
wanted = ran_part

not_missing : RanBy Letters (with_text []) (with_text []) Missing → ⊥
not_missing h = h

-- of no step the end line was put up to its space
made_part : (s : State) → MadePart s 3 [] (with_text []) (with_text (codes "end "))
unfolding with_text
made_part s = (codes "end ", codes "quiet\n", refl, refl)

-- an image without places for messages, which gets none
abbrev no_places : Image
no_places = record { regions = []; queues = []; receives = []; memory = [] }

abbrev fair_run : RunWords
fair_run = record { plan = Fair 3; keep = None; messages = [] }

good : GoodRun None fair_run no_places
good = (((λ s h. absurd (let e = h.2 in cc)), ((λ s h. absurd (let e = h.2 in cc)), tt)), tt)

-- a message for a chain that isn't there
abbrev stray : MessageWord
stray = record { chain = 0; digits = [] }

bad : GoodRun None (record fair_run { messages = stray ∷ [] }) no_places → ⊥
bad h = h.0.0 (Message (NoChain 0)) (NoChain 0, [], refl, refl)

check_is_good : (i : Input) → IsGood (Check (codes "f")) i None
check_is_good i = tt
