-- Examples typed by hand: statuses, words, messages, places, reasons, and a run that stops.
use Rattle.std.proofs.Common.{arith, ◌≡◌, ◌<◌, ◌∙◌, ℕ, true, List, [], ◌∷◌, length, take, ap, inl, inr, refl, sym, lit<}
use Rattle.std.specs.Prelude.{codes, Option, Some, None}
use Rattle.std.specs.Fmt.{digits}
use Rattle.std.specs.FinMap as finite
use Rattle.std.specs.FinMap.{gets}
use Rattle.hex.specs.Hex.{decode_pairs}
use Rattle.redn_outside.specs.Files.{Files, with_file}
use Rattle.redn_words.specs.declared.types.Action.{Action}
use Rattle.redn_words.specs.declared.types.Action.TheVariants.{Deliver, Land}
use Rattle.redn_words.specs.declared.types.Obs.TheVariants as shows
use Rattle.redn_words.specs.Words.{spelled}
use Rattle.redn_words.specs.States.{State, start}
use Rattle.redn_words.specs.Steps.{possible, after, shown}
use Rattle.redn_trace.specs.EventText.{event_text}
use Rattle.redn_sched.specs.declared.text.Numbered.{Numbered}
use Rattle.redn_sched.specs.ScheduleText.{action_text, lines_of, Reads, Begins}
use Rattle.redn_image.specs.Rules.{Image as Parts}
use Rattle.redn_image.specs.Faithful.{start_of}
use Rattle.redn_syntax.specs.declared.token.Token.{Token}
use Rattle.redn_syntax.specs.declared.token.TokenKind.TheVariants.{Name}
use Rattle.redn_top.specs.declared.limits.TheConstants.{MAX_FILE, MAX_IMAGE, MAX_LISTING, MAX_SCHEDULE}
use Rattle.redn_top.specs.declared.status.TextFault.TheVariants.{Byte, Nesting}
use Rattle.redn_top.specs.declared.status.ImageFault.TheVariants.{Magic, Version, Rule}
use Rattle.redn_top.specs.declared.status.MessageFault.TheVariants.{NoChain, Twice, BadHex, Length}
use Rattle.redn_top.specs.declared.status.Status.TheVariants.{Done, Words, Schedule as BadSchedule, Step, Missing, Long, Text, Program as ProgramRefused, Image, Message}
use Rattle.redn_top.specs.StatusText.{code_of, status_text}
use Rattle.redn_command.specs.Words.{Command, Run, Gen, Schedule, MessageWord}
use Rattle.redn_top.specs.MessageWords.{messages, word_faults, length_faults}
use Rattle.redn_top.specs.Reasons.{Input, IsInput, First, reasons}
use Rattle.redn_top.specs.Sources.{token_place}
use Rattle.redn_top.specs.Answers.{IsPartBy, IsBehindImage, GoodSchedule}
use Rattle.redn_top.specs.RunText.{BreaksOff, StopsAt, RunsToEnd, made_end}
use Rattle.redn_top.proofs.RunLemmas.{line_some}

codes_of : (code_of (Step 7) ≡ 11) × (code_of Missing ≡ 16) × (code_of (Long 5 4) ≡ 5) × (code_of (Text (Byte 2)) ≡ 6) × (code_of (ProgramRefused 7 10 0) ≡ 7) × (code_of (Image Magic) ≡ 8) × (code_of (Message (Twice 0)) ≡ 12) × (code_of Words ≡ 2) × (code_of (BadSchedule 3) ≡ 10)
codes_of = (refl, refl, refl, refl, refl, refl, refl, refl, refl)

text_lines : (status_text (Text (Byte 0)) ≡ codes "redn: text refused: byte 0\n") × (status_text (Text (Nesting 723)) ≡ codes "redn: text refused: nesting at byte 723\n")
unfolding digits
text_lines = (refl, refl)

other_lines : (status_text (Step 120) ≡ codes "redn: step not possible: line 120\n") × (status_text (Long 1048577 1048576) ≡ codes "redn: file too long: limit 1048576\n") × (status_text (ProgramRefused 14 65 4097) ≡ codes "redn: program refused: rule 14 at byte 65\n") × (status_text (BadSchedule 120) ≡ codes "redn: schedule refused: line 120\n")
unfolding digits
other_lines = (refl, refl, refl, refl)

image_lines : (status_text (Image (Version 3)) ≡ codes "redn: image refused: version 3\n") × (status_text (Image (Rule 6 1)) ≡ codes "redn: image refused: rule 6 at 1\n")
unfolding digits
image_lines = (refl, refl)

message_lines : (status_text (Message (NoChain 1)) ≡ codes "redn: message refused: no chain 1\n") × (status_text (Message (BadHex 0)) ≡ codes "redn: message refused: chain 0 bad hex\n") × (status_text (Message (Length 0 1 8)) ≡ codes "redn: message refused: chain 0 has 1 bytes, wants 8\n")
unfolding digits
message_lines = (refl, refl, refl)

-- ---- messages of two chains

word : ℕ → List ℕ → MessageWord
word chain hex = record { chain = chain; digits = hex }

second_alone : messages 2 (word 1 (codes "002a") ∷ []) ≡ None ∷ Some (0 ∷ 42 ∷ []) ∷ []
unfolding word decode_pairs
second_alone = refl

-- no such chain, a chain twice, bad digits, and an odd number of them
bad_words : word_faults 2 [] (word 2 [] ∷ word 1 [] ∷ word 1 [] ∷ word 0 (codes "2g") ∷ []) ≡ NoChain 2 ∷ Twice 1 ∷ BadHex 0 ∷ []
unfolding word decode_pairs
bad_words = refl

odd_digits : word_faults 1 [] (word 0 (codes "2") ∷ []) ≡ BadHex 0 ∷ []
unfolding word decode_pairs
odd_digits = refl

a_short_message : length_faults (record { base = 0; len = 8 } ∷ []) (Some (42 ∷ []) ∷ []) ≡ Length 0 1 8 ∷ []
a_short_message = refl

-- ---- reasons: an image of three bytes, under a schedule that isn't there

found : Input
found = record { first = Some (1 ∷ 2 ∷ 3 ∷ []); schedule = None }

abbrev held_files : Files
held_files = with_file (codes "f") (1 ∷ 2 ∷ 3 ∷ []) finite.empty

run : Command
run = Run (codes "f") (record { plan = Schedule (codes "s"); keep = None; messages = [] })

it_is_found : IsInput (Some held_files) run found
unfolding run found
it_is_found = (simp gets refl, simp gets refl)

short_text : (text : List ℕ) → ◌≡◌ {A = Option (List ℕ)} (Some (1 ∷ 2 ∷ 3 ∷ [])) (Some text) → 33554432 < length text → ⊥
short_text text e long =
    let same : ◌≡◌ {A = List ℕ} (1 ∷ 2 ∷ 3 ∷ []) text = cc in
    let three : ◌≡◌ {A = ℕ} 3 (length text) = ap length same in
    omega (arith, three, long)

-- that the schedule is missing is told, and not that the image is short
the_schedule_first : First (reasons run found) Missing
unfolding run found
the_schedule_first = inr ((λ s h. absurd (let e = h.0 in cc)), inr ((λ s h. short_text h.0 h.1 h.2.0), inl (refl, refl)))

-- ---- places and runs

-- two tokens of `ab c`, and the end behind them
letters : ℕ → ℕ → Token
letters at len = record { kind = Name; at = at; len = len; value = 0 }

places : (token_place (codes "ab c") (letters 0 2 ∷ letters 3 1 ∷ []) 1 ≡ 3) × (token_place (codes "ab c") (letters 0 2 ∷ letters 3 1 ∷ []) 2 ≡ 4)
unfolding letters
places = (refl, refl)

-- nothing but a place for a message
no_queues : Parts
no_queues =
    record { regions = []; queues = []; receives = record { base = 0; len = 8 } ∷ []; memory = 0 ∷ 0 ∷ 0 ∷ 0 ∷ 0 ∷ 0 ∷ 0 ∷ 0 ∷ [] }

first : State
first = start_of no_queues (Some (spelled 8 42) ∷ [])

at : ℕ → Action → Numbered
at n a = record { line = n; action = a }

-- a message comes only once
twice : List ℕ
twice = codes "d 0\n\n#\nd 0\ns 01\n"

twice_begins : Begins 1 (lines_of twice) (at 1 (Deliver 0) ∷ at 4 (Deliver 0) ∷ [])
unfolding twice at action_text digits
twice_begins = inl (record { text = refl; fits = lit< tt }, refl, inr (tt, inr (refl, inl (record { text = refl; fits = lit< tt }, refl, tt))))

the_message_again : StopsAt first twice 4 []
unfolding first at no_queues spelled start possible after shown event_text
the_message_again = record { before = at 1 (Deliver 0) ∷ []; here = at 4 (Deliver 0); begins = twice_begins; number = refl; possible_before = (refl, tt); not_possible = refl; prints = refl }

alone : List ℕ
alone = codes "\n\nd 0"

alone_reads : Reads 1 (lines_of alone) (at 3 (Deliver 0) ∷ []) None
unfolding alone at action_text digits
alone_reads = inr (tt, inr (tt, inl (record { text = refl; fits = lit< tt }, refl, tt)))

a_message_alone : RunsToEnd first alone (codes "end schedule\n")
unfolding first at no_queues spelled start possible after shown event_text
a_message_alone = record { lines = at 3 (Deliver 0) ∷ []; reads = alone_reads; all_possible = (refl, tt); prints = refl }

-- both ends of a run whose steps are made
made_ends : (made_end 1 (Deliver 0 ∷ []) ≡ codes "end steps\n") × (made_end 2 (Deliver 0 ∷ []) ≡ codes "end quiet\n")
made_ends = (refl, refl)

-- half an end line is a part of what is printed
half_an_end : IsPartBy (λ s printed. RunsToEnd first alone printed) (codes "end s")
half_an_end = (Done, codes "chedule\n", a_message_alone)

-- half the line of an event is put, wherever the first action shows it
landing : List ℕ
landing = codes "l 2 5"

half_a_line : (s : State) → possible s (Land 2 5) ≡ true → shown s (Land 2 5) ≡ shows.Set 0 0 42 → BreaksOff s landing (codes "set 0")
unfolding landing at action_text digits event_text
half_a_line s can is =
    record {
      before = [];
      here = at 1 (Land 2 5);
      part = 5;
      begins = inl (record { text = refl; fits = (lit< tt, lit< tt) }, refl, tt);
      all_possible = (can, tt);
      shows = λ e. line_some (shown s (Land 2 5)) (λ n. absurd (let f = sym is ∙ n in cc)) e;
      prints = ap (λ o. take 5 (event_text o)) (sym is);
    }

-- its one line is good and possible
a_good_schedule : GoodSchedule (Some alone) (Schedule (codes "s")) first
a_good_schedule = (alone, codes "end schedule\n", refl, a_message_alone)

-- a command that writes nothing before it prints
behind_no_image : IsBehindImage (Gen 5 (codes "g")) (codes "gen 5\n") [] → ⊥
behind_no_image h = absurd (let e = h refl in cc)

-- how long the files that are read may be
the_limits : (MAX_FILE ≡ 1048576) × (MAX_IMAGE ≡ 33554432) × (MAX_LISTING ≡ 268435456) × (MAX_SCHEDULE ≡ 16777216)
the_limits = (refl, refl, refl, refl)
