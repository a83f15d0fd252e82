-- Runs of the generated file, worked by hand.
use Rattle.std.proofs.Common.{arith, ◌≡◌, ℕ, zero, suc, ◌^◌, ◌<◌, true, false, List, [], ◌∷◌, Some, None, get_or, length, refl, sym, ap, subst, ◌∙◌}
use Rattle.std.specs.Prelude.{slice_get, nat_lt}
use Rattle.std.specs.List.{All, list_all}
use Rattle.std.proofs.lemmas.Bool.{false≢true, ltb-true}
use Rattle.std.proofs.lemmas.List.Sums.{AllPass-from_list_all}
use Rattle.redn_words.specs.declared.types.Obs.TheVariants as shows
use Rattle.redn_kernel.specs.Source.{Source, EachRuns, source_after, events}
use Rattle.redn_kernel.specs.declared.types.ChainInit.{ChainInit}
use Rattle.redn_check.specs.Numbering.{program_of}
use Rattle.std.proofs.lemmas.List.Elements.{All-nil}
use Rattle.redn_gen.specs.Generated.{below, chain_count, generated_file, generated_messages}
use Rattle.redn_gen.specs.Runs.{reply_event, generated_start, is_reply_of, NoneRuns, HasTwoWords, MessagesFit, ChainsReply}
use Rattle.redn_gen.proofs.Stages.{Stage, First, Over, IsAt}
use Rattle.redn_gen.proofs.Interleaved.{source}
use Rattle.redn_gen.proofs.Foretold.{foreseen, foretold}
use Rattle.redn_gen.proofs.Ended.{left, reaches}
use Rattle.redn_gen.proofs.Started.{offset, sought_key, found, firsts, table_bytes, has_bucket, started}

-- chain 0 of the file of 5 finds 5 + 5 in bucket 5 each time
reply_of_chain_0 : reply_event 5 0 ≡ shows.Reply 0 2 (10000 ∷ 1000 ∷ 0 ∷ 0 ∷ 0 ∷ 0 ∷ 0 ∷ 0 ∷ [])
reply_of_chain_0 = refl

-- and chain 1 finds 5 + 6 in bucket 6
reply_of_chain_1 : reply_event 5 1 ≡ shows.Reply 1 2 (11000 ∷ 1000 ∷ 0 ∷ 0 ∷ 0 ∷ 0 ∷ 0 ∷ 0 ∷ [])
reply_of_chain_1 = refl

-- the bucket behind the last that is sought is bucket 0
reply_of_a_later_bucket : reply_event 510 1 ≡ shows.Reply 1 2 (510000 ∷ 1000 ∷ 0 ∷ 0 ∷ 0 ∷ 0 ∷ 0 ∷ 0 ∷ [])
reply_of_a_later_bucket = refl

its_own_reply : is_reply_of 1 (reply_event 5 1) ≡ true
its_own_reply = refl

the_reply_of_another : is_reply_of 0 (reply_event 5 1) ≡ false
the_reply_of_another = refl

a_fault_is_no_reply : is_reply_of 0 (shows.Fault 0 0 8) ≡ false
a_fault_is_no_reply = refl

-- ---- the messages

below_256 : (xs : List ℕ) → list_all (λ (b : ℕ). nat_lt b 256) xs ≡ true → All (λ (b : ℕ). b < 256) xs
below_256 xs h k d lt = let passes = AllPass-from_list_all (λ (b : ℕ). nat_lt b 256) xs h k d lt in ltb-true (get_or xs k d) 256 passes

-- the offset 80 of bucket 5, and its key 326
abbrev sixteen : List ℕ
sixteen = 0 ∷ 0 ∷ 0 ∷ 0 ∷ 0 ∷ 0 ∷ 0 ∷ 80 ∷ 0 ∷ 0 ∷ 0 ∷ 0 ∷ 0 ∷ 0 ∷ 1 ∷ 70 ∷ []

a_message_has_two_words : HasTwoWords (Some sixteen)
a_message_has_two_words = (refl, below_256 sixteen refl)

one_word_is_too_short : HasTwoWords (Some (0 ∷ 0 ∷ 0 ∷ 0 ∷ 0 ∷ 0 ∷ 0 ∷ 80 ∷ [])) → ⊥
one_word_is_too_short h = omega (arith, h.0)

no_message_has_none : HasTwoWords None → ⊥
no_message_has_none h = h

-- ---- the first steps of the file of 5, which has two chains

abbrev turns : List ℕ
turns = 0 ∷ 0 ∷ 1 ∷ 0 ∷ 0 ∷ 0 ∷ 1 ∷ 0 ∷ 0 ∷ 0 ∷ 0 ∷ 1 ∷ []

low : 5 < 2 ^ 32
low = omega arith

abbrev at_first : List Stage
at_first = First ∷ First ∷ []

both_first : firsts 5 (chain_count 5) ≡ at_first
unfolding below
both_first = refl

abbrev begun : Source
begun = source (table_bytes 5) (offset 5) (sought_key 5) (found 5) (has_bucket 5 low) at_first

begins : generated_start 5 ≡ begun
begins = started 5 low ∙ ap (source (table_bytes 5) (offset 5) (sought_key 5) (found 5) (has_bucket 5 low)) both_first

all_at : (c : ℕ) (p : Stage) → slice_get at_first c ≡ Some p → IsAt (found 5 c) p
all_at zero p e = let is : First ≡ p = cc in subst (IsAt (found 5 0)) is tt
all_at (suc zero) p e = let is : First ≡ p = cc in subst (IsAt (found 5 1)) is tt
all_at (suc (suc c)) p e = cc

told : EachRuns begun turns × (events begun turns ≡ foreseen (offset 5) (sought_key 5) (found 5) at_first turns)
told = foretold (table_bytes 5) (offset 5) (sought_key 5) (found 5) (has_bucket 5 low) at_first turns all_at refl

each_step_is_that_of_a_running_chain : EachRuns (generated_start 5) turns
each_step_is_that_of_a_running_chain = subst (λ (s : Source). EachRuns s turns) (sym begins) told.0

-- chain 0 does the first of its 1,000 turns, and the chains' steps don't disturb each other
a_first_turn :
    events (generated_start 5) turns
    ≡ shows.Set 0 0 80 ∷ shows.Set 0 1 326 ∷ shows.Set 1 0 96 ∷ shows.Look 0 0 80 326 ∷ shows.Set 1 1 390 ∷ shows.Load 0 2 0 88 10 ∷ shows.Set 0 3 10 ∷ shows.Set 0 4 1 ∷ []
a_first_turn = ap (λ (s : Source). events s turns) begins ∙ told.1

-- and some order of steps leads to where none can go on
some_run_ends : (ts : List ℕ) × EachRuns (generated_start 5) ts × NoneRuns (source_after (generated_start 5) ts)
some_run_ends =
    let e = reaches (table_bytes 5) (offset 5) (sought_key 5) (found 5) (has_bucket 5 low) (left at_first) at_first all_at (omega arith) in
    (e.turns, subst (λ (s : Source). EachRuns s e.turns) (sym begins) e.runs, subst (λ (s : Source). NoneRuns (source_after s e.turns)) (sym begins) e.ends)

one_still_runs : NoneRuns begun → ⊥
one_still_runs h = false≢true (sym (h 0))

-- both chains are at their ends
none_runs : NoneRuns (source (table_bytes 5) (offset 5) (sought_key 5) (found 5) (has_bucket 5 low) (Over 10000 1000 ∷ Over 11000 1000 ∷ []))
none_runs zero = refl
none_runs (suc zero) = refl
none_runs (suc (suc c)) = refl

-- ---- what is asked of messages and runs

-- the file of 4 has one chain, of two arguments, and one message of two words
one_fits : (length (program_of (generated_file 4)).chains ≡ chain_count 4) × (length (generated_messages 4) ≡ chain_count 4) × (chain_count 4 ≡ 1)
unfolding below
one_fits = (refl, refl, refl)

as_record : (two : All (λ (c : ChainInit). c.args ≡ 2) (program_of (generated_file 4)).chains) → All HasTwoWords (generated_messages 4) → MessagesFit 4
as_record two full = record { chains = one_fits.0; messages = one_fits.1; two = two; full = full }

-- before any step nothing is shown, and both chains still run
no_step : ChainsReply 5 []
no_step = record {
  its = All-nil (λ (c : ℕ). c < chain_count 5);
  few = λ c. omega arith;
  all = λ none. absurd (one_still_runs (subst NoneRuns begins none));
  replies = λ none c l. absurd (one_still_runs (subst NoneRuns begins none));
}

-- a step of a third chain is in no run of two
third_chain : ChainsReply 5 (2 ∷ []) → ⊥
third_chain h = omega (arith, h.its 0 0 (omega arith))
