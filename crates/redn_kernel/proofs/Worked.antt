-- Programs, and what their chains show, computed.
use Rattle.std.proofs.Common.{◌≡◌, ℕ, true, false, List, [], ◌∷◌, Option, Some, refl, replicate}
use Rattle.std.specs.List.{flat_map}
use Rattle.redn_words.specs.declared.types.Obs.{Obs}
use Rattle.redn_words.specs.declared.types.Obs.TheVariants as shows
use Rattle.redn_words.specs.Words.{number, spelled}
use Rattle.redn_kernel.specs.declared.types.Word.TheVariants.{Var, Num}
use Rattle.redn_kernel.specs.declared.types.Kernel.{Kernel, out-Kernel}
use Rattle.redn_kernel.specs.declared.types.Kernel.TheVariants as s
use Rattle.redn_kernel.specs.declared.types.Kernel.TheBlock.{shown-the_row-Kernel-0}
use denote.Hole.Carrier as carrier
use Rattle.redn_kernel.specs.declared.types.TableInit.{TableInit}
use Rattle.redn_kernel.specs.declared.types.Program.{Program}
use Rattle.redn_kernel.specs.Source.{Source, source_start, source_step, is_running, EachRuns, source_after, events, item_does, statement_does, Do}
use Rattle.std.specs.Prelude.{Bool, ◌&&◌}
use Rattle.std.proofs.lemmas.Bool.{false≢true}

-- whether each chain is running at its turn
abbrev pub all_run : Source → List ℕ → Bool
all_run s [] = true
all_run s (c ∷ cs) = is_running s c && all_run (source_step s c).0 cs

both : (a b : Bool) → (a && b) ≡ true → (a ≡ true) × (b ≡ true)
both true b h = (refl, h)
both false b h = absurd (false≢true h)

pub each_runs : (s : Source) (cs : List ℕ) → all_run s cs ≡ true → EachRuns s cs
each_runs s [] h = tt
each_runs s (c ∷ cs) h = let parts = both (is_running s c) (all_run (source_step s c).0 cs) h in (parts.0, each_runs (source_step s c).0 cs parts.1)

-- these chains can step in this order, and show this
abbrev pub Goes : Program → List (Option (List ℕ)) → List ℕ → List Obs → Type 0
Goes p messages cs shown = (all_run (source_start p messages) cs ≡ true) × (events (source_start p messages) cs ≡ shown)

abbrev pub one_chain : List TableInit → ℕ → List ℕ → List Kernel → Program
one_chain tables args vars body = record { tables = tables; chains = record { serve = 1; args = args; vars = vars; body = body } ∷ [] }

-- a message of these words
abbrev pub message : List ℕ → Option (List ℕ)
message words = Some (flat_map (spelled 8) words)

-- a table of these words
abbrev pub table : Bool → List ℕ → TableInit
table writable words = record { bytes = flat_map (spelled 8) words; writable = writable }

-- chain echo { arg k; reply k; }
abbrev echo : Program
echo =
    one_chain [] 1 (0 ∷ [])
    (s.Reply (Var 0 ∷ []) ∷ [])

-- echo replies its argument
an_argument_is_taken_and_replied : Goes echo (Some (0 ∷ 0 ∷ 0 ∷ 0 ∷ 0 ∷ 0 ∷ 0 ∷ 42 ∷ []) ∷ []) (0 ∷ 0 ∷ [])
    (shows.Set 0 0 42 ∷ shows.Reply 0 1 (42 ∷ 0 ∷ 0 ∷ 0 ∷ 0 ∷ 0 ∷ 0 ∷ 0 ∷ []) ∷ [])
unfolding source_start source_step item_does statement_does number spelled out-Kernel carrier.out shown-the_row-Kernel-0 carrier.shown carrier.hidden
an_argument_is_taken_and_replied = (refl, refl)

each_step_is_that_of_a_running_chain : EachRuns (source_start echo (message (42 ∷ []) ∷ [])) (0 ∷ 0 ∷ [])
unfolding source_start source_step item_does statement_does number spelled out-Kernel carrier.out shown-the_row-Kernel-0 carrier.shown carrier.hidden
each_step_is_that_of_a_running_chain = (refl, (refl, tt))

-- with an empty list no chain steps, and nothing is shown
nothing_is_shown_at_the_start : Goes echo (message (42 ∷ []) ∷ []) []
    []
unfolding source_start source_step item_does statement_does number spelled out-Kernel carrier.out shown-the_row-Kernel-0 carrier.shown carrier.hidden
nothing_is_shown_at_the_start = (refl, refl)

-- chain z { reply 7; }
abbrev seven : Program
seven =
    one_chain [] 0 []
    (s.Reply (Num 7 ∷ []) ∷ [])

-- a message of no words is a message
a_chain_without_arguments_runs : Goes seven (Some [] ∷ []) (0 ∷ [])
    (shows.Reply 0 1 (7 ∷ 0 ∷ 0 ∷ 0 ∷ 0 ∷ 0 ∷ 0 ∷ 0 ∷ []) ∷ [])
unfolding source_start source_step item_does statement_does number spelled out-Kernel carrier.out shown-the_row-Kernel-0 carrier.shown carrier.hidden
a_chain_without_arguments_runs = (refl, refl)

-- chain c { arg a; arg b; if a ~ b { if a == b { reply 2; } else { reply 1; } } else { reply 0; } }
abbrev two_tests : Program
two_tests =
    one_chain [] 2 (0 ∷ 0 ∷ [])
    (s.If false (Var 0) (Var 1) (s.If true (Var 0) (Var 1) (s.Reply (Num 2 ∷ []) ∷ []) (s.Reply (Num 1 ∷ []) ∷ []) ∷ []) (s.Reply (Num 0 ∷ []) ∷ []) ∷ [])

-- equal in the low 48 bits alone
the_two_tests_differ : Goes two_tests (Some (0 ∷ 1 ∷ 0 ∷ 0 ∷ 0 ∷ 0 ∷ 0 ∷ 5 ∷ 0 ∷ 0 ∷ 0 ∷ 0 ∷ 0 ∷ 0 ∷ 0 ∷ 5 ∷ []) ∷ []) (replicate 5 0)
    (shows.Set 0 0 281474976710661 ∷ shows.Set 0 1 5 ∷ shows.Reply 0 1 (1 ∷ 0 ∷ 0 ∷ 0 ∷ 0 ∷ 0 ∷ 0 ∷ 0 ∷ []) ∷ [])
unfolding source_start source_step item_does statement_does number spelled out-Kernel carrier.out shown-the_row-Kernel-0 carrier.shown carrier.hidden
the_two_tests_differ = (refl, refl)

-- equal in all bits
both_tests_hold : Goes two_tests (message (281474976710661 ∷ 281474976710661 ∷ []) ∷ []) (replicate 5 0)
    (shows.Set 0 0 281474976710661 ∷ shows.Set 0 1 281474976710661 ∷ shows.Reply 0 1 (2 ∷ 0 ∷ 0 ∷ 0 ∷ 0 ∷ 0 ∷ 0 ∷ 0 ∷ []) ∷ [])
unfolding source_start source_step item_does statement_does number spelled out-Kernel carrier.out shown-the_row-Kernel-0 carrier.shown carrier.hidden
both_tests_hold = (refl, refl)

-- not equal in the low 48 bits
neither_test_holds : Goes two_tests (message (4 ∷ 5 ∷ []) ∷ []) (replicate 4 0)
    (shows.Set 0 0 4 ∷ shows.Set 0 1 5 ∷ shows.Reply 0 1 (0 ∷ 0 ∷ 0 ∷ 0 ∷ 0 ∷ 0 ∷ 0 ∷ 0 ∷ []) ∷ [])
unfolding source_start source_step item_does statement_does number spelled out-Kernel carrier.out shown-the_row-Kernel-0 carrier.shown carrier.hidden
neither_test_holds = (refl, refl)

-- chain c { arg a; if a ~ 0 { reply 1; } else { reply 0; } }
abbrev is_low_zero : Program
is_low_zero =
    one_chain [] 1 (0 ∷ [])
    (s.If false (Var 0) (Num 0) (s.Reply (Num 1 ∷ []) ∷ []) (s.Reply (Num 0 ∷ []) ∷ []) ∷ [])

high_bits_do_not_count : Goes is_low_zero (Some (0 ∷ 7 ∷ 0 ∷ 0 ∷ 0 ∷ 0 ∷ 0 ∷ 0 ∷ []) ∷ []) (0 ∷ 0 ∷ 0 ∷ [])
    (shows.Set 0 0 1970324836974592 ∷ shows.Reply 0 1 (1 ∷ 0 ∷ 0 ∷ 0 ∷ 0 ∷ 0 ∷ 0 ∷ 0 ∷ []) ∷ [])
unfolding source_start source_step item_does statement_does number spelled out-Kernel carrier.out shown-the_row-Kernel-0 carrier.shown carrier.hidden
high_bits_do_not_count = (refl, refl)

-- table t[24] ro = { 5, 6, 5 }; chain c { var p; var x; var n; var i; loop { x = t[p]; p += 8; if x ~ 5 { n += 1; } i += 1; if i ~ 3 { reply n; } } }
abbrev count_fives : Program
count_fives =
    one_chain (table false (5 ∷ 6 ∷ 5 ∷ []) ∷ []) 0 (0 ∷ 0 ∷ 0 ∷ 0 ∷ [])
    (s.Loop (s.Load 1 0 (Var 0) ∷ s.Add 0 (Num 8) ∷ s.If false (Var 1) (Num 5) (s.Add 2 (Num 1) ∷ []) [] ∷ s.Add 3 (Num 1) ∷ s.If false (Var 3) (Num 3) (s.Reply (Var 2 ∷ []) ∷ []) [] ∷ []) ∷ [])

-- the test holds, fails and holds
a_loop_counts : Goes count_fives (Some [] ∷ []) (replicate 21 0)
    (shows.Load 0 1 0 0 5 ∷ shows.Set 0 0 8 ∷ shows.Set 0 2 1 ∷ shows.Set 0 3 1 ∷ shows.Load 0 1 0 8 6 ∷ shows.Set 0 0 16 ∷ shows.Set 0 3 2 ∷ shows.Load 0 1 0 16 5 ∷ shows.Set 0 0 24 ∷ shows.Set 0 2 2 ∷ shows.Set 0 3 3 ∷ shows.Reply 0 1 (2 ∷ 0 ∷ 0 ∷ 0 ∷ 0 ∷ 0 ∷ 0 ∷ 0 ∷ []) ∷ [])
unfolding source_start source_step item_does statement_does number spelled out-Kernel carrier.out shown-the_row-Kernel-0 carrier.shown carrier.hidden
a_loop_counts = (refl, refl)

-- chain c { var x = 9223372036854775808; x += x; if x == 0 { reply 1; } else { reply 0; } }
abbrev twice : Program
twice =
    one_chain [] 0 (9223372036854775808 ∷ [])
    (s.Add 0 (Var 0) ∷ s.If true (Var 0) (Num 0) (s.Reply (Num 1 ∷ []) ∷ []) (s.Reply (Num 0 ∷ []) ∷ []) ∷ [])

a_sum_wraps : Goes twice (Some [] ∷ []) (0 ∷ 0 ∷ 0 ∷ [])
    (shows.Set 0 0 0 ∷ shows.Reply 0 1 (1 ∷ 0 ∷ 0 ∷ 0 ∷ 0 ∷ 0 ∷ 0 ∷ 0 ∷ []) ∷ [])
unfolding source_start source_step item_does statement_does number spelled out-Kernel carrier.out shown-the_row-Kernel-0 carrier.shown carrier.hidden
a_sum_wraps = (refl, refl)

-- chain c { arg a; var x; x = a; a = 9; reply x, a, 5; }
abbrev moves : Program
moves =
    one_chain [] 1 (0 ∷ 0 ∷ [])
    (s.Move 1 (Var 0) ∷ s.Move 0 (Num 9) ∷ s.Reply (Var 1 ∷ Var 0 ∷ Num 5 ∷ []) ∷ [])

moves_keep_the_value_of_then : Goes moves (message (6 ∷ []) ∷ []) (replicate 4 0)
    (shows.Set 0 0 6 ∷ shows.Set 0 1 6 ∷ shows.Set 0 0 9 ∷ shows.Reply 0 3 (6 ∷ 9 ∷ 5 ∷ 0 ∷ 0 ∷ 0 ∷ 0 ∷ 0 ∷ []) ∷ [])
unfolding source_start source_step item_does statement_does number spelled out-Kernel carrier.out shown-the_row-Kernel-0 carrier.shown carrier.hidden
moves_keep_the_value_of_then = (refl, refl)

-- table t[16] ro = { 1, 2 }; chain c { arg p; var x; x = t[p]; reply x; }
abbrev load_at : Program
load_at =
    one_chain (table false (1 ∷ 2 ∷ []) ∷ []) 1 (0 ∷ 0 ∷ [])
    (s.Load 1 0 (Var 0) ∷ s.Reply (Var 1 ∷ []) ∷ [])

the_last_word_is_loaded : Goes load_at (message (8 ∷ []) ∷ []) (0 ∷ 0 ∷ 0 ∷ [])
    (shows.Set 0 0 8 ∷ shows.Load 0 1 0 8 2 ∷ shows.Reply 0 1 (2 ∷ 0 ∷ 0 ∷ 0 ∷ 0 ∷ 0 ∷ 0 ∷ 0 ∷ []) ∷ [])
unfolding source_start source_step item_does statement_does number spelled out-Kernel carrier.out shown-the_row-Kernel-0 carrier.shown carrier.hidden
the_last_word_is_loaded = (refl, refl)

a_word_across_two_words_is_loaded : Goes load_at (message (1 ∷ []) ∷ []) (0 ∷ 0 ∷ 0 ∷ [])
    (shows.Set 0 0 1 ∷ shows.Load 0 1 0 1 256 ∷ shows.Reply 0 1 (256 ∷ 0 ∷ 0 ∷ 0 ∷ 0 ∷ 0 ∷ 0 ∷ 0 ∷ []) ∷ [])
unfolding source_start source_step item_does statement_does number spelled out-Kernel carrier.out shown-the_row-Kernel-0 carrier.shown carrier.hidden
a_word_across_two_words_is_loaded = (refl, refl)

a_load_past_the_end_faults : Goes load_at (message (9 ∷ []) ∷ []) (0 ∷ 0 ∷ [])
    (shows.Set 0 0 9 ∷ shows.Fault 0 0 9 ∷ [])
unfolding source_start source_step item_does statement_does number spelled out-Kernel carrier.out shown-the_row-Kernel-0 carrier.shown carrier.hidden
a_load_past_the_end_faults = (refl, refl)

a_load_at_the_greatest_offset_faults : Goes load_at (message (18446744073709551615 ∷ []) ∷ []) (0 ∷ 0 ∷ [])
    (shows.Set 0 0 18446744073709551615 ∷ shows.Fault 0 0 18446744073709551615 ∷ [])
unfolding source_start source_step item_does statement_does number spelled out-Kernel carrier.out shown-the_row-Kernel-0 carrier.shown carrier.hidden
a_load_at_the_greatest_offset_faults = (refl, refl)

-- the end of the word would wrap to 0, which is inside
the_end_of_a_word_does_not_wrap : Goes load_at (message (18446744073709551608 ∷ []) ∷ []) (0 ∷ 0 ∷ [])
    (shows.Set 0 0 18446744073709551608 ∷ shows.Fault 0 0 18446744073709551608 ∷ [])
unfolding source_start source_step item_does statement_does number spelled out-Kernel carrier.out shown-the_row-Kernel-0 carrier.shown carrier.hidden
the_end_of_a_word_does_not_wrap = (refl, refl)

a_fault_changes_no_variable_and_no_table : source_after (source_start load_at (message (9 ∷ []) ∷ [])) (0 ∷ 0 ∷ [])
    ≡ record {
      tables = (0 ∷ 0 ∷ 0 ∷ 0 ∷ 0 ∷ 0 ∷ 0 ∷ 1 ∷ 0 ∷ 0 ∷ 0 ∷ 0 ∷ 0 ∷ 0 ∷ 0 ∷ 2 ∷ []) ∷ [];
      chains = record { vars = 9 ∷ 0 ∷ []; message = Some (9 ∷ []); items = Do (s.Load 1 0 (Var 0)) ∷ Do (s.Reply (Var 1 ∷ [])) ∷ []; ended = true } ∷ [];
    }
unfolding source_start source_step item_does statement_does number spelled out-Kernel carrier.out shown-the_row-Kernel-0 carrier.shown carrier.hidden
a_fault_changes_no_variable_and_no_table = refl

-- table t[16] ro = { 1, 2 }; chain c { var p = 18446744073709551608; var x; p += 16; x = t[p]; reply x; }
abbrev wrap_then_load : Program
wrap_then_load =
    one_chain (table false (1 ∷ 2 ∷ []) ∷ []) 0 (18446744073709551608 ∷ 0 ∷ [])
    (s.Add 0 (Num 16) ∷ s.Load 1 0 (Var 0) ∷ s.Reply (Var 1 ∷ []) ∷ [])

a_wrapped_offset_is_loaded : Goes wrap_then_load (Some [] ∷ []) (0 ∷ 0 ∷ 0 ∷ [])
    (shows.Set 0 0 8 ∷ shows.Load 0 1 0 8 2 ∷ shows.Reply 0 1 (2 ∷ 0 ∷ 0 ∷ 0 ∷ 0 ∷ 0 ∷ 0 ∷ 0 ∷ []) ∷ [])
unfolding source_start source_step item_does statement_does number spelled out-Kernel carrier.out shown-the_row-Kernel-0 carrier.shown carrier.hidden
a_wrapped_offset_is_loaded = (refl, refl)

-- table t[16] rw = { 1, 2 }; chain c { arg p; t[p] = 258; reply 1; }
abbrev store_at : Program
store_at =
    one_chain (table true (1 ∷ 2 ∷ []) ∷ []) 1 (0 ∷ [])
    (s.Store 0 (Var 0) (Num 258) ∷ s.Reply (Num 1 ∷ []) ∷ [])

a_store_is_shown : Goes store_at (message (1 ∷ []) ∷ []) (0 ∷ 0 ∷ 0 ∷ [])
    (shows.Set 0 0 1 ∷ shows.Store 0 0 1 258 ∷ shows.Reply 0 1 (1 ∷ 0 ∷ 0 ∷ 0 ∷ 0 ∷ 0 ∷ 0 ∷ 0 ∷ []) ∷ [])
unfolding source_start source_step item_does statement_does number spelled out-Kernel carrier.out shown-the_row-Kernel-0 carrier.shown carrier.hidden
a_store_is_shown = (refl, refl)

a_store_changes_its_eight_bytes : (source_after (source_start store_at (message (1 ∷ []) ∷ [])) (0 ∷ 0 ∷ [])).tables
    ≡ (0 ∷ 0 ∷ 0 ∷ 0 ∷ 0 ∷ 0 ∷ 0 ∷ 1 ∷ 2 ∷ 0 ∷ 0 ∷ 0 ∷ 0 ∷ 0 ∷ 0 ∷ 2 ∷ []) ∷ []
unfolding source_start source_step item_does statement_does number spelled out-Kernel carrier.out shown-the_row-Kernel-0 carrier.shown carrier.hidden
a_store_changes_its_eight_bytes = refl

a_store_past_the_end_faults : Goes store_at (message (9 ∷ []) ∷ []) (0 ∷ 0 ∷ [])
    (shows.Set 0 0 9 ∷ shows.Fault 0 0 9 ∷ [])
unfolding source_start source_step item_does statement_does number spelled out-Kernel carrier.out shown-the_row-Kernel-0 carrier.shown carrier.hidden
a_store_past_the_end_faults = (refl, refl)

and_stores_nothing : (source_after (source_start store_at (message (9 ∷ []) ∷ [])) (0 ∷ 0 ∷ [])).tables
    ≡ (0 ∷ 0 ∷ 0 ∷ 0 ∷ 0 ∷ 0 ∷ 0 ∷ 1 ∷ 0 ∷ 0 ∷ 0 ∷ 0 ∷ 0 ∷ 0 ∷ 0 ∷ 2 ∷ []) ∷ []
unfolding source_start source_step item_does statement_does number spelled out-Kernel carrier.out shown-the_row-Kernel-0 carrier.shown carrier.hidden
and_stores_nothing = refl

-- chain c { var x; repeat 2 { x += 1; } reply x; }
abbrev twice_more : Program
twice_more =
    one_chain [] 0 (0 ∷ [])
    (s.Repeat 2 (s.Add 0 (Num 1) ∷ []) ∷ s.Reply (Var 0 ∷ []) ∷ [])

a_body_is_repeated : Goes twice_more (Some [] ∷ []) (replicate 6 0)
    (shows.Set 0 0 1 ∷ shows.Set 0 0 2 ∷ shows.Reply 0 1 (2 ∷ 0 ∷ 0 ∷ 0 ∷ 0 ∷ 0 ∷ 0 ∷ 0 ∷ []) ∷ [])
unfolding source_start source_step item_does statement_does number spelled out-Kernel carrier.out shown-the_row-Kernel-0 carrier.shown carrier.hidden
a_body_is_repeated = (refl, refl)

-- chain c { var x; loop { x += 1; repeat 5 { x += 2; if x == 3 { break; } x += 4; } x += 8; break; } reply x; }
abbrev leave : Program
leave =
    one_chain [] 0 (0 ∷ [])
    (s.Loop (s.Add 0 (Num 1) ∷ s.Repeat 5 (s.Add 0 (Num 2) ∷ s.If true (Var 0) (Num 3) (s.Break ∷ []) [] ∷ s.Add 0 (Num 4) ∷ []) ∷ s.Add 0 (Num 8) ∷ s.Break ∷ []) ∷ s.Reply (Var 0 ∷ []) ∷ [])

-- each break leaves one loop
a_break_leaves_the_innermost : Goes leave (Some [] ∷ []) (replicate 9 0)
    (shows.Set 0 0 1 ∷ shows.Set 0 0 3 ∷ shows.Set 0 0 11 ∷ shows.Reply 0 1 (11 ∷ 0 ∷ 0 ∷ 0 ∷ 0 ∷ 0 ∷ 0 ∷ 0 ∷ []) ∷ [])
unfolding source_start source_step item_does statement_does number spelled out-Kernel carrier.out shown-the_row-Kernel-0 carrier.shown carrier.hidden
a_break_leaves_the_innermost = (refl, refl)

-- chain c { var x; repeat 1 { repeat 1 { break; } x += 1; } reply x; }
abbrev inner : Program
inner =
    one_chain [] 0 (0 ∷ [])
    (s.Repeat 1 (s.Repeat 1 (s.Break ∷ []) ∷ s.Add 0 (Num 1) ∷ []) ∷ s.Reply (Var 0 ∷ []) ∷ [])

a_break_leaves_a_repeat : Goes inner (Some [] ∷ []) (replicate 6 0)
    (shows.Set 0 0 1 ∷ shows.Reply 0 1 (1 ∷ 0 ∷ 0 ∷ 0 ∷ 0 ∷ 0 ∷ 0 ∷ 0 ∷ []) ∷ [])
unfolding source_start source_step item_does statement_does number spelled out-Kernel carrier.out shown-the_row-Kernel-0 carrier.shown carrier.hidden
a_break_leaves_a_repeat = (refl, refl)

-- chain c { arg a; arg b; arg c; arg d; arg e; arg f; arg g; arg h; reply h, g, f, e, d, c, b, a; }
abbrev backwards : Program
backwards =
    one_chain [] 8 (0 ∷ 0 ∷ 0 ∷ 0 ∷ 0 ∷ 0 ∷ 0 ∷ 0 ∷ [])
    (s.Reply (Var 7 ∷ Var 6 ∷ Var 5 ∷ Var 4 ∷ Var 3 ∷ Var 2 ∷ Var 1 ∷ Var 0 ∷ []) ∷ [])

eight_arguments_are_replied : Goes backwards (message (1 ∷ 2 ∷ 3 ∷ 4 ∷ 5 ∷ 6 ∷ 7 ∷ 8 ∷ []) ∷ []) (replicate 9 0)
    (shows.Set 0 0 1 ∷ shows.Set 0 1 2 ∷ shows.Set 0 2 3 ∷ shows.Set 0 3 4 ∷ shows.Set 0 4 5 ∷ shows.Set 0 5 6 ∷ shows.Set 0 6 7 ∷ shows.Set 0 7 8 ∷ shows.Reply 0 8 (8 ∷ 7 ∷ 6 ∷ 5 ∷ 4 ∷ 3 ∷ 2 ∷ 1 ∷ []) ∷ [])
unfolding source_start source_step item_does statement_does number spelled out-Kernel carrier.out shown-the_row-Kernel-0 carrier.shown carrier.hidden
eight_arguments_are_replied = (refl, refl)
