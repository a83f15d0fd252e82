-- Lookups, walks and two chains on one table, computed.
use Rattle.std.proofs.Common.{◌≡◌, true, false, [], ◌∷◌, Some, None, refl, replicate}
use Rattle.redn_words.specs.declared.types.Obs.TheVariants as shows
use Rattle.redn_words.specs.Words.{number, spelled}
use Rattle.redn_kernel.specs.declared.types.Word.TheVariants.{Var, Num}
use Rattle.redn_kernel.specs.declared.types.Kernel.{out-Kernel}
use Rattle.redn_kernel.specs.declared.types.Kernel.TheVariants as s
use Rattle.redn_kernel.specs.declared.types.Kernel.TheBlock.{shown-the_row-Kernel-0}
use denote.Hole.Carrier as carrier
use Rattle.redn_kernel.specs.declared.types.Program.{Program}
use Rattle.redn_kernel.specs.Source.{source_start, source_step, is_running, source_after, steps_of, item_does, statement_does, left, found_or, Next, Take, Find}
use Rattle.redn_kernel.proofs.Worked.{Goes, one_chain, table, message}

-- table t[40] ro = { 11, 100, 22, 200, 33 }; chain g { arg o; arg k; var x; lookup x = t[o] key k probes 2; reply x; }
abbrev buckets : Program
buckets =
    one_chain (table false (11 ∷ 100 ∷ 22 ∷ 200 ∷ 33 ∷ []) ∷ []) 2 (0 ∷ 0 ∷ 0 ∷ [])
    (s.Lookup 2 0 (Var 0) (Var 1) 2 ∷ s.Reply (Var 2 ∷ []) ∷ [])

the_first_bucket_is_found : Goes buckets (message (0 ∷ 11 ∷ []) ∷ []) (replicate 6 0)
    (shows.Set 0 0 0 ∷ shows.Set 0 1 11 ∷ shows.Look 0 0 0 11 ∷ shows.Load 0 2 0 8 100 ∷ shows.Reply 0 1 (100 ∷ 0 ∷ 0 ∷ 0 ∷ 0 ∷ 0 ∷ 0 ∷ 0 ∷ []) ∷ [])
unfolding source_start source_step item_does statement_does number spelled out-Kernel carrier.out shown-the_row-Kernel-0 carrier.shown carrier.hidden
the_first_bucket_is_found = (refl, refl)

the_second_bucket_is_found : Goes buckets (message (0 ∷ 22 ∷ []) ∷ []) (replicate 7 0)
    (shows.Set 0 0 0 ∷ shows.Set 0 1 22 ∷ shows.Look 0 0 0 11 ∷ shows.Look 0 0 16 22 ∷ shows.Load 0 2 0 24 200 ∷ shows.Reply 0 1 (200 ∷ 0 ∷ 0 ∷ 0 ∷ 0 ∷ 0 ∷ 0 ∷ 0 ∷ []) ∷ [])
unfolding source_start source_step item_does statement_does number spelled out-Kernel carrier.out shown-the_row-Kernel-0 carrier.shown carrier.hidden
the_second_bucket_is_found = (refl, refl)

no_third_bucket_is_looked_at : Goes buckets (message (0 ∷ 5 ∷ []) ∷ []) (replicate 6 0)
    (shows.Set 0 0 0 ∷ shows.Set 0 1 5 ∷ shows.Look 0 0 0 11 ∷ shows.Look 0 0 16 22 ∷ shows.Reply 0 1 (0 ∷ 0 ∷ 0 ∷ 0 ∷ 0 ∷ 0 ∷ 0 ∷ 0 ∷ []) ∷ [])
unfolding source_start source_step item_does statement_does number spelled out-Kernel carrier.out shown-the_row-Kernel-0 carrier.shown carrier.hidden
no_third_bucket_is_looked_at = (refl, refl)

-- a bucket's value is past the end
a_value_past_the_end_faults : Goes buckets (message (32 ∷ 33 ∷ []) ∷ []) (replicate 5 0)
    (shows.Set 0 0 32 ∷ shows.Set 0 1 33 ∷ shows.Look 0 0 32 33 ∷ shows.Fault 0 0 40 ∷ [])
unfolding source_start source_step item_does statement_does number spelled out-Kernel carrier.out shown-the_row-Kernel-0 carrier.shown carrier.hidden
a_value_past_the_end_faults = (refl, refl)

-- keys are compared in the low 48 bits
a_key_may_differ_above : Goes buckets (message (0 ∷ 281474976710678 ∷ []) ∷ []) (replicate 7 0)
    (shows.Set 0 0 0 ∷ shows.Set 0 1 281474976710678 ∷ shows.Look 0 0 0 11 ∷ shows.Look 0 0 16 22 ∷ shows.Load 0 2 0 24 200 ∷ shows.Reply 0 1 (200 ∷ 0 ∷ 0 ∷ 0 ∷ 0 ∷ 0 ∷ 0 ∷ 0 ∷ []) ∷ [])
unfolding source_start source_step item_does statement_does number spelled out-Kernel carrier.out shown-the_row-Kernel-0 carrier.shown carrier.hidden
a_key_may_differ_above = (refl, refl)

-- a bucket's key is past the end
a_bucket_past_the_end_faults : Goes buckets (message (32 ∷ 5 ∷ []) ∷ []) (replicate 5 0)
    (shows.Set 0 0 32 ∷ shows.Set 0 1 5 ∷ shows.Look 0 0 32 33 ∷ shows.Fault 0 0 48 ∷ [])
unfolding source_start source_step item_does statement_does number spelled out-Kernel carrier.out shown-the_row-Kernel-0 carrier.shown carrier.hidden
a_bucket_past_the_end_faults = (refl, refl)

-- table t[40] ro = { 11, 1, 11, 2 }, and the same chain
abbrev twins : Program
twins =
    one_chain (table false (11 ∷ 1 ∷ 11 ∷ 2 ∷ 0 ∷ []) ∷ []) 2 (0 ∷ 0 ∷ 0 ∷ [])
    (s.Lookup 2 0 (Var 0) (Var 1) 2 ∷ s.Reply (Var 2 ∷ []) ∷ [])

of_two_equal_keys_the_first_is_found : Goes twins (message (0 ∷ 11 ∷ []) ∷ []) (replicate 6 0)
    (shows.Set 0 0 0 ∷ shows.Set 0 1 11 ∷ shows.Look 0 0 0 11 ∷ shows.Load 0 2 0 8 1 ∷ shows.Reply 0 1 (1 ∷ 0 ∷ 0 ∷ 0 ∷ 0 ∷ 0 ∷ 0 ∷ 0 ∷ []) ∷ [])
unfolding source_start source_step item_does statement_does number spelled out-Kernel carrier.out shown-the_row-Kernel-0 carrier.shown carrier.hidden
of_two_equal_keys_the_first_is_found = (refl, refl)

-- table t[72] ro = { 1, 10, 24, 2, 20, 48, 3, 30, 0 }; chain l { arg k; var x = 99; walk x = t[0] key k nodes 8; reply x; }
abbrev nodes : Program
nodes =
    one_chain (table false (1 ∷ 10 ∷ 24 ∷ 2 ∷ 20 ∷ 48 ∷ 3 ∷ 30 ∷ 0 ∷ []) ∷ []) 1 (0 ∷ 99 ∷ [])
    (s.Walk 1 0 (Num 0) (Var 0) 8 ∷ s.Reply (Var 1 ∷ []) ∷ [])

the_first_node_is_found : Goes nodes (message (1 ∷ []) ∷ []) (replicate 5 0)
    (shows.Set 0 0 1 ∷ shows.Look 0 0 0 1 ∷ shows.Load 0 1 0 8 10 ∷ shows.Reply 0 1 (10 ∷ 0 ∷ 0 ∷ 0 ∷ 0 ∷ 0 ∷ 0 ∷ 0 ∷ []) ∷ [])
unfolding source_start source_step item_does statement_does number spelled out-Kernel carrier.out shown-the_row-Kernel-0 carrier.shown carrier.hidden
the_first_node_is_found = (refl, refl)

the_last_node_is_found : Goes nodes (message (3 ∷ []) ∷ []) (replicate 13 0)
    (shows.Set 0 0 3 ∷ shows.Look 0 0 0 1 ∷ shows.Look 0 0 16 24 ∷ shows.Look 0 0 24 2 ∷ shows.Look 0 0 40 48 ∷ shows.Look 0 0 48 3 ∷ shows.Load 0 1 0 56 30 ∷ shows.Reply 0 1 (30 ∷ 0 ∷ 0 ∷ 0 ∷ 0 ∷ 0 ∷ 0 ∷ 0 ∷ []) ∷ [])
unfolding source_start source_step item_does statement_does number spelled out-Kernel carrier.out shown-the_row-Kernel-0 carrier.shown carrier.hidden
the_last_node_is_found = (refl, refl)

an_offset_of_0_ends_a_list : Goes nodes (message (4 ∷ []) ∷ []) (replicate 15 0)
    (shows.Set 0 0 4 ∷ shows.Look 0 0 0 1 ∷ shows.Look 0 0 16 24 ∷ shows.Look 0 0 24 2 ∷ shows.Look 0 0 40 48 ∷ shows.Look 0 0 48 3 ∷ shows.Look 0 0 64 0 ∷ shows.Reply 0 1 (99 ∷ 0 ∷ 0 ∷ 0 ∷ 0 ∷ 0 ∷ 0 ∷ 0 ∷ []) ∷ [])
unfolding source_start source_step item_does statement_does number spelled out-Kernel carrier.out shown-the_row-Kernel-0 carrier.shown carrier.hidden
an_offset_of_0_ends_a_list = (refl, refl)

-- table t[48] ro = { 24: 1, 10, 24 }; chain l { arg k; var x = 99; walk x = t[24] key k nodes 3; reply x; }
abbrev ring : Program
ring =
    one_chain (table false (0 ∷ 0 ∷ 0 ∷ 1 ∷ 10 ∷ 24 ∷ []) ∷ []) 1 (0 ∷ 99 ∷ [])
    (s.Walk 1 0 (Num 24) (Var 0) 3 ∷ s.Reply (Var 1 ∷ []) ∷ [])

a_walk_ends_after_its_nodes : Goes ring (message (9 ∷ []) ∷ []) (replicate 13 0)
    (shows.Set 0 0 9 ∷ shows.Look 0 0 24 1 ∷ shows.Look 0 0 40 24 ∷ shows.Look 0 0 24 1 ∷ shows.Look 0 0 40 24 ∷ shows.Look 0 0 24 1 ∷ shows.Reply 0 1 (99 ∷ 0 ∷ 0 ∷ 0 ∷ 0 ∷ 0 ∷ 0 ∷ 0 ∷ []) ∷ [])
unfolding source_start source_step item_does statement_does number spelled out-Kernel carrier.out shown-the_row-Kernel-0 carrier.shown carrier.hidden
a_walk_ends_after_its_nodes = (refl, refl)

-- table t[24] ro = { 1, 10, 17 }; chain l { arg k; var x = 99; walk x = t[0] key k nodes 3; reply x; }
abbrev astray : Program
astray =
    one_chain (table false (1 ∷ 10 ∷ 17 ∷ []) ∷ []) 1 (0 ∷ 99 ∷ [])
    (s.Walk 1 0 (Num 0) (Var 0) 3 ∷ s.Reply (Var 1 ∷ []) ∷ [])

-- the next node's key is past the end
a_walk_astray_faults : Goes astray (message (9 ∷ []) ∷ []) (replicate 7 0)
    (shows.Set 0 0 9 ∷ shows.Look 0 0 0 1 ∷ shows.Look 0 0 16 17 ∷ shows.Fault 0 0 17 ∷ [])
unfolding source_start source_step item_does statement_does number spelled out-Kernel carrier.out shown-the_row-Kernel-0 carrier.shown carrier.hidden
a_walk_astray_faults = (refl, refl)

-- table t[24] ro = { 1, 10, 17 }; chain l { arg k; var x = 99; walk x = t[0] key k nodes 1; reply x; }
abbrev one_node : Program
one_node =
    one_chain (table false (1 ∷ 10 ∷ 17 ∷ []) ∷ []) 1 (0 ∷ 99 ∷ [])
    (s.Walk 1 0 (Num 0) (Var 0) 1 ∷ s.Reply (Var 1 ∷ []) ∷ [])

-- the word behind the last node isn't looked at
a_walk_of_one_node : Goes one_node (message (9 ∷ []) ∷ []) (replicate 5 0)
    (shows.Set 0 0 9 ∷ shows.Look 0 0 0 1 ∷ shows.Reply 0 1 (99 ∷ 0 ∷ 0 ∷ 0 ∷ 0 ∷ 0 ∷ 0 ∷ 0 ∷ []) ∷ [])
unfolding source_start source_step item_does statement_does number spelled out-Kernel carrier.out shown-the_row-Kernel-0 carrier.shown carrier.hidden
a_walk_of_one_node = (refl, refl)

offsets_wrap : (left 1 0 18446744073709551608 (Num 3) 2 [] ≡ Next 1 0 8 (Num 3) 2 ∷ []) × (found_or true 1 0 18446744073709551608 (Num 3) 2 [] ≡ Take 1 0 0 ∷ [])
    × (found_or false 1 0 18446744073709551600 (Num 3) 2 [] ≡ Find 1 0 0 (Num 3) 1 ∷ [])
unfolding source_start source_step item_does statement_does number spelled out-Kernel carrier.out shown-the_row-Kernel-0 carrier.shown carrier.hidden
offsets_wrap = (refl, refl, refl)

-- table t[8] rw; chain w { arg v; t[0] = v; reply v; } chain r { var x; x = t[0]; reply x; }
abbrev shared : Program
shared =
    record {
      tables = table true (0 ∷ []) ∷ [];
      chains =
          record { serve = 1; args = 1; vars = 0 ∷ []; body = s.Store 0 (Num 0) (Var 0) ∷ s.Reply (Var 0 ∷ []) ∷ [] }
          ∷ record { serve = 1; args = 0; vars = 0 ∷ []; body = s.Load 0 0 (Num 0) ∷ s.Reply (Var 0 ∷ []) ∷ [] } ∷ [];
    }

-- the writer first
what_was_written_is_read : Goes shared (message (7 ∷ []) ∷ Some [] ∷ []) (0 ∷ 0 ∷ 0 ∷ 1 ∷ 1 ∷ [])
    (shows.Set 0 0 7 ∷ shows.Store 0 0 0 7 ∷ shows.Reply 0 1 (7 ∷ 0 ∷ 0 ∷ 0 ∷ 0 ∷ 0 ∷ 0 ∷ 0 ∷ []) ∷ shows.Load 1 0 0 0 7 ∷ shows.Reply 1 1 (7 ∷ 0 ∷ 0 ∷ 0 ∷ 0 ∷ 0 ∷ 0 ∷ 0 ∷ []) ∷ [])
unfolding source_start source_step item_does statement_does number spelled out-Kernel carrier.out shown-the_row-Kernel-0 carrier.shown carrier.hidden
what_was_written_is_read = (refl, refl)

-- the reader first
the_old_word_is_read : Goes shared (message (7 ∷ []) ∷ Some [] ∷ []) (1 ∷ 1 ∷ 0 ∷ 0 ∷ 0 ∷ [])
    (shows.Load 1 0 0 0 0 ∷ shows.Reply 1 1 (0 ∷ 0 ∷ 0 ∷ 0 ∷ 0 ∷ 0 ∷ 0 ∷ 0 ∷ []) ∷ shows.Set 0 0 7 ∷ shows.Store 0 0 0 7 ∷ shows.Reply 0 1 (7 ∷ 0 ∷ 0 ∷ 0 ∷ 0 ∷ 0 ∷ 0 ∷ 0 ∷ []) ∷ [])
unfolding source_start source_step item_does statement_does number spelled out-Kernel carrier.out shown-the_row-Kernel-0 carrier.shown carrier.hidden
the_old_word_is_read = (refl, refl)

-- between the store and the reply
the_chains_take_turns : Goes shared (message (7 ∷ []) ∷ Some [] ∷ []) (0 ∷ 0 ∷ 1 ∷ 0 ∷ 1 ∷ [])
    (shows.Set 0 0 7 ∷ shows.Store 0 0 0 7 ∷ shows.Load 1 0 0 0 7 ∷ shows.Reply 0 1 (7 ∷ 0 ∷ 0 ∷ 0 ∷ 0 ∷ 0 ∷ 0 ∷ 0 ∷ []) ∷ shows.Reply 1 1 (7 ∷ 0 ∷ 0 ∷ 0 ∷ 0 ∷ 0 ∷ 0 ∷ 0 ∷ []) ∷ [])
unfolding source_start source_step item_does statement_does number spelled out-Kernel carrier.out shown-the_row-Kernel-0 carrier.shown carrier.hidden
the_chains_take_turns = (refl, refl)

each_step_counts_for_its_chain : (steps_of 0 (0 ∷ 0 ∷ 1 ∷ 0 ∷ 1 ∷ []) ≡ 3) × (steps_of 1 (0 ∷ 0 ∷ 1 ∷ 0 ∷ 1 ∷ []) ≡ 2)
unfolding source_start source_step item_does statement_does number spelled out-Kernel carrier.out shown-the_row-Kernel-0 carrier.shown carrier.hidden
each_step_counts_for_its_chain = (refl, refl)

-- the reader has replied, and the writer hasn't
a_chain_that_has_replied_has_ended : (is_running (source_after (source_start shared (message (7 ∷ []) ∷ Some [] ∷ [])) (1 ∷ 1 ∷ [])) 1 ≡ false) × (is_running (source_after (source_start shared (message (7 ∷ []) ∷ Some [] ∷ [])) (1 ∷ 1 ∷ [])) 0 ≡ true)
unfolding source_start source_step item_does statement_does number spelled out-Kernel carrier.out shown-the_row-Kernel-0 carrier.shown carrier.hidden
a_chain_that_has_replied_has_ended = (refl, refl)

a_step_of_an_ended_chain_changes_nothing : source_step (source_after (source_start shared (message (7 ∷ []) ∷ Some [] ∷ [])) (1 ∷ 1 ∷ [])) 1 ≡ (source_after (source_start shared (message (7 ∷ []) ∷ Some [] ∷ [])) (1 ∷ 1 ∷ []), shows.Nothing)
unfolding source_start source_step item_does statement_does number spelled out-Kernel carrier.out shown-the_row-Kernel-0 carrier.shown carrier.hidden
a_step_of_an_ended_chain_changes_nothing = refl

a_chain_without_a_message_waits : (is_running (source_start shared (None ∷ Some [] ∷ [])) 0 ≡ false) × (is_running (source_start shared (None ∷ Some [] ∷ [])) 1 ≡ true)
unfolding source_start source_step item_does statement_does number spelled out-Kernel carrier.out shown-the_row-Kernel-0 carrier.shown carrier.hidden
a_chain_without_a_message_waits = (refl, refl)

a_step_of_a_waiting_chain_changes_nothing : source_step (source_start shared (None ∷ Some [] ∷ [])) 0 ≡ (source_start shared (None ∷ Some [] ∷ []), shows.Nothing)
unfolding source_start source_step item_does statement_does number spelled out-Kernel carrier.out shown-the_row-Kernel-0 carrier.shown carrier.hidden
a_step_of_a_waiting_chain_changes_nothing = refl

a_chain_past_the_messages_has_none : source_start shared (message (7 ∷ []) ∷ []) ≡ source_start shared (message (7 ∷ []) ∷ None ∷ [])
unfolding source_start source_step item_does statement_does number spelled out-Kernel carrier.out shown-the_row-Kernel-0 carrier.shown carrier.hidden
a_chain_past_the_messages_has_none = refl

others_run_while_it_waits : Goes shared (None ∷ Some [] ∷ []) (1 ∷ 1 ∷ [])
    (shows.Load 1 0 0 0 0 ∷ shows.Reply 1 1 (0 ∷ 0 ∷ 0 ∷ 0 ∷ 0 ∷ 0 ∷ 0 ∷ 0 ∷ []) ∷ [])
unfolding source_start source_step item_does statement_does number spelled out-Kernel carrier.out shown-the_row-Kernel-0 carrier.shown carrier.hidden
others_run_while_it_waits = (refl, refl)
