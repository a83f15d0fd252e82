-- Each rule once, kept and broken, computed.
use Rattle.std.proofs.Common.{◌≡◌, ℕ, Bool, true, false, List, [], ◌∷◌, ◌++◌, Option, Some, None, codes, replicate, refl}
use Rattle.std.specs.List.{range_with_len}
use Rattle.redn_syntax.specs.declared.tree.Name.{Name}
use Rattle.redn_syntax.specs.declared.tree.Num.{Num}
use Rattle.redn_syntax.specs.declared.tree.Operand.{Operand}
use Rattle.redn_syntax.specs.declared.tree.Operand.TheVariants as operand
use Rattle.redn_syntax.specs.declared.tree.Item.{Item}
use Rattle.redn_syntax.specs.declared.tree.Table.{Table}
use Rattle.redn_syntax.specs.declared.tree.VarDecl.{VarDecl}
use Rattle.redn_syntax.specs.declared.tree.Chain.{Chain}
use Rattle.redn_syntax.specs.declared.tree.File.{File}
use Rattle.redn_syntax.specs.declared.tree.Stmt.{Stmt}
use Rattle.redn_syntax.specs.declared.tree.StmtKind.TheVariants as k
use Rattle.redn_check.specs.Faults.{fault, first_of}
use Rattle.redn_check.specs.Rules.{faults, bad_serve, one_too_many, bad_length, bad_items, table_faults, outside, weights, weight_at, too_heavy}
use Rattle.redn_check.proofs.WrittenOut.{stmt, inner_add, exits_add, idles_add, inner_store, exits_store, breaks_store, inner_loop, exits_loop, idles_loop, breaks_loop, inner_repeat, inner_break, exits_break, idles_break, breaks_break, inner_lookup, exits_lookup, breaks_lookup, inner_walk, exits_walk, breaks_walk, inner_reply, exits_reply, breaks_reply}

abbrev pub name : List ℕ → ℕ → Name
name text at = record { text = text; at = at }

abbrev pub number : ℕ → ℕ → Num
number value at = record { value = value; at = at }

abbrev pub named : List ℕ → ℕ → Operand
named text at = operand.Name (name text at)

abbrev pub numbered : ℕ → ℕ → Operand
numbered value at = operand.Num (number value at)

abbrev pub table : ℕ → Bool → List Item → Table
table length writable items = record { name = name (codes "t") 6; length = number length 8; writable = writable; items = items }

abbrev variable : List ℕ → ℕ → VarDecl
variable text at = record { name = name text at; first = None }

-- a file of one chain
abbrev file : List Table → List Name → List VarDecl → List Stmt → ℕ → File
file tables args vars body close = record { tables = tables; chains = record { name = name (codes "c") 0; serve = None; args = args; vars = vars; body = body; close = close } ∷ [] }

abbrev reply : ℕ → Operand → Stmt
reply at word = stmt at (k.Reply (word ∷ []))

-- ---- rule 1

-- chain c { reply x; }
no_such_variable : faults (file [] [] [] (reply 10 (named (codes "x") 16) ∷ []) 19) ≡ fault 1 16 0 ∷ []
no_such_variable = simp (k.outs-Reply, inner_reply, exits_reply, breaks_reply) refl

-- chain c { arg x; reply x; }
an_argument_is_replied : faults (file [] (name (codes "x") 14 ∷ []) [] (reply 17 (named (codes "x") 23) ∷ []) 26) ≡ []
an_argument_is_replied = simp (k.outs-Reply, inner_reply, exits_reply, breaks_reply) refl

-- ---- rule 2

-- chain c { var a; var a; reply 1; }
a_variable_declared_twice : faults (file [] [] (variable (codes "a") 14 ∷ variable (codes "a") 21 ∷ []) (reply 24 (numbered 1 30) ∷ []) 33) ≡ fault 2 21 0 ∷ []
a_variable_declared_twice = simp (k.outs-Reply, inner_reply, exits_reply, breaks_reply) refl

-- table t[8] ro; chain c { arg t; reply 1; }
a_table_and_a_variable_share_a_name : faults (file (table 8 false [] ∷ []) (name (codes "t") 29 ∷ []) [] (reply 32 (numbered 1 38) ∷ []) 41) ≡ []
a_table_and_a_variable_share_a_name = simp (k.outs-Reply, inner_reply, exits_reply, breaks_reply) refl

-- ---- rule 3

abbrev store : List Stmt
store = stmt 25 (k.Store (name (codes "t") 25) (numbered 0 27) (numbered 1 32)) ∷ reply 35 (numbered 1 41) ∷ []

-- table t[8] ro; chain c { t[0] = 1; reply 1; }
a_store_into_a_table_that_is_only_read : faults (file (table 8 false [] ∷ []) [] [] store 44) ≡ fault 3 25 0 ∷ []
a_store_into_a_table_that_is_only_read = simp (k.outs-Store, k.outs-Reply, inner_store, inner_reply, exits_store, exits_reply, breaks_store, breaks_reply) refl

-- table t[8] rw; chain c { t[0] = 1; reply 1; }
a_store_into_a_table : faults (file (table 8 true [] ∷ []) [] [] store 44) ≡ []
a_store_into_a_table = simp (k.outs-Store, k.outs-Reply, inner_store, inner_reply, exits_store, exits_reply, breaks_store, breaks_reply) refl

-- ---- rules 4 to 7

-- chain c { break; }
a_break_in_no_loop : faults (file [] [] [] (stmt 10 k.Break ∷ []) 17) ≡ fault 4 10 0 ∷ []
a_break_in_no_loop = simp (k.outs-Break, inner_break, exits_break, breaks_break) refl

-- chain c { }
a_chain_that_does_nothing : faults (file [] [] [] [] 10) ≡ fault 5 10 0 ∷ []
a_chain_that_does_nothing = refl

-- chain c { reply 1; reply 2; }
two_replies : faults (file [] [] [] (reply 10 (numbered 1 16) ∷ reply 19 (numbered 2 25) ∷ []) 28) ≡ fault 6 19 0 ∷ []
two_replies = simp (k.outs-Reply, inner_reply, exits_reply, breaks_reply) refl

-- chain c { loop { loop { break; } } }
a_loop_of_an_idle_loop : faults (file [] [] [] (stmt 10 (k.Loop (stmt 17 (k.Loop (stmt 24 k.Break ∷ [])) ∷ [])) ∷ []) 35) ≡ fault 7 10 0 ∷ []
a_loop_of_an_idle_loop = simp (k.outs-Break, k.outs-Loop, inner_break, inner_loop, exits_loop, breaks_loop, idles_break, idles_loop) refl

-- chain c { arg x; loop { x += 1; break; } reply x; }
a_loop_that_is_left : faults (file [] (name (codes "x") 14 ∷ []) [] (stmt 17 (k.Loop (stmt 24 (k.Add (name (codes "x") 24) (numbered 1 29)) ∷ stmt 32 k.Break ∷ [])) ∷ reply 41 (named (codes "x") 47) ∷ []) 50) ≡ []
a_loop_that_is_left =
    simp (k.outs-Add, k.outs-Break, k.outs-Loop, k.outs-Reply, inner_add, inner_break, inner_loop, inner_reply, exits_add, exits_break, exits_loop, exits_reply, breaks_loop, breaks_reply, idles_add, idles_break) refl

-- ---- rule 8

abbrev search : Operand → List Stmt
search key = stmt 40 (k.Lookup (name (codes "x") 47) (name (codes "t") 51) (numbered 0 53) key (number 1 69)) ∷ reply 72 (named (codes "x") 78) ∷ []

-- table t[8] ro; chain c { arg k; var x; lookup x = t[0] key x probes 1; reply x; }
a_search_over_its_key : faults (file (table 8 false [] ∷ []) (name (codes "k") 29 ∷ []) (variable (codes "x") 36 ∷ []) (search (named (codes "x") 60)) 81) ≡ fault 8 47 0 ∷ []
a_search_over_its_key = simp (k.outs-Lookup, k.outs-Reply, inner_lookup, inner_reply, exits_lookup, exits_reply, breaks_lookup, breaks_reply) refl

-- .. key k ..
a_search : faults (file (table 8 false [] ∷ []) (name (codes "k") 29 ∷ []) (variable (codes "x") 36 ∷ []) (search (named (codes "k") 60)) 81) ≡ []
a_search = simp (k.outs-Lookup, k.outs-Reply, inner_lookup, inner_reply, exits_lookup, exits_reply, breaks_lookup, breaks_reply) refl

-- ---- rules 9 to 11, where the places are 0, 1 and so on

sixteen_chains : one_too_many 9 16 (range_with_len 0 16) ≡ []
sixteen_chains = refl

a_17th_chain : one_too_many 9 16 (range_with_len 0 18) ≡ fault 9 16 17 ∷ []
a_17th_chain = refl

eight_arguments : one_too_many 10 8 (range_with_len 0 8) ≡ []
eight_arguments = refl

a_9th_argument : one_too_many 10 8 (range_with_len 0 9) ≡ fault 10 8 9 ∷ []
a_9th_argument = refl

a_256th_variable : one_too_many 11 256 (range_with_len 0 256) ≡ []
a_256th_variable = refl

a_257th_variable : one_too_many 11 256 (range_with_len 0 257) ≡ fault 11 256 257 ∷ []
a_257th_variable = refl

-- ---- rule 12

a_64th_table : table_faults (replicate 63 (table 8 false [])) (table 8 false []) ≡ []
a_64th_table = refl

a_65th_table : table_faults (replicate 64 (table 8 false [])) (table 8 false []) ≡ fault 12 6 65 ∷ []
a_65th_table = refl

a_length_of_nothing : bad_length [] (table 0 false []) ≡ fault 12 8 0 ∷ []
a_length_of_nothing = refl

a_length_of_half_a_word : bad_length [] (table 12 false []) ≡ fault 12 8 12 ∷ []
a_length_of_half_a_word = refl

the_most_bytes : bad_length (table 1048568 false [] ∷ []) (table 8 false []) ≡ []
the_most_bytes = refl

too_many_bytes : bad_length (table 1048568 false [] ∷ []) (table 16 false []) ≡ fault 12 8 16 ∷ []
too_many_bytes = refl

-- those behind aren't told again
too_many_bytes_before : bad_length (table 1048584 false [] ∷ []) (table 8 false []) ≡ []
too_many_bytes_before = refl

abbrev item : ℕ → Item
item at = record { at = None; word = number 1 at }

abbrev item_at : ℕ → ℕ → Item
item_at offset at = record { at = Some (number offset at); word = number 1 99 }

-- { 8: 1, 1, 32: 1 }
items_in_order : bad_items (table 40 false (item_at 8 20 ∷ item 26 ∷ item_at 32 29 ∷ [])) ≡ []
items_in_order = refl

an_item_between_words : bad_items (table 40 false (item_at 4 20 ∷ [])) ≡ fault 12 20 4 ∷ []
an_item_between_words = refl

an_item_over_another : bad_items (table 40 false (item_at 8 20 ∷ item_at 8 26 ∷ [])) ≡ fault 12 26 8 ∷ []
an_item_over_another = refl

an_item_past_the_end : bad_items (table 16 false (item_at 8 20 ∷ item 26 ∷ [])) ≡ fault 12 26 16 ∷ []
an_item_past_the_end = refl

-- in a tree whose places don't rise the lesser place is told, which is the second item's here
the_lesser_place : first_of (bad_items (table 16 false (item_at 4 30 ∷ item_at 12 20 ∷ []))) ≡ Some (fault 12 20 12)
the_lesser_place = refl

-- behind the greatest offset there is no place, and the greatest is told
behind_the_greatest : bad_items (table 16 false (item_at 18446744073709551615 30 ∷ item 20 ∷ [])) ≡ fault 12 30 18446744073709551615 ∷ fault 12 20 18446744073709551615 ∷ []
behind_the_greatest = refl

-- ---- rule 13

a_count_of_0 : outside 13 1 4294967295 (number 0 17) ≡ fault 13 17 0 ∷ []
a_count_of_0 = refl

the_greatest_count : outside 13 1 4294967295 (number 4294967295 17) ≡ []
the_greatest_count = refl

a_greater_count : outside 13 1 4294967295 (number 4294967296 17) ≡ fault 13 17 4294967296 ∷ []
a_greater_count = refl

-- table t[8] ro; chain c { var x; walk x = t[0] key 1 nodes 65536; reply x; }
too_many_nodes : faults (file (table 8 false [] ∷ []) [] (variable (codes "x") 29 ∷ []) (stmt 32 (k.Walk (name (codes "x") 37) (name (codes "t") 41) (numbered 0 43) (numbered 1 50) (number 65536 58)) ∷ reply 65 (named (codes "x") 71) ∷ []) 74) ≡ fault 13 58 65536 ∷ []
too_many_nodes = simp (k.outs-Walk, k.outs-Reply, inner_walk, inner_reply, exits_walk, exits_reply, breaks_walk, breaks_reply) refl

-- chain c { reply 1, 1, 1, 1, 1, 1, 1, 1, 1; }
nine_words : faults (file [] [] [] (stmt 10 (k.Reply (replicate 8 (numbered 1 16) ++ numbered 1 40 ∷ [])) ∷ []) 43) ≡ fault 13 40 9 ∷ []
nine_words = simp (k.outs-Reply, inner_reply, exits_reply, breaks_reply) refl

-- ---- rule 14

-- chain c { arg k; repeat 9 { lookup k = t[0] key 1 probes 7; walk k = t[0] key 1 nodes 2; } reply k; }
a_repeat_a_lookup_and_a_walk :
    weights (record { name = name (codes "c") 6; serve = None; args = name (codes "k") 14 ∷ []; vars = []; body = stmt 17 (k.Repeat (number 9 24) (stmt 28 (k.Lookup (name (codes "k") 35) (name (codes "t") 39) (numbered 0 41) (numbered 1 48) (number 7 57)) ∷ stmt 60 (k.Walk (name (codes "k") 65) (name (codes "t") 69) (numbered 0 71) (numbered 1 78) (number 2 86)) ∷ [])) ∷ reply 91 (named (codes "k") 97) ∷ []; close = 100 })
    ≡ weight_at 14 1 ∷ weight_at 17 2 ∷ weight_at 28 5 ∷ weight_at 60 5 ∷ weight_at 91 1 ∷ []
a_repeat_a_lookup_and_a_walk = simp (k.outs-Repeat, k.outs-Lookup, k.outs-Walk, k.outs-Reply, inner_repeat, inner_lookup, inner_walk, inner_reply) refl

a_file_that_weighs_4096 : too_heavy (weight_at 1 4091 ∷ weight_at 2 5 ∷ []) ≡ []
a_file_that_weighs_4096 = refl

-- the place that passes the limit, and none behind it
a_file_that_weighs_more : too_heavy (weight_at 1 4095 ∷ weight_at 2 5 ∷ weight_at 3 1 ∷ []) ≡ fault 14 2 4100 ∷ []
a_file_that_weighs_more = refl

-- ---- which one is told

the_least_place_then_the_least_rule_then_the_first : first_of (fault 7 10 0 ∷ fault 12 3 5 ∷ fault 4 10 0 ∷ fault 12 3 6 ∷ fault 13 3 0 ∷ []) ≡ Some (fault 12 3 5)
the_least_place_then_the_least_rule_then_the_first = refl

-- ---- rule 15: a chain serves one message so far

abbrev serving : Option Num → Chain
serving n = record { name = name (codes "c") 6; serve = n; args = []; vars = []; body = []; close = 24 }

none_written : bad_serve (serving None) ≡ []
none_written = refl

one_written : bad_serve (serving (Some (number 1 14))) ≡ []
one_written = refl

none_served : bad_serve (serving (Some (number 0 14))) ≡ fault 15 14 0 ∷ []
none_served = refl

two_served : bad_serve (serving (Some (number 2 14))) ≡ fault 15 14 2 ∷ []
two_served = refl
