-- Blocks of chains, and their runs beside those of the chains, computed.
use Rattle.std.proofs.Common.{◌≡◌, ℕ, zero, suc, true, false, List, [], ◌∷◌, Some, refl, replicate}
use Rattle.std.specs.List.{flat_map}
use Rattle.redn_words.specs.declared.types.Obs.{Obs}
use Rattle.redn_words.specs.declared.types.Obs.TheVariants as shows
use Rattle.redn_words.specs.Runs.{shown_then}
use Rattle.redn_words.specs.Words.{number, spelled}
use Rattle.redn_kernel.specs.declared.types.Word.TheVariants as word
use Rattle.redn_kernel.specs.declared.types.Cell.TheVariants.{Var, Hidden, Argument, Num}
use Rattle.redn_kernel.specs.declared.types.Kernel.{Kernel, out-Kernel}
use Rattle.redn_kernel.specs.declared.types.Kernel.TheVariants as s
use Rattle.redn_kernel.specs.declared.types.Kernel.TheBlock.{shown-the_row-Kernel-0}
use denote.Hole.Carrier as carrier
use Rattle.redn_kernel.specs.declared.types.TableInit.{TableInit}
use Rattle.redn_kernel.specs.Source.{source_start, source_step, events, item_does, statement_does}
use Rattle.redn_kernel.specs.Single.{one}
use Rattle.redn_graph.specs.declared.types.Instr.{Instr}
use Rattle.redn_graph.specs.declared.types.Instr.TheVariants as i
use Rattle.redn_graph.specs.declared.types.End.{End}
use Rattle.redn_graph.specs.declared.types.End.TheVariants as e
use Rattle.redn_graph.specs.declared.types.Block.{Block}
use Rattle.redn_graph.specs.declared.types.Graph.{Graph}
use Rattle.redn_graph.specs.Statements.{is_plain, is_search}
use Rattle.redn_graph.specs.Hidden.{hidden_cells}
use Rattle.redn_graph.proofs.Repeats.{repeats_in_if, repeats_in_loop, repeats_in_repeat, none_in_break, none_in_reply, none_in_lookup}
use Rattle.redn_graph.specs.Run.{Mail, GraphState, graph_step, graph_start, instr_does, end_does}

-- what n steps of chain 0 show, each on the tables that the one before left
abbrev pub shown : Mail → Graph → ℕ → List (List ℕ) → GraphState → List Obs
shown mail g zero tables x = []
shown mail g (suc n) tables x = shown_then (graph_step 0 mail tables x g).event (shown mail g n (graph_step 0 mail tables x g).tables (graph_step 0 mail tables x g).state)

abbrev pub block : List Instr → End → Block
block instrs end = record { instrs = instrs; end = end }

abbrev pub graph : List Block → Graph
graph blocks = record { blocks = blocks; entry = 0; hidden = 3 }

-- a table of these words
abbrev pub table : List ℕ → List TableInit
table words = record { bytes = flat_map (spelled 8) words; writable = true } ∷ []

-- n steps of the blocks and m of the chain show this
abbrev pub Beside : List TableInit → ℕ → List ℕ → List Kernel → List ℕ → Graph → ℕ → ℕ → List Obs → Type 0
Beside tables args vars body words g n m all =
    (shown (record { words = words }) g n (source_start (one tables args vars body) (Some (flat_map (spelled 8) words) ∷ [])).tables (graph_start g vars) ≡ all)
    × (events (source_start (one tables args vars body) (Some (flat_map (spelled 8) words) ∷ [])) (replicate m 0) ≡ all)

abbrev reply_of : ℕ → Obs
reply_of v = shows.Reply 0 1 (v ∷ 0 ∷ 0 ∷ 0 ∷ 0 ∷ 0 ∷ 0 ∷ 0 ∷ [])

-- if a ~ b { if a == b { reply 2; } else { reply 1; } } else { reply 0; }
abbrev two_tests : List Kernel
two_tests = s.If false (word.Var 0) (word.Var 1) (s.If true (word.Var 0) (word.Var 1) (s.Reply (word.Num 2 ∷ []) ∷ []) (s.Reply (word.Num 1 ∷ []) ∷ []) ∷ []) (s.Reply (word.Num 0 ∷ []) ∷ []) ∷ []

abbrev two_tests_blocks : Graph
two_tests_blocks = graph (
    block (i.Move (Var 0) (Argument 0) ∷ i.Move (Var 1) (Argument 1) ∷ []) (e.Test48 (Var 0) (Var 1) 1 2)
    ∷ block [] (e.Test64 (Var 0) (Var 1) 3 4)
    ∷ block [] (e.Reply (Num 0 ∷ []))
    ∷ block [] (e.Reply (Num 2 ∷ []))
    ∷ block [] (e.Reply (Num 1 ∷ []))
    ∷ [])

equal_words : Beside [] 2 (0 ∷ 0 ∷ []) two_tests (7 ∷ 7 ∷ []) two_tests_blocks 5 5 (shows.Set 0 0 7 ∷ shows.Set 0 1 7 ∷ reply_of 2 ∷ [])
unfolding graph_step instr_does end_does source_start source_step item_does statement_does number spelled out-Kernel carrier.out shown-the_row-Kernel-0 carrier.shown carrier.hidden
equal_words = (refl, refl)

-- they differ in bit 48 alone
equal_low_bits : Beside [] 2 (0 ∷ 0 ∷ []) two_tests (7 ∷ 281474976710663 ∷ []) two_tests_blocks 5 5 (shows.Set 0 0 7 ∷ shows.Set 0 1 281474976710663 ∷ reply_of 1 ∷ [])
unfolding graph_step instr_does end_does source_start source_step item_does statement_does number spelled out-Kernel carrier.out shown-the_row-Kernel-0 carrier.shown carrier.hidden
equal_low_bits = (refl, refl)

other_words : Beside [] 2 (0 ∷ 0 ∷ []) two_tests (7 ∷ 8 ∷ []) two_tests_blocks 4 4 (shows.Set 0 0 7 ∷ shows.Set 0 1 8 ∷ reply_of 0 ∷ [])
unfolding graph_step instr_does end_does source_start source_step item_does statement_does number spelled out-Kernel carrier.out shown-the_row-Kernel-0 carrier.shown carrier.hidden
other_words = (refl, refl)

-- loop { x += 1; if x == 2 { break; } } reply x;
abbrev counts_to_2 : List Kernel
counts_to_2 = s.Loop (s.Add 0 (word.Num 1) ∷ s.If true (word.Var 0) (word.Num 2) (s.Break ∷ []) [] ∷ []) ∷ s.Reply (word.Var 0 ∷ []) ∷ []

abbrev counts_to_2_blocks : Graph
counts_to_2_blocks = graph (
    block (i.Add (Var 0) (Num 1) ∷ []) (e.Test64 (Var 0) (Num 2) 1 0)
    ∷ block [] (e.Reply (Var 0 ∷ []))
    ∷ [])

a_loop_and_its_break : Beside [] 0 (0 ∷ []) counts_to_2 [] counts_to_2_blocks 5 8 (shows.Set 0 0 1 ∷ shows.Set 0 0 2 ∷ reply_of 2 ∷ [])
unfolding graph_step instr_does end_does source_start source_step item_does statement_does number spelled out-Kernel carrier.out shown-the_row-Kernel-0 carrier.shown carrier.hidden
a_loop_and_its_break = (refl, refl)

-- repeat 2 { x += 3; } reply x;
abbrev twice : List Kernel
twice = s.Repeat 2 (s.Add 0 (word.Num 3) ∷ []) ∷ s.Reply (word.Var 0 ∷ []) ∷ []

abbrev twice_blocks : Graph
twice_blocks = graph (
    block (i.Set (Hidden 2) 0 ∷ []) (e.Jump 1)
    ∷ block (i.Add (Var 0) (Num 3) ∷ i.Add (Hidden 2) (Num 1) ∷ []) (e.Test48 (Hidden 2) (Num 2) 2 1)
    ∷ block [] (e.Reply (Var 0 ∷ []))
    ∷ [])

a_repeat_counts : Beside [] 0 (0 ∷ []) twice [] twice_blocks 9 6 (shows.Set 0 0 3 ∷ shows.Set 0 0 6 ∷ reply_of 6 ∷ [])
unfolding graph_step instr_does end_does source_start source_step item_does statement_does number spelled out-Kernel carrier.out shown-the_row-Kernel-0 carrier.shown carrier.hidden
a_repeat_counts = (refl, refl)

-- t[8] = 9; x = t[8]; y = x; y = 4; reply y;
abbrev moves : List Kernel
moves = s.Store 0 (word.Num 8) (word.Num 9) ∷ s.Load 0 0 (word.Num 8) ∷ s.Move 1 (word.Var 0) ∷ s.Move 1 (word.Num 4) ∷ s.Reply (word.Var 1 ∷ []) ∷ []

abbrev moves_blocks : Graph
moves_blocks = graph (
    block (i.Store 0 (Num 8) (Num 9) ∷ i.Load (Var 0) 0 (Num 8) ∷ i.Move (Var 1) (Var 0) ∷ i.Set (Var 1) 4 ∷ []) (e.Reply (Var 1 ∷ []))
    ∷ [])

moves_in_order : Beside (table (5 ∷ 6 ∷ [])) 0 (0 ∷ 0 ∷ []) moves [] moves_blocks 5 5
    (shows.Store 0 0 8 9 ∷ shows.Load 0 0 0 8 9 ∷ shows.Set 0 1 9 ∷ shows.Set 0 1 4 ∷ reply_of 4 ∷ [])
unfolding graph_step instr_does end_does source_start source_step item_does statement_does number spelled out-Kernel carrier.out shown-the_row-Kernel-0 carrier.shown carrier.hidden
moves_in_order = (refl, refl)

-- lookup x = t[0] key 7 probes 2; reply x;
abbrev looks_up : List Kernel
looks_up = s.Lookup 0 0 (word.Num 0) (word.Num 7) 2 ∷ s.Reply (word.Var 0 ∷ []) ∷ []

abbrev looks_up_blocks : Graph
looks_up_blocks = graph (
    block (i.Move (Hidden 0) (Num 0) ∷ []) (e.Probe (Var 0) 0 (Hidden 0) (Num 7) 2 1)
    ∷ block (i.Add (Hidden 0) (Num 16) ∷ []) (e.Probe (Var 0) 0 (Hidden 0) (Num 7) 2 2)
    ∷ block [] (e.Reply (Var 0 ∷ []))
    ∷ [])

the_second_bucket : Beside (table (5 ∷ 50 ∷ 7 ∷ 70 ∷ [])) 0 (1 ∷ []) looks_up [] looks_up_blocks 6 5
    (shows.Look 0 0 0 5 ∷ shows.Look 0 0 16 7 ∷ shows.Load 0 0 0 24 70 ∷ reply_of 70 ∷ [])
unfolding graph_step instr_does end_does source_start source_step item_does statement_does number spelled out-Kernel carrier.out shown-the_row-Kernel-0 carrier.shown carrier.hidden
the_second_bucket = (refl, refl)

-- walk x = t[8] key 7 nodes 3; reply x;
abbrev walks : List Kernel
walks = s.Walk 0 0 (word.Num 8) (word.Num 7) 3 ∷ s.Reply (word.Var 0 ∷ []) ∷ []

abbrev walks_blocks : Graph
walks_blocks = graph (
    block (i.Move (Hidden 0) (Num 8) ∷ i.Set (Hidden 1) 0 ∷ []) (e.Jump 1)
    ∷ block [] (e.Probe (Var 0) 0 (Hidden 0) (Num 7) 4 2)
    ∷ block (i.Add (Hidden 1) (Num 1) ∷ []) (e.Test48 (Hidden 1) (Num 3) 4 3)
    ∷ block (i.Add (Hidden 0) (Num 16) ∷ i.Load (Hidden 0) 0 (Hidden 0) ∷ []) (e.Test64 (Hidden 0) (Num 0) 4 1)
    ∷ block [] (e.Reply (Var 0 ∷ []))
    ∷ [])

the_second_node : Beside (table (0 ∷ 5 ∷ 50 ∷ 32 ∷ 7 ∷ 70 ∷ 0 ∷ [])) 0 (1 ∷ []) walks [] walks_blocks 12 8
    (shows.Look 0 0 8 5 ∷ shows.Look 0 0 24 32 ∷ shows.Look 0 0 32 7 ∷ shows.Load 0 0 0 40 70 ∷ reply_of 70 ∷ [])
unfolding graph_step instr_does end_does source_start source_step item_does statement_does number spelled out-Kernel carrier.out shown-the_row-Kernel-0 carrier.shown carrier.hidden
the_second_node = (refl, refl)

-- which statements are one instruction, and which look for a key
a_load_is_plain : (is_plain (s.Load 0 0 (word.Var 1)) ≡ true) × (is_search (s.Load 0 0 (word.Var 1)) ≡ false)
unfolding out-Kernel carrier.out shown-the_row-Kernel-0 carrier.shown carrier.hidden
a_load_is_plain = (refl, refl)

a_walk_is_a_search : (is_plain (s.Walk 0 0 (word.Num 8) (word.Num 7) 3) ≡ false) × (is_search (s.Walk 0 0 (word.Num 8) (word.Num 7) 3) ≡ true)
unfolding out-Kernel carrier.out shown-the_row-Kernel-0 carrier.shown carrier.hidden
a_walk_is_a_search = (refl, refl)

a_break_is_neither : (is_plain s.Break ≡ false) × (is_search s.Break ≡ false)
unfolding out-Kernel carrier.out shown-the_row-Kernel-0 carrier.shown carrier.hidden
a_break_is_neither = (refl, refl)

-- repeat 3 { repeat 2 { } lookup .. } if { repeat 2 { } } else { }: two for searches, and one for each of the three repeats
hidden_cells_of_repeats : hidden_cells (s.Repeat 3 (s.Repeat 2 [] ∷ s.Lookup 0 0 (word.Num 0) (word.Num 7) 2 ∷ []) ∷ s.If true (word.Num 0) (word.Num 0) (s.Repeat 2 [] ∷ []) [] ∷ []) ≡ 5
hidden_cells_of_repeats = simp (repeats_in_repeat, repeats_in_if, none_in_lookup) refl

hidden_cells_of_no_repeat : hidden_cells (s.Loop (s.Break ∷ []) ∷ s.Reply [] ∷ []) ≡ 2
hidden_cells_of_no_repeat = simp (repeats_in_loop, none_in_break, none_in_reply) refl
