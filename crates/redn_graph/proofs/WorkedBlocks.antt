-- What blocks cost, take and name, where they lead, and which of them can be reached, computed.
use Rattle.std.proofs.Common.{◌≡◌, ℕ, zero, suc, ◌+◌, ◌≤◌, inl, inr, true, List, [], ◌∷◌, ◌++◌, subst, Some, None, refl, replicate, arith}
use Rattle.std.proofs.lemmas.List.Elements.{All-cons, All-nil}
use Rattle.redn_words.specs.declared.types.Obs.TheVariants as shows
use Rattle.redn_kernel.specs.declared.types.Word.TheVariants as word
use Rattle.redn_kernel.specs.declared.types.Cell.TheVariants.{Var, Hidden, Num}
use Rattle.redn_kernel.specs.declared.types.Kernel.{Kernel, out-Kernel}
use Rattle.redn_kernel.specs.declared.types.Kernel.TheVariants as s
use Rattle.redn_kernel.specs.declared.types.Kernel.TheBlock.{shown-the_row-Kernel-0}
use denote.Hole.Carrier as carrier
use Rattle.redn_kernel.specs.declared.types.ChainInit.{ChainInit}
use Rattle.redn_kernel.specs.Source.{AgainLoop, do_all, item_does, statement_does}
use Rattle.redn_graph.specs.declared.types.Instr.{Instr}
use Rattle.redn_graph.specs.declared.types.Instr.TheVariants as i
use Rattle.redn_graph.specs.declared.types.End.TheVariants as e
use Rattle.redn_graph.specs.declared.types.Block.{Block}
use Rattle.redn_graph.specs.declared.types.Graph.{Graph}
use Rattle.redn_graph.specs.Run.{Mail, graph_step, graph_start, step_cost, instr_does, end_does, instr_cost, end_cost}
use Rattle.redn_graph.specs.Along.{state_along, cost_along}
use Rattle.redn_graph.specs.Follows.{IsMatched, chain_start}
use Rattle.redn_kernel.specs.Costs.{statement_worth, search_worth}
use Rattle.redn_graph.specs.Code.{Leads, Label, JumpsWithin, worth_at, nowhere, with_worth}
use Rattle.redn_graph.specs.Fits.{Things, IsCell, FitsInstr, FitsEnd, FitsBlock, FitsGraph, things_of}
use Rattle.redn_graph.specs.Growth.{IsRoomy}
use Rattle.redn_graph.specs.Cores.{cell_move}
use Rattle.redn_graph.specs.CoreSizes.{instr_taken, fork_taken, round_taken, slots_in}
use Rattle.redn_kernel.specs.Feeds.{Seen, chain_seen}
use Rattle.redn_graph.specs.Silence.{graph_seen}
use Rattle.redn_graph.specs.Slots.{block_slots, all_slots}
use Rattle.redn_graph.specs.Reached.{CanGoTo, LeadsTo, IsPath, EachReached, renumbered}
use Rattle.redn_graph.specs.Finding.{unseen_slots}
use Rattle.redn_graph.specs.Idle.{idle_code, idle_at, NoneIdle, jumps, past_idle, passed}
use Rattle.redn_graph.specs.Onward.{Stops}
use Rattle.redn_graph.proofs.Worked.{block, graph}

-- x += 3 twice, counted by hidden cell 2, and a reply
abbrev first : Block
first = block (i.Set (Hidden 2) 0 ∷ []) (e.Jump 1)

abbrev body : Block
body = block (i.Add (Var 0) (Num 3) ∷ i.Add (Hidden 2) (Num 1) ∷ []) (e.Test48 (Hidden 2) (Num 2) 2 1)

abbrev last : Block
last = block [] (e.Reply (Var 0 ∷ []))

abbrev twice : Graph
twice = graph (first ∷ body ∷ last ∷ [])

abbrev chain : ChainInit
chain = record { serve = 1; args = 0; vars = 0 ∷ []; body = s.Repeat 2 (s.Add 0 (word.Num 3) ∷ []) ∷ s.Reply (word.Var 0 ∷ []) ∷ [] }

-- a message without words
abbrev no_words : Mail
no_words = record { words = [] }

-- slots of a block, and of all
slots_of_the_body : block_slots body ≡ 32
unfolding block_slots
slots_of_the_body = refl

slots_of_all : all_slots twice.blocks ≡ 59
unfolding all_slots block_slots
slots_of_all = refl

-- the whole run costs 16 + 28, twice 16 + 16 + 72, and 48
cost_of_the_run : cost_along 0 no_words twice (replicate 9 []) (graph_start twice (0 ∷ [])) ≡ 300
unfolding graph_step step_cost instr_does end_does instr_cost end_cost
cost_of_the_run = refl

the_run_ends : (state_along 0 no_words twice (replicate 9 []) (graph_start twice (0 ∷ []))).ended ≡ true
unfolding graph_step instr_does end_does
the_run_ends = refl

-- what is seen of them, and of the chain, which takes fewer steps
abbrev seen : ℕ → ℕ → Seen
seen x v = record { tables = []; event = shows.Set 0 x v }

what_is_seen : (graph_seen 0 no_words twice (replicate 9 []) (graph_start twice (0 ∷ [])) ≡ seen 0 3 ∷ seen 0 6 ∷ (record { tables = []; event = shows.Reply 0 1 (6 ∷ 0 ∷ 0 ∷ 0 ∷ 0 ∷ 0 ∷ 0 ∷ 0 ∷ []) }) ∷ [])
    × (chain_seen 0 (replicate 6 []) (chain_start chain []) ≡ graph_seen 0 no_words twice (replicate 9 []) (graph_start twice (0 ∷ [])))
unfolding graph_step instr_does end_does item_does statement_does out-Kernel carrier.out shown-the_row-Kernel-0 carrier.shown carrier.hidden
what_is_seen = (refl, refl)

-- all that the blocks name is there
abbrev things : Things
things = things_of [] chain twice

the_blocks_fit : FitsGraph [] chain twice
the_blocks_fit = record {
  entry = omega arith;
  each =
      All-cons (FitsBlock things) first (body ∷ last ∷ []) (record {
        instrs_fit = All-cons (FitsInstr things) (i.Set (Hidden 2) 0) [] (omega arith) (All-nil (FitsInstr things));
        end_fits = omega arith;
        full = omega arith;
      })
      (All-cons (FitsBlock things) body (last ∷ []) (record {
        instrs_fit = All-cons (FitsInstr things) (i.Add (Var 0) (Num 3)) (i.Add (Hidden 2) (Num 1) ∷ []) (omega arith, tt) (All-cons (FitsInstr things) (i.Add (Hidden 2) (Num 1)) [] (omega arith, tt) (All-nil (FitsInstr things)));
        end_fits = (omega arith, tt, omega arith, omega arith);
        full = tt;
      })
      (All-cons (FitsBlock things) last [] (record {
        instrs_fit = All-nil (FitsInstr things);
        end_fits = (All-cons (IsCell things) (Var 0) [] (omega arith) (All-nil (IsCell things)), omega arith, omega arith);
        full = tt;
      })
      (All-nil (FitsBlock things))));
}

an_empty_block_does_not : FitsBlock things (block [] (e.Jump 0)) → ⊥
an_empty_block_does_not fits = omega (arith, fits.full)

a_fourth_block_is_not_there : FitsEnd things (e.Jump 3) → ⊥
a_fourth_block_is_not_there fits = omega (arith, fits)

-- each of them can be reached
to_the_body : LeadsTo twice.blocks 0 1
to_the_body = record { block = first; there = refl; target = refl }

to_the_end : LeadsTo twice.blocks 1 2
to_the_end = record { block = body; there = refl; target = inl refl }

each_is_reached : EachReached twice
each_is_reached zero lt = ([], refl)
each_is_reached (suc zero) lt = (1 ∷ [], (to_the_body, refl))
each_is_reached (suc (suc zero)) lt = (1 ∷ 2 ∷ [], (to_the_body, (to_the_end, refl)))
each_is_reached (suc (suc (suc k))) lt = absurd (omega (arith, lt))

-- one to which nothing leads can't
abbrev with_another : List Block
with_another = last ∷ last ∷ []

some_same : {b d : Block} → Some b ≡ Some d → b ≡ d
some_same e = cc

no_path : (path : List ℕ) → IsPath with_another 0 path 1 → ⊥
no_path [] e = omega (arith, e)
no_path (m ∷ path) (edge, rest) = subst (λ (b : Block). CanGoTo b.end m → ⊥) (some_same edge.there) (λ none. none) edge.target

-- targets under other numbers
other_numbers : renumbered (λ l. l + 5) (e.Test64 (Var 0) (Num 7) 2 0) ≡ e.Test64 (Var 0) (Num 7) 7 5
other_numbers = refl

-- two blocks that do nothing, before one that replies
abbrev puts_back : List Instr
puts_back = i.Move (Hidden 0) (Hidden 0) ∷ []

abbrev idle_ones : List Block
idle_ones = block puts_back (e.Jump 2) ∷ last ∷ block puts_back (e.Jump 1) ∷ []

which_are_idle : (idle_at idle_ones 0 ≡ Some 2) × (idle_at idle_ones 1 ≡ None) × (idle_at idle_ones 2 ≡ Some 1)
which_are_idle = (refl, refl, refl)

past_both : (past_idle idle_ones 0 ≡ 1) × (jumps idle_ones 1 0 ≡ 2)
past_both = (refl, refl)

the_entry_leads_past_them : (passed (graph idle_ones)).entry ≡ 1
the_entry_leads_past_them = refl

they_stop_at_the_reply : Stops idle_ones 0 1
they_stop_at_the_reply = record { count = 2; leads = refl; works = refl }

-- another cell's word, a variable and a test are no idle code
these_do_something : (idle_code (i.Move (Hidden 0) (Hidden 1) ∷ []) (e.Jump 1) ≡ None) × (idle_code (i.Move (Var 0) (Var 0) ∷ []) (e.Jump 1) ≡ None) × (idle_code puts_back (e.Test48 (Num 0) (Num 0) 1 1) ≡ None)
these_do_something = (refl, refl, refl)

-- a statement's block, one of a search, and none
abbrev labels : List Label
labels = with_worth statement_worth nowhere ∷ with_worth search_worth nowhere ∷ []

worths_of_labels : (worth_at labels 0 ≡ 123) × (worth_at labels 1 ≡ 148) × (worth_at labels 2 ≡ 0)
worths_of_labels = (refl, refl, refl)

-- where a statement may begin, idle code leads to the first alone, and other code anywhere
idle_code_leads_to_a_statement : JumpsWithin labels statement_worth puts_back (e.Jump 0)
idle_code_leads_to_a_statement = inr (λ l is. subst (λ (k : ℕ). worth_at labels k ≤ statement_worth) (same_target is) (omega arith))
  where
    same_target : {k l : ℕ} → Some k ≡ Some l → k ≡ l
    same_target is = cc

and_to_no_search : JumpsWithin labels statement_worth puts_back (e.Jump 1) → ⊥
and_to_no_search (inl none) = cc
and_to_no_search (inr within) = let most : search_worth ≤ statement_worth = within 1 refl in omega (arith, most)

other_code_may : JumpsWithin labels statement_worth (i.Set (Hidden 0) 0 ∷ []) (e.Jump 1)
other_code_may = inl refl

none_of_twice_is_idle : NoneIdle twice.blocks
none_of_twice_is_idle =
    let does : Block → Type 0 = λ b. idle_code b.instrs b.end ≡ None in
    All-cons does first (body ∷ last ∷ []) refl (All-cons does body (last ∷ []) refl (All-cons does last [] refl (All-nil does)))

-- slots of blocks that weren't found: the second has no number yet
slots_still_to_come : unseen_slots 3 (0 ∷ 3 ∷ 1 ∷ []) twice.blocks ≡ 32
unfolding block_slots
slots_still_to_come = refl

-- a block leads to one step of the chain, which pays for it
abbrev replies_1 : Graph
replies_1 = graph (block [] (e.Reply (Num 1 ∷ [])) ∷ [])

a_reply_is_matched : IsMatched 0 no_words replies_1 (λ x. let t : _ = record (chain_start (record { serve = 1; args = 0; vars = []; body = s.Reply (word.Num 1 ∷ []) ∷ [] }) []) { vars = x.cells.vars; ended = x.ended } in t) (λ x. 48) []
    (graph_start replies_1 [])
unfolding graph_step step_cost end_does end_cost item_does statement_does out-Kernel carrier.out shown-the_row-Kernel-0 carrier.shown carrier.hidden
a_reply_is_matched = record { count = 1; steps = (refl, inr (refl, refl)); within = omega arith; paid = omega arith }

-- a loop goes round by a step that looks at nothing
round_a_loop : (rest : List Kernel) → Leads 1 (AgainLoop rest ∷ []) (do_all rest ++ AgainLoop rest ∷ [])
unfolding item_does
round_a_loop rest = record { count = 1; enough = omega arith; idles = (do_all rest ++ AgainLoop rest ∷ [], λ c tables t. refl, refl) }

-- a number is set, and another cell's word is moved
moves_of_cells : (cell_move (Hidden 1) (Num 0) ≡ i.Set (Hidden 1) 0) × (cell_move (Hidden 0) (Var 1) ≡ i.Move (Hidden 0) (Var 1))
moves_of_cells = (refl, refl)

-- a lookup of one bucket takes a move and a probe, and a move alone a jump too
slots_of_core_statements : (slots_in (instr_taken 5 ∷ fork_taken 39 [] [] ∷ []) ≡ 44) × (slots_in (instr_taken 5 ∷ []) ≡ 14)
slots_of_core_statements = (refl, refl)

-- two moves, a jump, and a loop around a probe
slots_of_a_round : slots_in (instr_taken 5 ∷ instr_taken 5 ∷ round_taken (fork_taken 39 [] [] ∷ []) ∷ []) ≡ 85
slots_of_a_round = refl

-- the greatest chain has room
room_for_the_greatest : IsRoomy (record { blocks = first ∷ []; hidden = 2 }) 4096
room_for_the_greatest = record { searches = omega arith; cells = omega arith; blocks = omega arith }
