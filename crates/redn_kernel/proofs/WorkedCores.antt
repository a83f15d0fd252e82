-- Core statements, and what they show, computed.
use Rattle.std.proofs.Common.{◌≡◌, ℕ, zero, suc, ◌+◌, ◌≤◌, true, false, List, [], ◌∷◌, refl, arith}
use Rattle.std.proofs.lemmas.Bool.{false≢true}
use Rattle.std.specs.List.{flat_map}
use Rattle.redn_words.specs.declared.types.Obs.{Obs}
use Rattle.redn_words.specs.declared.types.Obs.TheVariants as shows
use Rattle.redn_words.specs.Runs.{shown_then}
use Rattle.redn_words.specs.Words.{number, spelled}
use Rattle.redn_kernel.specs.declared.types.Cell.TheVariants.{Var, Hidden, Num}
use Rattle.redn_kernel.specs.declared.types.Core.{Core, out-Core}
use Rattle.redn_kernel.specs.declared.types.Core.TheVariants as s
use Rattle.redn_kernel.specs.declared.types.Core.TheOpen.{Core-F}
use Rattle.redn_kernel.specs.declared.types.Kernel.{Kernel}
use Rattle.redn_kernel.specs.declared.types.Core.TheBlock.{shown-the_row-Core-0}
use denote.Hole.Carrier as carrier
use Rattle.redn_kernel.specs.CoreRun.{CoreState, core_does, core_item_does, core_step, cores_after, do_cores}
use Rattle.redn_kernel.specs.Becomes.{cores_at}
use Rattle.redn_kernel.specs.Costs.{step_worth, entry_cost, test_cost, probe_cost, reply_cost, statement_worth, search_worth, jump_worth}
use Rattle.redn_kernel.specs.Composes.{Point, DoesHere, Composes, core_cost, begins_block}
use Rattle.redn_kernel.specs.Found.{buckets, nodes, first_with, with_found}

-- what n steps of chain 0 show over tables that don't change, without a message
abbrev pub shown : List (List ℕ) → ℕ → CoreState → List Obs
shown tables zero t = []
shown tables (suc n) t = shown_then (core_step 0 [] tables t).event (shown tables n (core_step 0 [] tables t).state)

-- one table of these words
abbrev pub words_of : List ℕ → List (List ℕ)
words_of words = flat_map (spelled 8) words ∷ []

-- variables with these values, before some statements
abbrev pub before : List ℕ → List Core → CoreState
before vars body = cores_at (record { vars = vars; hidden = λ k. 0 }) (do_cores body)

-- they run to the end in n steps, show this and leave these variables
abbrev pub Runs : List (List ℕ) → ℕ → CoreState → List Obs → List ℕ → Type 0
Runs tables n t events vars =
    (shown tables n t ≡ events) × ((cores_after 0 [] tables n t).items ≡ []) × ((cores_after 0 [] tables n t).ended ≡ false) × ((cores_after 0 [] tables n t).cells.vars ≡ vars)

-- a probe of a key that is there looks, and then loads the word behind it
a_probe_is_two_steps : Runs (words_of (5 ∷ 50 ∷ [])) 3 (before (1 ∷ []) (s.Probe (Var 0) 0 (Num 0) (Num 5) (s.Add (Var 0) (Num 1) ∷ []) [] ∷ []))
    (shows.Look 0 0 0 5 ∷ shows.Load 0 0 0 8 50 ∷ shows.Set 0 0 51 ∷ []) (51 ∷ [])
unfolding core_does core_item_does number spelled out-Core carrier.out shown-the_row-Core-0 carrier.shown carrier.hidden
a_probe_is_two_steps = (refl, refl, refl, refl)

a_probe_that_misses_is_one : Runs (words_of (5 ∷ 50 ∷ [])) 2 (before (1 ∷ []) (s.Probe (Var 0) 0 (Num 0) (Num 6) [] (s.Move (Var 0) (Num 9) ∷ []) ∷ []))
    (shows.Look 0 0 0 5 ∷ shows.Set 0 0 9 ∷ []) (9 ∷ [])
unfolding core_does core_item_does number spelled out-Core carrier.out shown-the_row-Core-0 carrier.shown carrier.hidden
a_probe_that_misses_is_one = (refl, refl, refl, refl)

-- hidden words show nothing, and a load into one is a look
hidden_words_show_nothing : Runs (words_of (5 ∷ 50 ∷ [])) 4 (before (1 ∷ []) (s.Move (Hidden 0) (Num 0) ∷ s.Add (Hidden 0) (Num 8) ∷ s.Load (Hidden 1) 0 (Hidden 0) ∷ s.Add (Var 0) (Hidden 1) ∷ []))
    (shows.Look 0 0 8 50 ∷ shows.Set 0 0 51 ∷ []) (51 ∷ [])
unfolding core_does core_item_does number spelled out-Core carrier.out shown-the_row-Core-0 carrier.shown carrier.hidden
hidden_words_show_nothing = (refl, refl, refl, refl)

-- loop { x += 1; if x == 3 { leave } else { } }
a_loop_is_left : Runs [] 9 (before (1 ∷ []) (s.Loop (s.Add (Var 0) (Num 1) ∷ s.If true (Var 0) (Num 3) (s.Leave ∷ []) [] ∷ []) ∷ s.Move (Var 0) (Num 7) ∷ []))
    (shows.Set 0 0 2 ∷ shows.Set 0 0 3 ∷ shows.Set 0 0 7 ∷ []) (7 ∷ [])
unfolding core_does core_item_does number spelled out-Core carrier.out shown-the_row-Core-0 carrier.shown carrier.hidden
a_loop_is_left = (refl, refl, refl, refl)

-- a load past the end is a fault, after which nothing happens
a_fault_ends : (shown (words_of (5 ∷ [])) 3 (before (1 ∷ []) (s.Load (Var 0) 0 (Num 8) ∷ s.Move (Var 0) (Num 7) ∷ [])) ≡ shows.Fault 0 0 8 ∷ []) × ((cores_after 0 [] (words_of (5 ∷ [])) 3 (before (1 ∷ []) (s.Load (Var 0) 0 (Num 8) ∷ []))).ended ≡ true)
unfolding core_does core_item_does number spelled out-Core carrier.out shown-the_row-Core-0 carrier.shown carrier.hidden
a_fault_ends = (refl, refl)

-- a list of three nodes
three_nodes : nodes (words_of (0 ∷ 5 ∷ 50 ∷ 56 ∷ 6 ∷ 60 ∷ 0 ∷ 7 ∷ 70 ∷ 32 ∷ [])) 0 9 8 ≡ 8 ∷ 56 ∷ 32 ∷ []
unfolding number spelled
three_nodes = refl

two_buckets : buckets 2 16 ≡ 16 ∷ 32 ∷ []
two_buckets = refl

-- of two buckets with the key the first counts
the_first_with_the_key : with_found (words_of (5 ∷ 50 ∷ 7 ∷ 70 ∷ 7 ∷ 71 ∷ [])) 0 0 (1 ∷ []) (first_with (words_of (5 ∷ 50 ∷ 7 ∷ 70 ∷ 7 ∷ 71 ∷ [])) 0 7 (buckets 3 0)) ≡ 70 ∷ []
unfolding number spelled
the_first_with_the_key = refl

no_key : with_found (words_of (5 ∷ 50 ∷ [])) 0 0 (1 ∷ []) (first_with (words_of (5 ∷ 50 ∷ [])) 0 7 (buckets 1 0)) ≡ 1 ∷ []
unfolding number spelled
no_key = refl

-- adding a number costs 16 actions, and adding a word 32
costs_of_sums : (core_cost (Core-F.Add (Hidden 0) (Num 16)) ≡ 16) × (core_cost (Core-F.Add (Hidden 0) (Var 1)) ≡ 32)
unfolding core_cost
costs_of_sums = (refl, refl)

-- what may be spent where a search begins a block, and before a jump there
the_worth_of_a_search : (search_worth ≡ 148) × (jump_worth ≡ 176)
the_worth_of_a_search = (refl, refl)

-- a step of the chain pays for the entry and the dearest first step, also where the entry costs 37
a_step_pays_for_the_entry : (entry_cost + statement_worth ≤ step_worth) × (37 + statement_worth ≤ step_worth) × (test_cost true ≤ statement_worth)
a_step_pays_for_the_entry = (omega arith, omega arith, omega arith)

-- a probe is dearer, so no statement begins with one
a_probe_is_dearer : probe_cost ≤ statement_worth → ⊥
a_probe_is_dearer le = omega (arith, le)

-- the greatest reply has eight words
costs_of_replies : (reply_cost 1 ≡ 20) × (reply_cost 8 ≡ 48)
costs_of_replies = (refl, refl)

-- a loop begins no block by itself, and a probe does
what_begins_a_block : (begins_block (Core-F.Loop []) ≡ false) × (begins_block (Core-F.Probe (Var 0) 0 (Hidden 0) (Num 5) [] []) ≡ true)
unfolding begins_block
what_begins_a_block = (refl, refl)

-- at the end of a list as much has to be left as a block's beginning may spend
abbrev end_of_a_list : ℕ → Point
end_of_a_list worth = record { cores = []; here = λ h. []; behind = λ h. []; out = λ h. []; worth = worth }

enough_is_left : DoesHere 1 (end_of_a_list 148)
enough_is_left = (omega arith, λ h. refl)

too_little_is_left : DoesHere 1 (end_of_a_list 147) → ⊥
too_little_is_left does = omega (arith, does.0)

-- no core statements aren't a statement
nothing_is_no_statement : (statement : Kernel) → Composes statement [] → ⊥
nothing_is_no_statement statement c = false≢true c.begins
