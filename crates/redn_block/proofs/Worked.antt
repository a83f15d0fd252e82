-- A block on one state: it sets a variable, adds it to another, and goes on by a comparison.
use Rattle.std.proofs.Common.{◌≡◌, ℕ, ◌+◌, ◌*◌, ◌^◌, false, List, [], ◌∷◌, get_or, length, map, replicate, refl}
use Rattle.redn_words.specs.declared.types.Obs.{Obs}
use Rattle.redn_words.specs.declared.types.Obs.TheVariants as shows
use Rattle.redn_words.specs.Words.{number, spelled}
use Rattle.redn_words.specs.Requests.{opcode_named}
use Rattle.redn_kernel.specs.declared.types.Cell.TheVariants.{Var, Num}
use Rattle.redn_graph.specs.declared.types.Instr.TheVariants as instr
use Rattle.redn_graph.specs.declared.types.End.TheVariants as end
use Rattle.redn_graph.specs.declared.types.Block.{Block}
use Rattle.redn_graph.specs.declared.types.Graph.{Graph}
use Rattle.redn_graph.specs.Run.{GraphState, graph_step, instr_does, end_does}
use Rattle.redn_segment.specs.declared.types.Draft.{Draft}
use Rattle.redn_segment.specs.declared.types.SlotRef.{SlotRef}
use Rattle.redn_segment.specs.declared.types.Space.TheVariants as space
use Rattle.redn_segment.specs.declared.types.Site.TheVariants as site
use Rattle.redn_segment.specs.Building.{drafts_of}
use Rattle.redn_segment.specs.Drafts.{turnable}
use Rattle.redn_segment.specs.Plain.{Bytes, View, placed, Outcome, Went, Faults, Bad, acts, runs}
use Rattle.redn_segment.specs.Primed.{draft_bytes}
use Rattle.redn_segment.specs.Effects.{slot_behind}
use Rattle.redn_block.specs.Blocks.{block_segments, ring_start}
use Rattle.redn_block.specs.Plays.{Lead, AllLead, all_shown}

-- its rings are numbered from 3 on, so it goes on in ring 4 or in ring 5
abbrev block : Block
block = record { instrs = instr.Set (Var 0) 7 ∷ instr.Add (Var 1) (Var 0) ∷ []; end = end.Test48 (Var 1) (Num 9) 1 2 }

abbrev segments : List (List Draft)
segments = block_segments 3 3 block

abbrev drafts : List Draft
drafts = drafts_of segments

-- the last segment is empty: the last ENABLE stands there, once the ring has laps
sizes : map (λ (ds : List Draft). length ds) segments ≡ 1 ∷ 1 ∷ 1 ∷ 3 ∷ 2 ∷ 1 ∷ 0 ∷ []
sizes = refl

abbrev nothing : Draft
nothing = turnable site.Key site.Key 0 0

-- the slots have their drafts' bytes, the variables these words, and each ring's descriptor its number and 7
abbrev state : ℕ → ℕ → Bytes
state x y (space.Cell (Var i)) = spelled 8 (get_or (x ∷ y ∷ []) i 0)
state x y (space.Cell (Num n)) = spelled 8 n
state x y (space.Cell c) = replicate 8 0
state x y space.Reply = replicate 64 0
state x y space.Key = replicate 8 0
state x y (space.Scratch i) = replicate 8 0
state x y (space.Descriptor ring) = spelled 16 (ring * 2 ^ 64 + 7)
state x y (space.Slot q) = draft_bytes (get_or drafts q.slot nothing)
state x y (space.Table t) = []

abbrev view : View
view = record { number = 2; tables = λ (q : SlotRef) (t : ℕ). [] }

abbrev ran : ℕ → ℕ → Outcome
ran x y = runs view (ring_start 3) drafts (state x y)

abbrev shown_by : Outcome → List Obs
shown_by (Went us shown) = shown
shown_by (Faults us shown) = shows.Odd 0 0 ∷ shown
shown_by Bad = shows.Odd 0 0 ∷ []

-- the ring that the last ENABLE names
abbrev opens : Bytes → Outcome → ℕ
opens s (Went us shown) = number 8 (placed s us (space.Slot (slot_behind (ring_start 3) (length drafts)))) 40
opens s (Faults us shown) = 0
opens s Bad = 0

shows_both : shown_by (ran 5 2) ∷ shown_by (ran 5 3) ∷ [] ≡ (shows.Set 2 0 7 ∷ shows.Set 2 1 9 ∷ []) ∷ (shows.Set 2 0 7 ∷ shows.Set 2 1 10 ∷ []) ∷ []
unfolding acts opcode_named number spelled
shows_both = refl

goes_on : opens (state 5 2) (ran 5 2) ∷ opens (state 5 3) (ran 5 3) ∷ [] ≡ 4 ∷ 5 ∷ []
unfolding acts opcode_named number spelled
goes_on = refl

-- the graph's own steps from there: each instruction shows one event, and the end none
abbrev graph : Graph
graph = record { blocks = block ∷ []; entry = 0; hidden = 0 }

abbrev at : ℕ → ℕ → List ℕ → GraphState
at b place vars = record { block = b; place = place; taking = false; cells = record { vars = vars; hidden = λ (k : ℕ). 0 }; ended = false }

abbrev leads : List Lead
leads = record { shows = shows.Set 2 0 7 ∷ []; state = at 0 1 (7 ∷ 2 ∷ []) } ∷ record { shows = shows.Set 2 1 9 ∷ []; state = at 0 2 (7 ∷ 9 ∷ []) } ∷ record { shows = []; state = at 1 0 (7 ∷ 9 ∷ []) } ∷ []

they_lead : AllLead 2 (record { words = [] }) graph (at 0 0 (5 ∷ 2 ∷ [])) leads
unfolding graph_step instr_does end_does
they_lead = ((at 0 1 (7 ∷ 2 ∷ []), (λ tables is. refl), refl), ((at 0 2 (7 ∷ 9 ∷ []), (λ tables is. refl), refl), ((λ tables is. refl), tt)))

they_show : all_shown leads ≡ shown_by (ran 5 2)
unfolding acts opcode_named number spelled
they_show = refl
