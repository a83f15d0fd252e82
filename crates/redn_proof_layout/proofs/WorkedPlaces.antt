-- Two small chains, counted by hand: the first stores its argument's word in a table and replies, the second replies at once.
use Rattle.std.proofs.Common.{◌≡◌, ℕ, true, false, Bool, List, [], ◌∷◌, map, length, refl, ◌^◌}
use Rattle.std.specs.Prelude.{get_or}
use Rattle.std.specs.List.{list_all}
use Rattle.redn_words.specs.declared.types.Request.{Request}
use Rattle.redn_words.specs.Ranges.{domain_holds}
use Rattle.redn_words.specs.Requests.{encoded}
use Rattle.redn_words.specs.Words.{spelled}
use Rattle.redn_words.specs.Access.{grants}
use Rattle.redn_words.specs.declared.types.Need.TheVariants.{LocalWrite, RemoteRead, RemoteWrite, Atomic}
use Rattle.redn_kernel.specs.declared.types.Cell.TheVariants.{Var, Argument, Num}
use Rattle.redn_kernel.specs.declared.types.TableInit.{TableInit}
use Rattle.redn_kernel.specs.declared.types.Program.{Program}
use Rattle.redn_graph.specs.declared.types.Graph.{Graph}
use Rattle.redn_graph.specs.declared.types.Instr.TheVariants.{Store}
use Rattle.redn_graph.specs.declared.types.End.TheVariants.{Jump, Reply}
use Rattle.redn_segment.specs.declared.types.Space.{Space}
use Rattle.redn_segment.specs.declared.types.Space.TheVariants as space
use Rattle.redn_segment.specs.declared.types.Site.TheVariants as site
use Rattle.redn_segment.specs.Drafts.{copy, add_to}
use Rattle.redn_segment.specs.Footprints.{both_sides}
use Rattle.redn_proof_landing.specs.Segments.{slot_space}
use Rattle.redn_move.specs.Replying.{send_words}
use Rattle.redn_block.specs.Blocks.{block_segments}
use Rattle.redn_proof_ring.specs.Apart.{leaves_descriptor}
use Rattle.redn_emit.specs.Layout.{ChainPlan, home, operands}
use Rattle.redn_emit.specs.Placed.{entries_base, data_base, tables_base, plans, tables, regions, memory}
use Rattle.redn_proof_layout.specs.Layouts.{range, own_ranges, is_own, segments_named, layout_of}
use Rattle.redn_proof_layout.specs.Beginning.{at_first}
use Rattle.redn_proof_layout.proofs.Narrow.{is_small}

abbrev table : TableInit
table = record { bytes = 1 ∷ 2 ∷ 3 ∷ 4 ∷ 5 ∷ 6 ∷ 7 ∷ 8 ∷ []; writable = true }

abbrev program : Program
program = record { tables = table ∷ []; chains = record { serve = 1; args = 1; vars = 0 ∷ []; body = [] } ∷ record { serve = 1; args = 0; vars = 9 ∷ []; body = [] } ∷ [] }

abbrev first_graph : Graph
first_graph = record { blocks = record { instrs = Store 0 (Num 0) (Argument 0) ∷ []; end = Reply (Argument 0 ∷ []) } ∷ []; entry = 0; hidden = 2 }

abbrev second_graph : Graph
second_graph = record { blocks = record { instrs = []; end = Reply (Var 0 ∷ []) } ∷ []; entry = 0; hidden = 2 }

abbrev graphs : List Graph
graphs = first_graph ∷ second_graph ∷ []

-- the first chain has a ring of 15 slots, the second one of 5; behind their code come the entries, and behind these the words
places_are : entries_base program graphs ∷ data_base program graphs ∷ tables_base program graphs ∷ length (memory program graphs) ∷ [] ≡ 1280 ∷ 1536 ∷ 1840 ∷ 1848 ∷ []
unfolding spelled encoded
places_are = refl

-- what each chain has for itself
ranges_are : map (own_ranges (entries_base program graphs)) (plans program graphs)
    ≡ (range 0 960 ∷ range 1280 128 ∷ range 1536 160 ∷ []) ∷ (range 960 320 ∷ range 1408 128 ∷ range 1696 144 ∷ []) ∷ []
ranges_are = refl

-- where each ring begins: the rings are numbered behind the two entries
bases_are : map (λ (c : ChainPlan). (layout_of program graphs c).base c.first) (plans program graphs) ≡ 0 ∷ 960 ∷ []
bases_are = refl

-- the drafts of ring 3
drafts_are : map (λ (c : ChainPlan). segments_named c 3) (plans program graphs) ≡ [] ∷ ((copy (site.Cell (Var 0)) 0 (site.ReplyWord 0) 8 ∷ []) ∷ (send_words 1 ∷ []) ∷ []) ∷ []
drafts_are = refl

-- byte 960 is code of the second chain alone; byte 1840 is of the table, which both reach and neither has for itself
byte_of : ℕ → List Bool
byte_of q = domain_holds (regions program graphs) 0 q ∷ domain_holds (regions program graphs) 1 q ∷ map (λ (c : ChainPlan). is_own (entries_base program graphs) c q) (plans program graphs)

code_byte : byte_of 960 ≡ false ∷ true ∷ false ∷ true ∷ []
unfolding byte_of
code_byte = refl

table_byte : byte_of 1840 ≡ true ∷ true ∷ false ∷ false ∷ []
unfolding byte_of
table_byte = refl

-- no region has an entry
entry_byte : byte_of 1300 ≡ false ∷ false ∷ true ∷ false ∷ []
unfolding byte_of
entry_byte = refl

-- the table is read and written, and no word of it swapped
rights_are : map (λ (c : ChainPlan). map (grants (home c (tables program graphs) (space.Table 0)).region.rights) (RemoteRead ∷ RemoteWrite ∷ Atomic ∷ LocalWrite ∷ [])) (plans program graphs)
    ≡ (true ∷ true ∷ false ∷ false ∷ []) ∷ (true ∷ true ∷ false ∷ false ∷ []) ∷ []
rights_are = refl

-- what the first chain sees at first: slot 4 writes to the table (its key is 5, the message's is 4), gates before and behind it, the descriptor, a constant
seen : Space → List (List ℕ)
seen x = map (λ (c : ChainPlan). at_first program graphs c x) (plans program graphs)

the_first : List (List ℕ) → List ℕ
the_first xs = get_or xs 0 []

request : Request
request = record { op = 1; id = 0; lkey = 4; rkey = 5; local = 0; remote = 0; length = 8; first = 0; second = 0; flags = 0 }

slot_4 : the_first (seen (slot_space 2 4)) ≡ encoded request
unfolding the_first seen request encoded spelled
slot_4 = refl

slot_2 : the_first (seen (slot_space 2 2)) ≡ encoded (operands 6 2 1)
unfolding the_first seen encoded spelled
slot_2 = refl

slot_3 : the_first (seen (slot_space 2 3)) ≡ encoded (operands 7 2 9)
unfolding the_first seen encoded spelled
slot_3 = refl

descriptor_2 : the_first (seen (space.Descriptor 2)) ≡ 0 ∷ 0 ∷ 0 ∷ 0 ∷ 0 ∷ 0 ∷ 0 ∷ 2 ∷ 0 ∷ 0 ∷ 0 ∷ 0 ∷ 0 ∷ 0 ∷ 0 ∷ 4 ∷ []
unfolding the_first seen encoded spelled
descriptor_2 = refl

-- a variable of each chain
variables_are : seen (space.Cell (Var 0)) ≡ (0 ∷ 0 ∷ 0 ∷ 0 ∷ 0 ∷ 0 ∷ 0 ∷ 0 ∷ []) ∷ (0 ∷ 0 ∷ 0 ∷ 0 ∷ 0 ∷ 0 ∷ 0 ∷ 9 ∷ []) ∷ []
unfolding seen encoded spelled
variables_are = refl

tables_are : seen (space.Table 0) ≡ table.bytes ∷ table.bytes ∷ []
unfolding seen encoded spelled
tables_are = refl

-- a number that is no word doesn't fit its field, so numbers of graphs are asked to be words
too_wide : is_small (add_to 0 (site.Cell (Var 0)) (2 ^ 64)) ≡ false
too_wide = refl

-- a block that does nothing but jump to itself would name its own descriptor in segment 0. No block of a graph is empty
empty_block : list_all (both_sides (leaves_descriptor 5)) (get_or (block_segments 5 5 (record { instrs = []; end = Jump 0 })) 0 []) ≡ false
empty_block = refl
