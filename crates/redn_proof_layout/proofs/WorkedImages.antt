-- Two small chains side by side, counted by hand: the first gets the message 7, stores it in a table and replies it; the second gets none.
use Rattle.std.proofs.Common.{◌≡◌, ◌^◌, true, false, List, [], ◌∷◌, map, Some, None, refl, arith}
use Rattle.redn_words.specs.Requests.{encoded, decoded}
use Rattle.redn_words.specs.Words.{bytes_at, word, number, spelled}
use Rattle.redn_words.specs.States.{start}
use Rattle.redn_kernel.specs.declared.types.Cell.TheVariants.{Var, Argument, Num}
use Rattle.redn_kernel.specs.declared.types.TableInit.{TableInit}
use Rattle.redn_kernel.specs.declared.types.Program.{Program}
use Rattle.redn_graph.specs.declared.types.Graph.{Graph}
use Rattle.redn_graph.specs.declared.types.Instr.TheVariants.{Store}
use Rattle.redn_graph.specs.declared.types.End.TheVariants.{Reply}
use Rattle.redn_proof_window.specs.Gateways.{gate_of}
use Rattle.redn_image.specs.Rules.{Image}
use Rattle.redn_emit.specs.Layout.{operands, receive}
use Rattle.redn_emit.specs.Placed.{plans, regions, queues, memory, IsPlaced}
use Rattle.redn_proof_interleave.specs.Forms.{World, awake, expected}
use Rattle.redn_proof_interleave.specs.Compiled.{Messages}
use Rattle.redn_proof_chain.specs.Together.{Together, is_shared, first_point, world_of}
use Rattle.redn_proof_layout.specs.Chains.{plan_at, init_at, graph_at, no_plan, HasEntry, AllHaveEntries, together}

abbrev table : TableInit
table = record { bytes = 1 ∷ 2 ∷ 3 ∷ 4 ∷ 5 ∷ 6 ∷ 7 ∷ 8 ∷ []; writable = true }

abbrev program : Program
program = record { tables = table ∷ []; chains = record { serve = 1; args = 1; vars = 0 ∷ []; body = [] } ∷ record { serve = 1; args = 0; vars = 9 ∷ []; body = [] } ∷ [] }

abbrev graphs : List Graph
graphs =
    record { blocks = record { instrs = Store 0 (Num 0) (Argument 0) ∷ []; end = Reply (Argument 0 ∷ []) } ∷ []; entry = 0; hidden = 2 } ∷ record { blocks = record { instrs = []; end = Reply (Var 0 ∷ []) } ∷ []; entry = 0; hidden = 2 } ∷ []

abbrev image : Image
image = record { regions = regions program graphs; queues = queues program graphs; receives = map receive (plans program graphs); memory = memory program graphs }

its_place : IsPlaced program graphs image
its_place = record { regions_are = refl; queues_are = refl; receives_are = refl; memory_is = refl }

abbrev messages : Messages
messages = Some (0 ∷ 0 ∷ 0 ∷ 0 ∷ 0 ∷ 0 ∷ 0 ∷ 7 ∷ []) ∷ None ∷ []

-- a chain that stands nowhere has an entry, too
nowhere : plan_at program graphs 2 ≡ no_plan
nowhere = refl

entry_nowhere : HasEntry program graphs (plan_at program graphs 2) (init_at program graphs 2) (graph_at program graphs 2)
entry_nowhere = record { ring_in = refl; segment_in = omega arith }

module _ (entries : AllHaveEntries program graphs) where
  abbrev t : Together
  t = together program graphs image entries messages

  abbrev w : World
  w = world_of t

  -- the words of the messages, and the first values of variables
  words_are : (t.chain 0).formed.course.mail.words ∷ (t.chain 1).formed.course.mail.words ∷ (t.chain 0).vars ∷ (t.chain 1).vars ∷ [] ≡ (7 ∷ []) ∷ [] ∷ (0 ∷ []) ∷ (9 ∷ []) ∷ []
  unfolding number
  words_are = refl

  -- the first chain alone runs
  woken : awake w 0 ∷ awake w 1 ∷ [] ≡ true ∷ false ∷ []
  unfolding start
  woken = refl

  -- the message lies behind the variable, in front of the words of the second chain; the bytes around it stay
  message_there : bytes_at (expected w 0 true) 1680 24 ≡ 0 ∷ 0 ∷ 0 ∷ 0 ∷ 0 ∷ 0 ∷ 0 ∷ 0 ∷ 0 ∷ 0 ∷ 0 ∷ 0 ∷ 0 ∷ 0 ∷ 0 ∷ 7 ∷ 0 ∷ 0 ∷ 0 ∷ 0 ∷ 0 ∷ 0 ∷ 0 ∷ 0 ∷ []
  unfolding start spelled encoded
  message_there = refl

  -- the entries are the queues 0 and 1, and the rings the queues 2 and 3
  entries_are : (t.chain 0).entry.queue ∷ (first_point (t.chain 0)).ring ∷ (t.chain 1).entry.queue ∷ (first_point (t.chain 1)).ring ∷ [] ≡ 0 ∷ 2 ∷ 1 ∷ 3 ∷ []
  entries_are = refl

  rows_are : (t.chain 0).entry.row ∷ (t.chain 1).entry.row ∷ [] ≡ record { domain = 0; managed = false; base = 1280; slots = 2; limit = 2 } ∷ record { domain = 1; managed = false; base = 1408; slots = 2; limit = 2 } ∷ []
  rows_are = refl

  -- each waits for its message and opens the first segment of its ring: four slots in the first chain
  gates_are : gate_of (t.chain 0).entry 0 ∷ gate_of (t.chain 0).entry 1 ∷ gate_of (t.chain 1).entry 0 ∷ [] ≡ operands 6 65536 1 ∷ operands 7 2 4 ∷ operands 6 65537 1 ∷ []
  unfolding decoded encoded number spelled
  gates_are = refl

  -- the table has the last eight bytes
  table_is : t.shelves.many ∷ t.shelves.at 0 ∷ t.shelves.len 0 ∷ [] ≡ 1 ∷ 1840 ∷ 8 ∷ []
  table_is = refl

  shared : is_shared t.shelves 1839 ∷ is_shared t.shelves 1840 ∷ is_shared t.shelves 1847 ∷ is_shared t.shelves 1848 ∷ [] ≡ false ∷ true ∷ true ∷ false ∷ []
  shared = refl

-- a variable that began with more than a word would be another one in memory, so first values are asked to be words
too_much : word (spelled 8 (2 ^ 64)) 0 ≡ 0
unfolding spelled number
too_much = refl
