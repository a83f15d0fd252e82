-- A graph of one block, which sets a variable to 7 and begins again, in ring 5.
use Rattle.std.proofs.Common.{◌≡◌, inl, ℕ, true, false, [], ◌∷◌, map, refl, arith}
use Rattle.std.proofs.lemmas.Bool.{false≢true}
use Rattle.std.proofs.lemmas.List.Elements.{All-nil, All-cons}
use Rattle.redn_words.specs.declared.types.Opcode.TheVariants.{Write, Add}
use Rattle.redn_words.specs.declared.types.Obs.TheVariants as shows
use Rattle.redn_words.specs.Words.{spelled}
use Rattle.redn_kernel.specs.declared.types.Cell.TheVariants.{Var, Num}
use Rattle.redn_graph.specs.declared.types.Block.{Block}
use Rattle.redn_graph.specs.declared.types.Instr.TheVariants as instr
use Rattle.redn_graph.specs.declared.types.End.TheVariants as end
use Rattle.redn_graph.specs.declared.types.Graph.{Graph}
use Rattle.redn_graph.specs.Run.{GraphState, graph_step, instr_does, end_does}
use Rattle.redn_segment.specs.declared.types.Site.TheVariants as site
use Rattle.redn_segment.specs.declared.types.Space.TheVariants as space
use Rattle.redn_segment.specs.Drafts.{copy, choose}
use Rattle.redn_segment.specs.Plain.{Bytes}
use Rattle.redn_recycle.specs.Laps.{slot_of}
use Rattle.redn_proof_ring.specs.Layouts.{Layout}
use Rattle.redn_proof_ring.specs.Plans.{is_ring}
use Rattle.redn_block.specs.Blocks.{block_segments}
use Rattle.redn_proof_block.specs.Truth.{IsTrueBy}
use Rattle.redn_proof_block.specs.Beginnings.{blank}
use Rattle.redn_proof_block.specs.Laying.{Laying, plan, segments, block_at, opens_at, place_at, closes_at, Takes, Tells}

abbrev block : Block
block = record { instrs = instr.Set (Var 0) 7 ∷ []; end = end.Jump 0 }

abbrev graph : Graph
graph = record { blocks = block ∷ []; entry = 0; hidden = 0 }

abbrev laying : Layout → Laying
laying x =
    record {
      layout = record x { first_queue = 5; rings = 1; segments = λ (r : ℕ). block_segments 5 r block };
      course = record { number = 2; mail = record { words = [] }; graph = graph };
      things = record { blocks = 1; hidden = 0; vars = 1; args = 0; tables = [] };
      written = [];
    }

-- wherever that ring lies
module _ (x : Layout) where
  abbrev l : Laying
  l = laying x

  only_ring : map (is_ring (plan l)) (4 ∷ 5 ∷ 6 ∷ []) ≡ false ∷ true ∷ false ∷ []
  only_ring = refl

  its_block : block_at l 5 ≡ block
  its_block = refl

  -- the SET, the choice of the next ring, and a segment without drafts
  its_segments : segments l 5 ≡ (copy (site.Cell (Num 7)) 0 (site.Cell (Var 0)) 8 ∷ []) ∷ (choose 5 (slot_of 5 2) ∷ []) ∷ [] ∷ []
  its_segments = refl

  -- the instruction has one segment, and the end two
  openings : map (opens_at l 5) (0 ∷ 1 ∷ 2 ∷ []) ≡ true ∷ true ∷ false ∷ []
  openings = refl

  places : map (place_at l 5) (0 ∷ 1 ∷ 2 ∷ []) ≡ 0 ∷ 1 ∷ 1 ∷ []
  places = refl

  closings : map (closes_at l 5) (0 ∷ 1 ∷ 2 ∷ []) ≡ true ∷ false ∷ true ∷ []
  closings = refl

  -- the SET stands as a WRITE, and the lap requests behind it are ADDs
  takes_write : Takes l 5 0 0 Write
  takes_write = record { own = λ d e. inl (cc); lap = λ past. absurd (omega (arith, past)) }

  takes_add : Takes l 5 0 1 Add
  takes_add = record { own = λ d e. absurd (cc); lap = λ past. refl }

  abbrev at : ℕ → ℕ → GraphState
  at place w = record { block = 0; place = place; taking = false; cells = record { vars = w ∷ []; hidden = λ (k : ℕ). 0 }; ended = false }

  -- it shows what the graph's first step shows, and the graph is behind that step
  sets : (u : Bytes) → Tells l 5 0 u (record { state = at 0 3; ahead = false }) (shows.Set 2 0 7 ∷ []) (record { state = at 1 7; ahead = false })
  unfolding graph_step instr_does end_does
  sets u = record { starts = λ o. (refl, record { block_is = refl; place_is = refl; taking_not = refl; runs_on = refl }); steps = ((at 1 7, (λ tables is. refl), refl), refl); seen = All-cons (IsTrueBy (λ (t : ℕ). u (space.Table t))) (shows.Set 2 0 7) [] tt (All-nil (IsTrueBy (λ (t : ℕ). u (space.Table t)))) }

  -- the choice shows nothing, and is not the end's last segment; the one behind it makes the jump
  chooses : (u : Bytes) → Tells l 5 1 u (record { state = at 1 7; ahead = false }) [] (record { state = at 1 7; ahead = false })
  chooses u = record { starts = λ o. (refl, record { block_is = refl; place_is = refl; taking_not = refl; runs_on = refl }); steps = refl; seen = All-nil (IsTrueBy (λ (t : ℕ). u (space.Table t))) }

  jumps : (u : Bytes) → Tells l 5 2 u (record { state = at 1 7; ahead = false }) [] (record { state = at 0 7; ahead = false })
  unfolding graph_step instr_does end_does
  jumps u = record { starts = λ o. absurd (false≢true o); steps = ((λ tables is. refl), refl); seen = All-nil (IsTrueBy (λ (t : ℕ). u (space.Table t))) }

-- constants that the chain doesn't name are taken to stand somewhere
unnamed : blank (space.Cell (Num 7)) ≡ spelled 8 7
unnamed = refl
