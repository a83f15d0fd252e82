-- The graph's state behind the event of a window, by what its body wrote.
use Rattle.std.specs.Prelude.{◌≡◌, ℕ, ◌+◌, ◌<◌, ◌^◌, Bool, true, false, List, [], ◌∷◌, ◌++◌, replicate, Option, Some, None, slice_get}
use Rattle.redn_words.specs.declared.types.Obs.{Obs}
use Rattle.redn_words.specs.declared.types.Obs.TheVariants as shows
use Rattle.redn_words.specs.Words.{word, spelled}
use Rattle.redn_words.specs.Landings.{Change}
use Rattle.redn_kernel.specs.Source.{wrapped}
use Rattle.redn_kernel.specs.CoreRun.{Cells, held}
use Rattle.redn_graph.specs.declared.types.Instr.{Instr}
use Rattle.redn_graph.specs.declared.types.Instr.TheVariants.{Set, Move, Add, Load, Store}
use Rattle.redn_graph.specs.declared.types.End.{End}
use Rattle.redn_graph.specs.declared.types.End.TheVariants.{Jump, Test48, Test64, Probe, Reply}
use Rattle.redn_graph.specs.declared.types.Block.{Block}
use Rattle.redn_graph.specs.Run.{GraphState, in_hand, graph_step}
use Rattle.redn_proof_block.specs.Left.{Course}

-- a word of a table
pub record Spot : Type 0 where
  pub table : ℕ
  pub offset : ℕ

abbrev pub spot : ℕ → ℕ → Spot
spot t o = record { table = t; offset = o }

-- where an instruction or an end looks, or stores, if it does
module _ (words : List ℕ) (s : Cells) where
  abbrev pub instr_spot : Instr → Spot
  instr_spot (Set to v) = spot 0 0
  instr_spot (Move to from) = spot 0 0
  instr_spot (Add to by) = spot 0 0
  instr_spot (Load to table offset) = spot table (held words s offset)
  instr_spot (Store table offset from) = spot table (held words s offset)

  abbrev pub end_spot : Bool → End → Spot
  end_spot taking (Jump to) = spot 0 0
  end_spot taking (Test48 left right met unmet) = spot 0 0
  end_spot taking (Test64 left right met unmet) = spot 0 0
  end_spot false (Probe to table offset key hit miss) = spot table (held words s offset)
  end_spot true (Probe to table offset key hit miss) = spot table (wrapped (held words s offset + 8))
  end_spot taking (Reply cells) = spot 0 0

  abbrev pub part_spot : Bool → Option Instr → End → Spot
  part_spot taking (Some i) end = instr_spot i
  part_spot taking None end = end_spot taking end

  abbrev pub block_spot : Bool → ℕ → Option Block → Spot
  block_spot taking place None = spot 0 0
  block_spot taking place (Some b) = part_spot taking (slice_get b.instrs place) b.end

abbrev pub next_spot : Course → GraphState → Spot
next_spot c x = block_spot (in_hand c.mail x) x.cells x.taking x.place (slice_get c.graph.blocks x.block)

-- tables that have a word there, and nothing else
abbrev pub tables_with : Spot → ℕ → List (List ℕ)
tables_with p w = replicate p.table [] ++ (replicate p.offset 0 ++ spelled 8 w) ∷ []

-- the state behind the next step, where it looks at this word
abbrev pub stepped : Course → GraphState → ℕ → GraphState
stepped c x w = (graph_step c.number c.mail (tables_with (next_spot c x) w) x c.graph).state

-- and where its place is past the end of its table
abbrev pub fallen : GraphState → GraphState
fallen x = record x { ended = true }

-- behind an event's body that wrote this. One that wrote nothing has shown nothing, unless it sends
abbrev pub behind : Course → Bool → GraphState → List Change → GraphState
behind c true x writes = stepped c x 0
behind c false x [] = x
behind c false x (w ∷ rest) = stepped c x (word w.bytes 0)

abbrev pub has_stepped : Bool → List Change → Bool
has_stepped true writes = true
has_stepped false [] = false
has_stepped false (w ∷ rest) = true

-- an event that looked at a word looked at this one
abbrev pub Reads : Obs → ℕ → Type 0
Reads (shows.Load c x t o v) w = (v ≡ w) × (w < 2 ^ 64)
Reads (shows.Look c t o v) w = (v ≡ w) × (w < 2 ^ 64)
Reads (shows.Fault c t o) w = ⊥
Reads _ w = Unit {0}

-- a body that wrote this showed this event. Of what it read, it wrote a word first
abbrev pub Shows : Bool → List Change → Obs → Type 0
Shows true writes e = Reads e 0
Shows false [] e = e ≡ shows.Nothing
Shows false (w ∷ rest) e = Reads e (word w.bytes 0)
