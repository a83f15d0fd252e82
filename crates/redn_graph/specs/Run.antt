-- What a chain's blocks do, one instruction or end after the other.
use Rattle.std.specs.Prelude.{ℕ, suc, ◌+◌, Bool, true, false, ◌==◌, if◌then◌else◌, List, length, map, Option, Some, None, slice_get}
use Rattle.redn_words.specs.declared.types.Obs.{Obs}
use Rattle.redn_words.specs.declared.types.Obs.TheVariants as shows
use Rattle.redn_kernel.specs.declared.types.Cell.{Cell}
use Rattle.redn_kernel.specs.Costs.{move_cost, add_cost, load_cost, store_cost, jump_cost, test_cost, probe_cost, reply_cost}
use Rattle.redn_kernel.specs.Source.{wrapped, same_low, has_word, word_in, with_word_in, eight}
use Rattle.redn_kernel.specs.CoreRun.{Cells, held, put, shown_put, shown_load}
use Rattle.redn_graph.specs.declared.types.Instr.{Instr}
use Rattle.redn_graph.specs.declared.types.Instr.TheVariants.{Set, Move, Add, Load, Store}
use Rattle.redn_graph.specs.declared.types.End.{End}
use Rattle.redn_graph.specs.declared.types.End.TheVariants.{Jump, Test48, Test64, Probe, Reply}
use Rattle.redn_graph.specs.declared.types.Block.{Block}
use Rattle.redn_graph.specs.declared.types.Graph.{Graph}

pub record GraphState : Type 0 where
  pub block : ℕ
  pub place : ℕ  -- of the next instruction, or past the last one at the end
  pub taking : Bool  -- a probe has found its key
  pub cells : Cells
  pub ended : Bool

-- what a chain is sent: one message
pub record Mail : Type 0 where
  pub words : List ℕ

-- the words of the message in hand at a state
abbrev pub in_hand : Mail → GraphState → List ℕ
in_hand mail x = mail.words

-- what a step leaves and shows
pub record GraphTurn : Type 0 where
  pub tables : List (List ℕ)
  pub state : GraphState
  pub event : Obs

-- where an instruction or end leads
pub data Way : Type 0 where
  On : Way  -- to the next place
  Taking : Way  -- to the second step of a probe
  To : (block : ℕ) → Way
  Out : Way  -- the chain has ended

-- what an instruction or end leaves and shows
pub record Effect : Type 0 where
  pub tables : List (List ℕ)
  pub cells : Cells
  pub way : Way
  pub event : Obs

-- chain c, the words of the message in hand, the tables, and what the cells hold
module _ (c : ℕ) (words : List ℕ) (tables : List (List ℕ)) (s : Cells) where
  abbrev pub holds : Cell → ℕ
  holds a = held words s a

  abbrev pub effect : Cells → Way → Obs → Effect
  effect cells way event = record { tables = tables; cells = cells; way = way; event = event }

  abbrev pub sets : Cell → ℕ → Effect
  sets to v = effect (put s to v) On (shown_put c to v)

  -- a fault where no whole word lies there
  abbrev pub within : ℕ → ℕ → Effect → Effect
  within table o e = if has_word tables table o then e else effect s Out (shows.Fault c table o)

  abbrev pub loads : Cell → ℕ → ℕ → Way → Effect
  loads to table o way = within table o (effect (put s to (word_in tables table o)) way (shown_load c to table o (word_in tables table o)))

  abbrev pub stores : ℕ → ℕ → ℕ → Effect
  stores table o v =
      within table o (record { tables = with_word_in tables table o v; cells = s; way = On; event = shows.Store c table o v })

  unfoldable pub instr_does : Instr → Effect
  instr_does (Set to v) = sets to v
  instr_does (Move to from) = sets to (holds from)
  instr_does (Add to by) = sets to (wrapped (holds to + holds by))
  instr_does (Load to table offset) = loads to table (holds offset) On
  instr_does (Store table offset from) = stores table (holds offset) (holds from)

  abbrev pub goes : Way → Effect
  goes way = effect s way shows.Nothing

  abbrev pub looks : ℕ → ℕ → ℕ → ℕ → Effect
  looks table o key miss =
      within table o (effect s (if same_low (word_in tables table o) key then Taking else To miss) (shows.Look c table o (word_in tables table o)))

  abbrev pub replies : List ℕ → Effect
  replies values = effect s Out (shows.Reply c (length values) (eight values))

  -- the end of a block, and the second step of a probe
  unfoldable pub end_does : Bool → End → Effect
  end_does taking (Jump to) = goes (To to)
  end_does taking (Test48 left right met unmet) = goes (To (if same_low (holds left) (holds right) then met else unmet))
  end_does taking (Test64 left right met unmet) = goes (To (if holds left == holds right then met else unmet))
  end_does false (Probe to table offset key hit miss) = looks table (holds offset) (holds key) miss
  end_does true (Probe to table offset key hit miss) = loads to table (wrapped (holds offset + 8)) (To hit)
  end_does taking (Reply cells) = replies (map holds cells)

-- the state where an effect leads
abbrev pub state_on : GraphState → Cells → Way → GraphState
state_on x s On = record x { place = suc x.place; taking = false; cells = s; ended = false }
state_on x s Taking = record x { taking = true; cells = s; ended = false }
state_on x s (To block) = record { block = block; place = 0; taking = false; cells = s; ended = false }
state_on x s Out = record x { cells = s; ended = true }

abbrev pub graph_turn : GraphState → Effect → GraphTurn
graph_turn x e = record { tables = e.tables; state = state_on x e.cells e.way; event = e.event }

abbrev pub stays : List (List ℕ) → GraphState → GraphTurn
stays tables x = record { tables = tables; state = x; event = shows.Nothing }

module _ (c : ℕ) (mail : Mail) (tables : List (List ℕ)) (x : GraphState) where
  abbrev pub instr_or_end : Option Instr → End → Effect
  instr_or_end (Some i) end = instr_does c (in_hand mail x) tables x.cells i
  instr_or_end None end = end_does c (in_hand mail x) tables x.cells x.taking end

  abbrev pub block_turn : Option Block → GraphTurn
  block_turn None = stays tables x
  block_turn (Some b) = graph_turn x (instr_or_end (slice_get b.instrs x.place) b.end)

  -- a step of a chain with its mail. An ended chain changes nothing
  unfoldable pub graph_step : Graph → GraphTurn
  graph_step g = if x.ended then stays tables x else block_turn (slice_get g.blocks x.block)

-- what the compiled form of an instruction costs
unfoldable pub instr_cost : Instr → ℕ
instr_cost (Set to v) = move_cost
instr_cost (Move to from) = move_cost
instr_cost (Add to by) = add_cost by
instr_cost (Load to table offset) = load_cost
instr_cost (Store table offset from) = store_cost

-- and of an end. Each reply counts as one of eight words
unfoldable pub end_cost : Bool → End → ℕ
end_cost taking (Jump to) = jump_cost
end_cost taking (Test48 left right met unmet) = test_cost false
end_cost taking (Test64 left right met unmet) = test_cost true
end_cost false (Probe to table offset key hit miss) = probe_cost
end_cost true (Probe to table offset key hit miss) = 0
end_cost taking (Reply cells) = reply_cost 8

abbrev pub instr_or_end_cost : GraphState → Option Instr → End → ℕ
instr_or_end_cost x (Some i) end = instr_cost i
instr_or_end_cost x None end = end_cost x.taking end

abbrev pub block_cost : GraphState → Option Block → ℕ
block_cost x None = 0
block_cost x (Some b) = instr_or_end_cost x (slice_get b.instrs x.place) b.end

-- the cost of the step from a state
unfoldable pub step_cost : Graph → GraphState → ℕ
step_cost g x = if x.ended then 0 else block_cost x (slice_get g.blocks x.block)

-- before the first step
abbrev pub graph_start : Graph → List ℕ → GraphState
graph_start g vars =
    record { block = g.entry; place = 0; taking = false; cells = record { vars = vars; hidden = λ _. 0 }; ended = false }
