-- A step of the blocks that shows nothing doesn't look at the tables, and changes neither them nor a variable.
use Rattle.std.proofs.Common.{◌≡◌, ℕ, ◌+◌, Bool, true, false, ◌==◌, if◌then◌else◌, List, Option, Some, None, refl, ap, ◌∙◌}
use Rattle.std.specs.Prelude.{slice_get}
use Rattle.redn_words.specs.declared.types.Obs.TheVariants as shows
use Rattle.redn_kernel.specs.declared.types.Cell.{Cell}
use Rattle.redn_kernel.specs.declared.types.Cell.TheVariants as cell
use Rattle.redn_kernel.specs.Source.{wrapped, same_low, has_word}
use Rattle.redn_graph.specs.declared.types.Instr.{Instr}
use Rattle.redn_graph.specs.declared.types.Instr.TheVariants.{Set, Move, Add, Load, Store}
use Rattle.redn_graph.specs.declared.types.End.{End}
use Rattle.redn_graph.specs.declared.types.End.TheVariants.{Jump, Test48, Test64, Probe, Reply}
use Rattle.redn_graph.specs.declared.types.Block.{Block}
use Rattle.redn_graph.specs.declared.types.Graph.{Graph}
use Rattle.redn_kernel.specs.CoreRun.{Cells}
use Rattle.redn_graph.specs.Run.{Mail, GraphState, in_hand, GraphTurn, Effect, Way, On, To, Out, holds, effect, sets, goes, within, loads, instr_does, end_does, state_on, graph_turn, stays, instr_or_end, block_turn, graph_step}
use Rattle.redn_proof_interleave.specs.Machines.{Contents}

-- what an effect under other tables is
record Quiet (t u : Contents) (s : Cells) (e d : Effect) : Type 0 where
  pub tables : e.tables ≡ t
  pub again : d ≡ record { tables = u; cells = e.cells; way = e.way; event = shows.Nothing }
  pub vars : e.cells.vars ≡ s.vars

module _ (c : ℕ) (words : List ℕ) (t u : Contents) (s : Cells) where
  holds_same : (a : Cell) → holds c words u s a ≡ holds c words t s a
  holds_same (cell.Var x) = refl
  holds_same _ = refl

  sets_quiet : (to : Cell) (v w : ℕ) → w ≡ v → (sets c words t s to v).event ≡ shows.Nothing → Quiet t u s (sets c words t s to v) (sets c words u s to w)
  sets_quiet (cell.Var x) v w same silent = absurd (cc)
  sets_quiet (cell.Hidden k) v w same silent = record { tables = refl; again = ap (sets c words u s (cell.Hidden k)) same; vars = refl }
  sets_quiet _ v w same silent = record { tables = refl; again = refl; vars = refl }

  choice_shows : (there : Bool) (table o : ℕ) (e : Effect) → ((e.event ≡ shows.Nothing) → ⊥) → (if there then e else effect c words t s s Out (shows.Fault c table o)).event ≡ shows.Nothing → ⊥
  choice_shows true table o e tells silent = tells silent
  choice_shows false table o e tells silent = absurd (cc)

  within_shows : (table o : ℕ) (e : Effect) → ((e.event ≡ shows.Nothing) → ⊥) → (within c words t s table o e).event ≡ shows.Nothing → ⊥
  within_shows table o e tells silent = choice_shows (has_word t table o) table o e tells silent

  loads_shows : (to : Cell) (table o : ℕ) (way : Way) → (loads c words t s to table o way).event ≡ shows.Nothing → ⊥
  loads_shows (cell.Var x) table o way = within_shows table o _ (λ silent. cc (silent))
  loads_shows _ table o way = within_shows table o _ (λ silent. cc (silent))

  instr_quiet : (i : Instr) → (instr_does c words t s i).event ≡ shows.Nothing → Quiet t u s (instr_does c words t s i) (instr_does c words u s i)
  unfolding instr_does
  instr_quiet (Set to v) silent = sets_quiet to v v refl silent
  instr_quiet (Move to from) silent = sets_quiet to (holds c words t s from) (holds c words u s from) (holds_same from) silent
  instr_quiet (Add to by) silent =
      let one = holds_same to in
      let other = holds_same by in
      sets_quiet to (wrapped (holds c words t s to + holds c words t s by)) (wrapped (holds c words u s to + holds c words u s by)) (rw (one, other) refl) silent
  instr_quiet (Load to table offset) silent = absurd (loads_shows to table (holds c words t s offset) On silent)
  instr_quiet (Store table offset from) silent = absurd (within_shows table (holds c words t s offset) _ (λ e. cc (e)) silent)

  goes_quiet : (way other : Way) → other ≡ way → Quiet t u s (goes c words t s way) (goes c words u s other)
  goes_quiet way other same = record { tables = refl; again = ap (goes c words u s) same; vars = refl }

  end_quiet : (taking : Bool) (end : End) → (end_does c words t s taking end).event ≡ shows.Nothing → Quiet t u s (end_does c words t s taking end) (end_does c words u s taking end)
  unfolding end_does
  end_quiet taking (Jump to) silent = goes_quiet (To to) (To to) refl
  end_quiet taking (Test48 left right met unmet) silent =
      let one = holds_same left in
      let other = holds_same right in
      goes_quiet (To (if same_low (holds c words t s left) (holds c words t s right) then met else unmet)) (To (if same_low (holds c words u s left) (holds c words u s right) then met else unmet)) (rw (one, other) refl)
  end_quiet taking (Test64 left right met unmet) silent =
      let one = holds_same left in
      let other = holds_same right in
      goes_quiet (To (if holds c words t s left == holds c words t s right then met else unmet)) (To (if holds c words u s left == holds c words u s right then met else unmet)) (rw (one, other) refl)
  end_quiet false (Probe to table offset key hit miss) silent = absurd (within_shows table (holds c words t s offset) _ (λ e. cc (e)) silent)
  end_quiet true (Probe to table offset key hit miss) silent = absurd (loads_shows to table (wrapped (holds c words t s offset + 8)) (To hit) silent)
  end_quiet taking (Reply cells) silent = absurd (cc)

cells_on : (x : GraphState) (s : Cells) (way : Way) → (state_on x s way).cells ≡ s
cells_on x s On = refl
cells_on x s _ = refl

-- a silent step under t, and the same under u
pub record SilentTurn (t u : Contents) (x : GraphState) (turn other : GraphTurn) : Type 0 where
  pub tables : turn.tables ≡ t
  pub again : other ≡ record { tables = u; state = turn.state; event = shows.Nothing }
  pub vars : turn.state.cells.vars ≡ x.cells.vars

module _ (c : ℕ) (mail : Mail) (t u : Contents) (x : GraphState) where
  turn_quiet : (e d : Effect) → Quiet t u x.cells e d → SilentTurn t u x (graph_turn x e) (graph_turn x d)
  turn_quiet e d q =
      record {
        tables = q.tables;
        again = ap (graph_turn x) q.again;
        vars = ap (λ (s : Cells). s.vars) (cells_on x e.cells e.way) ∙ q.vars;
      }

  place_quiet : (i : Option Instr) (end : End) → (instr_or_end c mail t x i end).event ≡ shows.Nothing → Quiet t u x.cells (instr_or_end c mail t x i end) (instr_or_end c mail u x i end)
  place_quiet (Some i) end silent = instr_quiet c (in_hand mail x) t u x.cells i silent
  place_quiet None end silent = end_quiet c (in_hand mail x) t u x.cells x.taking end silent

  stays_quiet : SilentTurn t u x (stays t x) (stays u x)
  stays_quiet = record { tables = refl; again = refl; vars = refl }

  block_quiet : (b : Option Block) → (block_turn c mail t x b).event ≡ shows.Nothing → SilentTurn t u x (block_turn c mail t x b) (block_turn c mail u x b)
  block_quiet None silent = stays_quiet
  block_quiet (Some b) silent = turn_quiet (instr_or_end c mail t x (slice_get b.instrs x.place) b.end) (instr_or_end c mail u x (slice_get b.instrs x.place) b.end) (place_quiet (slice_get b.instrs x.place) b.end silent)

  ended_quiet : (ended : Bool) (turn other : GraphTurn) → (turn.event ≡ shows.Nothing → SilentTurn t u x turn other) → (if ended then stays t x else turn).event ≡ shows.Nothing → SilentTurn t u x (if ended then stays t x else turn) (if ended then stays u x else other)
  ended_quiet true turn other quiet silent = stays_quiet
  ended_quiet false turn other quiet silent = quiet silent

  pub silent_step : (g : Graph) → (graph_step c mail t x g).event ≡ shows.Nothing → SilentTurn t u x (graph_step c mail t x g) (graph_step c mail u x g)
  unfolding graph_step
  silent_step g silent = ended_quiet x.ended (block_turn c mail t x (slice_get g.blocks x.block)) (block_turn c mail u x (slice_get g.blocks x.block)) (block_quiet (slice_get g.blocks x.block)) silent
