-- Blocks that follow a chain are equal to it up to silence.
use Rattle.std.proofs.Common.{◌≡◌, ℕ, zero, suc, ◌<◌, ◌≤◌, ◌⊎◌, inl, inr, Bool, true, false, if◌then◌else◌, List, [], ◌∷◌, length, Option, Some, None, refl, sym, ap, ◌∙◌, subst, arith}
use Rattle.std.specs.Prelude.{slice_get}
use Rattle.std.proofs.lemmas.Option.{slice_get_cases, get_or_from_slice_get}
use Rattle.redn_words.specs.declared.types.Obs.TheVariants as shows
use Rattle.redn_kernel.specs.declared.types.TableInit.{TableInit}
use Rattle.redn_kernel.specs.declared.types.ChainInit.{ChainInit}
use Rattle.redn_kernel.specs.declared.types.Cell.TheVariants as cell
use Rattle.redn_kernel.specs.declared.types.Cell.{Cell}
use Rattle.redn_kernel.specs.Source.{ChainState, Turn, chain_runs, has_word}
use Rattle.redn_kernel.specs.Steps.{Steps, unchanged}
use Rattle.redn_kernel.specs.CoreRun.{Cells}
use Rattle.redn_graph.specs.declared.types.Instr.{Instr}
use Rattle.redn_graph.specs.declared.types.Instr.TheVariants.{Set, Move, Add, Load, Store}
use Rattle.redn_graph.specs.declared.types.End.{End}
use Rattle.redn_graph.specs.declared.types.End.TheVariants.{Jump, Test48, Test64, Probe, Reply}
use Rattle.redn_graph.specs.declared.types.Block.{Block}
use Rattle.redn_graph.specs.declared.types.Graph.{Graph}
use Rattle.redn_kernel.specs.Costs.{add_cost}
use Rattle.redn_graph.specs.Run.{Mail, GraphState, in_hand, GraphTurn, Effect, Way, On, Taking, To, Out, graph_step, graph_start, graph_turn, block_turn, block_cost, instr_or_end, instr_or_end_cost, state_on, step_cost, instr_does}
use Rattle.redn_graph.specs.Run.{end_does, instr_cost, end_cost, stays}
use Rattle.redn_graph.specs.Follows.{Follows, IsMatched, turn_by, chain_start}
use Rattle.redn_graph.specs.Along.{state_along}
use Rattle.redn_graph.specs.Fits.{Things, FitsEnd, FitsBlock, FitsGraph, things_of}
use Rattle.redn_kernel.specs.Feeds.{Feed, seen_then, chain_after, chain_seen}
use Rattle.redn_kernel.proofs.Feeds.{bool_or, zero_or, ended_stops, fed, stopped, GoesBehind, behind}
use Rattle.redn_graph.specs.Silence.{graph_seen, EqualUpToSilence}
use Rattle.redn_graph.proofs.Places.{goes_on_or_out}
use Rattle.redn_kernel.proofs.Quiet.{is_nothing, not_nothing, quiet_run, later_vars, first_content, remains}

module _ (tables_of : List TableInit) (chain : ChainInit) (g : Graph) (f : Follows chain g) (fits : FitsGraph tables_of chain g) (c : ℕ) (mail : Mail) where
  abbrev here : GraphState → ChainState
  here = f.here mail

  abbrev count : ℕ
  count = length g.blocks

  -- an end leads to blocks that are there
  within_block : (n : Things) (x : GraphState) (b : Bool) (one other : Effect) → (state_on x one.cells one.way).block < n.blocks → (state_on x other.cells other.way).block < n.blocks → (let e : Effect = if b then one else other in (state_on x e.cells e.way).block < n.blocks)
  within_block n x true one other h k = h
  within_block n x false one other h k = k

  one_of : (n : Things) (b : Bool) (l r : ℕ) → l < n.blocks → r < n.blocks → (if b then l else r) < n.blocks
  one_of n true l r h k = h
  one_of n false l r h k = k

  looked_block : (n : Things) (x : GraphState) (b : Bool) (s : Cells) (miss : ℕ) → x.block < n.blocks → miss < n.blocks → (state_on x s (if b then Taking else To miss)).block < n.blocks
  looked_block n x true s miss h k = h
  looked_block n x false s miss h k = k

  end_block : (n : Things) (tables : List (List ℕ)) (x : GraphState) (taking : Bool) (end : End) → x.block < n.blocks → FitsEnd n end →
      (let e : Effect = end_does c (in_hand mail x) tables x.cells taking end in (state_on x e.cells e.way).block < n.blocks)
  unfolding end_does
  end_block n tables x taking (Jump to) at h = h
  end_block n tables x taking (Test48 left right met unmet) at h = one_of n _ met unmet h.2 h.3
  end_block n tables x taking (Test64 left right met unmet) at h = one_of n _ met unmet h.2 h.3
  end_block n tables x false (Probe to table offset key hit miss) at h = within_block n x (has_word tables table _) _ _ (looked_block n x _ x.cells miss at h.5) at
  end_block n tables x true (Probe to table offset key hit miss) at h = within_block n x (has_word tables table _) _ _ h.4 at
  end_block n tables x taking (Reply cells) at h = at

  on_or_out : (x : GraphState) (e : Effect) → (e.way ≡ On) ⊎ (e.way ≡ Out) → x.block < count → (state_on x e.cells e.way).block < count
  on_or_out x e (inl on) at = subst (λ (w : Way). (state_on x e.cells w).block < count) (sym on) at
  on_or_out x e (inr out) at = subst (λ (w : Way). (state_on x e.cells w).block < count) (sym out) at

  place_block : (tables : List (List ℕ)) (x : GraphState) (o : Option Instr) (end : End) → x.block < count → FitsEnd (things_of tables_of chain g) end →
      (let e : Effect = instr_or_end c mail tables x o end in (state_on x e.cells e.way).block < count)
  place_block tables x (Some i) end at h = on_or_out x (instr_does c (in_hand mail x) tables x.cells i) (goes_on_or_out c (in_hand mail x) tables x.cells i) at
  place_block tables x None end at h = end_block (things_of tables_of chain g) tables x x.taking end at h

  -- the block of a state
  record Stands (x : GraphState) : Type 0 where
    pub block : Block
    pub there : slice_get g.blocks x.block ≡ Some block
    pub fitting : FitsBlock (things_of tables_of chain g) block

  stands : (x : GraphState) → x.block < count → Stands x
  stands x at =
      elim (slice_get_cases g.blocks x.block).1 [
        | inl there ↦ record { block = there.0; there = there.2; fitting = subst (FitsBlock (things_of tables_of chain g)) (get_or_from_slice_get g.blocks x.block there.0 there.0 there.2) (fits.each x.block there.0 at) }
        | inr past ↦ absurd (omega (arith, past.0, at))
      ]

  step_is : (tables : List (List ℕ)) (x : GraphState) (b : Block) → x.ended ≡ false → slice_get g.blocks x.block ≡ Some b → graph_step c mail tables x g ≡ graph_turn x (instr_or_end c mail tables x (slice_get b.instrs x.place) b.end)
  unfolding graph_step
  step_is tables x b going there = ap (λ (e : Bool). if e then stays tables x else block_turn c mail tables x (slice_get g.blocks x.block)) going ∙ ap (block_turn c mail tables x) there

  cost_is : (x : GraphState) (b : Block) → x.ended ≡ false → slice_get g.blocks x.block ≡ Some b → step_cost g x ≡ instr_or_end_cost x (slice_get b.instrs x.place) b.end
  unfolding step_cost
  cost_is x b going there = ap (λ (e : Bool). if e then 0 else block_cost x (slice_get g.blocks x.block)) going ∙ ap (block_cost x) there

  next_within : (tables : List (List ℕ)) (x : GraphState) → x.ended ≡ false → x.block < count → (graph_step c mail tables x g).state.block < count
  next_within tables x going at =
      let s = stands x at in
      let o : Option Instr = slice_get s.block.instrs x.place in
      subst (λ (turn : GraphTurn). turn.state.block < count) (sym (step_is tables x s.block going s.there)) (place_block tables x o s.block.end at s.fitting.end_fits)

  -- a step costs something or shows something
  add_pays : (by : Cell) → 1 ≤ add_cost by
  add_pays (cell.Num n) = omega arith
  add_pays (cell.Var x) = omega arith
  add_pays (cell.Hidden k) = omega arith
  add_pays (cell.Argument i) = omega arith

  instr_pays : (i : Instr) → 1 ≤ instr_cost i
  unfolding instr_cost
  instr_pays (Set to v) = omega arith
  instr_pays (Move to from) = omega arith
  instr_pays (Add to by) = add_pays by
  instr_pays (Load to table offset) = omega arith
  instr_pays (Store table offset from) = omega arith

  either_loud : (b : Bool) (one other : Effect) → is_nothing one.event ≡ false → is_nothing other.event ≡ false → (let e : Effect = if b then one else other in is_nothing e.event ≡ false)
  either_loud true one other h k = h
  either_loud false one other h k = k

  load_loud : (w : List ℕ) (tables : List (List ℕ)) (s : Cells) (to : Cell) (table offset hit : ℕ) (offset_cell key : Cell) (miss : ℕ) → is_nothing (end_does c w tables s true (Probe to table offset_cell key hit miss)).event ≡ false
  unfolding end_does
  load_loud w tables s (cell.Var x) table offset hit offset_cell key miss = either_loud (has_word tables table _) _ _ refl refl
  load_loud w tables s (cell.Hidden x) table offset hit offset_cell key miss = either_loud (has_word tables table _) _ _ refl refl
  load_loud w tables s (cell.Argument x) table offset hit offset_cell key miss = either_loud (has_word tables table _) _ _ refl refl
  load_loud w tables s (cell.Num x) table offset hit offset_cell key miss = either_loud (has_word tables table _) _ _ refl refl

  abbrev PaysOrShows : List (List ℕ) → GraphState → Option Instr → End → Type 0
  PaysOrShows tables x o end = (1 ≤ instr_or_end_cost x o end) ⊎ (is_nothing (instr_or_end c mail tables x o end).event ≡ false)

  end_pays : (tables : List (List ℕ)) (x : GraphState) (taking : Bool) (end : End) → (1 ≤ end_cost taking end) ⊎ (is_nothing (end_does c (in_hand mail x) tables x.cells taking end).event ≡ false)
  unfolding end_cost
  end_pays tables x taking (Jump to) = inl (omega arith)
  end_pays tables x taking (Test48 left right met unmet) = inl (omega arith)
  end_pays tables x taking (Test64 left right met unmet) = inl (omega arith)
  end_pays tables x false (Probe to table offset key hit miss) = inl (omega arith)
  end_pays tables x true (Probe to table offset key hit miss) = inr (load_loud (in_hand mail x) tables x.cells to table 0 hit offset key miss)
  end_pays tables x taking (Reply cells) = inl (omega arith)

  place_pays : (tables : List (List ℕ)) (x : GraphState) (o : Option Instr) (end : End) → PaysOrShows tables x o end
  place_pays tables x (Some i) end = inl (instr_pays i)
  place_pays tables x None end = end_pays tables x x.taking end

  pays_or_shows : (tables : List (List ℕ)) (x : GraphState) → x.ended ≡ false → x.block < count → (1 ≤ step_cost g x) ⊎ (is_nothing (graph_step c mail tables x g).event ≡ false)
  pays_or_shows tables x going at =
      let s = stands x at in
      let o : Option Instr = slice_get s.block.instrs x.place in
      elim (place_pays tables x o s.block.end) [
        | inl pays ↦ inl (omega (arith, pays, cost_is x s.block going s.there))
        | inr loud ↦ inr (subst (λ (turn : GraphTurn). is_nothing turn.event ≡ false) (sym (step_is tables x s.block going s.there)) loud)
      ]

  -- a feed of the blocks that shows what one of the chain does
  record Answer (x : GraphState) (feed : Feed) : Type 0 where
    pub other : Feed
    pub seen : graph_seen c mail g other x ≡ chain_seen c feed (here x)
    pub vars : (state_along c mail g other x).cells.vars ≡ (chain_after c feed (here x)).vars

  answer_none : (x : GraphState) (feed : Feed) → chain_seen c feed (here x) ≡ [] → (chain_after c feed (here x)).vars ≡ (here x).vars → Answer x feed
  answer_none x feed seen vars = record { other = []; seen = sym seen; vars = sym (f.vars mail x) ∙ sym vars }

  answer_more : (x : GraphState) (feed : Feed) (n : ℕ) → (b : GoesBehind c n feed (here x) (turn_by here (graph_step c mail (first_content c feed (here x)) x g))) →
      Answer (graph_step c mail (first_content c feed (here x)) x g).state b.feed_left → Answer x feed
  answer_more x feed n b a =
      let tables = first_content c feed (here x) in
      record {
        other = tables ∷ a.other;
        seen = ap (seen_then tables (graph_step c mail tables x g).event) a.seen ∙ sym b.seen;
        vars = a.vars ∙ sym (later_vars c _ _ b.later);
      }

  answer_ended : (x : GraphState) (feed : Feed) → x.ended ≡ true → Answer x feed
  answer_ended x feed over =
      let not_running : chain_runs (here x) ≡ false = ended_stops (here x) (f.ended mail x ∙ over) in
      let s = stopped c feed (here x) not_running in
      answer_none x feed s.0 (ap (λ (t : ChainState). t.vars) s.1)

  abbrev Shorter : ℕ → Type 0
  Shorter k = (x : GraphState) (feed : Feed) → x.block < count → length feed < k → Answer x feed

  ended_or : (x : GraphState) → (x.ended ≡ true) ⊎ (x.ended ≡ false)
  ended_or x = bool_or x.ended

  no_steps : (x : GraphState) (feed : Feed) (m : IsMatched c mail g here f.worth (first_content c feed (here x)) x) → m.count ≡ 0 → (graph_step c mail (first_content c feed (here x)) x g).event ≡ shows.Nothing
  no_steps x feed m none =
      let tables = first_content c feed (here x) in
      ap (λ (turn : Turn). turn.event) (subst (λ (n : ℕ). Steps c tables (here x) n (turn_by here (graph_step c mail tables x g))) none m.steps)

  round : (k w : ℕ) → Shorter k → ((x : GraphState) (feed : Feed) → x.block < count → length feed ≤ k → f.worth x < w → Answer x feed) → (x : GraphState) (feed : Feed) → x.block < count → 1 ≤ length feed → length feed ≤ k → f.worth x ≤ w → x.ended ≡ false → Answer x feed
  round k w shorter poorer x feed at some few worth going =
      let tables = first_content c feed (here x) in
      let m = f.matched c mail tables x in
      let next = (graph_step c mail tables x g).state in
      let there = next_within tables x going at in
      elim (behind c m.count feed (here x) (turn_by here (graph_step c mail tables x g)) m.steps) [
        | inr no_more ↦ answer_none x feed no_more.seen no_more.vars
        | inl b ↦
            elim (zero_or m.count) [
              | inr moves ↦ answer_more x feed m.count b (shorter next b.feed_left there (omega (arith, b.less moves some, few)))
              | inl none ↦
                  let pays : 1 ≤ step_cost g x =
                  elim (pays_or_shows tables x going at) [ inl pays ↦ pays | inr loud ↦ not_nothing _ loud (no_steps x feed m none) ]
                  in
                  answer_more x feed m.count b (poorer next b.feed_left there (omega (arith, b.shorter, few)) (omega (arith, m.paid, none, pays, worth)))
            ]
      ]

  answer_at : (k : ℕ) → Shorter k → (w : ℕ) (x : GraphState) (feed : Feed) → x.block < count → length feed ≤ k → f.worth x < w → Answer x feed
  answer_at k shorter zero x feed at few worth = absurd (omega (arith, worth))
  answer_at k shorter (suc w) x [] at few worth = answer_none x [] refl refl
  answer_at k shorter (suc w) x (tables ∷ feed) at few worth =
      elim (ended_or x) [
        | inl over ↦ answer_ended x (tables ∷ feed) over
        | inr going ↦ round k w shorter (answer_at k shorter w) x (tables ∷ feed) at (omega arith) few (omega (arith, worth)) going
      ]

  answer : (k : ℕ) → Shorter k
  answer zero x feed at few = absurd (omega (arith, few))
  answer (suc k) x feed at few = answer_at k (answer k) (suc (f.worth x)) x feed at (omega (arith, few)) (omega arith)

  abbrev first : GraphState
  first = graph_start g chain.vars

  pub blocks_match : (feed : Feed) → (other : Feed)
      × (graph_seen c mail g other first ≡ chain_seen c feed (chain_start chain (in_hand mail (graph_start g chain.vars))))
      × ((state_along c mail g other first).cells.vars ≡ (chain_after c feed (chain_start chain (in_hand mail (graph_start g chain.vars)))).vars)
  blocks_match feed =
      let start = f.starts c mail [] in
      let quiet = quiet_run c start.0 [] (chain_start chain (in_hand mail (graph_start g chain.vars))) (unchanged [] (here first)) start.1 refl in
      let r = remains c start.0 feed (chain_start chain (in_hand mail (graph_start g chain.vars))) (here first) quiet in
      let a = answer (suc (length r.feed_left)) first r.feed_left fits.entry (omega arith) in
      (a.other, a.seen ∙ sym r.seen, a.vars ∙ sym (later_vars c _ _ r.later))

  -- a feed of the chain for one of the blocks
  record Follower (x : GraphState) (feed : Feed) : Type 0 where
    pub other : Feed
    pub seen : chain_seen c other (here x) ≡ graph_seen c mail g feed x
    pub vars : (chain_after c other (here x)).vars ≡ (state_along c mail g feed x).cells.vars

  follower : (feed : Feed) (x : GraphState) → Follower x feed
  follower [] x = record { other = []; seen = refl; vars = f.vars mail x }
  follower (tables ∷ feed) x =
      let m = f.matched c mail tables x in
      let turn = graph_step c mail tables x g in
      let more = follower feed turn.state in
      let h = fed c m.count tables (here x) (turn_by here turn) more.other m.steps in
      record { other = h.whole; seen = h.seen ∙ ap (seen_then tables turn.event) more.seen; vars = ap (λ (t : ChainState). t.vars) h.after ∙ more.vars }

  pub chain_matches : (feed : Feed) → (other : Feed)
      × (chain_seen c other (chain_start chain (in_hand mail (graph_start g chain.vars))) ≡ graph_seen c mail g feed first)
      × ((chain_after c other (chain_start chain (in_hand mail (graph_start g chain.vars)))).vars ≡ (state_along c mail g feed first).cells.vars)
  chain_matches feed =
      let start = f.starts c mail [] in
      let more = follower feed first in
      let h = fed c start.0 [] (chain_start chain (in_hand mail (graph_start g chain.vars))) (unchanged [] (here first)) more.other start.1 in
      (h.whole, h.seen ∙ more.seen, ap (λ (t : ChainState). t.vars) h.after ∙ more.vars)

pub equal_up_to_silence : (tables : List TableInit) (chain : ChainInit) (g : Graph) → Follows chain g → FitsGraph tables chain g → EqualUpToSilence chain g
equal_up_to_silence tables chain g f fits = (λ c mail feed. chain_matches tables chain g f fits c mail feed, λ c mail feed. blocks_match tables chain g f fits c mail feed)
