-- Blocks under other numbers do the same.
use Rattle.std.proofs.Common.{◌≡◌, ℕ, ◌≤◌, Bool, true, false, if◌then◌else◌, List, Option, Some, None, refl, sym, ap, ◌∙◌, subst, arith}
use Rattle.std.specs.Prelude.{slice_get}
use Rattle.redn_words.specs.declared.types.Obs.{Obs}
use Rattle.redn_words.specs.declared.types.Obs.TheVariants as shows
use Rattle.redn_kernel.specs.declared.types.ChainInit.{ChainInit}
use Rattle.redn_kernel.specs.Source.{has_word}
use Rattle.redn_kernel.specs.Costs.{statement_worth}
use Rattle.redn_kernel.specs.Steps.{Steps, unchanged}
use Rattle.redn_kernel.specs.CoreRun.{Cells}
use Rattle.redn_graph.specs.declared.types.Instr.{Instr}
use Rattle.redn_graph.specs.declared.types.Instr.TheVariants.{Set, Move, Add, Load, Store}
use Rattle.redn_graph.specs.declared.types.End.{End}
use Rattle.redn_graph.specs.declared.types.End.TheVariants.{Jump, Test48, Test64, Probe, Reply}
use Rattle.redn_graph.specs.declared.types.Block.{Block}
use Rattle.redn_graph.specs.declared.types.Graph.{Graph}
use Rattle.redn_graph.specs.Run.{Mail, GraphState, in_hand, GraphTurn, Effect, Way, On, Taking, To, Out, graph_step, graph_start, graph_turn, block_turn, block_cost, instr_or_end, instr_or_end_cost, state_on, step_cost, instr_does}
use Rattle.redn_graph.specs.Run.{end_does, end_cost, stays}
use Rattle.redn_graph.specs.Follows.{Follows, turn_by, chain_start}
use Rattle.redn_graph.specs.Reached.{renumbered, Was}

module _ (f : ℕ → ℕ) where
  abbrev pub moved_way : Way → Way
  moved_way On = On
  moved_way Taking = Taking
  moved_way (To l) = To (f l)
  moved_way Out = Out

  abbrev pub moved : Effect → Effect
  moved e = record e { way = moved_way e.way }

  abbrev pub placed : GraphState → GraphState
  placed x = record x { block = f x.block }

  abbrev placed_turn : GraphTurn → GraphTurn
  placed_turn turn = record turn { state = placed turn.state }

  moved_if : (b : Bool) (one other : Effect) → moved (if b then one else other) ≡ (if b then moved one else moved other)
  moved_if true one other = refl
  moved_if false one other = refl

  if_moved : (b : Bool) (one other one2 other2 : Effect) → one ≡ one2 → other ≡ other2 → (let e : Effect = if b then one else other in e) ≡ (let e : Effect = if b then one2 else other2 in e)
  if_moved true one other one2 other2 h k = h
  if_moved false one other one2 other2 h k = k

  chosen : (b : Bool) (l r : ℕ) → To (if b then f l else f r) ≡ moved_way (To (if b then l else r))
  chosen true l r = refl
  chosen false l r = refl

  taken : (b : Bool) (miss : ℕ) → (let w : Way = if b then Taking else To (f miss) in w) ≡ moved_way (if b then Taking else To miss)
  taken true miss = refl
  taken false miss = refl

  module _ (c : ℕ) (words : List ℕ) (tables : List (List ℕ)) (s : Cells) where
    abbrev on_way : Obs → Way → Effect
    on_way event w = record { tables = tables; cells = s; way = w; event = event }

    end_moved : (taking : Bool) (end : End) → end_does c words tables s taking (renumbered f end) ≡ moved (end_does c words tables s taking end)
    unfolding end_does
    end_moved taking (Jump to) = refl
    end_moved taking (Test48 left right met unmet) = ap (on_way shows.Nothing) (chosen _ met unmet)
    end_moved taking (Test64 left right met unmet) = ap (on_way shows.Nothing) (chosen _ met unmet)
    end_moved false (Probe to table offset key hit miss) =
        if_moved (has_word tables table _) _ _ _ _ (ap (on_way _) (taken _ miss)) refl ∙ sym (moved_if (has_word tables table _) _ _)
    end_moved true (Probe to table offset key hit miss) = sym (moved_if (has_word tables table _) _ _)
    end_moved taking (Reply cells) = refl

    instr_moved : (i : Instr) → instr_does c words tables s i ≡ moved (instr_does c words tables s i)
    unfolding instr_does
    instr_moved (Set to v) = refl
    instr_moved (Move to from) = refl
    instr_moved (Add to by) = refl
    instr_moved (Load to table offset) = sym (moved_if (has_word tables table _) _ _)
    instr_moved (Store table offset from) = sym (moved_if (has_word tables table _) _ _)

  pub cost_moved : (taking : Bool) (end : End) → end_cost taking (renumbered f end) ≡ end_cost taking end
  unfolding end_cost
  cost_moved taking (Jump to) = refl
  cost_moved taking (Test48 left right met unmet) = refl
  cost_moved taking (Test64 left right met unmet) = refl
  cost_moved false (Probe to table offset key hit miss) = refl
  cost_moved true (Probe to table offset key hit miss) = refl
  cost_moved taking (Reply cells) = refl

  state_moved : (x : GraphState) (s : Cells) (w : Way) → state_on (placed x) s (moved_way w) ≡ placed (state_on x s w)
  state_moved x s On = refl
  state_moved x s Taking = refl
  state_moved x s (To l) = refl
  state_moved x s Out = refl

  pub place_moved : (c : ℕ) (mail : Mail) (tables : List (List ℕ)) (x : GraphState) (o : Option Instr) (end : End) → instr_or_end c mail tables (placed x) o (renumbered f end) ≡ moved (instr_or_end c mail tables x o end)
  place_moved c mail tables x (Some i) end = instr_moved c (in_hand mail x) tables x.cells i
  place_moved c mail tables x None end = end_moved c (in_hand mail x) tables x.cells x.taking end

  pub place_cost_moved : (x : GraphState) (o : Option Instr) (end : End) → instr_or_end_cost (placed x) o (renumbered f end) ≡ instr_or_end_cost x o end
  place_cost_moved x (Some i) end = refl
  place_cost_moved x None end = cost_moved x.taking end

module _ (chain : ChainInit) (g h : Graph) (f : ℕ → ℕ) (was : (k : ℕ) (b : Block) → slice_get h.blocks k ≡ Some b → Was g.blocks f k b)
    (past : (k : ℕ) → slice_get h.blocks k ≡ None → slice_get g.blocks (f k) ≡ None) where
  module _ (c : ℕ) (mail : Mail) (tables : List (List ℕ)) (x : GraphState) where
    abbrev Same : Type 0
    Same = (graph_step c mail tables (placed f x) g ≡ placed_turn f (graph_step c mail tables x h)) × (step_cost g (placed f x) ≡ step_cost h x)

    same_block : (o : Option Block) → slice_get h.blocks x.block ≡ o → x.ended ≡ false → Same
    unfolding graph_step step_cost
    same_block None none going =
        let other = past x.block none in
        let at : (b : Bool) (one two : Option Block) → GraphTurn = λ b one two. if b then stays tables x else block_turn c mail tables x one in (
          ap (λ (b : Bool). if b then stays tables (placed f x) else block_turn c mail tables (placed f x) (slice_get g.blocks (f x.block))) going
              ∙ ap (block_turn c mail tables (placed f x)) other
              ∙ sym (ap (placed_turn f) (ap (λ (b : Bool). if b then stays tables x else block_turn c mail tables x (slice_get h.blocks x.block)) going ∙ ap (block_turn c mail tables x) none)),
          ap (λ (b : Bool). if b then 0 else block_cost (placed f x) (slice_get g.blocks (f x.block))) going
              ∙ ap (block_cost (placed f x)) other
              ∙ sym (ap (λ (b : Bool). if b then 0 else block_cost x (slice_get h.blocks x.block)) going ∙ ap (block_cost x) none),
        )
    same_block (Some now) there going =
        let w = was x.block now there in
        let o : Option Instr = slice_get now.instrs x.place in
        let e : Effect = instr_or_end c mail tables x o now.end in
        let turn : List Instr → End → GraphTurn = λ instrs end. graph_turn (placed f x) (instr_or_end c mail tables (placed f x) (slice_get instrs x.place) end) in
        let cost : List Instr → End → ℕ = λ instrs end. instr_or_end_cost (placed f x) (slice_get instrs x.place) end in (
          ap (λ (b : Bool). if b then stays tables (placed f x) else block_turn c mail tables (placed f x) (slice_get g.blocks (f x.block))) going
              ∙ ap (block_turn c mail tables (placed f x)) w.there
              ∙ ap (λ (instrs : List Instr). turn instrs w.block.end) w.instrs ∙ ap (turn now.instrs) w.end
              ∙ ap (graph_turn (placed f x)) (place_moved f c mail tables x o now.end)
              ∙ ap (λ (y : GraphState). let u : GraphTurn = record { tables = e.tables; state = y; event = e.event } in u) (state_moved f x e.cells e.way)
              ∙ sym (ap (placed_turn f) (ap (λ (b : Bool). if b then stays tables x else block_turn c mail tables x (slice_get h.blocks x.block)) going ∙ ap (block_turn c mail tables x) there)),
          ap (λ (b : Bool). if b then 0 else block_cost (placed f x) (slice_get g.blocks (f x.block))) going
              ∙ ap (block_cost (placed f x)) w.there
              ∙ ap (λ (instrs : List Instr). cost instrs w.block.end) w.instrs ∙ ap (cost now.instrs) w.end
              ∙ place_cost_moved f x o now.end
              ∙ sym (ap (λ (b : Bool). if b then 0 else block_cost x (slice_get h.blocks x.block)) going ∙ ap (block_cost x) there),
        )

    same_ended : (b : Bool) → x.ended ≡ b → Same
    unfolding graph_step step_cost
    same_ended false going = same_block (slice_get h.blocks x.block) refl going
    same_ended true over = (
      ap (λ (b : Bool). if b then stays tables (placed f x) else block_turn c mail tables (placed f x) (slice_get g.blocks (f x.block))) over
          ∙ sym (ap (placed_turn f) (ap (λ (b : Bool). if b then stays tables x else block_turn c mail tables x (slice_get h.blocks x.block)) over)),
      ap (λ (b : Bool). if b then 0 else block_cost (placed f x) (slice_get g.blocks (f x.block))) over
          ∙ sym (ap (λ (b : Bool). if b then 0 else block_cost x (slice_get h.blocks x.block)) over),
    )

    same : Same
    same = same_ended x.ended refl

  pub follows_still : f h.entry ≡ g.entry → Follows chain g → Follows chain h
  follows_still entry follows =
      let start : placed f (graph_start h chain.vars) ≡ graph_start g chain.vars = ap (λ (l : ℕ). let x : GraphState = record { block = l; place = 0; taking = false; cells = record { vars = chain.vars; hidden = λ _. 0 }; ended = false } in x) entry in
      record {
        here = λ mail x. follows.here mail (placed f x);
        worth = λ x. follows.worth (placed f x);
        vars = λ mail x. follows.vars mail (placed f x);
        ended = λ mail x. follows.ended mail (placed f x);
        starts = λ c mail tables.
            let s = follows.starts c mail tables in
            (s.0, subst (λ (x : GraphState). Steps c tables (chain_start chain (in_hand mail (graph_start h chain.vars))) s.0 (unchanged tables (follows.here mail x))) (sym start) s.1);
        entry = subst (λ (x : GraphState). follows.worth x ≤ statement_worth) (sym start) follows.entry;
        matched = λ c mail tables x.
            let m = follows.matched c mail tables (placed f x) in
            let is = same c mail tables x in
            record {
              count = m.count;
              steps = subst (λ (turn : GraphTurn). Steps c tables (follows.here mail (placed f x)) m.count (turn_by (follows.here mail) turn)) is.0 m.steps;
              within = omega (arith, m.within, is.1);
              paid = omega (arith, m.paid, is.1, ap (λ (turn : GraphTurn). follows.worth turn.state) is.0);
            };
      }
