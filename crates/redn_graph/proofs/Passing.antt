-- Blocks that lead past idle ones do the same.
use Rattle.std.proofs.Common.{◌≡◌, ℕ, zero, suc, ◌+◌, ◌*◌, ◌≤◌, ◌==◌, inl, inr, Bool, true, false, if◌then◌else◌, List, [], ◌∷◌, length, Option, Some, None, refl, sym, ap, ◌∙◌, subst, arith}
use Rattle.std.specs.Prelude.{slice_get, unwrap_or, option_map}
use Rattle.std.proofs.lemmas.Option.{slice_get-map}
use Rattle.std.proofs.Math.Path.{fun_ext}
use Rattle.std.proofs.lemmas.Bool.Decides.{nat_tests}
use Rattle.redn_words.specs.declared.types.Obs.TheVariants as shows
use Rattle.redn_kernel.specs.declared.types.ChainInit.{ChainInit}
use Rattle.redn_kernel.specs.declared.types.Cell.{Cell}
use Rattle.redn_kernel.specs.declared.types.Cell.TheVariants as cell
use Rattle.redn_kernel.specs.Source.{ChainState, Turn, first_does}
use Rattle.redn_kernel.specs.Costs.{step_worth, statement_worth}
use Rattle.redn_kernel.specs.Steps.{Steps, silently, unchanged}
use Rattle.redn_kernel.specs.CoreRun.{Cells, put}
use Rattle.redn_graph.specs.declared.types.Instr.{Instr}
use Rattle.redn_graph.specs.declared.types.Instr.TheVariants.{Set, Move, Add, Load, Store}
use Rattle.redn_graph.specs.declared.types.End.{End}
use Rattle.redn_graph.specs.declared.types.Block.{Block}
use Rattle.redn_graph.specs.declared.types.Graph.{Graph}
use Rattle.redn_graph.specs.Run.{Mail, GraphState, in_hand, GraphTurn, Effect, Way, On, Taking, To, Out, graph_step, graph_start, graph_turn, block_turn, block_cost, instr_or_end, step_cost, instr_does, end_does, stays}
use Rattle.redn_graph.specs.Reached.{renumbered}
use Rattle.redn_graph.proofs.Renumbering.{moved, place_moved, place_cost_moved}
use Rattle.redn_graph.specs.Follows.{Follows, IsMatched, turn_by, chain_start}
use Rattle.redn_graph.specs.Finding.{at_block, FollowsIdly}
use Rattle.redn_graph.specs.Idle.{same_hidden, puts_back, only_puts_back, idle_at, jumps, past_idle, passed}
use Rattle.redn_graph.proofs.Idling.{with_chain}
use Rattle.redn_graph.proofs.Jumping.{IsIdle, idle_is}

-- silent steps after others
pub steps_then : (c n m : ℕ) (tables : List (List ℕ)) (t : ChainState) (turn : Turn) (u : ChainState) → Steps c tables t n turn → Steps c turn.tables turn.chain m (unchanged turn.tables u) → Steps c tables t (n + m) (with_chain turn u)
steps_then c zero m tables t turn u e more =
    let none : m ≡ zero + m = omega arith in
    subst (λ (i : ℕ). Steps c tables t i (with_chain turn u)) none
    (subst (λ (v : Turn). Steps c v.tables v.chain m (unchanged v.tables u) → Steps c tables t m (with_chain v u)) (sym e) (λ h. h) more)
steps_then c (suc n) m tables t turn u (running, inl (quiet, rest)) more =
    let e : suc (n + m) ≡ suc n + m = omega arith in
    subst (λ (i : ℕ). Steps c tables t i (with_chain turn u)) e
    (running, inl (quiet, steps_then c n m (first_does c tables t t.items).tables (first_does c tables t t.items).chain turn u rest more))
steps_then c (suc n) m tables t turn u (running, inr (shown, rest)) more =
    let e : suc (n + m) ≡ suc n + m = omega arith in
    subst (λ (i : ℕ). Steps c tables t i (with_chain turn u)) e
    (running, inr (shown, steps_then c n m (first_does c tables t t.items).tables (first_does c tables t t.items).chain (silently turn) u rest more))

true_false : {A : Type 0} → true ≡ false → A
true_false e = absurd (let h : ⊥ = cc in h)

-- a hidden cell's word is put back
record PutsBack (instrs : List Instr) : Type 0 where
  pub number : ℕ
  pub is : instrs ≡ Move (cell.Hidden number) (cell.Hidden number) ∷ []

cells_back : (to from : Cell) → same_hidden to from ≡ true → PutsBack (Move to from ∷ [])
cells_back (cell.Hidden j) (cell.Hidden k) e =
    let is : j ≡ k = grind (arith, nat_tests) in
    record { number = j; is = ap (λ (i : ℕ). Move (cell.Hidden j) (cell.Hidden i) ∷ []) (sym is) }
cells_back (cell.Hidden j) (cell.Var x) e = true_false (sym e)
cells_back (cell.Hidden j) (cell.Argument i) e = true_false (sym e)
cells_back (cell.Hidden j) (cell.Num n) e = true_false (sym e)
cells_back (cell.Var x) from e = true_false (sym e)
cells_back (cell.Argument i) from e = true_false (sym e)
cells_back (cell.Num n) from e = true_false (sym e)

one_back : (i : Instr) → puts_back i ≡ true → PutsBack (i ∷ [])
one_back (Move to from) e = cells_back to from e
one_back (Set to v) e = true_false (sym e)
one_back (Add to by) e = true_false (sym e)
one_back (Load to table offset) e = true_false (sym e)
one_back (Store table offset from) e = true_false (sym e)

only_back : (instrs : List Instr) → only_puts_back instrs ≡ true → PutsBack instrs
only_back [] e = true_false (sym e)
only_back (i ∷ []) e = one_back i e
only_back (i ∷ j ∷ rest) e = true_false (sym e)

own_by : (h : ℕ → ℕ) (j i : ℕ) (b : Bool) → (i == j) ≡ b → (if b then h j else h i) ≡ h i
own_by h j i true e = let is : i ≡ j = grind (arith, nat_tests) in ap h (sym is)
own_by h j i false e = refl

put_back : (s : Cells) (j : ℕ) → put s (cell.Hidden j) (s.hidden j) ≡ s
put_back s j = ap (λ (hidden : ℕ → ℕ). let now : Cells = record s { hidden = hidden } in now) (fun_ext (λ i. own_by s.hidden j i (i == j) refl))

abbrev at_end : ℕ → Cells → GraphState
at_end k s = record { block = k; place = 1; taking = false; cells = s; ended = false }

abbrev quiet_turn : List (List ℕ) → GraphState → GraphTurn
quiet_turn tables x = record { tables = tables; state = x; event = shows.Nothing }

module _ (g : Graph) (k l : ℕ) (i : IsIdle g.blocks k l) (c : ℕ) (mail : Mail) (tables : List (List ℕ)) (s : Cells) where
  abbrev back : PutsBack i.block.instrs
  back = only_back i.block.instrs i.idle

  first_step : graph_step c mail tables (at_block k s) g ≡ quiet_turn tables (at_end k s)
  unfolding graph_step instr_does
  first_step =
      let x = at_block k s in
      ap (block_turn c mail tables x) i.there
      ∙ ap (λ (instrs : List Instr). graph_turn x (instr_or_end c mail tables x (slice_get instrs 0) i.block.end)) back.is
      ∙ ap (λ (now : Cells). quiet_turn tables (at_end k now)) (put_back s back.number)

  second_step : graph_step c mail tables (at_end k s) g ≡ quiet_turn tables (at_block l s)
  unfolding graph_step end_does
  second_step =
      let x = at_end k s in
      ap (block_turn c mail tables x) i.there
      ∙ ap (λ (instrs : List Instr). graph_turn x (instr_or_end c mail tables x (slice_get instrs 1) i.block.end)) back.is
      ∙ ap (λ (end : End). graph_turn x (end_does c (in_hand mail x) tables s false end)) i.end

-- silent steps of the chain lead on, which pay for themselves
pub record Skips (c : ℕ) (tables : List (List ℕ)) (t u : ChainState) (worth left : ℕ) : Type 0 where
  pub count : ℕ
  pub steps : Steps c tables t count (unchanged tables u)
  pub paid : left ≤ worth + step_worth * count

module _ (chain : ChainInit) (g : Graph) (f : Follows chain g) (c : ℕ) (mail : Mail) (tables : List (List ℕ)) where
  abbrev here : GraphState → ChainState
  here x = f.here mail x

  skips_none : (x : GraphState) → Skips c tables (here x) (here x) (f.worth x) (f.worth x)
  skips_none x = record { count = 0; steps = refl; paid = omega arith }

  skips_then : (x y z : GraphState) → Skips c tables (here x) (here y) (f.worth x) (f.worth y) → Skips c tables (here y) (here z) (f.worth y) (f.worth z) → Skips c tables (here x) (here z) (f.worth x) (f.worth z)
  skips_then x y z a b = record { count = a.count + b.count; steps = steps_then c a.count b.count tables (here x) (unchanged tables (here y)) (here z) a.steps b.steps; paid = omega (arith, a.paid, b.paid) }

  skips_step : (x y : GraphState) → graph_step c mail tables x g ≡ quiet_turn tables y → Skips c tables (here x) (here y) (f.worth x) (f.worth y)
  skips_step x y is =
      let m = f.matched c mail tables x in
      record {
        count = m.count;
        steps = subst (λ (turn : GraphTurn). Steps c tables (here x) m.count (turn_by here turn)) is m.steps;
        paid = omega (arith, m.paid, ap (λ (turn : GraphTurn). f.worth turn.state) is);
      }

  skips_block : (k l : ℕ) (s : Cells) → IsIdle g.blocks k l → Skips c tables (here (at_block k s)) (here (at_block l s)) (f.worth (at_block k s)) (f.worth (at_block l s))
  skips_block k l s i =
      skips_then (at_block k s) (at_end k s) (at_block l s) (skips_step (at_block k s) (at_end k s) (first_step g k l i c mail tables s)) (skips_step (at_end k s) (at_block l s) (second_step g k l i c mail tables s))

  abbrev SkipsTo : ℕ → ℕ → Cells → Type 0
  SkipsTo k l s = Skips c tables (here (at_block k s)) (here (at_block l s)) (f.worth (at_block k s)) (f.worth (at_block l s))

  skips_on : (n k : ℕ) (s : Cells) → ((l : ℕ) → SkipsTo l (jumps g.blocks n l) s) → (o : Option ℕ) → idle_at g.blocks k ≡ o → SkipsTo k (jumps g.blocks n (unwrap_or (idle_at g.blocks k) k)) s
  skips_on n k s rest None none = subst (λ (o : Option ℕ). SkipsTo k (jumps g.blocks n (unwrap_or o k)) s) (sym none) (rest k)
  skips_on n k s rest (Some l) leads =
      subst (λ (o : Option ℕ). SkipsTo k (jumps g.blocks n (unwrap_or o k)) s) (sym leads)
      (skips_then (at_block k s) (at_block l s) (at_block (jumps g.blocks n l) s) (skips_block k l s (idle_is g.blocks k l leads)) (rest l))

  pub skips_jumps : (n k : ℕ) (s : Cells) → SkipsTo k (jumps g.blocks n k) s
  skips_jumps zero k s = skips_none (at_block k s)
  skips_jumps (suc n) k s = skips_on n k s (λ l. skips_jumps n l s) (idle_at g.blocks k) refl

-- blocks that lead past idle ones
module _ (chain : ChainInit) (g : Graph) (f : Follows chain g) where
  abbrev r : ℕ → ℕ
  r = past_idle g.blocks

  abbrev past_block : Block → Block
  past_block b = record b { end = renumbered r b.end }

  module _ (c : ℕ) (mail : Mail) (tables : List (List ℕ)) where
    -- a turn that leads further than another
    pub record Near (one other : GraphTurn) : Type 0 where
      pub same : other ≡ record one { state = other.state }
      pub skip : Skips c one.tables (f.here mail one.state) (f.here mail other.state) (f.worth one.state) (f.worth other.state)

    near_same : (turn : GraphTurn) → Near turn turn
    near_same turn = record { same = refl; skip = skips_none chain g f c mail turn.tables turn.state }

    near_way : (x : GraphState) (e : Effect) (w : Way) → Near (graph_turn x (record e { way = w })) (graph_turn x (moved r (record e { way = w })))
    near_way x e On = near_same _
    near_way x e Taking = near_same _
    near_way x e (To l) = record { same = refl; skip = skips_jumps chain g f c mail e.tables (length g.blocks) l e.cells }
    near_way x e Out = near_same _

    abbrev step_by : GraphState → Bool → Option Block → GraphTurn
    step_by x ended o = if ended then stays tables x else block_turn c mail tables x o

    near_by : (x : GraphState) (ended : Bool) (o : Option Block) → Near (step_by x ended o) (step_by x ended (option_map past_block o))
    near_by x true o = near_same _
    near_by x false None = near_same _
    near_by x false (Some b) =
        let at : Option Instr = slice_get b.instrs x.place in
        let e : Effect = instr_or_end c mail tables x at b.end in
        subst (λ (other : Effect). Near (graph_turn x e) (graph_turn x other)) (sym (place_moved r c mail tables x at b.end)) (near_way x e e.way)

    near : (x : GraphState) → Near (graph_step c mail tables x g) (graph_step c mail tables x (passed g))
    unfolding graph_step
    near x =
        subst (λ (o : Option Block). Near (step_by x x.ended (slice_get g.blocks x.block)) (step_by x x.ended o)) (sym (slice_get-map past_block g.blocks x.block)) (near_by x x.ended (slice_get g.blocks x.block))

  cost_by : (x : GraphState) (o : Option Block) → block_cost x (option_map past_block o) ≡ block_cost x o
  cost_by x None = refl
  cost_by x (Some b) = place_cost_moved r x (slice_get b.instrs x.place) b.end

  same_cost : (x : GraphState) → step_cost (passed g) x ≡ step_cost g x
  unfolding step_cost
  same_cost x = ap (λ (n : ℕ). if x.ended then 0 else n) (ap (block_cost x) (slice_get-map past_block g.blocks x.block) ∙ cost_by x (slice_get g.blocks x.block))

  matched_past : (c : ℕ) (mail : Mail) (tables : List (List ℕ)) (x : GraphState) → IsMatched c mail (passed g) (f.here mail) f.worth tables x
  matched_past c mail tables x =
      let m = f.matched c mail tables x in
      let one = graph_step c mail tables x g in
      let other = graph_step c mail tables x (passed g) in
      let n = near c mail tables x in
      let all = steps_then c m.count n.skip.count tables (f.here mail x) (turn_by (f.here mail) one) (f.here mail other.state) m.steps n.skip.steps in
      record {
        count = m.count + n.skip.count;
        steps = subst (λ (turn : GraphTurn). Steps c tables (f.here mail x) (m.count + n.skip.count) (turn_by (f.here mail) turn)) (sym n.same) all;
        within = omega (arith, m.within, same_cost x);
        paid = omega (arith, m.paid, n.skip.paid, same_cost x);
      }

  pub follows_past : f.worth (graph_start (passed g) chain.vars) ≤ statement_worth → Follows chain (passed g)
  follows_past low = record {
    here = f.here;
    worth = f.worth;
    vars = f.vars;
    ended = f.ended;
    starts = λ c mail tables.
        let s = f.starts c mail tables in
        let first : Cells = record { vars = chain.vars; hidden = λ _. 0 } in
        let k = skips_jumps chain g f c mail tables (length g.blocks) g.entry first in (
          s.0 + k.count,
          steps_then c s.0 k.count tables (chain_start chain (in_hand mail (graph_start g chain.vars))) (unchanged tables (f.here mail (graph_start g chain.vars)))
              (f.here mail (graph_start (passed g) chain.vars)) s.1 k.steps,
        );
    entry = low;
    matched = matched_past;
  }

-- past idle blocks no more may be spent
module _ (chain : ChainInit) (g : Graph) (f : FollowsIdly chain g) (s : Cells) where
  abbrev worth_of : ℕ → ℕ
  worth_of k = f.follows.worth (at_block k s)

  less_on : (n k : ℕ) → ((l : ℕ) → worth_of (jumps g.blocks n l) ≤ worth_of l) → (o : Option ℕ) → idle_at g.blocks k ≡ o → worth_of (jumps g.blocks n (unwrap_or (idle_at g.blocks k) k)) ≤ worth_of k
  less_on n k rest None none = subst (λ (o : Option ℕ). worth_of (jumps g.blocks n (unwrap_or o k)) ≤ worth_of k) (sym none) (rest k)
  less_on n k rest (Some l) leads = subst (λ (o : Option ℕ). worth_of (jumps g.blocks n (unwrap_or o k)) ≤ worth_of k) (sym leads) (omega (arith, rest l, f.idly k l s leads))

  less_past : (n k : ℕ) → worth_of (jumps g.blocks n k) ≤ worth_of k
  less_past zero k = omega arith
  less_past (suc n) k = less_on n k (λ l. less_past n l) (idle_at g.blocks k) refl

-- so the entry that they lead to is no dearer
pub idly_past : (chain : ChainInit) (g : Graph) → FollowsIdly chain g → Follows chain (passed g)
idly_past chain g f =
    let first : Cells = record { vars = chain.vars; hidden = λ _. 0 } in
    follows_past chain g f.follows (omega (arith, f.follows.entry, less_past chain g f first (length g.blocks) g.entry))
