-- Where each block does what its number means, the blocks follow the chain.
use Rattle.std.proofs.Common.{◌≡◌, ℕ, suc, ◌+◌, ◌*◌, ◌<◌, ◌≤◌, Bool, true, false, List, [], ◌∷◌, ◌++◌, length, Option, Some, None, if◌then◌else◌, ◌⊎◌, inl, inr, refl, sym, ap, ◌∙◌, subst, arith}
use Rattle.std.specs.Prelude.{slice_get}
use Rattle.std.proofs.lemmas.List.{get_or_past}
use Rattle.std.proofs.lemmas.Option.{slice_get_within, slice_get_cases}
use Rattle.redn_kernel.specs.Source.{ChainState, Turn, take_arguments, do_all}
use Rattle.redn_kernel.specs.declared.types.ChainInit.{ChainInit}
use Rattle.redn_graph.specs.declared.types.Instr.{Instr}
use Rattle.redn_graph.specs.declared.types.End.{End}
use Rattle.redn_graph.specs.declared.types.Block.{Block}
use Rattle.redn_graph.specs.declared.types.Graph.{Graph}
use Rattle.redn_kernel.specs.CoreRun.{Cells}
use Rattle.redn_graph.specs.Run.{Mail, GraphState, in_hand, GraphTurn, Way, On, Taking, To, Out, Effect, graph_step, graph_start, graph_turn, block_turn, instr_or_end, instr_or_end_cost, block_cost, step_cost, state_on, stays}
use Rattle.redn_kernel.specs.Steps.{Steps, unchanged}
use Rattle.redn_graph.specs.Finding.{FollowsIdly}
use Rattle.redn_graph.specs.Idle.{only_puts_back, jump_of, idle_code, idle_block, idle_at}
use Rattle.redn_graph.specs.Follows.{IsMatched, turn_by, chain_start}
use Rattle.redn_kernel.specs.Becomes.{chain_at}
use Rattle.redn_kernel.specs.Costs.{step_worth, statement_worth}
use Rattle.redn_graph.specs.Code.{Meaning, Label, Leads, Runs, JumpsWithin, Serves, BlockRuns, turn_to, meaning_at, worth_at, nowhere, with_worth, is_out}
use Rattle.redn_graph.proofs.Idling.{idle_steps}
use Rattle.redn_graph.proofs.Places.{items_in, worth_in, items_first, worth_first, worth_ended, next_in, left_in, place_does, place_cost, affords_in, step_in}

some_same : (a b : Block) → Some a ≡ Some b → a ≡ b
some_same a b e = cc

some_none : (b : Block) → Some b ≡ None → ⊥
some_none b e = cc

none_some : {l : ℕ} → None ≡ Some l → ⊥
none_some e = cc

jump_by : (b : Bool) (o : Option ℕ) {l : ℕ} → (if b then o else None) ≡ Some l → o ≡ Some l
jump_by true o e = e
jump_by false o e = absurd (none_some e)

slice_get_none_past : (blocks : List Block) (l : ℕ) → slice_get blocks l ≡ None → length blocks ≤ l
slice_get_none_past blocks l none = elim (slice_get_cases blocks l).1 [ inl there ↦ absurd (some_none there.0 (sym there.2 ∙ none)) | inr past ↦ past.0 ]

module _ (g : Graph) (all : List Label) (whole : length all ≡ length g.blocks) (ok : (l : ℕ) → l < length g.blocks → BlockRuns all g.blocks l) where
  serves_at : (l : ℕ) (b : Block) → slice_get g.blocks l ≡ Some b → Serves all (worth_at all l) b.end b.instrs (meaning_at all l) (worth_at all l)
  serves_at l b e =
      let r = ok l (slice_get_within g.blocks l b e) in
      subst (λ (d : Block). Serves all (worth_at all l) d.end d.instrs (meaning_at all l) (worth_at all l)) (some_same r.block b (sym r.there ∙ e)) r.serves

  pub runs_at : (l : ℕ) (b : Block) → slice_get g.blocks l ≡ Some b → Runs all b.end b.instrs (meaning_at all l) (worth_at all l)
  runs_at l b e = (serves_at l b e).runs

  -- the block of a number, if there is one
  abbrev Found : ℕ → Type 0
  Found l = (slice_get g.blocks l ≡ None) ⊎ ((b : Block) × (slice_get g.blocks l ≡ Some b))

  found_by : (l : ℕ) (o : Option Block) → slice_get g.blocks l ≡ o → Found l
  found_by l None e = inl e
  found_by l (Some b) e = inr (b, e)

  pub found : (l : ℕ) → Found l
  found l = found_by l (slice_get g.blocks l) refl

  -- the items at a place of it
  abbrev items_there : (l : ℕ) → Found l → ℕ → Bool → Bool → Meaning
  items_there l (inl none) k taking ended = nowhere
  items_there l (inr (b, e)) k taking ended = items_in all b.end b.instrs (meaning_at all l) (worth_at all l) (runs_at l b e) k taking ended

  abbrev worth_there : (l : ℕ) → Found l → ℕ → Bool → Bool → ℕ
  worth_there l (inl none) k taking ended = 0
  worth_there l (inr (b, e)) k taking ended = worth_in all b.end b.instrs (meaning_at all l) (worth_at all l) (runs_at l b e) k taking ended

  items_at_start : (l : ℕ) (w : Found l) → items_there l w 0 false false ≡ meaning_at all l
  items_at_start l (inl none) = sym (ap (λ (u : Label). u.means) (get_or_past all l (with_worth 0 nowhere) (omega (arith, whole, slice_get_none_past g.blocks l none))))
  items_at_start l (inr (b, e)) = items_first all b.end b.instrs (meaning_at all l) (worth_at all l) (runs_at l b e)

  worth_at_start : (l : ℕ) (w : Found l) → worth_there l w 0 false false ≤ worth_at all l
  worth_at_start l (inl none) = omega arith
  worth_at_start l (inr (b, e)) = omega (arith, worth_first all b.end b.instrs (meaning_at all l) (worth_at all l) (runs_at l b e))

  worth_at_end : (l : ℕ) (w : Found l) (k : ℕ) (taking : Bool) → worth_there l w k taking true ≡ 0
  worth_at_end l (inl none) k taking = refl
  worth_at_end l (inr (b, e)) k taking = worth_ended all b.end b.instrs (meaning_at all l) (worth_at all l) (runs_at l b e) k taking

  abbrev here : Mail → GraphState → ChainState
  here mail x = chain_at (in_hand mail x) x.cells x.ended (items_there x.block (found x.block) x.place x.taking x.ended x.cells.hidden)

  abbrev worth : GraphState → ℕ
  worth x = worth_there x.block (found x.block) x.place x.taking x.ended

  module _ (c : ℕ) (mail : Mail) (tables : List (List ℕ)) (x : GraphState) where
    abbrev words : List ℕ
    words = in_hand mail x

    -- a step is matched by what its turn is
    matched_by : (turn : GraphTurn) (cost n : ℕ) → graph_step c mail tables x g ≡ turn → step_cost g x ≡ cost → Steps c tables (here mail x) n (turn_by (here mail) turn) → cost ≤ worth x →
        cost + worth turn.state ≤ worth x + step_worth * n → IsMatched c mail g (here mail) worth tables x
    matched_by turn cost n same dear steps within paid = record {
      count = n;
      steps = subst (λ (t : GraphTurn). Steps c tables (here mail x) n (turn_by (here mail) t)) (sym same) steps;
      within = omega (arith, dear, within);
      paid = omega (arith, dear, paid, ap (λ (t : GraphTurn). worth t.state) same);
    }

    step_by : (ended : Bool) (o : Option Block) → x.ended ≡ ended → slice_get g.blocks x.block ≡ o → graph_step c mail tables x g ≡ (if ended then stays tables x else block_turn c mail tables x o)
    unfolding graph_step
    step_by ended o e f = ap (λ (b : Bool). if b then stays tables x else block_turn c mail tables x (slice_get g.blocks x.block)) e ∙ ap (λ (p : Option Block). if ended then stays tables x else block_turn c mail tables x p) f

    cost_by : (ended : Bool) (o : Option Block) → x.ended ≡ ended → slice_get g.blocks x.block ≡ o → step_cost g x ≡ (if ended then 0 else block_cost x o)
    unfolding step_cost
    cost_by ended o e f = ap (λ (b : Bool). if b then 0 else block_cost x (slice_get g.blocks x.block)) e ∙ ap (λ (p : Option Block). if ended then 0 else block_cost x p) f

    effect_at : (o : Option Instr) (end : End) → instr_or_end c mail tables x o end ≡ place_does c words tables x.cells x.taking o end
    effect_at None end = refl
    effect_at (Some i) end = refl

    cost_at : (o : Option Instr) (end : End) → instr_or_end_cost x o end ≡ place_cost x.taking o end
    cost_at None end = refl
    cost_at (Some i) end = refl

    module _ (b : Block) (e : slice_get g.blocks x.block ≡ Some b) (same : found x.block ≡ inr (b, e)) (going : x.ended ≡ false) where
      abbrev next : Way → Meaning
      next = next_in all b.end b.instrs (meaning_at all x.block) (worth_at all x.block) (runs_at x.block b e) x.place x.taking

      abbrev left : Way → ℕ
      left = left_in all b.end b.instrs (meaning_at all x.block) (worth_at all x.block) (runs_at x.block b e) x.place

      here_before : here mail x ≡ chain_at words x.cells false (items_there x.block (inr (b, e)) x.place x.taking false x.cells.hidden)
      here_before =
          ap (λ (ended : Bool). chain_at words x.cells ended (items_there x.block (found x.block) x.place x.taking ended x.cells.hidden)) going
          ∙ ap (λ (f : Found x.block). chain_at words x.cells false (items_there x.block f x.place x.taking false x.cells.hidden)) same

      worth_before : worth x ≡ worth_there x.block (inr (b, e)) x.place x.taking false
      worth_before =
          ap (λ (ended : Bool). worth_there x.block (found x.block) x.place x.taking ended) going
          ∙ ap (λ (f : Found x.block). worth_there x.block f x.place x.taking false) same

      here_after : (s : Cells) (w : Way) → here mail (state_on x s w) ≡ chain_at words s (is_out w) (next w s.hidden)
      here_after s On = ap (λ (f : Found x.block). chain_at words s false (items_there x.block f (suc x.place) false false s.hidden)) same
      here_after s Taking = ap (λ (f : Found x.block). chain_at words s false (items_there x.block f x.place true false s.hidden)) same
      here_after s (To l) = ap (λ (m : Meaning). chain_at words s false (m s.hidden)) (items_at_start l (found l))
      here_after s Out = ap (λ (f : Found x.block). chain_at words s true (items_there x.block f x.place x.taking true s.hidden)) same

      worth_after : (s : Cells) (w : Way) → worth (state_on x s w) ≤ left w
      worth_after s On = omega (arith, ap (λ (f : Found x.block). worth_there x.block f (suc x.place) false false) same)
      worth_after s Taking = omega (arith, ap (λ (f : Found x.block). worth_there x.block f x.place true false) same)
      worth_after s (To l) = worth_at_start l (found l)
      worth_after s Out = omega (arith, worth_at_end x.block (found x.block) x.place x.taking)

      matched_there : IsMatched c mail g (here mail) worth tables x
      matched_there =
          let o : Option Instr = slice_get b.instrs x.place in
          let e1 : Effect = instr_or_end c mail tables x o b.end in
          let e2 : Effect = place_does c words tables x.cells x.taking o b.end in
          let same_effect : e1 ≡ e2 = effect_at o b.end in
          let d = step_in all b.end c words tables x.cells b.instrs (meaning_at all x.block) (worth_at all x.block) (runs_at x.block b e) x.place x.taking in
          let to : Effect → Turn = λ u. turn_to words next u in
          let from : ChainState → Type 0 = λ t. Steps c tables t d.count (turn_by (here mail) (graph_turn x e1)) in
          let chain : ChainState → Turn = λ t. record { tables = e1.tables; chain = t; event = e1.event } in
          let turns : turn_by (here mail) (graph_turn x e1) ≡ turn_to words next e2 = ap chain (here_after e1.cells e1.way) ∙ ap to same_effect in
          let until : Turn → Type 0 = λ u. Steps c tables (chain_at words x.cells false (items_there x.block (inr (b, e)) x.place x.taking false x.cells.hidden)) d.count u in
          let costs : instr_or_end_cost x o b.end ≡ place_cost x.taking o b.end = cost_at o b.end in
          let affords = affords_in all b.end b.instrs (meaning_at all x.block) (worth_at all x.block) (runs_at x.block b e) x.place x.taking in
          matched_by (graph_turn x e1) (instr_or_end_cost x o b.end) d.count (step_by false (Some b) going e) (cost_by false (Some b) going e)
          (subst from (sym here_before) (subst until (sym turns) d.steps))
          (omega (arith, costs, affords, worth_before))
          (omega (arith, costs, d.paid, worth_before, worth_after e1.cells e1.way, ap (λ (u : Effect). left u.way) same_effect))

    matched_found : (w : Found x.block) → found x.block ≡ w → x.ended ≡ false → IsMatched c mail g (here mail) worth tables x
    matched_found (inr (b, e)) same going = matched_there b e same going
    matched_found (inl none) same going =
        matched_by (stays tables x) 0 0 (step_by false None going none) (cost_by false None going none) refl (omega arith) (omega arith)

    matched_by_ended : (ended : Bool) → x.ended ≡ ended → IsMatched c mail g (here mail) worth tables x
    matched_by_ended false going = matched_found (found x.block) refl going
    matched_by_ended true over = matched_by (stays tables x) 0 0 (step_by true (slice_get g.blocks x.block) over refl) (cost_by true (slice_get g.blocks x.block) over refl) refl (omega arith) (omega arith)

    pub matched : IsMatched c mail g (here mail) worth tables x
    matched = matched_by_ended x.ended refl

  -- a block that does nothing leads where no more may be spent
  idly_by : (most : ℕ) (instrs : List Instr) (end : End) (l : ℕ) → idle_code instrs end ≡ Some l → JumpsWithin all most instrs end → worth_at all l ≤ most
  idly_by most [] end l idle none = absurd (none_some idle)
  idly_by most (i ∷ rest) end l idle (inl works) = absurd (none_some (sym works ∙ idle))
  idly_by most (i ∷ rest) end l idle (inr jumps) = jumps l (jump_by (only_puts_back (i ∷ rest)) (jump_of end) idle)

  worth_idly : (k l : ℕ) → idle_at g.blocks k ≡ Some l → (w : Found k) → worth_at all l ≤ worth_there k w 0 false false
  worth_idly k l idle (inl none) = absurd (none_some (sym (ap idle_block none) ∙ idle))
  worth_idly k l idle (inr (b, e)) =
      let most = idly_by (worth_at all k) b.instrs b.end l (sym (ap idle_block e) ∙ idle) (serves_at k b e).jumps in
      omega (arith, most, worth_first all b.end b.instrs (meaning_at all k) (worth_at all k) (runs_at k b e))

  -- the blocks follow the chain where its items lead to the entry's
  pub follows : (chain : ChainInit) → worth_at all g.entry ≤ statement_worth → Leads 0 (take_arguments 0 chain.args ++ do_all chain.body) (meaning_at all g.entry (λ _. 0)) → FollowsIdly chain g
  follows chain low leads =
      let first : Cells = record { vars = chain.vars; hidden = λ _. 0 } in
      let at_start = items_at_start g.entry (found g.entry) in
      record {
        follows = record {
          here = here;
          worth = worth;
          vars = λ mail x. refl;
          ended = λ mail x. refl;
          starts = λ c mail tables.
              let after : Meaning → Turn = λ m. unchanged tables (chain_at (in_hand mail (graph_start g chain.vars)) first false (m (λ _. 0))) in
              let t : ChainState = chain_start chain (in_hand mail (graph_start g chain.vars)) in
              let r = idle_steps c (in_hand mail (graph_start g chain.vars)) tables first leads.count (take_arguments 0 chain.args ++ do_all chain.body) (meaning_at all g.entry (λ _. 0)) leads.idles 0
              (after (meaning_at all g.entry)) refl in
              (r.count, subst (λ (m : Meaning). Steps c tables t r.count (after m)) (sym at_start) r.steps);
          entry = omega (arith, low, worth_at_start g.entry (found g.entry));
          matched = matched;
        };
        idly = λ k l s leads_on. omega (arith, worth_at_start l (found l), worth_idly k l leads_on (found k));
      }
