-- How a graph's machine goes on, by what segments tell of it.
use Rattle.std.proofs.Common.{◌≡◌, ◌≢◌, ℕ, ◌+◌, ◌≤◌, Bool, true, false, cond, List, [], ◌∷◌, refl, sym, ap, ◌∙◌, subst, arith}
use Rattle.std.specs.Prelude.{slice_get, if◌then◌else◌}
use Rattle.std.proofs.lemmas.Bool.{false≢true}
use Rattle.redn_words.specs.declared.types.Obs.{Obs}
use Rattle.redn_words.specs.declared.types.Obs.TheVariants as shows
use Rattle.redn_words.specs.Runs.{shown_then}
use Rattle.redn_graph.specs.Run.{GraphState, GraphTurn, graph_step, block_turn, stays, step_cost}
use Rattle.redn_block.specs.Plays.{IsTrueOf, stored}
use Rattle.redn_proof_interleave.specs.Machines.{Contents, Goes}
use Rattle.redn_proof_interleave.specs.GraphMachines.{graph_machine}
use Rattle.redn_proof_block.specs.Left.{Course, Tells, Rest}
use Rattle.redn_proof_block.specs.Stages.{Ghost}
use Rattle.redn_proof_block.specs.Stages as stages
use Rattle.redn_proof_chain.proofs.States.{step_leaves}

-- a chain that shows an event runs
pub still_runs : (c : Course) (t : List (List ℕ)) (x : GraphState) → (graph_step c.number c.mail t x c.graph).event ≢ shows.Nothing → x.ended ≡ false
unfolding graph_step
still_runs c t x some = by_end x.ended refl some
  where
    by_end : (b : Bool) → x.ended ≡ b → (cond b (stays t x) (block_turn c.number c.mail t x (slice_get c.graph.blocks x.block))).event ≢ shows.Nothing → x.ended ≡ false
    by_end true e h = absurd (h refl)
    by_end false e h = e

-- one that has ended stays where it is
ended_stays : (c : Course) (t : List (List ℕ)) (x : GraphState) → x.ended ≡ true → (graph_step c.number c.mail t x c.graph).state ≡ x
unfolding graph_step
ended_stays c t x e = ap (λ (b : Bool). (cond b (stays t x) (block_turn c.number c.mail t x (slice_get c.graph.blocks x.block))).state) e

module _ (c : Course) where
  abbrev pub Going : Contents → GraphState → List Obs → Contents → GraphState → ℕ → ℕ → Type 0
  Going = Goes GraphState (graph_machine c.number c.mail c.graph)

  -- no step
  pub go_none : (t : Contents) (x y : GraphState) (need have : ℕ) → x ≡ y → need ≤ have → Going t x [] t y need have
  go_none t x y need have same e = record { steps = 0; go = tt; telling = refl; tables = refl; state = same; enough = omega (arith, e) }

  -- one step that tells an event
  pub go_one : (t : Contents) (x : GraphState) (e : Obs) (z : GraphState) (need have : ℕ) → Tells c x e z → IsTrueOf t e → x.ended ≡ false → need ≤ have + step_cost c.graph z → Going t x (shown_then e []) (stored t e) z need have
  go_one t x e z need have tells is_true runs le =
      let turn = tells t is_true in
      let state : (graph_step c.number c.mail t x c.graph).state ≡ z = ap (λ (g : GraphTurn). g.state) turn in
      let cost : step_cost c.graph (graph_step c.number c.mail t x c.graph).state ≡ step_cost c.graph z = ap (step_cost c.graph) state in
      record {
        steps = 1;
        go = (runs, tt);
        telling = ap (λ (g : GraphTurn). shown_then g.event []) turn;
        tables = ap (λ (g : GraphTurn). g.tables) turn;
        state = state;
        enough = omega (arith, le, cost);
      }

  -- a step that tells an event, as segments tell it
  pub one_step : (ahead : Bool) (x : GraphState) (e : Obs) (z : GraphState) → Rest c ahead x (e ∷ []) z → Tells c x e z
  one_step true x e z h = subst (λ (y : GraphState). Tells c x e y) h.2 h.1
  one_step false x e z h = subst (λ (y : GraphState). Tells c x e y) h.2 h.1

  pub event_step : (closes : Bool) (y : Ghost) (e : Obs) (z : Ghost) → stages.Tells c closes y (e ∷ []) z → Tells c y.state e z.state
  event_step true y e z h = one_step y.ahead y.state e z.state h.0
  event_step false y e z h = one_step true y.state e z.state h.0

  -- a step that shows nothing, where the chain runs on
  go_silent : (t : Contents) (x z : GraphState) (need have : ℕ) → Tells c x shows.Nothing z → z.ended ≡ false → need ≤ have + step_cost c.graph z → Going t x [] t z need have
  go_silent t x z need have tells runs le = by_end x.ended refl
    where
      by_end : (b : Bool) → x.ended ≡ b → Going t x [] t z need have
      by_end true e =
          let same : x ≡ z = sym (ended_stays c t x e) ∙ ap (λ (g : GraphTurn). g.state) (tells t tt) in
          absurd (false≢true (sym runs ∙ ap (λ (y : GraphState). y.ended) (sym same) ∙ e))
      by_end false e = go_one t x shows.Nothing z need have tells tt e le

  -- where the graph is when a window is over: as before, or behind its event
  pub data Stood (y z : Ghost) (events : List Obs) (at : GraphState) (ahead : Bool) : Type 0 where
    As_before : events ≡ [] → at ≡ y.state → ahead ≡ y.ahead → Stood y z events at ahead
    Behind_it : (e : Obs) → events ≡ e ∷ [] → at ≡ z.state → ahead ≡ true → Stood y z events at ahead

  abbrev pub brings : Bool → GraphState → ℕ
  brings ahead x = if ahead then step_cost c.graph x else 0

  -- behind a segment that isn't its part's last it stays
  pub goes_within : (t : Contents) (y z : Ghost) (events : List Obs) (at : GraphState) (ahead : Bool) (whole later : ℕ) → stages.Tells c false y events z → Stood y z events at ahead → Going t at [] t z.state (whole + (later + brings z.ahead z.state)) (whole + later + brings ahead at)
  goes_within t y z events at ahead whole later h (As_before e is same) =
      let stays_so : z ≡ y = subst (λ (l : List Obs). stages.Tells c false y l z) e h in
      let state : at ≡ z.state = is ∙ ap (λ (g : Ghost). g.state) (sym stays_so) in
      let flag : z.ahead ≡ ahead = ap (λ (g : Ghost). g.ahead) stays_so ∙ sym same in
      let cost : brings z.ahead z.state ≡ brings ahead at = ap (λ (b : Bool). brings b z.state) flag ∙ ap (brings ahead) (sym state) in
      go_none t at z.state _ _ state (omega (arith, cost))
  goes_within t y z events at ahead whole later h (Behind_it e is state same) =
      let one : stages.Tells c false y (e ∷ []) z = subst (λ (l : List Obs). stages.Tells c false y l z) is h in
      let flag : z.ahead ≡ ahead = one.1 ∙ sym same in
      let cost : brings z.ahead z.state ≡ brings ahead at = ap (λ (b : Bool). brings b z.state) flag ∙ ap (brings ahead) (sym state) in
      go_none t at z.state _ _ state (omega (arith, cost))

  -- behind the last one a step that shows nothing is made, where none was made
  pub goes_over : (t : Contents) (y z : Ghost) (events : List Obs) (at : GraphState) (ahead : Bool) (need : ℕ) → stages.Tells c true y events z → Stood y z events at ahead → z.state.ended ≡ false → need ≤ step_cost c.graph z.state → Going t at [] t z.state need (brings ahead at)
  goes_over t y z events at ahead need h (Behind_it e is state same) runs le =
      let cost : brings ahead at ≡ step_cost c.graph z.state = ap (λ (b : Bool). brings b at) same ∙ ap (step_cost c.graph) state in
      go_none t at z.state need _ state (omega (arith, cost, le))
  goes_over t y z events at ahead need h (As_before e is same) runs le = by_ahead y.ahead refl (subst (λ (l : List Obs). Rest c y.ahead y.state l z.state) e h.0)
    where
      by_ahead : (b : Bool) → y.ahead ≡ b → Rest c b y.state [] z.state → Going t at [] t z.state need (brings ahead at)
      by_ahead true f rest =
          let state : at ≡ z.state = is ∙ rest in
          let cost : brings ahead at ≡ step_cost c.graph z.state = ap (λ (b : Bool). brings b at) (same ∙ f) ∙ ap (step_cost c.graph) state in
          go_none t at z.state need _ state (omega (arith, cost, le))
      by_ahead false f rest =
          let none : brings ahead at ≡ 0 = ap (λ (b : Bool). brings b at) (same ∙ f) in
          go_silent t at z.state need _ (subst (λ (x : GraphState). Tells c x shows.Nothing z.state) (sym is) rest) runs (omega (arith, le))

  -- the steps that are left when a window is over change no variable
  pub stood_vars : (closes : Bool) (y z : Ghost) (events : List Obs) (at : GraphState) (ahead : Bool) → stages.Tells c closes y events z → Stood y z events at ahead → z.state.cells.vars ≡ at.cells.vars
  stood_vars closes y z events at ahead h (Behind_it e is state same) = ap (λ (x : GraphState). x.cells.vars) (sym state)
  stood_vars false y z events at ahead h (As_before none is same) =
      let stays_so : z ≡ y = subst (λ (l : List Obs). stages.Tells c false y l z) none h in
      ap (λ (g : Ghost). g.state.cells.vars) stays_so ∙ ap (λ (x : GraphState). x.cells.vars) (sym is)
  stood_vars true y z events at ahead h (As_before none is same) = by_ahead y.ahead (subst (λ (l : List Obs). Rest c y.ahead y.state l z.state) none h.0) ∙ ap (λ (x : GraphState). x.cells.vars) (sym is)
    where
      by_ahead : (b : Bool) → Rest c b y.state [] z.state → z.state.cells.vars ≡ y.state.cells.vars
      by_ahead true rest = ap (λ (x : GraphState). x.cells.vars) (sym rest)
      by_ahead false rest = (step_leaves c y.state shows.Nothing z.state rest 0 tt).1
