-- Idle steps stand before others.
use Rattle.std.proofs.Common.{inl, inr, ap, ◌∙◌, ◌≡◌, ℕ, zero, suc, ◌+◌, ◌≤◌, false, List, refl, sym, subst, inr, arith}
use Rattle.redn_kernel.specs.Source.{ChainState, Turn, Item, first_does}
use Rattle.redn_kernel.specs.CoreRun.{Cells}
use Rattle.redn_graph.specs.Run.{Way, Effect}
use Rattle.redn_kernel.specs.Steps.{Steps, silently, unchanged}
use Rattle.redn_kernel.specs.Becomes.{chain_at}
use Rattle.redn_graph.specs.Code.{Meaning, Idles, Leads, Does, is_out, turn_to}

pub record StepsFrom (c : ℕ) (tables : List (List ℕ)) (t : ChainState) (least : ℕ) (turn : Turn) : Type 0 where
  pub count : ℕ
  pub enough : least ≤ count
  pub steps : Steps c tables t count turn

module _ (c : ℕ) (words : List ℕ) (tables : List (List ℕ)) (s : Cells) where
  pub idle_steps : (n : ℕ) (a b : List Item) → Idles n a b → (k : ℕ) (turn : Turn) → Steps c tables (chain_at words s false b) k turn → StepsFrom c tables (chain_at words s false a) (n + k) turn
  idle_steps zero a b e k turn h = record { count = k; enough = omega arith; steps = subst (λ (items : List Item). Steps c tables (chain_at words s false items) k turn) (sym e) h }
  idle_steps (suc n) a b i k turn h =
      let r = idle_steps n i.0 b i.2 k turn h in
      let is = i.1 c tables (chain_at words s false a) in
      record {
        count = suc r.count;
        enough = omega arith;
        steps = (refl, inl (ap (λ (u : Turn). u.event) is, subst (λ (u : Turn). Steps c u.tables u.chain r.count turn) (sym is) r.steps));
      }

  -- what is done after idle steps is done from before them
  pub does_after : {least cost worth : ℕ} {a b : List Item} {e : Effect} {next : Way → Meaning} {left : Way → ℕ} → Leads least a b → Does c words tables s b e next cost worth left → Does c words tables s a e next cost worth left
  does_after {a = a} {b = b} {e = e} {next = next} l d =
      let r = idle_steps l.count a b l.idles d.count (turn_to words next e) d.steps in
      record { count = r.count; steps = r.steps; paid = omega (arith, d.paid, r.enough) }

  -- it leads on by what is to be done there
  pub does_to : {cost worth : ℕ} {items : List Item} {e : Effect} {next other : Way → Meaning} {left rest : Way → ℕ} → next e.way ≡ other e.way → rest e.way ≤ left e.way → Does c words tables s items e next cost worth left → Does c words tables s items e other cost worth rest
  does_to {items = items} {e = e} same less d = record {
    count = d.count;
    steps = subst (λ (m : Meaning). let turn : Turn = record { tables = e.tables; chain = chain_at words e.cells (is_out e.way) (m e.cells.hidden); event = e.event } in Steps c tables (chain_at words s false items) d.count turn) same d.steps;
    paid = omega (arith, d.paid, less);
  }

-- the same with other items
abbrev pub with_chain : Turn → ChainState → Turn
with_chain turn t = record turn { chain = t }

-- idle steps after others
pub steps_idle : (c : ℕ) (words : List ℕ) (s : Cells) (a b : List Item) (k : ℕ) → Idles k a b → (n : ℕ) (tables : List (List ℕ)) (t : ChainState) (turn : Turn) → Steps c tables t n turn → turn.chain ≡ chain_at words s false a → StepsFrom c tables t n (with_chain turn (chain_at words s false b))
steps_idle c words s a b k idles zero tables t turn e at =
    let from : t ≡ chain_at words s false a = sym (ap (λ (u : Turn). u.chain) e) ∙ at in
    let turn_at : Turn = unchanged tables (chain_at words s false b) in
    let r = idle_steps c words tables s k a b idles 0 turn_at refl in
    record {
      count = r.count;
      enough = omega arith;
      steps =
          subst (λ (u : Turn). Steps c tables t r.count (with_chain u (chain_at words s false b))) (sym e)
          (subst (λ (u : ChainState). Steps c tables u r.count turn_at) (sym from) r.steps);
    }
steps_idle c words s a b k idles (suc n) tables t turn (running, inl (quiet, more)) at =
    let r = steps_idle c words s a b k idles n (first_does c tables t t.items).tables (first_does c tables t t.items).chain turn more at in
    record { count = suc r.count; enough = omega (arith, r.enough); steps = (running, inl (quiet, r.steps)) }
steps_idle c words s a b k idles (suc n) tables t turn (running, inr (shown, more)) at =
    let r = steps_idle c words s a b k idles n (first_does c tables t t.items).tables (first_does c tables t t.items).chain (silently turn) more at in
    record { count = suc r.count; enough = omega (arith, r.enough); steps = (running, inr (shown, r.steps)) }
