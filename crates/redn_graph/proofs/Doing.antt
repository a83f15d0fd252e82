-- What single instructions and ends do for the chain.
use Rattle.std.proofs.Common.{◌≡◌, ℕ, suc, ◌+◌, ◌*◌, ◌≤◌, Bool, true, false, if◌then◌else◌, List, ◌∷◌, refl, sym, ap, ◌∙◌, subst, inr, arith}
use Rattle.std.specs.Prelude.{slice_index}
use Rattle.redn_words.specs.declared.types.Obs.TheVariants as shows
use Rattle.redn_kernel.specs.declared.types.Word.{Word}
use Rattle.redn_kernel.specs.declared.types.Word.TheVariants.{Var, Num}
use Rattle.redn_kernel.specs.declared.types.Cell.{Cell}
use Rattle.redn_kernel.specs.declared.types.Cell.TheVariants as cell
use Rattle.redn_kernel.specs.declared.types.Kernel.{Kernel, out-Kernel}
use Rattle.redn_kernel.specs.declared.types.Kernel.TheVariants as k
use Rattle.redn_kernel.specs.declared.types.Kernel.TheOpen.{Kernel-F}
use Rattle.redn_kernel.specs.Source as source
use Rattle.redn_kernel.specs.Source.{TakeArgument, ChainState, Turn, Item, Do, first_does, item_does, statement_does, silent, value_of, wrapped, same, do_all, has_word, word_in, with_word_in}
use Rattle.redn_graph.specs.declared.types.Instr.TheVariants.{Set, Move, Add, Load, Store}
use Rattle.redn_kernel.specs.CoreRun.{Cells, put}
use Rattle.redn_graph.specs.Run.{Way, On, Taking, To, Out, Effect, effect, holds, sets, loads, stores, instr_does, instr_cost}
use Rattle.redn_kernel.specs.Costs.{step_worth, add_cost, load_cost, statement_worth, jump_worth}
use Rattle.redn_kernel.specs.Steps.{Steps, silently, unchanged}
use Rattle.redn_kernel.specs.Becomes.{chain_at}
use Rattle.redn_graph.specs.Code.{Meaning, IdleStep, Leads, InstrRuns, Does, is_out, turn_to, next_place, left_on}
use Rattle.redn_kernel.specs.CoreRun.{cell_of}
use Rattle.redn_graph.proofs.Idling.{idle_steps, steps_idle}

pub leads_none : {a b : List Item} → a ≡ b → Leads 0 a b
leads_none e = record { count = 0; enough = omega arith; idles = e }

pub leads_more : {least : ℕ} {a m b : List Item} → IdleStep a m → Leads least m b → Leads (least + 1) a b
leads_more {m = m} step l = record { count = suc l.count; enough = omega (arith, l.enough); idles = (m, step, l.idles) }

pub leads_at_least : {least less : ℕ} {a b : List Item} → less ≤ least → Leads least a b → Leads less a b
leads_at_least le l = record { count = l.count; enough = omega (arith, l.enough, le); idles = l.idles }

module _ (c : ℕ) (words : List ℕ) (tables : List (List ℕ)) (s : Cells) where
  -- one step shows it
  pub does_shown : {cost worth : ℕ} {items : List Item} {e : Effect} {next : Way → Meaning} {left : Way → ℕ} → turn_to words next e ≡ first_does c tables (chain_at words s false items) items → cost + left e.way ≤ worth + step_worth →
      Does c words tables s items e next cost worth left
  does_shown same paid = record { count = 1; steps = (refl, inr (ap (λ (u : Turn). u.event) same, ap silently same)); paid = omega (arith, paid) }

  -- one step shows it, and idle ones follow
  pub does_shown_idly : {cost worth : ℕ} {items after : List Item} {e : Effect} {next : Way → Meaning} {left : Way → ℕ} → is_out e.way ≡ false → turn_to words (λ way h. after) e ≡ first_does c tables (chain_at words s false items) items →
      Leads 0 after (next e.way e.cells.hidden) → cost + left e.way ≤ worth + step_worth → Does c words tables s items e next cost worth left
  does_shown_idly {items = items} {after = after} {e = e} {next = next} going same l paid =
      let turn : Bool → List Item → Turn = λ out last. record { tables = e.tables; chain = chain_at words e.cells out last; event = e.event } in
      let one : Steps c tables (chain_at words s false items) 1 (turn (is_out e.way) after) = (refl, inr (ap (λ (u : Turn). u.event) same, ap silently same)) in
      let r = steps_idle c words e.cells after (next e.way e.cells.hidden) l.count l.idles 1 tables (chain_at words s false items) (turn (is_out e.way) after) one (ap (λ (out : Bool). chain_at words e.cells out after) going) in
      record {
        count = r.count;
        steps = subst (λ (out : Bool). Steps c tables (chain_at words s false items) r.count (turn out (next e.way e.cells.hidden))) (sym going) r.steps;
        paid = omega (arith, paid, r.enough);
      }

  -- idle steps alone
  pub does_idly : {least cost worth : ℕ} {items : List Item} {way : Way} {next : Way → Meaning} {left : Way → ℕ} → is_out way ≡ false → Leads least items (next way s.hidden) → cost + left way ≤ worth + step_worth * least →
      Does c words tables s items (record { tables = tables; cells = s; way = way; event = shows.Nothing }) next cost worth left
  does_idly {items = items} {way = way} {next = next} going l paid =
      let turn : Bool → Turn = λ out. unchanged tables (chain_at words s out (next way s.hidden)) in
      let r = idle_steps c words tables s l.count items (next way s.hidden) l.idles 0 (turn false) refl in
      record { count = r.count; steps = subst (λ (out : Bool). Steps c tables (chain_at words s false items) r.count (turn out)) (sym going) r.steps; paid = omega (arith, paid, r.enough, l.enough) }

  -- a silent step, and idle ones
  pub does_silently : {least cost worth : ℕ} {items after : List Item} {way : Way} {next : Way → Meaning} {left : Way → ℕ} → is_out way ≡ false →
      first_does c tables (chain_at words s false items) items ≡ unchanged tables (chain_at words s false after) → Leads least after (next way s.hidden) → cost + left way
      ≤ worth + step_worth → Does c words tables s items (record { tables = tables; cells = s; way = way; event = shows.Nothing }) next cost worth left
  does_silently {after = after} going first l paid =
      does_shown_idly going (ap (λ (out : Bool). unchanged tables (chain_at words s out after)) going ∙ sym first) (leads_at_least (omega arith) l) paid

  pub holds_word : (w : Word) → holds c words tables s (cell_of w) ≡ value_of s.vars w
  holds_word (Var x) = refl
  holds_word (Num n) = refl

  -- a statement at the front, by its layer
  pub front_does : (st : Kernel) (layer : Kernel-F Kernel) (rest : List Item) → out-Kernel st ≡ layer → first_does c tables (chain_at words s false (Do st ∷ rest)) (Do st ∷ rest) ≡ statement_does c tables (chain_at words s false (Do st ∷ rest)) layer rest
  unfolding item_does
  front_does st layer rest e = ap (λ (l : Kernel-F Kernel). statement_does c tables (chain_at words s false (Do st ∷ rest)) l rest) e

-- an idle statement
pub idle_front : (st : Kernel) (layer : Kernel-F Kernel) (rest after : List Item) → out-Kernel st ≡ layer → ((c : ℕ) (tables : List (List ℕ)) (t : ChainState) → statement_does c tables t layer rest ≡ silent c tables t after) → IdleStep (Do st ∷ rest) after
unfolding item_does
idle_front st layer rest after e h c tables t = ap (λ (l : Kernel-F Kernel). statement_does c tables t l rest) e ∙ h c tables t

abbrev pub doing : Kernel → Meaning → Meaning
doing st m h = Do st ∷ m h

-- a variable is set
set_step : (c : ℕ) (words : List ℕ) (tables : List (List ℕ)) (s : Cells) (x : ℕ) (st : Kernel) (m : Meaning) (v : ℕ) → Turn
set_step c words tables s x st m v = turn_to words (next_place (doing st m) m) (sets c words tables s (cell.Var x) v)

-- a load, or its fault
load_same : (c : ℕ) (words : List ℕ) (tables : List (List ℕ)) (s : Cells) (x table o : ℕ) (stands m : Meaning) → turn_to words (next_place stands m) (loads c words tables s (cell.Var x) table o On) ≡ source.loads c tables (chain_at words s false (stands s.hidden)) x table o (m s.hidden)
load_same c words tables s x table o stands m =
    elim (has_word tables table o) as (λ b. turn_to words (next_place stands m) (if b then (effect c words tables s (put s (cell.Var x) (word_in tables table o)) On (shows.Load c x table o (word_in tables table o))) else (effect c words tables s s Out (shows.Fault c table o)))
    ≡ (if b then (source.gets c tables (chain_at words s false (stands s.hidden)) x (word_in tables table o) (m s.hidden) (shows.Load c x table o (word_in tables table o))) else (source.ends c tables (chain_at words s false (stands s.hidden)) (shows.Fault c table o)))) [ true ↦ refl | false ↦ refl ]

store_same : (c : ℕ) (words : List ℕ) (tables : List (List ℕ)) (s : Cells) (table o v : ℕ) (stands m : Meaning) → turn_to words (next_place stands m) (stores c words tables s table o v) ≡ source.stores c tables (chain_at words s false (stands s.hidden)) table o v (m s.hidden)
store_same c words tables s table o v stands m =
    elim (has_word tables table o) as (λ b. turn_to words (next_place stands m) (if b then (record { tables = with_word_in tables table o v; cells = s; way = On; event = shows.Store c table o v }) else (effect c words tables s s Out (shows.Fault c table o)))
    ≡ (if b then (record { tables = with_word_in tables table o v; chain = chain_at words s false (m s.hidden); event = shows.Store c table o v }) else (source.ends c tables (chain_at words s false (stands s.hidden)) (shows.Fault c table o)))) [ true ↦ refl | false ↦ refl ]

-- what is left after an instruction is no more than where it goes on
pub left_most : (left : ℕ) (w : Way) → left_on left w ≤ left
left_most left On = omega arith
left_most left Taking = omega arith
left_most left (To l) = omega arith
left_most left Out = omega arith

module _ (m : Meaning) where
  pub set_runs : (x v : ℕ) → InstrRuns (Set (cell.Var x) v) (doing (k.Move x (Num v)) m) m statement_worth jump_worth
  unfolding instr_does instr_cost statement_does
  set_runs x v = record {
    stands = doing (k.Move x (Num v)) m;
    leads = λ h. leads_none refl;
    affords = omega arith;
    does = λ c words tables s. does_shown c words tables s (sym (front_does c words tables s _ _ (m s.hidden) (k.outs-Move x (Num v)))) (omega arith);
  }

  pub move_runs : (x : ℕ) (a : Word) → InstrRuns (Move (cell.Var x) (cell_of a)) (doing (k.Move x a) m) m statement_worth jump_worth
  unfolding instr_does instr_cost statement_does set_step
  move_runs x a = record {
    stands = doing (k.Move x a) m;
    leads = λ h. leads_none refl;
    affords = omega arith;
    does = λ c words tables s.
        does_shown c words tables s
        (ap (set_step c words tables s x (k.Move x a) m) (holds_word c words tables s a) ∙ sym (front_does c words tables s _ _ (m s.hidden) (k.outs-Move x a)))
        (omega arith);
  }

  add_cost_most : (a : Cell) → add_cost a ≤ load_cost
  add_cost_most (cell.Num n) = omega arith
  add_cost_most (cell.Var x) = omega arith
  add_cost_most (cell.Hidden j) = omega arith
  add_cost_most (cell.Argument i) = omega arith

  pub add_runs : (x : ℕ) (a : Word) → InstrRuns (Add (cell.Var x) (cell_of a)) (doing (k.Add x a) m) m statement_worth jump_worth
  unfolding instr_does instr_cost statement_does set_step
  add_runs x a = record {
    stands = doing (k.Add x a) m;
    leads = λ h. leads_none refl;
    affords = omega (arith, add_cost_most (cell_of a));
    does = λ c words tables s.
        does_shown c words tables s
        (ap (λ (v : ℕ). set_step c words tables s x (k.Add x a) m (wrapped (slice_index s.vars x + v))) (holds_word c words tables s a) ∙ sym (front_does c words tables s _ _ (m s.hidden) (k.outs-Add x a)))
        (omega (arith, add_cost_most (cell_of a)));
  }

  pub load_runs : (x table : ℕ) (a : Word) → InstrRuns (Load (cell.Var x) table (cell_of a)) (doing (k.Load x table a) m) m statement_worth jump_worth
  unfolding instr_does instr_cost statement_does
  load_runs x table a = record {
    stands = doing (k.Load x table a) m;
    leads = λ h. leads_none refl;
    affords = omega arith;
    does = λ c words tables s.
        let st = k.Load x table a in
        let e : ℕ → Effect = λ o. loads c words tables s (cell.Var x) table o On in
        let next = next_place (doing st m) m in
        does_shown c words tables s
        (ap (λ (o : ℕ). turn_to words next (e o)) (holds_word c words tables s a) ∙ load_same c words tables s x table (value_of s.vars a) (doing st m) m ∙ sym (front_does c words tables s _ _ (m s.hidden) (k.outs-Load x table a)))
        (omega (arith, left_most jump_worth (loads c words tables s (cell.Var x) table (holds c words tables s (cell_of a)) On).way));
  }

  pub store_runs : (table : ℕ) (a b : Word) → InstrRuns (Store table (cell_of a) (cell_of b)) (doing (k.Store table a b) m) m statement_worth jump_worth
  unfolding instr_does instr_cost statement_does
  store_runs table a b = record {
    stands = doing (k.Store table a b) m;
    leads = λ h. leads_none refl;
    affords = omega arith;
    does = λ c words tables s.
        let st = k.Store table a b in
        let next = next_place (doing st m) m in
        let hold : Word → ℕ = λ w. holds c words tables s (cell_of w) in
        does_shown c words tables s
        (ap (λ (o : ℕ). turn_to words next (stores c words tables s table o (hold b))) (holds_word c words tables s a)
        ∙ ap (λ (v : ℕ). turn_to words next (stores c words tables s table (value_of s.vars a) v)) (holds_word c words tables s b)
        ∙ store_same c words tables s table (value_of s.vars a) (value_of s.vars b) (doing st m) m
        ∙ sym (front_does c words tables s _ _ (m s.hidden) (k.outs-Store table a b)))
        (omega (arith, left_most jump_worth (stores c words tables s table (hold a) (hold b)).way));
  }

  pub take_runs : (i : ℕ) → InstrRuns (Move (cell.Var i) (cell.Argument i)) (λ h. TakeArgument i ∷ m h) m statement_worth jump_worth
  unfolding instr_does instr_cost item_does
  take_runs i = record {
    stands = λ h. TakeArgument i ∷ m h;
    leads = λ h. leads_none refl;
    affords = omega arith;
    does = λ c words tables s. does_shown c words tables s refl (omega arith);
  }
