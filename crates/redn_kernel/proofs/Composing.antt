-- What turns of core statements cost, by the items at the front of a chain.
use Rattle.std.proofs.Common.{◌≡◌, ℕ, ◌+◌, ◌≤◌, Bool, true, false, if◌then◌else◌, List, [], ◌++◌, ap, ◌∙◌, arith}
use Rattle.redn_words.specs.declared.types.Obs.TheVariants as shows
use Rattle.redn_kernel.specs.declared.types.Cell.TheVariants as cell
use Rattle.redn_kernel.specs.Source as source
use Rattle.redn_kernel.specs.Source.{ChainState, Turn, Item, first_does, same_low, has_word, word_in}
use Rattle.redn_kernel.specs.Steps.{unchanged}
use Rattle.redn_kernel.specs.CoreRun as run
use Rattle.redn_kernel.specs.CoreRun.{Cells, CoreTurn, put, with_hidden}
use Rattle.redn_kernel.specs.Becomes.{chain_at, cores_at}
use Rattle.redn_kernel.specs.Costs.{step_worth}
use Rattle.redn_kernel.specs.Composes.{Remains, Pays}
use Rattle.redn_kernel.proofs.CoreRuns.{one_step}

module _ (c : ℕ) (words : List ℕ) (tables : List (List ℕ)) (s : Cells) (more : List Item) where
  -- what a turn of core statements is for the chain
  abbrev pub turn_of : Remains → Remains → CoreTurn → Turn
  turn_of from to turn =
      record { tables = turn.tables; chain = chain_at words turn.state.cells turn.state.ended ((if turn.state.ended then from else to) turn.state.cells.hidden ++ more); event = turn.event }

  abbrev pub chain_from : Remains → ChainState
  chain_from from = chain_at words s false (from s.hidden ++ more)

  -- one step of the chain
  pub pays_one : {from to : Remains} {turn : CoreTurn} {cost worth left : ℕ} → first_does c tables (chain_from from) (from s.hidden ++ more) ≡ turn_of from to turn → cost + left ≤ worth + step_worth →
      Pays c words tables s more from to turn cost worth left
  pays_one {from = from} {to = to} {turn = turn} e le = record { count = 1; steps = one_step c words tables s (from s.hidden ++ more) (turn_of from to turn) e; paid = omega (arith, le) }

  -- no step of the chain
  pub pays_none : {from to : Remains} {turn : CoreTurn} {cost worth left : ℕ} → turn_of from to turn ≡ unchanged tables (chain_from from) → cost + left ≤ worth → Pays c words tables s more from to turn cost worth left
  pays_none e le = record { count = 0; steps = e; paid = omega (arith, le) }

  -- a key is looked at
  module _ (table o key : ℕ) (from found lost : Remains) (pick : Bool → List Item) (cost worth left : ℕ) (le : cost + left ≤ worth + step_worth)
      (is : first_does c tables (chain_from from) (from s.hidden ++ more) ≡ source.looks c tables (chain_from from) table o (λ v. pick (same_low v key)))
      (hit : pick true ≡ found s.hidden ++ more) (miss : pick false ≡ lost s.hidden ++ more) where
    looked : Bool → Bool → CoreTurn
    looked there met =
        if there then run.goes_on c words tables (cores_at s []) [] (shows.Look c table o (word_in tables table o)) else (record { tables = tables; state = record (cores_at s []) { ended = true }; event = shows.Fault c table o })

    looked_there : Bool → Bool → Turn
    looked_there there met =
        if there then source.goes_on c tables (chain_from from) (pick met) (shows.Look c table o (word_in tables table o)) else source.ends c tables (chain_from from) (shows.Fault c table o)

    look_by : (there met : Bool) → first_does c tables (chain_from from) (from s.hidden ++ more) ≡ looked_there there met → Pays c words tables s more from (if met then found else lost) (looked there met) cost worth left
    unfolding looked looked_there
    look_by false met e = pays_one e le
    look_by true true e = pays_one (e ∙ ap (λ (list : List Item). source.goes_on c tables (chain_from from) list (shows.Look c table o (word_in tables table o))) hit) le
    look_by true false e = pays_one (e ∙ ap (λ (list : List Item). source.goes_on c tables (chain_from from) list (shows.Look c table o (word_in tables table o))) miss) le

    pub look_pays : Pays c words tables s more from (if same_low (word_in tables table o) key then found else lost) (run.looks c words tables (cores_at s []) table o (λ v. [])) cost worth left
    unfolding looked looked_there
    look_pays = look_by (has_word tables table o) (same_low (word_in tables table o) key) is

  -- a word is loaded into a variable
  module _ (x table o : ℕ) (from to : Remains) (cost worth left : ℕ) (le : cost + left ≤ worth + step_worth)
      (is : first_does c tables (chain_from from) (from s.hidden ++ more) ≡ source.loads c tables (chain_from from) x table o (to s.hidden ++ more)) where
    loaded : Bool → CoreTurn
    loaded there =
        if there then run.gets c words tables (cores_at s []) (cell.Var x) (word_in tables table o) [] (shows.Load c x table o (word_in tables table o)) else (record { tables = tables; state = record (cores_at s []) { ended = true }; event = shows.Fault c table o })

    loaded_there : Bool → Turn
    loaded_there there =
        if there then source.gets c tables (chain_from from) x (word_in tables table o) (to s.hidden ++ more) (shows.Load c x table o (word_in tables table o)) else source.ends c tables (chain_from from) (shows.Fault c table o)

    load_by : (there : Bool) → first_does c tables (chain_from from) (from s.hidden ++ more) ≡ loaded_there there → Pays c words tables s more from to (loaded there) cost worth left
    unfolding loaded loaded_there
    load_by false e = pays_one e le
    load_by true e = pays_one e le

    pub load_pays : Pays c words tables s more from to (run.loads c words tables (cores_at s []) (cell.Var x) table o []) cost worth left
    unfolding loaded loaded_there
    load_pays = load_by (has_word tables table o) is

  -- a word is loaded into a hidden word, which the chain only looks at
  module _ (k table o : ℕ) (from to : Remains) (then_do : ℕ → List Item) (cost worth left : ℕ) (le : cost + left ≤ worth + step_worth)
      (is : first_does c tables (chain_from from) (from s.hidden ++ more) ≡ source.looks c tables (chain_from from) table o then_do)
      (goes : (v : ℕ) → then_do v ≡ to (with_hidden s.hidden k v) ++ more) where
    kept : Bool → CoreTurn
    kept there =
        if there then run.gets c words tables (cores_at s []) (cell.Hidden k) (word_in tables table o) [] (shows.Look c table o (word_in tables table o)) else (record { tables = tables; state = record (cores_at s []) { ended = true }; event = shows.Fault c table o })

    kept_there : Bool → Turn
    kept_there there =
        if there then source.goes_on c tables (chain_from from) (then_do (word_in tables table o)) (shows.Look c table o (word_in tables table o)) else source.ends c tables (chain_from from) (shows.Fault c table o)

    keep_by : (there : Bool) → first_does c tables (chain_from from) (from s.hidden ++ more) ≡ kept_there there → Pays c words tables s more from to (kept there) cost worth left
    unfolding kept kept_there
    keep_by false e = pays_one e le
    keep_by true e = pays_one (e ∙ ap (λ (list : List Item). source.goes_on c tables (chain_from from) list (shows.Look c table o (word_in tables table o))) (goes (word_in tables table o))) le

    pub keep_pays : Pays c words tables s more from to (run.loads c words tables (cores_at s []) (cell.Hidden k) table o []) cost worth left
    unfolding kept kept_there
    keep_pays = keep_by (has_word tables table o) is
