-- What instructions and ends that are core statements do for the chain.
use Rattle.std.proofs.Common.{◌≡◌, ℕ, ◌+◌, ◌≤◌, Bool, true, false, if◌then◌else◌, List, [], ◌++◌, refl, sym, ap, subst, arith}
use Rattle.redn_words.specs.declared.types.Obs.TheVariants as shows
use Rattle.redn_kernel.specs.declared.types.Cell.{Cell}
use Rattle.redn_kernel.specs.declared.types.Cell.TheVariants as cell
use Rattle.redn_kernel.specs.declared.types.Core.{Core}
use Rattle.redn_kernel.specs.declared.types.Core.TheOpen.{Core-F}
use Rattle.redn_kernel.specs.Source.{Turn, Item, same, same_low, has_word, word_in, wrapped}
use Rattle.redn_kernel.specs.Steps.{Steps}
use Rattle.redn_kernel.specs.CoreRun as core
use Rattle.redn_kernel.specs.CoreRun.{Cells, CoreTurn, held, put, shown_put, shown_load, core_does}
use Rattle.redn_kernel.specs.Becomes.{chain_at, cores_at}
use Rattle.redn_kernel.specs.Costs.{test_cost, probe_cost, search_worth}
use Rattle.redn_kernel.specs.Composes.{Remains, Point, Pays, core_cost}
use Rattle.redn_kernel.proofs.Composing.{turn_of}
use Rattle.redn_graph.specs.declared.types.Instr.{Instr}
use Rattle.redn_graph.specs.declared.types.Instr.TheVariants.{Set, Move, Add, Load}
use Rattle.redn_graph.specs.declared.types.End.TheVariants.{Probe}
use Rattle.redn_graph.specs.Run as run
use Rattle.redn_graph.specs.Run.{Way, On, Taking, To, Out, Effect, instr_does, end_does, instr_cost, end_cost}
use Rattle.redn_graph.specs.declared.build.Tail.TheVariants as tail
use Rattle.redn_graph.specs.Code.{Meaning, Label, Leads, Does, InstrRuns, EndRuns, TailRuns, is_out, turn_to, next_place, left_on, next_block, left_after, meaning_at}
use Rattle.redn_graph.specs.Words.{test_end}
use Rattle.redn_graph.specs.Cores.{cell_move, IsOwnTarget, left_then, IgnoresSearches}
use Rattle.redn_graph.proofs.Idling.{steps_idle}
use Rattle.redn_graph.proofs.Doing.{leads_none, left_most}

-- what follows doesn't depend on what a search has put
pub put_ignores : (m : Meaning) → IgnoresSearches m → (s : Cells) (to : Cell) (v : ℕ) → IsOwnTarget to → m (put s to v).hidden ≡ m s.hidden
put_ignores m ignores s (cell.Var x) v own = refl
put_ignores m ignores s (cell.Hidden k) v own = ignores s.hidden k v own
put_ignores m ignores s (cell.Argument i) v own = absurd own
put_ignores m ignores s (cell.Num n) v own = absurd own

module _ (c : ℕ) (words : List ℕ) (tables : List (List ℕ)) (s : Cells) where
  -- an effect is what core statements do
  pub does_pays : {more : List Item} {from to : Remains} {turn : CoreTurn} {cost worth left : ℕ} {e : Effect} {next : Way → Meaning} {rest : Way → ℕ} → Pays c words tables s more from to turn cost worth left → turn_of c words tables s more from to turn ≡ turn_to words next e → rest e.way ≤ left → Does c words tables s (from s.hidden ++ more) e next cost worth rest
  does_pays {more = more} {from = from} p same le =
      record { count = p.count; steps = subst (λ (u : Turn). Steps c tables (chain_at words s false (from s.hidden ++ more)) p.count u) same p.steps; paid = omega (arith, p.paid, le) }

  -- and idle steps follow
  pub does_pays_idly : {more after : List Item} {from to : Remains} {turn : CoreTurn} {cost worth left : ℕ} {e : Effect} {next : Way → Meaning} {rest : Way → ℕ} → Pays c words tables s more from to turn cost worth left → is_out e.way ≡ false → turn_of c words tables s more from to turn ≡ turn_to words (λ way h. after) e → Leads 0 after (next e.way e.cells.hidden) → rest e.way ≤ left → Does c words tables s (from s.hidden ++ more) e next cost worth rest
  does_pays_idly {more = more} {after = after} {from = from} {e = e} {next = next} p going same l le =
      let items : List Item = from s.hidden ++ more in
      let turn_at : Bool → List Item → Turn = λ out last. record { tables = e.tables; chain = chain_at words e.cells out last; event = e.event } in
      let one : Steps c tables (chain_at words s false items) p.count (turn_at (is_out e.way) after) = subst (λ (u : Turn). Steps c tables (chain_at words s false items) p.count u) same p.steps in
      let r = steps_idle c words e.cells after (next e.way e.cells.hidden) l.count l.idles p.count tables (chain_at words s false items) (turn_at (is_out e.way) after) one (ap (λ (out : Bool). chain_at words e.cells out after) going) in
      record {
        count = r.count;
        steps = subst (λ (out : Bool). Steps c tables (chain_at words s false items) r.count (turn_at out (next e.way e.cells.hidden))) (sym going) r.steps;
        paid = omega (arith, p.paid, le, r.enough);
      }

module _ (p : Point) (m : Meaning) (ignores : IgnoresSearches m) where
  abbrev here : Meaning
  here = left_then p.here m

  -- one instruction
  module _ (layer : Core-F Core) (next : Remains) (left : ℕ) (affords : core_cost layer ≤ p.worth)
      (pays : (c : ℕ) (words : List ℕ) (tables : List (List ℕ)) (s : Cells) (more : List Item) → Pays c words tables s more p.here next (core_does c words tables (cores_at s []) layer []) (core_cost layer) p.worth left) where
    abbrev on : Way → Meaning
    on = next_place here (left_then next m)

    acts_run : (instr : Instr) → instr_cost instr ≡ core_cost layer → ((c : ℕ) (words : List ℕ) (tables : List (List ℕ)) (s : Cells) → turn_of c words tables s (m s.hidden) p.here next (core_does c words tables (cores_at s []) layer []) ≡ turn_to words on (instr_does c words tables s instr)) → InstrRuns instr here (left_then next m) p.worth left
    acts_run instr cost same = record {
      stands = here;
      leads = λ h. leads_none refl;
      affords = omega (arith, affords, cost);
      does = λ c words tables s.
          let d = does_pays c words tables s {e = instr_does c words tables s instr} {next = on} {rest = left_on left} (pays c words tables s (m s.hidden)) (same c words tables s) (left_most left (instr_does c words tables s instr).way) in
          record { count = d.count; steps = d.steps; paid = omega (arith, d.paid, cost) };
    }

    set_same : (c : ℕ) (words : List ℕ) (tables : List (List ℕ)) (s : Cells) (to : Cell) (v : ℕ) → IsOwnTarget to →
        turn_of c words tables s (m s.hidden) p.here next (core.gets c words tables (cores_at s []) to v [] (shown_put c to v)) ≡ turn_to words on (run.sets c words tables s to v)
    set_same c words tables s to v own =
        ap (λ (rest : List Item). let u : Turn = record { tables = tables; chain = chain_at words (put s to v) false (next (put s to v).hidden ++ rest); event = shown_put c to v } in u) (sym (put_ignores m ignores s to v own))

    load_by : (c : ℕ) (words : List ℕ) (tables : List (List ℕ)) (s : Cells) (to : Cell) (table o : ℕ) → IsOwnTarget to → (there : Bool) →
        turn_of c words tables s (m s.hidden) p.here next (if there then core.gets c words tables (cores_at s []) to (word_in tables table o) [] (shown_load c to table o (word_in tables table o)) else (record { tables = tables; state = record (cores_at s []) { ended = true }; event = shows.Fault c table o }))
        ≡ turn_to words on (if there then run.effect c words tables s (put s to (word_in tables table o)) On (shown_load c to table o (word_in tables table o)) else run.effect c words tables s s Out (shows.Fault c table o))
    load_by c words tables s to table o own false = refl
    load_by c words tables s to table o own true =
        let v : ℕ = word_in tables table o in
        ap (λ (rest : List Item). let u : Turn = record { tables = tables; chain = chain_at words (put s to v) false (next (put s to v).hidden ++ rest); event = shown_load c to table o v } in u) (sym (put_ignores m ignores s to v own))

  pub move_acts : (to from : Cell) (next : Remains) (left : ℕ) → IsOwnTarget to → core_cost (Core-F.Move to from) ≤ p.worth →
      ((c : ℕ) (words : List ℕ) (tables : List (List ℕ)) (s : Cells) (more : List Item) → Pays c words tables s more p.here next (core_does c words tables (cores_at s []) (Core-F.Move to from) []) (core_cost (Core-F.Move to from)) p.worth left) →
      InstrRuns (cell_move to from) here (left_then next m) p.worth left
  unfolding core_does core_cost instr_does instr_cost
  move_acts to (cell.Var x) next left own affords pays = acts_run (Core-F.Move to (cell.Var x)) next left affords pays (Move to (cell.Var x)) refl (λ c words tables s. set_same (Core-F.Move to (cell.Var x)) next left affords pays c words tables s to (held words s (cell.Var x)) own)
  move_acts to (cell.Hidden k) next left own affords pays = acts_run (Core-F.Move to (cell.Hidden k)) next left affords pays (Move to (cell.Hidden k)) refl (λ c words tables s. set_same (Core-F.Move to (cell.Hidden k)) next left affords pays c words tables s to (held words s (cell.Hidden k)) own)
  move_acts to (cell.Argument i) next left own affords pays = acts_run (Core-F.Move to (cell.Argument i)) next left affords pays (Move to (cell.Argument i)) refl (λ c words tables s. set_same (Core-F.Move to (cell.Argument i)) next left affords pays c words tables s to (held words s (cell.Argument i)) own)
  move_acts to (cell.Num n) next left own affords pays = acts_run (Core-F.Move to (cell.Num n)) next left affords pays (Set to n) refl (λ c words tables s. set_same (Core-F.Move to (cell.Num n)) next left affords pays c words tables s to n own)

  pub add_acts : (to by : Cell) (next : Remains) (left : ℕ) → IsOwnTarget to → core_cost (Core-F.Add to by) ≤ p.worth →
      ((c : ℕ) (words : List ℕ) (tables : List (List ℕ)) (s : Cells) (more : List Item) → Pays c words tables s more p.here next (core_does c words tables (cores_at s []) (Core-F.Add to by) []) (core_cost (Core-F.Add to by)) p.worth left) →
      InstrRuns (Add to by) here (left_then next m) p.worth left
  unfolding core_does core_cost instr_does instr_cost
  add_acts to by next left own affords pays =
      acts_run (Core-F.Add to by) next left affords pays (Add to by) refl (λ c words tables s. set_same (Core-F.Add to by) next left affords pays c words tables s to (wrapped (held words s to + held words s by)) own)

  pub load_acts : (to offset : Cell) (table : ℕ) (next : Remains) (left : ℕ) → IsOwnTarget to → core_cost (Core-F.Load to table offset) ≤ p.worth →
      ((c : ℕ) (words : List ℕ) (tables : List (List ℕ)) (s : Cells) (more : List Item) → Pays c words tables s more p.here next (core_does c words tables (cores_at s []) (Core-F.Load to table offset) []) (core_cost (Core-F.Load to table offset)) p.worth left) →
      InstrRuns (Load to table offset) here (left_then next m) p.worth left
  unfolding core_does core_cost instr_does instr_cost
  load_acts to offset table next left own affords pays =
      acts_run (Core-F.Load to table offset) next left affords pays (Load to table offset) refl
      (λ c words tables s. load_by (Core-F.Load to table offset) next left affords pays c words tables s to table (held words s offset) own (has_word tables table (held words s offset)))

  -- a test between two blocks
  module _ (all : List Label) (yes_block no_block : ℕ) (if_met if_unmet : Remains)
      (met : TailRuns all 0 search_worth (tail.To yes_block) (left_then if_met m)) (unmet : TailRuns all 0 search_worth (tail.To no_block) (left_then if_unmet m)) where
    test_by : (cost : ℕ) (c : ℕ) (words : List ℕ) (tables : List (List ℕ)) (s : Cells) (b : Bool) →
        Pays c words tables s (m s.hidden) p.here (if b then if_met else if_unmet) (core.goes_on c words tables (cores_at s []) [] shows.Nothing) cost p.worth search_worth →
        Does c words tables s (here s.hidden) (run.goes c words tables s (To (if b then yes_block else no_block))) (next_block all here here here) cost p.worth (left_after all p.worth p.worth)
    test_by cost c words tables s true pays = does_pays_idly c words tables s pays refl refl (met.1 s.hidden) met.0
    test_by cost c words tables s false pays = does_pays_idly c words tables s pays refl refl (unmet.1 s.hidden) unmet.0

    pub choose_runs : (wide : Bool) (a b : Cell) → test_cost wide ≤ p.worth →
        ((c : ℕ) (words : List ℕ) (tables : List (List ℕ)) (s : Cells) (more : List Item) → Pays c words tables s more p.here (if same wide (held words s a) (held words s b) then if_met else if_unmet)
        (core.goes_on c words tables (cores_at s []) [] shows.Nothing) (test_cost wide) p.worth search_worth) →
        EndRuns all (test_end wide a b yes_block no_block) here p.worth
    unfolding end_does end_cost
    choose_runs true a b affords pays = record {
      stands = here;
      taking = here;
      taking_worth = p.worth;
      leads = λ h. leads_none refl;
      affords = affords;
      affords_taking = affords;
      first = λ c words tables s. test_by (test_cost true) c words tables s (same true (held words s a) (held words s b)) (pays c words tables s (m s.hidden));
      second = λ c words tables s. test_by (test_cost true) c words tables s (same true (held words s a) (held words s b)) (pays c words tables s (m s.hidden));
    }
    choose_runs false a b affords pays = record {
      stands = here;
      taking = here;
      taking_worth = p.worth;
      leads = λ h. leads_none refl;
      affords = affords;
      affords_taking = affords;
      first = λ c words tables s. test_by (test_cost false) c words tables s (same false (held words s a) (held words s b)) (pays c words tables s (m s.hidden));
      second = λ c words tables s. test_by (test_cost false) c words tables s (same false (held words s a) (held words s b)) (pays c words tables s (m s.hidden));
    }

  -- a look, and the load of what it has found
  module _ (all : List Label) (hit_block miss_block : ℕ) (found if_hit if_miss : Remains)
      (hit : TailRuns all 0 search_worth (tail.To hit_block) (left_then if_hit m)) (miss : TailRuns all 0 search_worth (tail.To miss_block) (left_then if_miss m))
      (to : Cell) (table : ℕ) (offset key : Cell) (own : IsOwnTarget to) where
    abbrev taking : Meaning
    taking = left_then found m

    look_by : (c : ℕ) (words : List ℕ) (tables : List (List ℕ)) (s : Cells) (o : ℕ) (there met : Bool) →
        Pays c words tables s (m s.hidden) p.here (if met then found else if_miss) (if there then core.goes_on c words tables (cores_at s []) [] (shows.Look c table o (word_in tables table o)) else (record {
          tables =
              tables;
          state = record (cores_at s []) { ended = true };
          event = shows.Fault c table o;
        })) probe_cost p.worth search_worth →
        Does c words tables s (here s.hidden)
        (if there then run.effect c words tables s s (if met then Taking else To miss_block) (shows.Look c table o (word_in tables table o)) else run.effect c words tables s s Out (shows.Fault c table o))
        (next_block all here taking here) probe_cost p.worth (left_after all p.worth search_worth)
    look_by c words tables s o false met pays = does_pays c words tables s pays refl (omega arith)
    look_by c words tables s o true true pays = does_pays c words tables s pays refl (omega arith)
    look_by c words tables s o true false pays = does_pays_idly c words tables s pays refl refl (miss.1 s.hidden) miss.0

    take_by : (c : ℕ) (words : List ℕ) (tables : List (List ℕ)) (s : Cells) (o : ℕ) (there : Bool) →
        Pays c words tables s (m s.hidden) found if_hit (if there then core.gets c words tables (cores_at s []) to (word_in tables table o) [] (shown_load c to table o (word_in tables table o)) else (record {
          tables =
              tables;
          state = record (cores_at s []) { ended = true };
          event = shows.Fault c table o;
        })) 0 search_worth search_worth →
        Does c words tables s (taking s.hidden)
        (if there then run.effect c words tables s (put s to (word_in tables table o)) (To hit_block) (shown_load c to table o (word_in tables table o)) else run.effect c words tables s s Out (shows.Fault c table o))
        (next_block all here taking taking) 0 search_worth (left_after all p.worth search_worth)
    take_by c words tables s o false pays = does_pays c words tables s pays refl (omega arith)
    take_by c words tables s o true pays =
        let v : ℕ = word_in tables table o in
        let now : ℕ → ℕ = (put s to v).hidden in
        does_pays_idly c words tables s pays refl refl (subst (λ (rest : List Item). Leads 0 (if_hit now ++ rest) (meaning_at all hit_block now)) (put_ignores m ignores s to v own) (hit.1 now)) hit.0

    pub look_runs : probe_cost ≤ p.worth →
        ((c : ℕ) (words : List ℕ) (tables : List (List ℕ)) (s : Cells) (more : List Item) → Pays c words tables s more p.here (if same_low (word_in tables table (held words s offset)) (held words s key) then found else if_miss)
        (core.looks c words tables (cores_at s []) table (held words s offset) (λ v. [])) probe_cost p.worth search_worth) →
        ((c : ℕ) (words : List ℕ) (tables : List (List ℕ)) (s : Cells) (more : List Item) →
        Pays c words tables s more found if_hit (core.loads c words tables (cores_at s []) to table (wrapped (held words s offset + 8)) []) 0 search_worth search_worth) →
        EndRuns all (Probe to table offset key hit_block miss_block) here p.worth
    unfolding end_does end_cost
    look_runs affords looks takes = record {
      stands = here;
      taking = taking;
      taking_worth = search_worth;
      leads = λ h. leads_none refl;
      affords = affords;
      affords_taking = omega arith;
      first = λ c words tables s.
          let o : ℕ = held words s offset in
          look_by c words tables s o (has_word tables table o) (same_low (word_in tables table o) (held words s key)) (looks c words tables s (m s.hidden));
      second = λ c words tables s.
          let o : ℕ = wrapped (held words s offset + 8) in
          take_by c words tables s o (has_word tables table o) (takes c words tables s (m s.hidden));
    }
