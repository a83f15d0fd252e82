-- The core statements of a walk point by point.
use Rattle.std.proofs.Common.{◌≡◌, ◌≢◌, ℕ, suc, ◌+◌, ◌-◌, ◌<◌, ◌≤◌, ◌==◌, inl, inr, Bool, true, false, if◌then◌else◌, List, [], ◌∷◌, ◌++◌, refl, sym, ap, ◌∙◌, subst, arith}
use Rattle.std.proofs.lemmas.Bool.Decides.{nat_tests}
use Rattle.redn_words.specs.declared.types.Obs.TheVariants as shows
use Rattle.redn_kernel.specs.declared.types.Word.{Word}
use Rattle.redn_kernel.specs.declared.types.Cell.TheVariants as cell
use Rattle.redn_kernel.specs.declared.types.Kernel.TheVariants as k
use Rattle.redn_kernel.specs.declared.types.Core.{Core}
use Rattle.redn_kernel.specs.declared.types.Core.TheOpen.{Core-F}
use Rattle.redn_kernel.specs.declared.types.Core.TheVariants as core
use Rattle.redn_kernel.specs.Source as source
use Rattle.redn_kernel.specs.Source.{Turn, Item, Visit, Left, Next, Here, Take, first_does, item_does, statement_does, value_of, wrapped, same_low}
use Rattle.redn_kernel.specs.Steps.{unchanged}
use Rattle.redn_kernel.specs.CoreRun as run
use Rattle.redn_kernel.specs.CoreRun.{Cells, held, put, cell_of, core_does}
use Rattle.redn_kernel.specs.Becomes.{chain_at, cores_at}
use Rattle.redn_kernel.specs.Composes.{Remains, Point, Pays, First, DoesHere, Composes, core_cost, begins_block, opens}
use Rattle.redn_kernel.specs.Costs.{load_cost, test_cost, probe_cost, statement_worth, search_worth}
use Rattle.redn_kernel.proofs.CoreRuns.{held_word, front_statement}
use Rattle.redn_kernel.proofs.Composing.{chain_from, pays_one, pays_none, look_pays, load_pays, keep_pays}
use Rattle.redn_kernel.proofs.Counters.{away, away_fresh, away_counts, away_less, same_away}
use Rattle.redn_walk.specs.Walk.{leave_of, turn_of, step_of, miss_of, body_of, cores_of}

module _ (x table : ℕ) (offset key : Word) (n : ℕ) (some : 1 ≤ n) (few : n < 281474976710656) where
  -- so many nodes may still be looked at
  abbrev still : (ℕ → ℕ) → ℕ
  still h = away (n - 1) (h 1) + 1

  -- before the first node, before a node, before the load, once the key was another, once it is counted,
  -- before the offset of the next is looked at, and once it is known
  abbrev begun : Remains
  begun h = Visit x table (h 0) key n ∷ []

  abbrev visits : Remains
  visits h = Visit x table (h 0) key (still h) ∷ []

  abbrev taking : Remains
  taking h = Take x table (wrapped (h 0 + 8)) ∷ []

  abbrev lost : Remains
  lost h = Left x table (h 0) key (still h - 1) ∷ []

  abbrev counted : Remains
  counted h = Left x table (h 0) key (away n (h 1)) ∷ []

  abbrev onward : Remains
  onward h = Next x table (wrapped (h 0 + 16)) key (still h) ∷ []

  abbrev nexts : Remains
  nexts h = Next x table (h 0) key (still h) ∷ []

  abbrev heres : Remains
  heres h = Here x table (h 0) key (still h) ∷ []

  abbrev done : Remains
  done h = []

  -- in the loop, where a list ends before the next node
  abbrev inside : List Core → Remains → ℕ → Point
  inside cores here worth = record { cores = cores; here = here; behind = visits; out = done; worth = worth }

  over : (d : ℕ) → DoesHere (suc d) (inside [] visits search_worth)
  over d = (omega arith, λ h. refl)

  leaves : (d : ℕ) → DoesHere (suc (suc d)) (inside leave_of done search_worth)
  unfolding First
  leaves d =
      subst (λ (layer : Core-F Core). First (DoesHere (suc d)) (inside leave_of done search_worth) layer []) (sym core.outs-Leave)
      (record { done = visits; leaves = λ h. refl; rest_holds = over d })

  turn_by : (c : ℕ) (words : List ℕ) (tables : List (List ℕ)) (s : Cells) (more : List Item) (last : Bool) → first_does c tables (chain_from c words tables s more heres) (heres s.hidden ++ more) ≡ unchanged tables (chain_at words s false (if last then more else Visit x table (s.hidden 0) key (still s.hidden) ∷ more)) →
      Pays c words tables s more heres (if last then done else visits) (run.goes_on c words tables (cores_at s []) [] shows.Nothing) (test_cost true) 260 search_worth
  turn_by c words tables s more true e = pays_one c words tables s more e (omega arith)
  turn_by c words tables s more false e = pays_one c words tables s more e (omega arith)

  turns : DoesHere 3 (inside (turn_of ∷ []) heres 260)
  unfolding First item_does
  turns =
      subst (λ (layer : Core-F Core). First (DoesHere 2) (inside (turn_of ∷ []) heres 260) layer []) (sym (core.outs-If true (cell.Hidden 0) (cell.Num 0) leave_of []))
      (record {
        if_met = done;
        if_unmet = visits;
        done = visits;
        affords = omega arith;
        pays = λ c words tables s more. turn_by c words tables s more (s.hidden 0 == 0) refl;
        met_holds = leaves 0;
        unmet_holds = over 1;
        rest_holds = over 1;
      })

  turn_opens : opens (turn_of ∷ []) ≡ true
  unfolding begins_block
  turn_opens = ap begins_block (core.outs-If true (cell.Hidden 0) (cell.Num 0) leave_of [])

  abbrev load : Core
  load = core.Load (cell.Hidden 0) table (cell.Hidden 0)

  follows : DoesHere 4 (inside (load ∷ turn_of ∷ []) nexts probe_cost)
  unfolding First core_does core_cost item_does
  follows =
      subst (λ (layer : Core-F Core). First (DoesHere 3) (inside (load ∷ turn_of ∷ []) nexts probe_cost) layer (turn_of ∷ [])) (sym (core.outs-Load (cell.Hidden 0) table (cell.Hidden 0)))
      (record {
        next = heres;
        left = 260;
        affords = omega arith;
        pays = λ c words tables s more.
            keep_pays c words tables s more 0 table (s.hidden 0) nexts heres (λ v. Here x table v key (still s.hidden) ∷ more) load_cost probe_cost 260 (omega arith) refl (λ v. refl);
        onward = inl turn_opens;
        rest_holds = turns;
      })

  load_opens : opens (load ∷ turn_of ∷ []) ≡ true
  unfolding begins_block
  load_opens = ap begins_block (core.outs-Load (cell.Hidden 0) table (cell.Hidden 0))

  skips : DoesHere 5 (inside (step_of table) onward search_worth)
  unfolding First core_does core_cost
  skips =
      subst (λ (layer : Core-F Core). First (DoesHere 4) (inside (step_of table) onward search_worth) layer (load ∷ turn_of ∷ [])) (sym (core.outs-Add (cell.Hidden 0) (cell.Num 16)))
      (record {
        next = nexts;
        left = probe_cost;
        affords = omega arith;
        pays = λ c words tables s more. pays_none c words tables s more refl (omega arith);
        onward = inl load_opens;
        rest_holds = follows;
      })

  abbrev counts : Core
  counts = core.If false (cell.Hidden 1) (cell.Num n) leave_of (step_of table)

  test_by : (c : ℕ) (words : List ℕ) (tables : List (List ℕ)) (s : Cells) (more : List Item) (last : Bool) → (away n (s.hidden 1) == 0) ≡ last →
      first_does c tables (chain_from c words tables s more counted) (counted s.hidden ++ more) ≡ unchanged tables (chain_at words s false (if last then more else Next x table (wrapped (s.hidden 0 + 16)) key (away n (s.hidden 1)) ∷ more)) →
      Pays c words tables s more counted (if last then done else onward) (run.goes_on c words tables (cores_at s []) [] shows.Nothing) (test_cost false) probe_cost search_worth
  test_by c words tables s more true e same = pays_one c words tables s more same (omega arith)
  test_by c words tables s more false e same =
      let some_more : away n (s.hidden 1) ≢ 0 = grind (arith, nat_tests) in
      let left_over : away n (s.hidden 1) ≡ still s.hidden = omega (arith, away_less n (s.hidden 1) some few some_more) in
      pays_one c words tables s more (same ∙ ap (λ (j : ℕ). unchanged tables (chain_at words s false (Next x table (wrapped (s.hidden 0 + 16)) key j ∷ more))) left_over) (omega arith)

  tests : DoesHere 6 (inside (counts ∷ []) counted probe_cost)
  unfolding First item_does
  tests =
      subst (λ (layer : Core-F Core). First (DoesHere 5) (inside (counts ∷ []) counted probe_cost) layer []) (sym (core.outs-If false (cell.Hidden 1) (cell.Num n) leave_of (step_of table)))
      (record {
        if_met = done;
        if_unmet = onward;
        done = visits;
        affords = omega arith;
        pays = λ c words tables s more.
            subst (λ (last : Bool). Pays c words tables s more counted (if last then done else onward) (run.goes_on c words tables (cores_at s []) [] shows.Nothing) (test_cost false) probe_cost search_worth)
            (sym (same_away n (s.hidden 1) few))
            (test_by c words tables s more (away n (s.hidden 1) == 0) refl refl);
        met_holds = leaves 3;
        unmet_holds = skips;
        rest_holds = over 4;
      })

  counts_open : opens (counts ∷ []) ≡ true
  unfolding begins_block
  counts_open = ap begins_block (core.outs-If false (cell.Hidden 1) (cell.Num n) leave_of (step_of table))

  misses : DoesHere 7 (inside (miss_of table n) lost search_worth)
  unfolding First core_does core_cost
  misses =
      subst (λ (layer : Core-F Core). First (DoesHere 6) (inside (miss_of table n) lost search_worth) layer (counts ∷ [])) (sym (core.outs-Add (cell.Hidden 1) (cell.Num 1)))
      (record {
        next = counted;
        left = probe_cost;
        affords = omega arith;
        pays = λ c words tables s more.
            let v : ℕ = wrapped (s.hidden 1 + 1) in
            let now : Cells = put s (cell.Hidden 1) v in
            let one_less : away n v ≡ still s.hidden - 1 = omega (arith, away_counts n (s.hidden 1) some few) in
            pays_none c words tables s more (ap (λ (j : ℕ). unchanged tables (chain_at words now false (Left x table (s.hidden 0) key j ∷ more))) one_less) (omega arith);
        onward = inl counts_open;
        rest_holds = tests;
      })

  looks : DoesHere 8 (inside (body_of x table key n) visits search_worth)
  unfolding First item_does
  looks =
      subst (λ (layer : Core-F Core). First (DoesHere 7) (inside (body_of x table key n) visits search_worth) layer []) (sym (core.outs-Probe (cell.Var x) table (cell.Hidden 0) (cell_of key) leave_of (miss_of table n)))
      (record {
        found = taking;
        if_hit = done;
        if_miss = lost;
        done = visits;
        affords = omega arith;
        looks = λ c words tables s more.
            let pick : Bool → List Item = λ met. source.visited met x table (s.hidden 0) key (still s.hidden) more in
            look_pays c words tables s more table (s.hidden 0) (held words s (cell_of key)) visits taking lost pick probe_cost search_worth search_worth (omega arith)
            (ap (λ (v : ℕ). source.looks c tables (chain_from c words tables s more visits) table (s.hidden 0) (λ w. pick (same_low w v))) (sym (held_word words s key)))
            refl refl;
        takes = λ c words tables s more. load_pays c words tables s more x table (wrapped (s.hidden 0 + 8)) taking done 0 search_worth search_worth (omega arith) refl;
        hit_holds = leaves 5;
        miss_holds = misses;
        rest_holds = over 6;
      })

  look_opens : opens (body_of x table key n) ≡ true
  unfolding begins_block
  look_opens = ap begins_block (core.outs-Probe (cell.Var x) table (cell.Hidden 0) (cell_of key) leave_of (miss_of table n))

  abbrev round : Core
  round = core.Loop (body_of x table key n)

  -- outside of the loop
  abbrev outside : List Core → Remains → ℕ → Point
  outside cores here worth = record { cores = cores; here = here; behind = done; out = done; worth = worth }

  rounds : DoesHere 9 (outside (round ∷ []) visits 251)
  unfolding First
  rounds =
      subst (λ (layer : Core-F Core). First (DoesHere 8) (outside (round ∷ []) visits 251) layer []) (sym (core.outs-Loop (body_of x table key n)))
      (record { done = done; begins = look_opens; body_holds = looks; rest_holds = (omega arith, λ h. refl) })

  abbrev clear : Core
  clear = core.Move (cell.Hidden 1) (cell.Num 0)

  clears : DoesHere 10 (outside (clear ∷ round ∷ []) begun 267)
  unfolding First core_does core_cost
  clears =
      subst (λ (layer : Core-F Core). First (DoesHere 9) (outside (clear ∷ round ∷ []) begun 267) layer (round ∷ [])) (sym (core.outs-Move (cell.Hidden 1) (cell.Num 0)))
      (record {
        next = visits;
        left = 251;
        affords = omega arith;
        pays = λ c words tables s more.
            let now : Cells = put s (cell.Hidden 1) 0 in
            let all_left : away (n - 1) 0 + 1 ≡ n = omega (arith, away_fresh n some few) in
            pays_none c words tables s more (ap (λ (j : ℕ). unchanged tables (chain_at words now false (Visit x table (s.hidden 0) key j ∷ more))) all_left) (omega arith);
        onward = inr (omega arith);
        rest_holds = rounds;
      })

  clear_opens : opens (clear ∷ round ∷ []) ≡ true
  unfolding begins_block
  clear_opens = ap begins_block (core.outs-Move (cell.Hidden 1) (cell.Num 0))

  pub walk_composes : Composes (k.Walk x table offset key n) (cores_of x table offset key n)
  unfolding First core_does core_cost statement_does begins_block
  walk_composes =
      let all : List Core = cores_of x table offset key n in
      let out = core.outs-Move (cell.Hidden 0) (cell_of offset) in
      record {
        begins = ap begins_block out;
        depth = 11;
        does = subst (λ (layer : Core-F Core). First (DoesHere 10) (outside all (λ h. source.Do (k.Walk x table offset key n) ∷ []) statement_worth) layer (clear ∷ round ∷ [])) (sym out)
            (record {
              next = begun;
              left = 267;
              affords = omega arith;
              pays = λ c words tables s more.
                  let v : ℕ = held words s (cell_of offset) in
                  let now : Cells = put s (cell.Hidden 0) v in
                  pays_one c words tables s more
                  (front_statement c words tables s _ _ more (k.outs-Walk x table offset key n)
                  ∙ ap (λ (o : ℕ). unchanged tables (chain_at words now false (Visit x table o key n ∷ more))) (sym (held_word words s offset)))
                  (omega arith);
              onward = inl clear_opens;
              rest_holds = clears;
            });
      }
