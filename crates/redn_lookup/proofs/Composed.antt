-- The core statements of a lookup point by point.
use Rattle.std.proofs.Common.{◌≡◌, ℕ, zero, suc, ◌+◌, ◌-◌, ◌==◌, ◌≤◌, inl, Bool, true, false, if◌then◌else◌, List, [], ◌∷◌, ◌++◌, refl, sym, ap, ◌∙◌, subst, arith}
use Rattle.std.proofs.lemmas.Bool.Decides.{nat_tests}
use Rattle.redn_kernel.specs.declared.types.Word.{Word}
use Rattle.redn_kernel.specs.declared.types.Cell.TheVariants as cell
use Rattle.redn_kernel.specs.declared.types.Kernel.TheVariants as k
use Rattle.redn_kernel.specs.declared.types.Core.{Core}
use Rattle.redn_kernel.specs.declared.types.Core.TheOpen.{Core-F}
use Rattle.redn_kernel.specs.declared.types.Core.TheVariants as core
use Rattle.redn_kernel.specs.Source as source
use Rattle.redn_kernel.specs.Source.{Item, Find, Take, item_does, statement_does, value_of, wrapped, same_low}
use Rattle.redn_kernel.specs.Steps.{unchanged}
use Rattle.redn_kernel.specs.CoreRun.{Cells, held, put, cell_of, core_does}
use Rattle.redn_kernel.specs.Becomes.{chain_at}
use Rattle.redn_kernel.specs.Composes.{Remains, Point, First, DoesHere, Composes, branch, core_cost, begins_block, opens}
use Rattle.redn_kernel.specs.Costs.{probe_cost, statement_worth, search_worth}
use Rattle.redn_kernel.proofs.CoreRuns.{held_word, front_statement}
use Rattle.redn_kernel.proofs.Composing.{chain_from, pays_one, pays_none, look_pays, load_pays}
use Rattle.redn_lookup.specs.Lookup.{bucket_of, misses_of, cores_of}

module _ (x table : ℕ) (offset key : Word) where
  abbrev bucket : ℕ → Core
  bucket i = bucket_of x table (cell_of key) (misses_of x table (cell_of key) i)

  -- before the look at a bucket with so many behind it, and before the load
  abbrev finds : ℕ → Remains
  finds i h = Find x table (h 0) key (suc i) ∷ []

  abbrev taking : Remains
  taking h = Take x table (wrapped (h 0 + 8)) ∷ []

  -- a bucket has another key, and so many are behind it
  abbrev lost : ℕ → Remains
  lost zero h = []
  lost (suc i) h = Find x table (wrapped (h 0 + 16)) key (suc i) ∷ []

  abbrev done : Remains
  done h = []

  lost_is : (i : ℕ) (h : ℕ → ℕ) (more : List Item) → source.found_or false x table (h 0) key (suc i) more ≡ lost i h ++ more
  lost_is zero h more = refl
  lost_is (suc i) h more =
      let find : ℕ → List Item = λ n. Find x table (wrapped (h 0 + 16)) key n ∷ more in
      let some : (suc (suc i) == 1) ≡ false = grind (arith, nat_tests) in
      let less : suc (suc i) - 1 ≡ suc i = omega arith in
      ap (λ (b : Bool). if b then more else find (suc (suc i) - 1)) some ∙ ap find less

  bucket_opens : (i : ℕ) → opens (bucket i ∷ []) ≡ true
  unfolding begins_block
  bucket_opens i = ap begins_block (core.outs-Probe (cell.Var x) table (cell.Hidden 0) (cell_of key) [] (misses_of x table (cell_of key) i))

  -- how deep the look at a bucket is
  deep : ℕ → ℕ
  deep zero = 1
  deep (suc i) = suc (suc (deep i))

  module _ (p : Point) where
    abbrev at : ℕ → ℕ → Point
    at i worth = record p { cores = bucket i ∷ []; here = finds i; behind = done; worth = worth }

    looks : (n i worth : ℕ) → probe_cost ≤ worth → DoesHere (suc n) (branch p (misses_of x table (cell_of key) i) (lost i) done) →
        DoesHere (suc (suc n)) (at i worth)
    unfolding First item_does
    looks n i worth le miss =
        let first : Core-F Core → Type 0 = λ layer. First (DoesHere (suc n)) (at i worth) layer [] in
        let out = core.outs-Probe (cell.Var x) table (cell.Hidden 0) (cell_of key) [] (misses_of x table (cell_of key) i) in
        subst first (sym out)
        (record {
          found = taking;
          if_hit = done;
          if_miss = lost i;
          done = done;
          affords = le;
          looks = λ c words tables s more.
              look_pays c words tables s more table (s.hidden 0) (held words s (cell_of key)) (finds i) taking (lost i)
              (λ met. source.found_or met x table (s.hidden 0) key (suc i) more) probe_cost worth search_worth (omega (arith, le))
              (ap (λ (v : ℕ). source.looks c tables (chain_from c words tables s more (finds i)) table (s.hidden 0) (λ w. source.found_or (same_low w v) x table (s.hidden 0) key (suc i) more)) (sym (held_word words s key)))
              refl (lost_is i s.hidden more);
          takes = λ c words tables s more. load_pays c words tables s more x table (wrapped (s.hidden 0 + 8)) taking done 0 search_worth search_worth (omega arith) refl;
          hit_holds = (omega arith, λ h. refl);
          miss_holds = miss;
          rest_holds = (omega arith, λ h. refl);
        })

    raises : (n i : ℕ) → DoesHere n (at i probe_cost) → DoesHere (suc n) (branch p (misses_of x table (cell_of key) (suc i)) (lost (suc i)) done)
    unfolding First core_does core_cost
    raises n i does =
        let first : Core-F Core → Type 0 = λ layer. First (DoesHere n) (branch p (misses_of x table (cell_of key) (suc i)) (lost (suc i)) done) layer (bucket i ∷ []) in
        subst first (sym (core.outs-Add (cell.Hidden 0) (cell.Num 16)))
        (record {
          next = finds i;
          left = probe_cost;
          affords = omega arith;
          pays = λ c words tables s more. pays_none c words tables s more refl (omega arith);
          onward = inl (bucket_opens i);
          rest_holds = does;
        })

  bucket_does : (i worth : ℕ) (p : Point) → probe_cost ≤ worth → DoesHere (suc (deep i)) (at p i worth)
  unfolding deep
  bucket_does zero worth p le = looks p 0 zero worth le (omega arith, λ h. refl)
  bucket_does (suc i) worth p le = looks p (suc (deep i)) (suc i) worth le (raises p (suc (deep i)) i (bucket_does i probe_cost p (omega arith)))

  pub lookup_composes : (more : ℕ) → Composes (k.Lookup x table offset key (suc more)) (cores_of x table offset key more)
  unfolding First core_does core_cost statement_does begins_block
  lookup_composes more =
      let first : Core-F Core → Type 0 = λ layer. First (DoesHere (suc (deep more)))
      (record { cores = cores_of x table offset key more; here = λ h. source.Do (k.Lookup x table offset key (suc more)) ∷ []; behind = done; out = done; worth = statement_worth }) layer (bucket more ∷ []) in
      let out = core.outs-Move (cell.Hidden 0) (cell_of offset) in
      record {
        begins = ap begins_block out;
        depth = suc (suc (deep more));
        does = subst first (sym out)
            (record {
              next = finds more;
              left = probe_cost;
              affords = omega arith;
              pays = λ c words tables s behind.
                  let v : ℕ = held words s (cell_of offset) in
                  let now : Cells = put s (cell.Hidden 0) v in
                  pays_one c words tables s behind
                  (front_statement c words tables s _ _ behind (k.outs-Lookup x table offset key (suc more))
                  ∙ ap (λ (o : ℕ). unchanged tables (chain_at words now false (Find x table o key (suc more) ∷ behind))) (sym (held_word words s offset)))
                  (omega arith);
              onward = inl (bucket_opens more);
              rest_holds = bucket_does more probe_cost (record { cores = []; here = done; behind = done; out = done; worth = 0 }) (omega arith);
            });
      }
