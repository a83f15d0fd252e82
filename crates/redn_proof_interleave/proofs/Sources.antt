-- From machines to the source: where each step of a machine is some steps of its source chain, and its costs are paid by them, a run of the machines is a run of the source.
use Rattle.std.proofs.Common.{◌≡◌, ◌≢◌, ℕ, zero, suc, ◌+◌, ◌*◌, ◌<◌, ◌≤◌, ◌⊎◌, inl, inr, Bool, true, false, not, ◌&&◌, ◌==◌, List, [], ◌∷◌, ◌++◌, Some, length, replicate, refl, sym, ap, subst, ◌∙◌, arith}
use Rattle.std.specs.Prelude.{slice_get, slice_set, if◌then◌else◌}
use Rattle.std.specs.List.{All}
use Rattle.std.proofs.lemmas.Bool.{cases_eq, cases_lt, false≢true, eq-eqb, eqb-true, false_from_ne_true, and_parts, not-true, not-false}
use Rattle.std.proofs.lemmas.List.Sums.{sum_by-cons}
use Rattle.redn_words.specs.declared.types.Obs.{Obs}
use Rattle.redn_words.specs.declared.types.Region.{Region}
use Rattle.redn_words.specs.declared.types.Action.{Action}
use Rattle.redn_words.specs.Runs.{AllPossible, reached, shown_then, useful_for}
use Rattle.redn_words.specs.Words.{bytes_at}
use Rattle.redn_words.proofs.Others.{set_here, set_other}
use Rattle.redn_kernel.specs.Costs.{step_worth}
use Rattle.redn_kernel.specs.Source.{ChainState, Source, bytes_of, first_does, chain_runs, runs_there, is_running, source_step, after_turn, EachRuns, source_after, events, steps_of}
use Rattle.redn_kernel.proofs.SourceRuns.{source_after_append, events_append, EachRuns_append, runs}
use Rattle.redn_image.specs.Agreement.{HoldsVariables, variables_of, places_of}
use Rattle.redn_image.specs.Faithful.{CanGoOn, Explains}
use Rattle.redn_words.proofs.Runs.{shown_first}
use Rattle.redn_proof_interleave.specs.Machines.{Contents, Many, Goes, run_tables, run_state, run_events, run_cost, AllGo, many_step, many_tells, turn_of}
use Rattle.redn_proof_interleave.specs.Forms.{World, chains_of, awake, machine, AllPromise}
use Rattle.redn_proof_interleave.specs.Explains.{Runs, after_turns, turns_tell, turns_earn, Begins, ExplainsAll}
use Rattle.redn_proof_interleave.specs.Sources.{source_machine, Sourced, Translates, Stand, Same}
use Rattle.redn_proof_interleave.proofs.Explained.{runs_inside, earned_costs, every_order}

-- n steps of one source chain
record SourceAlone (c : ℕ) (s : Source) (w : ChainState) (n : ℕ) : Type 0 where
  pub each : EachRuns s (replicate n c)
  pub tables : (source_after s (replicate n c)).tables ≡ run_tables ChainState (source_machine c) n s.tables w
  pub state : slice_get (source_after s (replicate n c)).chains c ≡ Some (run_state ChainState (source_machine c) n s.tables w)
  pub others : (d : ℕ) → d ≢ c → slice_get (source_after s (replicate n c)).chains d ≡ slice_get s.chains d
  pub telling : events s (replicate n c) ≡ run_events ChainState (source_machine c) n s.tables w

source_alone : (c n : ℕ) (s : Source) (w : ChainState) → slice_get s.chains c ≡ Some w → AllGo ChainState (source_machine c) n s.tables w → SourceAlone c s w n
unfolding source_machine
source_alone c zero s w there go = record { each = tt; tables = refl; state = there; others = λ d ne. refl; telling = refl }
source_alone c (suc n) s w there go =
    let running : chain_runs w ≡ true = not-false (chain_runs w) go.0 in
    let is : source_step s c ≡ after_turn s c (first_does c s.tables w w.items) = runs s c w there running in
    let then_source : Source = record { tables = (first_does c s.tables w w.items).tables; chains = slice_set s.chains c (first_does c s.tables w w.items).chain } in
    let leads : (source_step s c).0 ≡ then_source = ap (λ (r : Source × Obs). r.0) is in
    let rest = source_alone c n then_source (first_does c s.tables w w.items).chain (set_here s.chains c w (first_does c s.tables w w.items).chain there) go.1 in
    record {
      each = (ap runs_there there ∙ running, subst (λ (r : Source). EachRuns r (replicate n c)) (sym leads) rest.each);
      tables = ap (λ (r : Source). (source_after r (replicate n c)).tables) leads ∙ rest.tables;
      state = ap (λ (r : Source). slice_get (source_after r (replicate n c)).chains c) leads ∙ rest.state;
      others = λ d ne. ap (λ (r : Source). slice_get (source_after r (replicate n c)).chains d) leads ∙ rest.others d ne ∙ set_other s.chains c d (first_does c s.tables w w.items).chain ne;
      telling = ap (λ (r : Source × Obs). shown_then r.1 (events r.0 (replicate n c))) is ∙ ap (shown_then (first_does c s.tables w w.items).event) rest.telling;
    }

-- turns of a chain among those of one chain
steps_here : (c n : ℕ) → steps_of c (replicate n c) ≡ n
steps_here c zero = refl
steps_here c (suc n) =
    let same : (c == c) ≡ true = eq-eqb c c refl in
    let rest = steps_here c n in
    let one = sum_by-cons (λ (e : ℕ). if e == c then 1 else 0) c (replicate n c) in
    let first : ◌≡◌ {A = ℕ} (if c == c then 1 else 0) 1 = rw same refl in
    omega (arith, rest, one, first)

steps_append : (c : ℕ) (xs ys : List ℕ) → steps_of c (xs ++ ys) ≡ steps_of c xs + steps_of c ys
steps_append c [] ys = omega arith
steps_append c (x ∷ xs) ys =
    let rest = steps_append c xs ys in
    let one = sum_by-cons (λ (e : ℕ). if e == c then 1 else 0) x (xs ++ ys) in
    let other = sum_by-cons (λ (e : ℕ). if e == c then 1 else 0) x xs in
    omega (arith, rest, one, other)

pub source_cost : (c n : ℕ) (t : Contents) (w : ChainState) → run_cost ChainState (source_machine c) n t w ≡ step_worth * n
unfolding source_machine
source_cost c zero t w = refl
source_cost c (suc n) t w = let rest = source_cost c n (first_does c t w w.items).tables (first_does c t w w.items).chain in omega (arith, rest)

module _ (sourced : Sourced) where
  abbrev g : World
  g = sourced.world

  abbrev here : ℕ → g.M → ChainState
  here c x = sourced.here c x

  abbrev kept : ℕ → g.M → ℕ
  kept c x = sourced.kept c x

  abbrev Fine : ℕ → g.M → Type 0
  Fine c x = sourced.Fine c x

  -- a machine's turn
  record TurnIs (z : Many g.M) (s : Source) (c : ℕ) : Type 0 where
    pub turns : List ℕ
    pub each : EachRuns s turns
    pub telling : events s turns ≡ shown_then (many_tells g.M (machine g) (awake g) z c) []
    pub same : Same sourced (many_step g.M (machine g) (awake g) z c) (source_after s turns)
    pub paid : (d : ℕ) → (if c == d then (machine g c).cost (turn_of g.M (machine g) (awake g) z c).state else 0) + kept d ((many_step g.M (machine g) (awake g) z c).at d) ≤ kept d (z.at d) + step_worth * steps_of d turns

  module _ (z : Many g.M) (s : Source) (h : Same sourced z s) (c : ℕ) (l : c < chains_of g) (k : Translates sourced c) (woken : awake g c ≡ true) (more : (machine g c).ended (z.at c) ≡ false) where
    abbrev x : g.M
    x = z.at c

    abbrev y : g.M
    y = (turn_of g.M (machine g) (awake g) z c).state

    lag : (w : ChainState) × (slice_get s.chains c ≡ Some w) × Stand sourced c w (z.at c)
    lag = h.each c l

    silent : Goes ChainState (source_machine c) s.tables lag.0 [] s.tables (here c x) 0 0
    silent = lag.2.leads woken s.tables

    first : SourceAlone c s lag.0 silent.steps
    first = source_alone c silent.steps s lag.0 lag.1 silent.go

    abbrev middle : Source
    middle = source_after s (replicate silent.steps c)

    middle_tables : middle.tables ≡ z.tables
    middle_tables = first.tables ∙ silent.tables ∙ h.tables

    middle_there : slice_get middle.chains c ≡ Some (here c x)
    middle_there = first.state ∙ ap (λ (w : ChainState). Some w) silent.state

    abbrev step_goes : Goes ChainState (source_machine c) z.tables (here c x) (shown_then (many_tells g.M (machine g) (awake g) z c) []) (turn_of g.M (machine g) (awake g) z c).tables (here c y) ((machine g c).cost y + kept c y) (kept c x)
    step_goes = k.step x z.tables lag.2.fine woken more

    second : SourceAlone c middle (here c x) step_goes.steps
    second = source_alone c step_goes.steps middle (here c x) middle_there (subst (λ (t : Contents). AllGo ChainState (source_machine c) step_goes.steps t (here c x)) (sym middle_tables) step_goes.go)

    abbrev both : List ℕ
    both = replicate silent.steps c ++ replicate step_goes.steps c

    abbrev last : Source
    last = source_after middle (replicate step_goes.steps c)

    reaches : source_after s both ≡ last
    reaches = source_after_append s (replicate silent.steps c) (replicate step_goes.steps c)

    last_there : slice_get last.chains c ≡ Some (here c y)
    last_there = second.state ∙ ap (λ (t : Contents). Some (run_state ChainState (source_machine c) step_goes.steps t (here c x))) middle_tables ∙ ap (λ (w : ChainState). Some w) step_goes.state

    its : (many_step g.M (machine g) (awake g) z c).at c ≡ y
    its = let same : (c == c) ≡ true = eq-eqb c c refl in rw same refl

    elsewhere : (d : ℕ) → d ≢ c → (many_step g.M (machine g) (awake g) z c).at d ≡ z.at d
    elsewhere d ne = let apart : (d == c) ≡ false = false_from_ne_true (d == c) (λ t. ne (eqb-true d c t)) in rw apart refl

    fine_after : Fine c y
    fine_after = k.fine x z.tables lag.2.fine more

    stands_here : Stand sourced c (here c y) y
    stands_here =
        record {
          vars = refl;
          runs = k.runs y fine_after woken ∙ sym (ap (λ (b : Bool). b && not ((machine g c).ended y)) woken);
          leads = λ w t. record { steps = 0; go = tt; telling = refl; tables = refl; state = refl; enough = omega arith };
          fine = fine_after;
        }

    each_after : (d : ℕ) → d < chains_of g → (w : ChainState) × (slice_get last.chains d ≡ Some w) × Stand sourced d w ((many_step g.M (machine g) (awake g) z c).at d)
    each_after d inside =
        elim (cases_eq d c) [
          | inl same ↦ subst (λ (e : ℕ). (w : ChainState) × (slice_get last.chains e ≡ Some w) × Stand sourced e w ((many_step g.M (machine g) (awake g) z c).at e)) (sym same) (here c y, last_there, subst (Stand sourced c (here c y)) (sym its) stands_here)
          | inr ne ↦ let old = h.each d inside in (old.0, second.others d ne ∙ first.others d ne ∙ old.1, subst (Stand sourced d old.0) (sym (elsewhere d ne)) old.2)
        ]

    same_after : Same sourced (many_step g.M (machine g) (awake g) z c) last
    same_after =
        record {
          tables = second.tables ∙ ap (λ (t : Contents). run_tables ChainState (source_machine c) step_goes.steps t (here c x)) middle_tables ∙ step_goes.tables;
          each = each_after;
          past = λ d far. second.others d (λ e. omega arith) ∙ first.others d (λ e. omega arith) ∙ h.past d far;
        }

    telling_is : events s both ≡ shown_then (many_tells g.M (machine g) (awake g) z c) []
    telling_is =
        events_append s (replicate silent.steps c) (replicate step_goes.steps c) ∙ ap (λ (xs : List Obs). xs ++ events middle (replicate step_goes.steps c)) (first.telling ∙ silent.telling) ∙ second.telling ∙ ap (λ (t : Contents). run_events ChainState (source_machine c) step_goes.steps t (here c x)) middle_tables ∙ step_goes.telling

    paid_after : (d : ℕ) → (if c == d then (machine g c).cost y else 0) + kept d ((many_step g.M (machine g) (awake g) z c).at d) ≤ kept d (z.at d) + step_worth * steps_of d both
    paid_after d =
        elim (cases_eq d c) [
          | inl same ↦ subst (λ (e : ℕ). (if c == e then (machine g c).cost y else 0) + kept e ((many_step g.M (machine g) (awake g) z c).at e) ≤ kept e (z.at e) + step_worth * steps_of e both) (sym same) own
          | inr ne ↦
              let apart : (c == d) ≡ false = false_from_ne_true (c == d) (λ t. ne (sym (eqb-true c d t))) in
              let left = ap (kept d) (elsewhere d ne) in
              let none : ◌≡◌ {A = ℕ} (if c == d then (machine g c).cost y else 0) 0 = rw apart refl in
              omega (arith, left, none)
        ]
      where
        own : (if c == c then (machine g c).cost y else 0) + kept c ((many_step g.M (machine g) (awake g) z c).at c) ≤ kept c x + step_worth * steps_of c both
        own =
            let same : (c == c) ≡ true = eq-eqb c c refl in
            let gain : ◌≡◌ {A = ℕ} (if c == c then (machine g c).cost y else 0) ((machine g c).cost y) = rw same refl in
            let left = ap (kept c) its in
            let enough = step_goes.enough in
            let cost = source_cost c step_goes.steps z.tables (here c x) in
            let sum = steps_append c (replicate silent.steps c) (replicate step_goes.steps c) in
            let one = steps_here c silent.steps in
            let two = steps_here c step_goes.steps in
            omega (arith, gain, left, enough, cost, sum, one, two)

    turn_is : TurnIs z s c
    turn_is =
        record {
          turns = both;
          each = EachRuns_append s (replicate silent.steps c) (replicate step_goes.steps c) first.each second.each;
          telling = telling_is;
          same = subst (Same sourced (many_step g.M (machine g) (awake g) z c)) (sym reaches) same_after;
          paid = paid_after;
        }

  -- all turns
  record AreTurns (z : Many g.M) (s : Source) (turns : List ℕ) : Type 0 where
    pub list : List ℕ
    pub each : EachRuns s list
    pub telling : events s list ≡ turns_tell g z turns
    pub same : Same sourced (after_turns g z turns) (source_after s list)
    pub paid : (d : ℕ) → turns_earn g d z turns + kept d ((after_turns g z turns).at d) ≤ kept d (z.at d) + step_worth * steps_of d list

  translate : ((c : ℕ) → c < chains_of g → Translates sourced c) → (turns : List ℕ) (z : Many g.M) (s : Source) → Same sourced z s → Runs g z turns → AreTurns z s turns
  translate k [] z s h runs = record { list = []; each = tt; telling = refl; same = h; paid = λ d. omega arith }
  translate k (c ∷ turns) z s h runs =
      let l = runs_inside g z c runs.0 in
      let parts = and_parts (awake g c) (not ((machine g c).ended (z.at c))) runs.0 in
      let one = turn_is z s h c l (k c l) parts.0 (not-true ((machine g c).ended (z.at c)) parts.1) in
      let rest = translate k turns (many_step g.M (machine g) (awake g) z c) (source_after s one.turns) one.same runs.1 in
      record {
        list = one.turns ++ rest.list;
        each = EachRuns_append s one.turns rest.list one.each rest.each;
        telling = events_append s one.turns rest.list ∙ ap (λ (xs : List Obs). xs ++ events (source_after s one.turns) rest.list) one.telling ∙ ap (λ (xs : List Obs). shown_then (many_tells g.M (machine g) (awake g) z c) [] ++ xs) rest.telling ∙ sym (shown_first (many_tells g.M (machine g) (awake g) z c) (turns_tell g (many_step g.M (machine g) (awake g) z c) turns));
        same = subst (Same sourced (after_turns g z (c ∷ turns))) (sym (source_after_append s one.turns rest.list)) rest.same;
        paid = λ d. let now = one.paid d in let later = rest.paid d in let sum = steps_append d one.turns rest.list in omega (arith, now, later, sum);
      }

  -- so every run of the adapter is explained by the source
  pub source_explains :
      (all : AllPromise g) (z : Many g.M) → Begins g z → (s : Source) → Same sourced z s
      → ((c : ℕ) → c < chains_of g → Translates sourced c)
      → ((t : Contents) (m : List ℕ) (i : ℕ) → g.Tables t m → All (λ (r : Region). bytes_at m r.base r.len ≡ bytes_of t i) (places_of i g.begin.regions))
      → ((c : ℕ) (y : g.M) (m : List ℕ) → c < chains_of g → (g.form c).Holds y m → All (HoldsVariables m (here c y).vars) (variables_of c g.begin.regions))
      → (acts : List Action) → length acts ≤ g.most → AllPossible g.begin acts → (turns : List ℕ) × Explains g.begin acts s turns
  source_explains all z begins s same k tables variables acts few p =
      let done = every_order g all z begins acts few p in
      let run = done.1 in
      let are = translate k done.0 z s same run.runs in (
        are.list,
        record {
          runs = are.each;
          shows_events = run.shows_events ∙ sym are.telling;
          agrees = record {
            variables = λ c w there. by_place c w there (cases_lt c (chains_of g)) are.same run.variables;
            tables = λ i. subst (λ (t : Contents). All (λ (r : Region). bytes_at (reached g.begin acts).memory r.base r.len ≡ bytes_of t i) (places_of i g.begin.regions)) (sym are.same.tables) (tables (after_turns g z done.0).tables (reached g.begin acts).memory i run.tables);
          };
          clean = run.clean;
          few = λ c. enough c (cases_lt c (chains_of g)) are run;
          goes_on = λ c running. on c done.0 are.list running (cases_lt c (chains_of g)) are.same run;
        },
      )
    where
      by_place : (c : ℕ) (w : ChainState) {z : Many g.M} {s : Source} {m : List ℕ} → slice_get s.chains c ≡ Some w → (c < chains_of g) ⊎ (chains_of g ≤ c) → Same sourced z s → ((d : ℕ) → d < chains_of g → (g.form d).Holds (z.at d) m) → All (HoldsVariables m w.vars) (variables_of c g.begin.regions)
      by_place c w {z = z} {m = m} there (inl inside) same holds =
          let its = same.each c inside in
          let is : its.0 ≡ w = cc (its.1, there) in
          let vars : (here c (z.at c)).vars ≡ w.vars = sym its.2.vars ∙ ap (λ (v : ChainState). v.vars) is in
          subst (λ (v : List ℕ). All (HoldsVariables m v) (variables_of c g.begin.regions)) vars (variables c (z.at c) m inside (holds c inside))
      by_place c w there (inr far) same holds = let none = same.past c far in absurd (cc (none, there))

      enough : (c : ℕ) → (c < chains_of g) ⊎ (chains_of g ≤ c) → {turns : List ℕ} → (are : AreTurns z s turns) → ExplainsAll g z acts turns → useful_for c g.begin acts ≤ step_worth * (steps_of c are.list + 1)
      enough c (inl inside) {turns = turns} are run =
          let useful = run.few c inside in
          let sum = earned_costs g c turns z in
          let paid = are.paid c in
          let pays = (k c inside).pays in
          let cost = ap (machine g c).cost (begins.at c) in
          let left = ap (kept c) (begins.at c) in
          omega (arith, useful, sum, paid, pays, cost, left)
      enough c (inr far) are run = let none = run.none c far in omega (arith, none)

      on : (c : ℕ) (turns list : List ℕ) → is_running (source_after s list) c ≡ true → (c < chains_of g) ⊎ (chains_of g ≤ c) → Same sourced (after_turns g z turns) (source_after s list) → ExplainsAll g z acts turns → CanGoOn (reached g.begin acts) c
      on c turns list running (inl inside) same run =
          let its = same.each c inside in
          run.goes_on c (sym its.2.runs ∙ sym (ap runs_there its.1) ∙ running)
      on c turns list running (inr far) same run = absurd (false≢true (sym (ap runs_there (same.past c far)) ∙ running))
