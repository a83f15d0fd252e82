-- A body that is done so many times, by a hidden cell that counts.
use Rattle.std.proofs.Common.{◌≡◌, ◌≢◌, ℕ, ◌+◌, ◌-◌, ◌<◌, ◌≤◌, ◌==◌, ◌⊎◌, inl, inr, Bool, true, false, if◌then◌else◌, List, [], ◌∷◌, ◌++◌, length, reverse, refl, sym, ap, ◌∙◌, subst, arith, length-append}
use Rattle.std.proofs.lemmas.Bool.Decides.{nat_tests}
use Rattle.redn_kernel.specs.declared.types.Cell.TheVariants as cell
use Rattle.redn_kernel.specs.declared.types.Kernel.{Kernel}
use Rattle.redn_kernel.specs.declared.types.Kernel.TheVariants as k
use Rattle.redn_kernel.specs.Source.{Item, AgainRepeat, item_does, statement_does, wrapped, same_low, do_all, repeated}
use Rattle.redn_graph.specs.declared.types.Instr.{Instr}
use Rattle.redn_graph.specs.declared.types.Instr.TheVariants.{Set}
use Rattle.redn_graph.specs.declared.types.End.{End}
use Rattle.redn_graph.specs.declared.types.Block.{Block}
use Rattle.redn_graph.specs.declared.build.Tail.{Tail}
use Rattle.redn_graph.specs.declared.build.Tail.TheVariants as tail
use Rattle.redn_kernel.specs.CoreRun.{Cells, with_hidden}
use Rattle.redn_graph.specs.Run.{instr_does, end_does, instr_cost, end_cost}
use Rattle.redn_kernel.specs.Steps.{unchanged}
use Rattle.redn_kernel.specs.Becomes.{chain_at}
use Rattle.redn_kernel.specs.Costs.{move_cost, statement_worth, jump_worth}
use Rattle.redn_graph.specs.Code.{Meaning, Label, Leads, InstrRuns, EndRuns, Serves, Extends, TailRuns, Means, Ignores, Compiles, Precedes, Labels, IsOpen, meaning_at, worth_at, with_worth}
use Rattle.redn_graph.specs.Growth.{Bound}
use Rattle.redn_graph.specs.Words.{counts, counted}
use Rattle.redn_graph.proofs.Doing.{leads_none, leads_more, leads_at_least, does_shown, does_silently, front_does, doing}
use Rattle.redn_graph.proofs.Ends.{repeat_begins}
use Rattle.redn_kernel.proofs.Counters.{away, away_fresh, away_counts, away_less, same_away}
use Rattle.redn_graph.proofs.Building.{extends_then, extends_one, own_leads, compiled_bound, compiled_means}

pub with_hidden_same : (hidden : ℕ → ℕ) (j v : ℕ) → with_hidden hidden j v j ≡ v
with_hidden_same hidden j v = let same : (j == j) ≡ true = grind (arith, nat_tests) in ap (λ b. if b then v else hidden j) same

module _ (counter n : ℕ) (some_rounds : 1 ≤ n) (few : n < 281474976710656) (body : List Kernel) (m : Meaning) (keeps : (h : ℕ → ℕ) (v : ℕ) → m (with_hidden h counter v) ≡ m h) where
  -- at the head, behind the body, and once the round is counted
  abbrev rounds : Meaning
  rounds h = do_all body ++ AgainRepeat (away (n - 1) (h counter)) body ∷ m h

  abbrev round_over : Meaning
  round_over h = AgainRepeat (away (n - 1) (h counter)) body ∷ m h

  abbrev round_counted : Meaning
  round_counted h = AgainRepeat (away n (h counter)) body ∷ m h

  start_same : (h : ℕ → ℕ) → rounds (with_hidden h counter 0) ≡ repeated n body (m h)
  start_same h =
      let same : away (n - 1) (with_hidden h counter 0 counter) ≡ n - 1 = ap (away (n - 1)) (with_hidden_same h counter 0) ∙ away_fresh n some_rounds few in
      let other : (n == 0) ≡ false = grind (arith, nat_tests) in
      ap (λ (j : ℕ). do_all body ++ AgainRepeat j body ∷ m (with_hidden h counter 0)) same
      ∙ ap (λ (rest : List Item). do_all body ++ AgainRepeat (n - 1) body ∷ rest) (keeps h 0)
      ∙ sym (ap (λ (b : Bool). if b then m h else do_all body ++ AgainRepeat (n - 1) body ∷ m h) other)

  pub start_runs : InstrRuns (Set (cell.Hidden counter) 0) (doing (k.Repeat n body) m) rounds statement_worth jump_worth
  unfolding instr_does instr_cost statement_does
  start_runs =
      let st : Kernel = k.Repeat n body in
      record {
        stands = doing st m;
        leads = λ h. leads_none refl;
        affords = omega arith;
        does = λ c words tables s.
            let now : Cells = record s { hidden = with_hidden s.hidden counter 0 } in
            does_shown c words tables s
            (ap (λ (items : List Item). unchanged tables (chain_at words now false items)) (start_same s.hidden)
            ∙ sym (front_does c words tables s _ _ (m s.hidden) (k.outs-Repeat n body)))
            (omega arith);
      }

  count_same : (h : ℕ → ℕ) → round_counted (with_hidden h counter (wrapped (h counter + 1))) ≡ round_over h
  count_same h =
      let v : ℕ = wrapped (h counter + 1) in
      let same : away n (with_hidden h counter v counter) ≡ away (n - 1) (h counter) = ap (away n) (with_hidden_same h counter v) ∙ away_counts n (h counter) some_rounds few in
      ap (λ (j : ℕ). AgainRepeat j body ∷ m (with_hidden h counter v)) same ∙ ap (λ (rest : List Item). AgainRepeat (away (n - 1) (h counter)) body ∷ rest) (keeps h v)

  pub count_runs : InstrRuns (counts counter) round_over round_counted statement_worth (statement_worth - move_cost)
  unfolding instr_does instr_cost
  count_runs = record {
    stands = round_over;
    leads = λ h. leads_none refl;
    affords = omega arith;
    does = λ c words tables s.
        let now : Cells = record s { hidden = with_hidden s.hidden counter (wrapped (s.hidden counter + 1)) } in
        record { count = 0; steps = ap (λ (items : List Item). unchanged tables (chain_at words now false items)) (count_same s.hidden); paid = omega arith };
  }

  module _ (all : List Label) (out head : ℕ) (leaves : TailRuns all 0 statement_worth (tail.To out) m) (at_head : TailRuns all 0 statement_worth (tail.To head) rounds) where
    -- the rounds that are left, once they are counted
    left_leads : (h : ℕ → ℕ) (over : Bool) → (away n (h counter) == 0) ≡ over → Leads 0 (if over then m h else do_all body ++ AgainRepeat (away n (h counter) - 1) body ∷ m h) (meaning_at all (if over then out else head) h)
    left_leads h true e = leaves.1 h
    left_leads h false e =
        let more : away n (h counter) ≢ 0 = grind (arith, nat_tests) in
        subst (λ (j : ℕ). Leads 0 (do_all body ++ AgainRepeat j body ∷ m h) (meaning_at all head h)) (away_less n (h counter) some_rounds few more) (at_head.1 h)

    tested_leads : (h : ℕ → ℕ) → Leads 0 (repeated (away n (h counter)) body (m h)) (meaning_at all (if same_low (h counter) n then out else head) h)
    tested_leads h =
        subst (λ (over : Bool). Leads 0 (repeated (away n (h counter)) body (m h)) (meaning_at all (if over then out else head) h)) (sym (same_away n (h counter) few))
        (left_leads h (away n (h counter) == 0) refl)

    tested_worth : (over : Bool) → worth_at all (if over then out else head) ≤ statement_worth
    tested_worth true = leaves.0
    tested_worth false = at_head.0

    pub test_runs : EndRuns all (counted counter n out head) round_counted (statement_worth - move_cost)
    unfolding end_does end_cost item_does
    test_runs = record {
      stands = round_counted;
      taking = round_counted;
      taking_worth = statement_worth - move_cost;
      leads = λ h. leads_none refl;
      affords = omega arith;
      affords_taking = omega arith;
      first = λ c words tables s. does_silently c words tables s refl refl (tested_leads s.hidden) (omega (arith, tested_worth (same_low (s.hidden counter) n)));
      second = λ c words tables s. does_silently c words tables s refl refl (tested_leads s.hidden) (omega (arith, tested_worth (same_low (s.hidden counter) n)));
    }

with_hidden_other : (hidden : ℕ → ℕ) (i j v : ℕ) → i ≢ j → with_hidden hidden j v i ≡ hidden i
with_hidden_other hidden i j v other = let differs : (i == j) ≡ false = grind (arith, nat_tests) in ap (λ b. if b then v else hidden i) differs

-- what an open block's parts do it does
pub opens_runs : (all : List Label) (far worth : ℕ) (t : Tail) (list : List Instr) (end : End) (m : Meaning) → IsOpen t list end → Serves all worth end (reverse list) m worth → TailRuns all far worth t m
opens_runs all far worth (tail.To l) list end m opens serves = absurd opens
opens_runs all far worth (tail.Open instrs last) list end m opens serves =
    subst (λ (e : End). Serves all worth e (reverse instrs.items) m worth) (sym opens.1) (subst (λ (is : List Instr). Serves all worth end (reverse is) m worth) (sym opens.0) serves)

-- a block to which its own body leads back, so many times
pub compiles_counted : {b0 b1 b2 b3 b4 : List Block} {h0 h1 : ℕ} (exit counter n : ℕ) (body : List Kernel) (t end after : Tail) (out head : ℕ) (spare : Block) (first : Tail) → 1 ≤ n → n < 281474976710656 → 2 ≤ counter → h0 ≤ counter → counter + 1 ≤ h1 → b2 ≡ b1 ++ spare ∷ [] → head ≡ length b1 →
    IsOpen end (counts counter ∷ []) (counted counter n out head) →
    Labels b0 b1 t out → Compiles b2 b3 h1 out body end first → Bound b3 b4 head first → Precedes (Set (cell.Hidden counter) 0) (tail.To head) after →
    Compiles b0 b4 h0 exit (k.Repeat n body ∷ []) t after
compiles_counted {b1 = b1} {h0 = h0} {h1 = h1} exit counter n body t end after out head spare first some_rounds few searches low le is at opens l0 c b precedes some far m near whole ignores leaves means =
    let keeps : (h : ℕ → ℕ) (v : ℕ) → m (with_hidden h counter v) ≡ m h = λ h v. ignores h counter v (inr (omega arith)) in
    let s0 = l0 some far statement_worth m whole means in
    let own : Label = with_worth statement_worth (rounds counter n some_rounds few body m keeps) in
    let over : Meaning = round_over counter n some_rounds few body m keeps in
    let table : List Label = s0.table ++ own ∷ [] in
    let at_out : (all : List Label) → Extends table all → TailRuns all 0 statement_worth (tail.To out) m =
    λ all x. s0.means all (extends_then (extends_one s0.table own) x)
    in
    let at_head : (all : List Label) → Extends table all → TailRuns all 0 statement_worth (tail.To head) own.means =
    λ all x. own_leads s0.table statement_worth own.means all head x (at ∙ sym s0.whole)
    in
    let over_ignores : Ignores h1 over =
    λ h j v some_cell.
    let other : counter ≢ j = elim some_cell [ inl search ↦ omega arith | inr past ↦ omega arith ] in
    let mine : (j < 2) ⊎ (h0 ≤ j) = elim some_cell [ inl search ↦ inl search | inr past ↦ inr (omega arith) ] in
    ap (λ (i : ℕ). AgainRepeat (away (n - 1) i) body ∷ m (with_hidden h j v)) (with_hidden_other h counter j v other)
    ∙ ap (λ (rest : List Item). AgainRepeat (away (n - 1) (h counter)) body ∷ rest) (ignores h j v mine)
    in
    let counts_on : Means table 1 statement_worth end over =
    λ all x.
    let serves : Serves all statement_worth (counted counter n out head) (counts counter ∷ []) over statement_worth = record {
      runs =
          (round_counted counter n some_rounds few body m keeps, statement_worth - move_cost, count_runs counter n some_rounds few body m keeps, test_runs counter n some_rounds few body m keeps all out head (at_out all x) (at_head all x));
      jumps = inl refl;
    }
    in
    opens_runs all 1 statement_worth end _ _ over opens serves
    in
    let d =
    c table 1 over (omega arith) (omega (arith, s0.whole, ap length is, length-append s0.table (own ∷ []), length-append b1 (spare ∷ [])))
    over_ignores at_out counts_on
    in
    let st : Kernel = k.Repeat n body in
    compiled_bound s0 far statement_worth after (doing st m) spare head own (omega arith) is at d b
    (precedes d.table 0 far (doing st m) own.means (start_runs counter n some_rounds few body m keeps) (λ all x. at_head all (extends_then {a = table} {b = d.table} {c = all} d.extends x)))

-- a body that is never done
pub compiles_never : {b0 b1 : List Block} (hidden exit : ℕ) (body : List Kernel) (t : Tail) (out : ℕ) → Labels b0 b1 t out → Compiles b0 b1 hidden exit (k.Repeat 0 body ∷ []) t (tail.To out)
compiles_never hidden exit body t out l0 some far m near whole ignores leaves means =
    let s0 = l0 some far statement_worth m whole means in
    compiled_means s0 (λ all x. ((s0.means all x).0, λ h. leads_at_least near (leads_more (repeat_begins 0 body (m h)) ((s0.means all x).1 h))))
