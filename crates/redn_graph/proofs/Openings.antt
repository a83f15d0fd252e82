-- Instructions in front of what follows, and blocks that are closed.
use Rattle.std.proofs.Common.{Vec, Global, ◌≡◌, ℕ, zero, suc, ◌-◌, ◌≤◌, ◌==◌, inl, inr, false, if◌then◌else◌, Some, None, List, [], ◌∷◌, ◌++◌, reverse, refl, sym, ap, ◌∙◌, subst, arith}
use Rattle.std.proofs.Math.Path.{fun_ext}
use Rattle.std.proofs.lemmas.List.{reverse-append}
use Rattle.std.proofs.lemmas.Bool.Decides.{nat_tests}
use Rattle.redn_kernel.specs.declared.types.Cell.TheVariants as cell
use Rattle.redn_graph.specs.declared.types.Instr.{Instr}
use Rattle.redn_graph.specs.declared.types.Instr.TheVariants.{Move}
use Rattle.redn_graph.specs.declared.types.End.{End}
use Rattle.redn_graph.specs.declared.types.End.TheVariants.{Jump}
use Rattle.redn_graph.specs.declared.types.Block.{Block}
use Rattle.redn_graph.specs.declared.build.Tail.TheVariants as tail
use Rattle.redn_kernel.specs.CoreRun.{Cells, with_hidden}
use Rattle.redn_graph.specs.Run.{Way, On, Taking, To, Out, instr_does, instr_cost}
use Rattle.redn_kernel.specs.Steps.{unchanged}
use Rattle.redn_kernel.specs.Becomes.{chain_at}
use Rattle.redn_kernel.specs.Costs.{move_cost, statement_worth, jump_worth}
use Rattle.redn_graph.specs.Code.{Meaning, Label, InstrRuns, JumpsWithin, Serves, Precedes, Closes, left_on, worth_at}
use Rattle.redn_graph.proofs.Doing.{leads_none, leads_at_least}
use Rattle.redn_graph.proofs.Ends.{jump_runs}

less_left : (w : Way) {left less : ℕ} → less ≤ left → left_on less w ≤ left_on left w
less_left On le = le
less_left Taking le = omega arith
less_left (To l) le = omega arith
less_left Out le = omega arith

instr_left : {i : Instr} {m next : Meaning} {worth left less : ℕ} → less ≤ left → InstrRuns i m next worth left → InstrRuns i m next worth less
instr_left {i = i} le r = record {
  stands = r.stands;
  leads = r.leads;
  affords = r.affords;
  does = λ c words tables s.
      let d = r.does c words tables s in
      record { count = d.count; steps = d.steps; paid = omega (arith, d.paid, less_left (instr_does c words tables s i).way le) };
}

-- a jump to a block where no more may be spent
pub jumps_to : (all : List Label) (most to : ℕ) (instr : Instr) → worth_at all to ≤ most → JumpsWithin all most (instr ∷ []) (Jump to)
jumps_to all most to instr low = inr (λ l is. subst (λ (k : ℕ). worth_at all k ≤ most) (same_target is) low)
  where
    same_target : {k l : ℕ} → Some k ≡ Some l → k ≡ l
    same_target e = cc

-- one more instruction
pub jumps_behind : (all : List Label) (most : ℕ) (instr : Instr) (list : List Instr) (end : End) → JumpsWithin all most list end → JumpsWithin all most (instr ∷ list) end
jumps_behind all most instr [] end none = inr (λ l is. absurd (some_none (sym is ∙ none)))
  where
    some_none : {k : ℕ} → Some k ≡ None → ⊥
    some_none e = cc
jumps_behind all most instr (i ∷ rest) end within = inl refl

pub precedes_to : (instr : Instr) (to : ℕ) (instrs : Vec Instr Global) → instrs.items ≡ instr ∷ [] → Precedes instr (tail.To to) (tail.Open instrs (Jump to))
precedes_to instr to instrs is some least far m next run means all x =
    let low = (means all x).0 in
    let serves : Serves all statement_worth (Jump to) (instr ∷ []) m statement_worth = record {
      runs = (next, jump_worth, run, jump_runs all to 0 jump_worth next (λ h. leads_at_least (omega arith) ((means all x).1 h)) (omega arith) (omega (arith, low)));
      jumps = jumps_to all statement_worth to instr low;
    }
    in
    subst (λ (list : List Instr). Serves all statement_worth (Jump to) (reverse list) m statement_worth) (sym is) serves

pub precedes_open : (instr : Instr) (end : End) (old new : Vec Instr Global) → new.items ≡ old.items ++ instr ∷ [] → Precedes instr (tail.Open old end) (tail.Open new end)
precedes_open instr end old new is some least far m next run means all x =
    let behind = means all x in
    let serves : Serves all statement_worth end (instr ∷ reverse old.items) m statement_worth =
    record { runs = (next, statement_worth, instr_left (omega arith) run, behind.runs); jumps = jumps_behind all statement_worth instr (reverse old.items) end behind.jumps }
    in
    subst (λ (list : List Instr). Serves all statement_worth end list m statement_worth) (sym (ap reverse is ∙ reverse-append old.items (instr ∷ []))) serves

-- an instruction that writes what is there
same_hidden : (hidden : ℕ → ℕ) (j : ℕ) → with_hidden hidden 0 (hidden 0) j ≡ hidden j
same_hidden hidden zero = refl
same_hidden hidden (suc j) = let other : (suc j == 0) ≡ false = grind (arith, nat_tests) in ap (λ b. if b then hidden 0 else hidden (suc j)) other

idle_runs : (m : Meaning) (worth : ℕ) → statement_worth ≤ worth → InstrRuns (Move (cell.Hidden 0) (cell.Hidden 0)) m m worth (worth - move_cost)
unfolding instr_does instr_cost
idle_runs m worth enough = record {
  stands = m;
  leads = λ h. leads_none refl;
  affords = omega (arith, enough);
  does = λ c words tables s. record {
    count = 0;
    steps = ap (λ (hidden : ℕ → ℕ). let now : Cells = record s { hidden = hidden } in unchanged tables (chain_at words now false (m hidden))) (fun_ext (same_hidden s.hidden));
    paid = omega (arith, enough);
  };
}

pub closes_to : (to : ℕ) (b : Block) → b.instrs ≡ Move (cell.Hidden 0) (cell.Hidden 0) ∷ [] → b.end ≡ Jump to → Closes (tail.To to) b
closes_to to b is ends all m worth enough t =
    let serves : Serves all worth (Jump to) (Move (cell.Hidden 0) (cell.Hidden 0) ∷ []) m worth = record {
      runs = (m, worth - move_cost, idle_runs m worth enough, jump_runs all to 1 (worth - move_cost) m t.1 (omega (arith, enough)) (omega (arith, enough, t.0)));
      jumps = jumps_to all worth to (Move (cell.Hidden 0) (cell.Hidden 0)) t.0;
    }
    in
    subst (λ (end : End). Serves all worth end b.instrs m worth) (sym ends) (subst (λ (list : List Instr). Serves all worth (Jump to) list m worth) (sym is) serves)

-- an open block does the same once its instructions stand in order
pub serves_open : (instrs : Vec Instr Global) (end : End) (b : Block) → b.instrs ≡ reverse instrs.items → b.end ≡ end → (all : List Label) (m : Meaning) (worth : ℕ) → Serves all worth end (reverse instrs.items) m worth →
    Serves all worth b.end b.instrs m worth
serves_open instrs end b is ends all m worth serves =
    subst (λ (e : End). Serves all worth e b.instrs m worth) (sym ends) (subst (λ (list : List Instr). Serves all worth end list m worth) (sym is) serves)
