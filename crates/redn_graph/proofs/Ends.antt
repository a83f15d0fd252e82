-- What ends of blocks do for the chain, and statements that take no block.
use Rattle.std.proofs.Common.{◌≡◌, ℕ, ◌+◌, ◌*◌, ◌≤◌, Bool, true, false, if◌then◌else◌, List, [], ◌∷◌, ◌++◌, map, refl, sym, ap, ◌∙◌, subst, arith}
use Rattle.redn_kernel.specs.declared.types.Word.{Word}
use Rattle.redn_kernel.specs.declared.types.Kernel.{Kernel}
use Rattle.redn_kernel.specs.declared.types.Kernel.TheVariants as k
use Rattle.redn_kernel.specs.Source.{Item, Do, AgainLoop, AgainRepeat, item_does, statement_does, value_of, same, do_all, again, repeated, past_again}
use Rattle.redn_graph.specs.declared.types.End.TheVariants.{Jump, Reply}
use Rattle.redn_kernel.specs.CoreRun.{Cells}
use Rattle.redn_graph.specs.Run.{To, holds, goes, replies, end_does, end_cost}
use Rattle.redn_kernel.specs.Costs.{step_worth, jump_cost, test_cost, reply_cost, statement_worth}
use Rattle.redn_graph.specs.declared.build.Tail.TheVariants as tail
use Rattle.redn_graph.specs.Code.{Meaning, Label, IdleStep, Leads, EndRuns, TailRuns, Does, turn_to, meaning_at, worth_at, next_block, left_after}
use Rattle.redn_kernel.specs.CoreRun.{cell_of}
use Rattle.redn_graph.specs.Words.{test_end}
use Rattle.redn_graph.proofs.Doing.{leads_none, does_shown, does_idly, does_silently, holds_word, front_does, idle_front, doing}

-- a loop begins
pub loop_begins : (body : List Kernel) (rest : List Item) → IdleStep (Do (k.Loop body) ∷ rest) (again body rest)
unfolding statement_does
loop_begins body rest = idle_front _ _ rest (again body rest) (k.outs-Loop body) (λ c tables t. refl)

pub loop_again : (body : List Kernel) (rest : List Item) → IdleStep (AgainLoop body ∷ rest) (again body rest)
unfolding item_does
loop_again body rest c tables t = refl

pub repeat_begins : (n : ℕ) (body : List Kernel) (rest : List Item) → IdleStep (Do (k.Repeat n body) ∷ rest) (repeated n body rest)
unfolding statement_does
repeat_begins n body rest = idle_front _ _ rest (repeated n body rest) (k.outs-Repeat n body) (λ c tables t. refl)

pub breaks : (rest : List Item) → IdleStep (Do k.Break ∷ rest) (past_again rest)
unfolding statement_does
breaks rest = idle_front _ _ rest (past_again rest) k.outs-Break (λ c tables t. refl)

-- statements hold nothing that is done again
pub past_statements : (body : List Kernel) (rest : List Item) → past_again (do_all body ++ rest) ≡ past_again rest
past_statements [] rest = refl
past_statements (st ∷ body) rest = past_statements body rest

module _ (all : List Label) where
  -- idle steps are enough for a jump
  pub jump_runs : (l least worth : ℕ) (m : Meaning) → ((h : ℕ → ℕ) → Leads least (m h) (meaning_at all l h)) → jump_cost ≤ worth → jump_cost + worth_at all l ≤ worth + step_worth * least → EndRuns all (Jump l) m worth
  unfolding end_does end_cost
  jump_runs l least worth m leads affords paid = record {
    stands = m;
    taking = m;
    taking_worth = worth;
    leads = λ h. leads_none refl;
    affords = affords;
    affords_taking = affords;
    first = λ c words tables s. does_idly c words tables s refl (leads s.hidden) paid;
    second = λ c words tables s. does_idly c words tables s refl (leads s.hidden) paid;
  }

  module _ (wide : Bool) (a b : Word) (met unmet : List Kernel) (m : Meaning) (yes_block no_block : ℕ)
      (yes_runs : TailRuns all 0 statement_worth (tail.To yes_block) (λ h. do_all met ++ m h))
      (no_runs : TailRuns all 0 statement_worth (tail.To no_block) (λ h. do_all unmet ++ m h)) where
    abbrev branch : Kernel
    branch = k.If wide a b met unmet

    chosen_leads : (chosen : Bool) (h : ℕ → ℕ) → Leads 0 (do_all (if chosen then met else unmet) ++ m h) (meaning_at all (if chosen then yes_block else no_block) h)
    chosen_leads true h = yes_runs.1 h
    chosen_leads false h = no_runs.1 h

    chosen_worth : (chosen : Bool) → worth_at all (if chosen then yes_block else no_block) ≤ statement_worth
    chosen_worth true = yes_runs.0
    chosen_worth false = no_runs.0

    branches : (c : ℕ) (words : List ℕ) (tables : List (List ℕ)) (s : Cells) (cost : ℕ) → cost ≤ step_worth →
        Does c words tables s (Do branch ∷ m s.hidden) (goes c words tables s (To (if same wide (value_of s.vars a) (value_of s.vars b) then yes_block else no_block)))
        (next_block all (doing branch m) (doing branch m) (doing branch m)) cost statement_worth (left_after all statement_worth statement_worth)
    unfolding statement_does
    branches c words tables s cost cheap =
        let chosen : Bool = same wide (value_of s.vars a) (value_of s.vars b) in
        does_silently c words tables s refl (front_does c words tables s _ _ (m s.hidden) (k.outs-If wide a b met unmet)) (chosen_leads chosen s.hidden) (omega (arith, cheap, chosen_worth chosen))

    abbrev tested : (c : ℕ) (words : List ℕ) (tables : List (List ℕ)) (s : Cells) (cost : ℕ) → ℕ → ℕ → Type 0
    tested c words tables s cost v w =
        Does c words tables s (Do branch ∷ m s.hidden) (goes c words tables s (To (if same wide v w then yes_block else no_block))) (next_block all (doing branch m) (doing branch m) (doing branch m)) cost statement_worth
        (left_after all statement_worth statement_worth)

    tests : (c : ℕ) (words : List ℕ) (tables : List (List ℕ)) (s : Cells) (cost : ℕ) → cost ≤ step_worth → tested c words tables s cost (holds c words tables s (cell_of a)) (holds c words tables s (cell_of b))
    tests c words tables s cost cheap =
        subst (λ (v : ℕ). tested c words tables s cost v (holds c words tables s (cell_of b))) (sym (holds_word c words tables s a))
        (subst (λ (w : ℕ). tested c words tables s cost (value_of s.vars a) w) (sym (holds_word c words tables s b)) (branches c words tables s cost cheap))

  pub branch_runs : (wide : Bool) (a b : Word) (met unmet : List Kernel) (m : Meaning) (yes_block no_block : ℕ) →
      TailRuns all 0 statement_worth (tail.To yes_block) (λ h. do_all met ++ m h) →
      TailRuns all 0 statement_worth (tail.To no_block) (λ h. do_all unmet ++ m h) →
      EndRuns all (test_end wide (cell_of a) (cell_of b) yes_block no_block) (doing (k.If wide a b met unmet) m) statement_worth
  unfolding end_does end_cost
  branch_runs true a b met unmet m yes_block no_block yes_runs no_runs =
      let stands : Meaning = doing (k.If true a b met unmet) m in
      record {
        stands = stands;
        taking = stands;
        taking_worth = statement_worth;
        leads = λ h. leads_none refl;
        affords = omega arith;
        affords_taking = omega arith;
        first = λ c words tables s. tests true a b met unmet m yes_block no_block yes_runs no_runs c words tables s (test_cost true) (omega arith);
        second = λ c words tables s. tests true a b met unmet m yes_block no_block yes_runs no_runs c words tables s (test_cost true) (omega arith);
      }
  branch_runs false a b met unmet m yes_block no_block yes_runs no_runs =
      let stands : Meaning = doing (k.If false a b met unmet) m in
      record {
        stands = stands;
        taking = stands;
        taking_worth = statement_worth;
        leads = λ h. leads_none refl;
        affords = omega arith;
        affords_taking = omega arith;
        first = λ c words tables s. tests false a b met unmet m yes_block no_block yes_runs no_runs c words tables s (test_cost false) (omega arith);
        second = λ c words tables s. tests false a b met unmet m yes_block no_block yes_runs no_runs c words tables s (test_cost false) (omega arith);
      }

  holds_words : (c : ℕ) (words : List ℕ) (tables : List (List ℕ)) (s : Cells) (list : List Word) → map (holds c words tables s) (map cell_of list) ≡ map (value_of s.vars) list
  holds_words c words tables s [] = refl
  holds_words c words tables s (w ∷ list) = ap (λ (v : ℕ). v ∷ map (holds c words tables s) (map cell_of list)) (holds_word c words tables s w) ∙ ap (λ (vs : List ℕ). value_of s.vars w ∷ vs) (holds_words c words tables s list)

  pub reply_runs : (list : List Word) (m : Meaning) → EndRuns all (Reply (map cell_of list)) (doing (k.Reply list) m) statement_worth
  unfolding end_does end_cost statement_does
  reply_runs list m =
      let st = k.Reply list in
      let stands : Meaning = doing st m in
      let does : (c : ℕ) (words : List ℕ) (tables : List (List ℕ)) (s : Cells) → Does c words tables s (stands s.hidden) (replies c words tables s (map (holds c words tables s) (map cell_of list))) (next_block all stands stands stands)
      (reply_cost 8) statement_worth (left_after all statement_worth statement_worth) =
      λ c words tables s.
      does_shown c words tables s
      (ap (λ (vs : List ℕ). turn_to words (next_block all stands stands stands) (replies c words tables s vs)) (holds_words c words tables s list) ∙ sym (front_does c words tables s _ _ (m s.hidden) (k.outs-Reply list)))
      (omega arith)
      in
      record {
        stands = stands;
        taking = stands;
        taking_worth = statement_worth;
        leads = λ h. leads_none refl;
        affords = omega arith;
        affords_taking = omega arith;
        first = does;
        second = does;
      }
