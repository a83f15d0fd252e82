-- What core statements show under feeds, computed; a move is a move, and a loop around nothing is no lookup.
use Rattle.std.proofs.Common.{◌≡◌, ℕ, inr, false, List, [], ◌∷◌, refl, sym, ap, ◌∙◌, subst, arith}
use Rattle.redn_words.specs.declared.types.Obs.TheVariants as shows
use Rattle.redn_words.specs.Words.{number, spelled}
use Rattle.redn_kernel.specs.declared.types.Word.TheVariants as word
use Rattle.redn_kernel.specs.declared.types.Cell.TheVariants.{Var, Num}
use Rattle.redn_kernel.specs.declared.types.Kernel.TheVariants as k
use Rattle.redn_kernel.specs.declared.types.Core.{out-Core}
use Rattle.redn_kernel.specs.declared.types.Core.TheVariants as s
use Rattle.redn_kernel.specs.declared.types.Core.TheOpen.{Core-F}
use Rattle.redn_kernel.specs.declared.types.Core.TheBlock.{shown-the_row-Core-0}
use denote.Hole.Carrier as carrier
use Rattle.redn_kernel.specs.Source as source
use Rattle.redn_kernel.specs.Source.{Find, item_does, statement_does}
use Rattle.redn_kernel.specs.CoreRun.{Cells, CoreTurn, Do, Again, core_does, core_item_does}
use Rattle.redn_kernel.specs.Feeds.{Feed, seen_then, chain_after, chain_seen, cores_along, cores_seen}
use Rattle.redn_kernel.specs.Becomes.{Becomes, chain_at, cores_at}
use Rattle.redn_kernel.specs.Composes.{Composes, First, DoesHere, core_cost, begins_block}
use Rattle.redn_kernel.specs.Costs.{statement_worth}
use Rattle.redn_kernel.proofs.CoreRuns.{front_core, front_statement}
use Rattle.redn_kernel.proofs.Composing.{pays_one}
use Rattle.redn_kernel.proofs.Becoming.{becomes}
use Rattle.redn_kernel.proofs.WorkedCores.{words_of, before}

-- variable 0, which holds 1
abbrev cells : Cells
cells = record { vars = 1 ∷ []; hidden = λ k. 0 }

abbrev two_contents : Feed
two_contents = words_of (5 ∷ 50 ∷ []) ∷ words_of (5 ∷ 60 ∷ []) ∷ []

-- the table changes between the look and the load
a_probe_sees_each_content : cores_seen 0 [] two_contents (before (1 ∷ []) (s.Probe (Var 0) 0 (Num 0) (Num 5) [] [] ∷ []))
    ≡ (record { tables = words_of (5 ∷ 50 ∷ []); event = shows.Look 0 0 0 5 }) ∷ (record { tables = words_of (5 ∷ 60 ∷ []); event = shows.Load 0 0 0 8 60 }) ∷ []
unfolding core_does core_item_does number spelled out-Core carrier.out shown-the_row-Core-0 carrier.shown carrier.hidden
a_probe_sees_each_content = refl

and_leaves_the_second : (cores_along 0 [] two_contents (before (1 ∷ []) (s.Probe (Var 0) 0 (Num 0) (Num 5) [] [] ∷ []))).cells.vars ≡ 60 ∷ []
unfolding core_does core_item_does number spelled out-Core carrier.out shown-the_row-Core-0 carrier.shown carrier.hidden
and_leaves_the_second = refl

-- so does a bucket of the source, behind the silent step of its statement
a_bucket_sees_each_content : chain_seen 0 two_contents (chain_at [] cells false (Find 0 0 0 (word.Num 5) 1 ∷ []))
    ≡ (record { tables = words_of (5 ∷ 50 ∷ []); event = shows.Look 0 0 0 5 }) ∷ (record { tables = words_of (5 ∷ 60 ∷ []); event = shows.Load 0 0 0 8 60 }) ∷ []
unfolding item_does number spelled
a_bucket_sees_each_content = refl

and_is_done : (chain_after 0 two_contents (chain_at [] cells false (Find 0 0 0 (word.Num 5) 1 ∷ []))).items ≡ []
unfolding item_does number spelled
and_is_done = refl

-- x = 5 as core statements
a_move_composes : Composes (k.Move 0 (word.Num 5)) (s.Move (Var 0) (Num 5) ∷ [])
unfolding First core_does core_cost statement_does begins_block
a_move_composes =
    let here = λ (h : ℕ → ℕ). source.Do (k.Move 0 (word.Num 5)) ∷ [] in
    let done = λ (h : ℕ → ℕ). ([]) in
    record {
      begins = ap begins_block (s.outs-Move (Var 0) (Num 5));
      depth = 2;
      does = subst (λ (layer : Core-F _). First (DoesHere 1) (record { cores = s.Move (Var 0) (Num 5) ∷ []; here = here; behind = done; out = done; worth = statement_worth }) layer []) (sym (s.outs-Move (Var 0) (Num 5)))
          (record {
            next = done;
            left = 267;
            affords = omega arith;
            pays = λ c words tables s more. pays_one c words tables s more (front_statement c words tables s _ _ more (k.outs-Move 0 (word.Num 5))) (omega arith);
            onward = inr (omega arith);
            rest_holds = (omega arith, λ h. refl);
          });
    }

a_move_is_a_move : Becomes (k.Move 0 (word.Num 5)) (s.Move (Var 0) (Num 5) ∷ [])
a_move_is_a_move = becomes _ _ a_move_composes

-- a loop around nothing goes round for ever and shows nothing
module _ (c : ℕ) (words : List ℕ) where
  goes_round : (feed : Feed) → cores_seen c words feed (cores_at cells (Again [] ∷ [])) ≡ []
  unfolding core_item_does
  goes_round [] = refl
  goes_round (tables ∷ feed) = goes_round feed

  shows_nothing : (feed : Feed) → cores_seen c words feed (cores_at cells (Do (s.Loop []) ∷ [])) ≡ []
  unfolding core_does
  shows_nothing [] = refl
  shows_nothing (tables ∷ feed) =
      ap (λ (turn : CoreTurn). seen_then tables turn.event (cores_seen c words feed turn.state)) (front_core c words tables cells _ _ [] (s.outs-Loop []))
      ∙ goes_round feed

a_lookup_shows_a_look : chain_seen 0 two_contents (chain_at [] cells false (source.Do (k.Lookup 0 0 (word.Num 0) (word.Num 7) 1) ∷ [])) ≡ (record { tables = words_of (5 ∷ 60 ∷ []); event = shows.Look 0 0 0 5 }) ∷ []
unfolding item_does number spelled statement_does
a_lookup_shows_a_look =
    ap (λ (turn : source.Turn). seen_then (words_of (5 ∷ 50 ∷ [])) turn.event (chain_seen 0 (words_of (5 ∷ 60 ∷ []) ∷ []) turn.chain))
    (front_statement 0 [] (words_of (5 ∷ 50 ∷ [])) cells _ _ [] (k.outs-Lookup 0 0 (word.Num 0) (word.Num 7) 1))

-- so it is no lookup
a_loop_around_nothing_is_no_lookup : Becomes (k.Lookup 0 0 (word.Num 0) (word.Num 7) 1) (s.Loop [] ∷ []) → ⊥
a_loop_around_nothing_is_no_lookup b =
    let answer = b.cores_follow 0 [] cells two_contents in
    let none = sym (shows_nothing 0 [] answer.0) ∙ answer.1 ∙ a_lookup_shows_a_look in
    absurd (cc none)
