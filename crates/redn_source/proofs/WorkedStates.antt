-- Misfits, answers and tasks, computed.
use Rattle.std.proofs.Common.{◌≡◌, ℕ, true, false, List, [], ◌∷◌, Option, Some, None, refl}
use Rattle.std.specs.Borrow.{Bor}
use Rattle.redn_words.specs.declared.types.Obs.TheVariants as shows
use Rattle.redn_kernel.specs.declared.types.Word.TheVariants.{Var, Num}
use Rattle.redn_kernel.specs.declared.types.Kernel.{Kernel}
use Rattle.redn_kernel.specs.declared.types.Kernel.TheVariants as s
use Rattle.redn_kernel.specs.declared.types.ChainInit.{ChainInit}
use Rattle.redn_source.specs.declared.start.StartFault.TheVariants as fault
use Rattle.redn_source.specs.declared.state.SourceAnswer.TheVariants as answer
use Rattle.redn_source.specs.declared.task.Task.TheVariants as task
use Rattle.redn_kernel.specs.Source as source
use Rattle.redn_kernel.specs.Source.{ChainState, TakeArgument, Do, past_again}
use Rattle.redn_source.specs.Starting.{misfits}
use Rattle.redn_source.specs.Answered.{HasEnded, IsWaiting, answer_of}
use Rattle.redn_source.specs.Tasks.{all_items, places, need, first_need, is_again}
use Rattle.redn_kernel.proofs.Cases.{weight_of_loop, weight_of_break, weight_of_move, weight_of_if}

abbrev taking : ℕ → ChainInit
taking args = record { serve = 1; args = args; vars = 0 ∷ 0 ∷ []; body = [] }

one_byte_for_one_argument : misfits 0 (taking 1 ∷ []) (Some (42 ∷ []) ∷ []) ≡ fault.Message 0 1 8 ∷ []
one_byte_for_one_argument = refl

eight_bytes_for_one_argument : misfits 0 (taking 1 ∷ []) (Some (0 ∷ 0 ∷ 0 ∷ 0 ∷ 0 ∷ 0 ∷ 0 ∷ 42 ∷ []) ∷ []) ≡ []
eight_bytes_for_one_argument = refl

-- a chain without a message has no misfit, and the others keep their numbers
the_least_comes_first : misfits 0 (taking 2 ∷ taking 0 ∷ taking 1 ∷ []) (None ∷ Some (1 ∷ []) ∷ Some [] ∷ []) ≡ fault.Message 1 1 0 ∷ fault.Message 2 0 8 ∷ []
the_least_comes_first = refl

an_event_is_told : answer_of (shows.Fault 0 1 9) ≡ answer.Event (shows.Fault 0 1 9)
an_event_is_told = refl

a_step_that_shows_nothing_is_silent : answer_of shows.Nothing ≡ answer.Silent
a_step_that_shows_nothing_is_silent = refl

-- with a message or none, ended or not
abbrev chain : Option (List ℕ) → Option ChainState
chain message = Some (record { vars = []; message = message; items = []; ended = false })

abbrev ended_chain : Option (List ℕ) → Option ChainState
ended_chain message = Some (record { vars = []; message = message; items = []; ended = true })

without_a_message_it_waits : IsWaiting (chain None)
without_a_message_it_waits = (refl, refl)

with_an_empty_message_it_does_not : IsWaiting (chain (Some [])) → ⊥
with_an_empty_message_it_does_not h = cc

an_ended_one_does_not_wait : IsWaiting (ended_chain None) → ⊥
an_ended_one_does_not_wait h = cc

an_ended_one_has_ended : HasEnded (ended_chain None)
an_ended_one_has_ended = refl

module _ (body : Bor (List Kernel)) where
  tasks_are_items : all_items (task.Argument 1 ∷ task.Find (record { to = 2; table = 0; offset = 16; key = Num 5; left = 3 }) ∷ task.AgainRepeat 7 body ∷ [])
      ≡ TakeArgument 1 ∷ source.Find 2 0 16 (Num 5) 3 ∷ source.AgainRepeat 7 body.now ∷ []
  tasks_are_items = refl

  a_loop_is_left : past_again (all_items (task.Argument 1 ∷ task.AgainLoop body ∷ task.AgainRepeat 7 body ∷ [])) ≡ source.AgainRepeat 7 body.now ∷ []
  a_loop_is_left = refl

  a_repeat_is_done_again : is_again (task.AgainRepeat 7 body) ≡ true
  a_repeat_is_done_again = refl

  a_value_is_not : is_again (task.Take 0 1 8) ≡ false
  a_value_is_not = refl

-- loop { if x == 0 { break; } x = 1; }
places_for_two_blocks : places (s.Loop (s.If true (Var 0) (Num 0) (s.Break ∷ []) [] ∷ s.Move 0 (Num 1) ∷ []) ∷ []) ≡ 8
places_for_two_blocks = simp (weight_of_loop, weight_of_if, weight_of_break, weight_of_move) refl

nothing_needs_no_place : first_need [] ≡ 0
nothing_needs_no_place = refl

an_argument_has_its_own_place : (need (task.Argument 3) ≡ 0) × (first_need (task.Argument 3 ∷ []) ≡ 1)
an_argument_has_its_own_place = (refl, refl)
