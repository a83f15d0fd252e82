-- Arguments that are to be taken, and their words.
use Rattle.std.proofs.Common.{◌≡◌, ℕ, zero, suc, ◌+◌, ◌-◌, ◌*◌, ◌<◌, ◌≤◌, List, [], ◌∷◌, ◌++◌, length, refl, sym, ap, ◌∙◌, arith, add-one}
use Rattle.std.specs.Prelude.{Option, Some, None, IfSome}
use Rattle.std.specs.VecDeque.{deque_capacity}
use Rattle.redn_words.proofs.Arguments.{length-argument_words}
use Rattle.redn_source.specs.declared.run.Run.{Run}
use Rattle.redn_kernel.specs.Source.{ChainState, Item, TakeArgument, take_arguments, message_words}
use Rattle.redn_source.specs.Tasks.{all_items}
use Rattle.redn_source.specs.RunView.{run_view, words_of, IsRun, HasRoom}

with_items : ChainState → List Item → ChainState
with_items t items = record t { items = items }

-- of so many arguments those from i on are to be taken first
pub record IsPut (old r : Run) (count i : ℕ) : Type 0 where
  pub keeps : IsRun r
  pub room : HasRoom r i
  pub view : run_view r ≡ record (run_view old) { items = take_arguments i (count - i) ++ all_items old.tasks.items }

one_more : (count i : ℕ) → 0 < i → i ≤ count → TakeArgument (i - 1) ∷ take_arguments i (count - i) ≡ take_arguments (i - 1) (count - (i - 1))
one_more count i some few =
    let next : count - (i - 1) ≡ suc (count - i) = omega arith in
    let same : i ≡ i - 1 + 1 = omega arith in
    ap (λ j. TakeArgument (i - 1) ∷ take_arguments j (count - i)) same ∙ sym (ap (take_arguments (i - 1)) next)

pub put_next : (old r new : Run) (count i : ℕ) → IsPut old r count i → 0 < i → i ≤ count → IsRun new → length new.tasks.items ≡ length r.tasks.items + 1 → deque_capacity new.tasks ≡ deque_capacity r.tasks →
    run_view new ≡ record (run_view r) { items = TakeArgument (i - 1) ∷ all_items r.tasks.items } → IsPut old new count (i - 1)
unfolding with_items
put_next old r new count i p some few keeps one same view =
    let before : all_items r.tasks.items ≡ take_arguments i (count - i) ++ all_items old.tasks.items = ap (λ (t : ChainState). t.items) p.view in
    let items : TakeArgument (i - 1) ∷ all_items r.tasks.items ≡ take_arguments (i - 1) (count - (i - 1)) ++ all_items old.tasks.items =
    ap (λ items. TakeArgument (i - 1) ∷ items) before ∙ ap (λ items. items ++ all_items old.tasks.items) (one_more count i some few) in
    record {
      keeps = keeps;
      room = omega (arith, one, same, p.room);
      view = view ∙ ap (λ (t : ChainState). with_items t (TakeArgument (i - 1) ∷ all_items r.tasks.items)) p.view ∙ ap (with_items (run_view old)) items;
    }

-- a message has the words of its arguments
pub enough_words : (n : ℕ) (message : Option (List ℕ)) → IfSome (message_words n message) (λ ws. n ≤ length ws)
enough_words n None = tt
enough_words n (Some bytes) = omega (arith, length-argument_words bytes 0 n)

pub enough_in : (n : ℕ) (message words : Option (List ℕ)) → words ≡ message_words n message → IfSome words (λ ws. n ≤ length ws)
enough_in n message words e = rw e (enough_words n message)
