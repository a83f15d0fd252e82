-- A start of a queue that is there, whose head's copy is held.
use Rattle.std.proofs.Common.{◌≡◌, ℕ, ◌+◌, List, Some, refl, sym, ap}
use Rattle.std.specs.Prelude.{slice_get}
use Rattle.std.specs.FinMap.{get}
use Rattle.redn_words.specs.declared.types.Action.TheVariants.{Start}
use Rattle.redn_words.specs.Requests.{decoded}
use Rattle.redn_words.specs.States.{Queue, State}
use Rattle.redn_words.specs.Steps.{shown, class_of}
use Rattle.redn_words.proofs.Actions.{started_is, start_shows_is}
use Rattle.redn_adapter.specs.Running.{Running, next_of, started_after, started_shown}

module _ (r : Running) (q : ℕ) (u : Queue) (there : slice_get r.state.queues q ≡ Some u) (copy : List ℕ) (held : Some copy ≡ get u.held u.head) where
  pub leaves : started_after r q copy (decoded copy) (class_of (decoded copy)) ≡ next_of r (Start q)
  leaves = rw there (ap (λ (s : State). record { state = s; steps = r.steps + 1 }) (sym (started_is r.state q u there copy (sym held) (class_of (decoded copy)) refl)))

  pub shows_is : started_shown r.state q copy (decoded copy) (class_of (decoded copy)) ≡ shown r.state (Start q)
  shows_is = rw there (sym (start_shows_is r.state q u there copy (sym held)))
