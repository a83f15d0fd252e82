-- A step that is possible.
use Rattle.std.proofs.Common.{◌≡◌, true, Some, ap}
use Rattle.std.specs.Option.{option_map}
use Rattle.redn_words.specs.declared.types.Action.{Action}
use Rattle.redn_words.specs.declared.types.Obs.{Obs}
use Rattle.redn_words.specs.States.{State}
use Rattle.redn_words.specs.Steps.{possible, shown, step}
use Rattle.redn_adapter.specs.Running.{Running, next_of, stepped}

pub taken_shown : (s : State) (a : Action) (o : Obs) → possible s a ≡ true → o ≡ shown s a → Some o ≡ option_map (λ (p : State × Obs). p.1) (step s a)
taken_shown s a o p e = rw p (ap Some e)

pub taken_after : (r : Running) (a : Action) (n : Running) → possible r.state a ≡ true → n ≡ next_of r a → n ≡ stepped r (step r.state a)
taken_after r a n p e = rw p e
