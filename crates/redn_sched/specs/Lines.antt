-- What is known of a line that was read.
use Rattle.std.specs.Prelude.{◌≡◌, ℕ, Bool, true, not, ◌==◌, List, ◌∷◌, ◌++◌}
use Rattle.std.specs.List.{list_all}
use Rattle.redn_words.specs.declared.types.Action.{Action}
use Rattle.redn_sched.specs.declared.line.Line.{Line}
use Rattle.redn_sched.specs.declared.line.Line.TheVariants as line

abbrev pub OnSkipped : Line → Type 0 → Type 0
OnSkipped line.Skipped P = P
OnSkipped (line.Action a) P = Unit {0}
OnSkipped line.Bad P = Unit {0}

abbrev pub IfAction : Line → (Action → Type 0) → Type 0
IfAction line.Skipped P = Unit {0}
IfAction (line.Action a) P = P a
IfAction line.Bad P = Unit {0}

abbrev pub OnBad : Line → Type 0 → Type 0
OnBad line.Skipped P = Unit {0}
OnBad (line.Action a) P = Unit {0}
OnBad line.Bad P = P
