-- Examples computed by the checker: what `clap` makes of words behind a verb.
use Rattle.std.proofs.Common.{◌≡◌, ℕ, List, [], ◌∷◌, refl, codes, true, false, Some, None}
use Rattle.clap.specs.Faults.{fault_of}
use Rattle.clap.specs.Simple.{matches_of}
use Rattle.clap.specs.ValueTests.{accepts}
use Rattle.clap.specs.Walk.{all_of, first_of}
use Rattle.clap.specs.declared.builder.value_parser.ValueParser.TheVariants.{Unsigned}
use Rattle.clap.specs.declared.error.kind.ErrorKind.TheVariants.{ArgumentConflict, InvalidValue, UnknownArgument}
use Rattle.clap.proofs.OnLiterals.{clap_on_literals}
use Rattle.redn_command.specs.declared.line.Choice.TheVariants as choice
use Rattle.redn_command.specs.Lines.{line_app, option_name, positions_name}

behind_go : List (List ℕ)
behind_go = codes "e.redn" ∷ codes "--fair" ∷ codes "100" ∷ codes "e.img" ∷ codes "--record" ∷ codes "r" ∷ codes "0=2A" ∷ []

no_fault : fault_of line_app behind_go ≡ []
unfolding clap_on_literals behind_go
no_fault = refl

fair : first_of (option_name choice.Fair) (matches_of line_app behind_go) ≡ Some (codes "100")
unfolding clap_on_literals behind_go
fair = refl

no_steps : first_of (option_name choice.Steps) (matches_of line_app behind_go) ≡ None
unfolding clap_on_literals behind_go
no_steps = refl

positions : all_of positions_name (matches_of line_app behind_go) ≡ Some (codes "e.redn" ∷ codes "e.img" ∷ codes "0=2A" ∷ [])
unfolding clap_on_literals behind_go
positions = refl

-- what both refuse
twice : fault_of line_app (codes "--fair" ∷ codes "1" ∷ codes "--fair" ∷ codes "1" ∷ []) ≡ ArgumentConflict ∷ []
unfolding clap_on_literals
twice = refl

unknown : fault_of line_app (codes "--fai" ∷ codes "1" ∷ []) ≡ UnknownArgument ∷ []
unfolding clap_on_literals
unknown = refl

help : fault_of line_app (codes "--help" ∷ []) ≡ UnknownArgument ∷ []
unfolding clap_on_literals
help = refl

no_value : fault_of line_app (codes "--fair" ∷ []) ≡ InvalidValue ∷ []
unfolding clap_on_literals
no_value = refl

-- what `clap` takes and no command has: these words are no parts, and the number is none of ours
attached : fault_of line_app (codes "--fair=1" ∷ []) ≡ []
unfolding clap_on_literals
attached = refl

behind_dashes : fault_of line_app (codes "--" ∷ codes "-e" ∷ []) ≡ []
unfolding clap_on_literals
behind_dashes = refl

a_dash : fault_of line_app (codes "-" ∷ []) ≡ []
unfolding clap_on_literals
a_dash = refl

empty_word : fault_of line_app ([] ∷ []) ≡ []
unfolding clap_on_literals
empty_word = refl

number : accepts false (Unsigned 0 100) (codes "+007") ≡ true
number = refl
