-- Examples typed by hand: a command whose options stand between its words, and one without options.
use Rattle.std.proofs.Common.{arith, ◌≡◌, ℕ, List, [], ◌∷◌, refl}
use Rattle.std.specs.Prelude.{codes, Some, None}
use Rattle.std.specs.Fmt.{digits}
use Rattle.std.proofs.lemmas.List.Elements.{All-cons, All-nil}
use Rattle.redn_command.specs.declared.line.Choice.{Choice}
use Rattle.redn_command.specs.declared.line.Choice.TheVariants as choice
use Rattle.redn_command.specs.Words.{Command, Compile, Go, Fair, MessageWord, Part, AnOption, APosition, IsPart, HasSmallChain, IsCommand, line_of, most_steps}

word : ℕ → List ℕ → MessageWord
word chain hex = record { chain = chain; digits = hex }

go : Command
unfolding word
go = Go (codes "e.redn") (codes "e.img") (record { plan = Fair 100; keep = Some (codes "r"); messages = word 0 (codes "2A") ∷ [] })

position : List ℕ → Part
position word = APosition word

option : Choice → List ℕ → Part
option c value = AnOption (record { option = c; value = value })

last_part : List Part
last_part = position (codes "0=2A") ∷ []

from_record : List Part
from_record = option choice.Record (codes "r") ∷ last_part

from_image : List Part
from_image = position (codes "e.img") ∷ from_record

from_fair : List Part
from_fair = option choice.Fair (codes "100") ∷ from_image

go_parts : List Part
go_parts = position (codes "e.redn") ∷ from_fair

behind_go : List (List ℕ)
behind_go = codes "e.redn" ∷ codes "--fair" ∷ codes "100" ∷ codes "e.img" ∷ codes "--record" ∷ codes "r" ∷ codes "0=2A" ∷ []

its_words : IsCommand (codes "go" ∷ behind_go) go
unfolding word go position option last_part from_record from_image from_fair go_parts behind_go digits
its_words = record {
  behind = behind_go;
  line = line_of go_parts;
  are = refl;
  cut = record {
    parts = go_parts;
    are = refl;
    names =
        All-cons IsPart (position (codes "e.redn")) from_fair (λ e. omega arith)
        (All-cons IsPart (option choice.Fair (codes "100")) from_image (λ e. omega arith)
        (All-cons IsPart (position (codes "e.img")) from_record (λ e. omega arith)
        (All-cons IsPart (option choice.Record (codes "r")) last_part (λ e. omega arith) (All-cons IsPart (position (codes "0=2A")) [] (λ e. omega arith) (All-nil IsPart)))));
    given = λ n. refl;
    positions = refl;
  };
  means = record {
    positions = refl;
    gives = (record { schedule = refl; fair = refl; shuffle = refl; steps = refl; recorded = refl; few = omega arith }, All-cons HasSmallChain (word 0 (codes "2A")) [] (omega arith) (All-nil HasSmallChain));
  };
}

image_part : List Part
image_part = position (codes "e.img") ∷ []

compile_parts : List Part
compile_parts = position (codes "e.redn") ∷ image_part

compile_words : IsCommand (codes "compile" ∷ codes "e.redn" ∷ codes "e.img" ∷ []) (Compile (codes "e.redn") (codes "e.img"))
unfolding position image_part compile_parts
compile_words = record {
  behind = codes "e.redn" ∷ codes "e.img" ∷ [];
  line = line_of compile_parts;
  are = refl;
  cut = record { parts = compile_parts; are = refl; names = All-cons IsPart (position (codes "e.redn")) image_part (λ e. omega arith) (All-cons IsPart (position (codes "e.img")) [] (λ e. omega arith) (All-nil IsPart)); given = λ n. refl; positions = refl };
  means = record { positions = refl; gives = record { schedule = refl; fair = refl; shuffle = refl; steps = refl; recorded = refl } };
}

-- a name doesn't begin as an option does
no_option : ¬ IsPart (APosition (codes "-e"))
no_option is = is refl

-- how many steps a run may make, without a record and with one
the_limits : (most_steps None ≡ 4000000) × (most_steps (Some (codes "r")) ≡ 500000)
the_limits = (refl, refl)
