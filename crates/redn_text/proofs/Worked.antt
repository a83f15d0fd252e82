-- A text cut at its newlines, and one at a separator.
use Rattle.std.proofs.Common.{◌≡◌, [], ◌∷◌, refl}
use Rattle.std.specs.Prelude.{codes}
use Rattle.redn_text.specs.Texts.{IsSplit, lines_of}

no_line : lines_of [] ≡ []
no_line = refl

each_with_its_newline : lines_of (codes "a b\n\nend\n") ≡ codes "a b\n" ∷ codes "\n" ∷ codes "end\n" ∷ []
each_with_its_newline = refl

the_last_without : lines_of (codes "a\nb") ≡ codes "a\n" ∷ codes "b" ∷ []
the_last_without = refl

at_the_first : IsSplit 61 (codes "0=a=b") (codes "0") (codes "a=b")
at_the_first = record { is = refl; first = refl }

-- the front of a split has no separator
not_at_the_second : ¬ (IsSplit 61 (codes "0=a=b") (codes "0=a") (codes "b"))
not_at_the_second = λ s. let no = s.first in absurd (cc)
