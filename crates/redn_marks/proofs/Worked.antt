-- Three groups of five numbers, of which two are marked.
use Rattle.std.proofs.Common.{◌≡◌, true, false, [], ◌∷◌, refl}
use Rattle.redn_marks.specs.Marks.{Marks, is_marked}
use Rattle.redn_marks.specs.Seats.{Seats, marks_of}

-- groups 0, 0, 1, 0, 2; of group 0 the numbers 3 and 0 are marked, in this order
seats : Seats
seats = record { group = 0 ∷ 0 ∷ 1 ∷ 0 ∷ 2 ∷ []; at = 1 ∷ 2 ∷ 0 ∷ 0 ∷ 0 ∷ []; lists = (3 ∷ 0 ∷ 1 ∷ []) ∷ (2 ∷ []) ∷ (4 ∷ []) ∷ []; marked = 2 ∷ 0 ∷ 0 ∷ [] }

marks : Marks
marks = record { groups = 3; group = 0 ∷ 0 ∷ 1 ∷ 0 ∷ 2 ∷ []; marked = true ∷ false ∷ false ∷ true ∷ false ∷ [] }

these_are : marks_of seats ≡ marks
unfolding seats marks
these_are = refl

marked_here : is_marked marks 0 3 ≡ true
unfolding marks
marked_here = refl

of_another_group : is_marked marks 1 3 ≡ false
unfolding marks
of_another_group = refl

unmarked : is_marked marks 0 1 ≡ false
unfolding marks
unmarked = refl

not_there : is_marked marks 0 5 ≡ false
unfolding marks
not_there = refl
