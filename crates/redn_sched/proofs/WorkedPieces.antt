-- Pieces typed by hand: what is taken, what is told, and what is held of a line.
use Rattle.std.proofs.Common.{◌≡◌, ℕ, List, [], refl, inl, inr, lit<}
use Rattle.std.specs.Prelude.{codes, Option, Some, None}
use Rattle.std.specs.Fmt.{digits}
use Rattle.redn_words.specs.declared.types.Action.TheVariants.{Fetch, Start}
use Rattle.redn_sched.specs.declared.reader.Got.TheVariants.{More, Action as AnAction, Bad}
use Rattle.redn_sched.specs.ScheduleText.{action_text, Reads, lines_of}
use Rattle.redn_sched.specs.Pieces.{Reader, first_reader, held_of, IsFed, IsEnded, StillReads}
use Rattle.redn_sched.proofs.WorkedBadLines.{a_leading_zero}

reader : ℕ → List ℕ → Option ℕ → Reader
reader lines held bad = record { lines = lines; held = held; bad = bad }

-- a piece that ends inside a line
inside_a_line : IsFed first_reader (codes "f 1") 3 More (reader 0 (codes "f 1") None)
unfolding reader
inside_a_line = inl (record { one_line = refl; taken_is = refl; got_is = refl; now_is = refl })

-- the rest of that line, and what stands behind it isn't taken
rest_of_the_line : IsFed (reader 0 (codes "f 1") None) (codes "2 7\ns 0\n") 4 (AnAction 1 (Fetch 12 7)) (reader 1 [] None)
unfolding reader action_text digits
rest_of_the_line = inr (record { front = codes "2 7"; behind = codes "s 0\n"; split = record { is = refl; first = refl }; taken_is = refl; takes = (record { text = refl; fits = (lit< tt, lit< tt) }, refl, refl) })

-- an empty line is skipped
an_empty_line : IsFed (reader 1 [] None) (codes "\ns 0") 1 More (reader 2 [] None)
unfolding reader
an_empty_line = inr (record { front = []; behind = codes "s 0"; split = record { is = refl; first = refl }; taken_is = refl; takes = (tt, refl) })

-- a bad line, which is told again
a_bad_line : IsFed (reader 2 (codes "s ") None) (codes "01\n") 3 (Bad 3) (reader 3 [] (Some 3))
unfolding reader
a_bad_line = inr (record { front = codes "01"; behind = []; split = record { is = refl; first = refl }; taken_is = refl; takes = (a_leading_zero, refl, refl) })

told_again : IsFed (reader 3 [] (Some 3)) (codes "s 0\n") 0 (Bad 3) (reader 3 [] (Some 3))
unfolding reader
told_again = record { taken_is = refl; got_is = refl; now_is = refl }

-- the last line lacks its newline, or nothing is left
a_last_line : IsEnded (reader 3 (codes "s 4") None) (AnAction 4 (Start 4)) (reader 4 [] None)
unfolding reader action_text digits
a_last_line = (record { text = refl; fits = lit< tt }, refl, refl)

nothing_left : IsEnded (reader 3 [] None) More (reader 3 [] None)
unfolding reader
nothing_left = (refl, refl)

-- of a long remark the first bytes are held
a_long_remark : held_of (codes "# the remark goes on for more than thirty-four bytes") ≡ codes "# the remark goes on for more than"
a_long_remark = refl

-- what is still read before the first piece is what the whole text is
from_the_start : (text : List ℕ) (bad : Option ℕ) → StillReads first_reader text [] bad ≡ Reads 1 (lines_of text) [] bad
from_the_start text bad = refl
