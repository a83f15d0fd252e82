-- Schedules typed by hand: the text of actions, lines, whole texts and bad lines.
use Rattle.std.proofs.Common.{◌≡◌, ℕ, List, [], ◌∷◌, refl, inl, inr, lit<}
use Rattle.std.specs.Prelude.{codes, Option, Some, None}
use Rattle.std.specs.Fmt.{digits}
use Rattle.redn_words.specs.declared.types.Action.{Action}
use Rattle.redn_words.specs.declared.types.Action.TheVariants.{Deliver, Fetch, Start, Land, Complete}
use Rattle.redn_sched.specs.declared.text.Numbered.{Numbered}
use Rattle.redn_sched.specs.ScheduleText.{action_text, lines_of, Reads}
use Rattle.redn_sched.proofs.OneReading.{one_reading}
use Rattle.redn_sched.proofs.WorkedBadLines.{a_leading_zero}

deliver : action_text (Deliver 15) ≡ codes "d 15"
unfolding action_text digits
deliver = refl

fetch : action_text (Fetch 0 1) ≡ codes "f 0 1"
unfolding action_text digits
fetch = refl

start : action_text (Start 4294967295) ≡ codes "s 4294967295"
unfolding action_text digits
start = refl

land : action_text (Land 3 18446744073709551615) ≡ codes "l 3 18446744073709551615"
unfolding action_text digits
land = refl

complete : action_text (Complete 10) ≡ codes "c 10"
unfolding action_text digits
complete = refl

no_line : lines_of [] ≡ []
no_line = refl

an_empty_line : lines_of (codes "\n") ≡ [] ∷ []
an_empty_line = refl

three_lines : List (List ℕ)
three_lines = codes "d 0" ∷ [] ∷ codes "# a" ∷ codes "s 1" ∷ []

-- the last line with its newline, and without it
ended : lines_of (codes "d 0\n\n# a\ns 1\n") ≡ three_lines
unfolding three_lines
ended = refl

not_ended : lines_of (codes "d 0\n\n# a\ns 1") ≡ three_lines
unfolding three_lines
not_ended = refl

an_empty_last_line : lines_of (codes "d 0\n\n") ≡ codes "d 0" ∷ [] ∷ []
an_empty_last_line = refl

-- ten lines, with a remark, an empty line, and no newline at the end
text : List ℕ
text = codes "d 0\n# a remark\nf 0 0\n\nf 0 1\ns 0\nl 0 0\ns 0\nl 0 1\nc 0"

its_lines : lines_of text ≡ codes "d 0" ∷ codes "# a remark" ∷ codes "f 0 0" ∷ [] ∷ codes "f 0 1" ∷ codes "s 0" ∷ codes "l 0 0" ∷ codes "s 0" ∷ codes "l 0 1" ∷ codes "c 0" ∷ []
unfolding text
its_lines = refl

at : ℕ → Action → Numbered
at n a = record { line = n; action = a }

its_actions : List Numbered
unfolding at
its_actions = at 1 (Deliver 0) ∷ at 3 (Fetch 0 0) ∷ at 5 (Fetch 0 1) ∷ at 6 (Start 0) ∷ at 7 (Land 0 0) ∷ at 8 (Start 0) ∷ at 9 (Land 0 1) ∷ at 10 (Complete 0) ∷ []

its_reading : Reads 1 (lines_of text) its_actions None
unfolding text at its_actions action_text digits
its_reading =
    inl (record { text = refl; fits = lit< tt }, refl, inr (refl, inl (record { text = refl; fits = (lit< tt, lit< tt) }, refl, inr (tt, inl (record { text = refl; fits = (lit< tt, lit< tt) }, refl, inl (record { text = refl; fits = lit< tt }, refl, inl (record { text = refl; fits = (lit< tt, lit< tt) }, refl, inl (record { text = refl; fits = lit< tt }, refl, inl (record { text = refl; fits = (lit< tt, lit< tt) }, refl, inl (record { text = refl; fits = lit< tt }, refl, tt))))))))))

-- the third line is bad, what stands behind it isn't read
broken : List ℕ
broken = codes "f 7 1\n\ns 01\ns 1\n"

its_first_bad_line : Reads 1 (lines_of broken) (at 1 (Fetch 7 1) ∷ []) (Some 3)
unfolding broken at action_text digits
its_first_bad_line = inl (record { text = refl; fits = (lit< tt, lit< tt) }, refl, inr (tt, inl (a_leading_zero, refl)))

-- and it has no other reading
no_other_reading : (xs : List Numbered) (bad : Option ℕ) → Reads 1 (lines_of broken) xs bad → bad ≡ Some 3
no_other_reading xs bad r = (one_reading 1 (lines_of broken) xs (at 1 (Fetch 7 1) ∷ []) bad (Some 3) r its_first_bad_line).1
