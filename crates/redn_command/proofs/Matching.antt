-- What `clap` makes of words that are parts.
use Rattle.std.proofs.Common.{◌≡◌, ℕ, zero, suc, ◌<◌, ◌≤◌, ◌==◌, ◌&&◌, ◌||◌, Bool, cond, true, false, true≢false, List, [], ◌∷◌, ◌++◌, length, map}
use Rattle.std.proofs.Common.{Option, Some, None, refl, sym, ap, subst, ◌∙◌, arith, append_assoc, append-nil, eq-eqb, ne_eqb, length-append, ⊎_elim}
use Rattle.std.specs.Prelude.{All, find, fold, is_some, option_and_then, slice_get, slice_index_or, unwrap_or}
use Rattle.std.specs.List.{flat_map, list_all}
use Rattle.std.specs.Option.{option_map, option_map_or, option_to_list}
use Rattle.std.specs.Str.{bytes_eq}
use Rattle.std.specs.Borrow.{Bor}
use Rattle.std.proofs.lemmas.Slice.Eq.{bytes_eq-Decides}
use Rattle.std.proofs.lemmas.List.Elements.{All-head, All-tail}
use Rattle.clap.specs.Walk.{Held, Row, Rule, Text, Waiting, Walk, all_of, arg_by_id, finished, first_of, has_row, idle, is_empty, is_pending}
use Rattle.clap.specs.Walk.{nothing_held, option, positional, pushed, rows_of, settled, settled_rows, used_by_id, walk, walked, with_default, with_values}
use Rattle.clap.specs.Walk.{without}
use Rattle.clap.specs.Simple.{HasMatchesOf, Shape, built, filled, matches_of, with_index}
use Rattle.clap.specs.Kinds.{HasKind, Kinds, or_else}
use Rattle.clap.specs.Faults.{check_fault, defaults_fault, fault_of, given_default_fault, repeat_fault, settle_fault, turn_fault, use_fault, walk_fault}
use Rattle.clap.specs.Matches.{first_value, found_of, matched_of, raw_values}
use Rattle.clap.specs.declared.error.kind.ErrorKind.TheVariants.{ArgumentConflict, OutOfMemory}
use Rattle.clap.specs.declared.builder.value_parser.Reading.TheVariants.{AsWritten}
use Rattle.clap.specs.Values.{kind_of}
use Rattle.clap.specs.declared.error.Error.{Error}
use Rattle.clap.specs.declared.parser.matches.ArgMatches.{ArgMatches}
use Rattle.clap.specs.declared.parser.matches.ValueSource.TheVariants.{CommandLine}
use Rattle.clap.proofs.FaultLemmas.{leaf_fault}
use Rattle.clap.proofs.WalkLemmas.{both, first_value-rows, raw_values-rows}
use Rattle.redn_command.specs.declared.line.Choice.{Choice}
use Rattle.redn_command.specs.declared.line.Choice.TheVariants as choice
use Rattle.redn_command.specs.Words.{IsName, option_text, Given, Part, AnOption, APosition, words_of_part, IsPart, options_in, number_of}
use Rattle.redn_command.specs.Words.{value_for, Line, line_of, IsLine, values}
use Rattle.redn_command.specs.Lines.{AreParts, GivesOnce, IsMatchOf, line_app, option_name, option_rule, positions_name, positions_rule}

-- ---- the command as it is built

abbrev top : Shape
top = (built line_app).top

abbrev rules : List Rule
rules = top.rules

abbrev an_option : Choice → Rule
an_option c = filled (option_rule (option_name c))

abbrev the_positions : Rule
the_positions = with_index 1 (filled positions_rule)

found_option : (c : Choice) → arg_by_id rules (option_name c) ≡ Some (an_option c)
found_option choice.Schedule = refl
found_option choice.Fair = refl
found_option choice.Shuffle = refl
found_option choice.Steps = refl
found_option choice.Record = refl

-- ---- the walk over the words of a part: the part before is used, and this one is next

abbrev pending_of : Option Part → Option (Text × List Text)
pending_of None = None
pending_of (Some (AnOption g)) = Some (option_name g.option, g.value ∷ [])
pending_of (Some (APosition w)) = Some (positions_name, w ∷ [])

abbrev waits_of : Option Part → Waiting
waits_of None = idle
waits_of (Some (AnOption g)) = idle
waits_of (Some (APosition w)) = positional

abbrev held_with : List Row → Option (Text × List Text) → Held
held_with rows p = record { rows = rows; pending = p; skip = 0 }

abbrev walk_with : Held → Waiting → Walk
walk_with h waiting = record { held = h; waiting = waiting; position = 1; is_trailing = false; stopped = None }

abbrev walk_at : List Row → Option Part → Walk
walk_at rows last = walk_with (held_with rows (pending_of last)) (waits_of last)

abbrev value_next : List Row → Choice → Walk
value_next rows c = walk_with (held_with rows (Some (option_name c, []))) (option (option_name c))

abbrev used_last : Option Part → List Row → List Row
used_last last rows = settled_rows rules (pending_of last) rows

-- a position takes one value at each use
never_joins : {A : Type 0} (b : Bool) (x y : A) → cond (b && false) x y ≡ y
never_joins true x y = refl
never_joins false x y = refl

position_step : (rows : List Row) (last : Option Part) (w : Text) → IsName w → walked rules [] (walk_at rows last) w ≡ walk_at (used_last last rows) (Some (APosition w))
unfolding walked
position_step rows last [] n = absurd n
position_step rows None (b ∷ rest) n = rw (ne_eqb b 45 n) (rw (ne_eqb b 45 n) refl)
position_step rows (Some (AnOption g)) (b ∷ rest) n =
    let h = held_with rows (pending_of (Some (AnOption g))) in
    rw (ne_eqb b 45 n) (rw (ne_eqb b 45 n) (ap (λ (k : Held). walk_with (pushed positions_name (b ∷ rest) k) positional) (never_joins (is_pending the_positions h.pending) h (settled rules h))))
position_step rows (Some (APosition v)) (b ∷ rest) n = rw (ne_eqb b 45 n) (rw (ne_eqb b 45 n) refl)

option_step : (rows : List Row) (last : Option Part) (c : Choice) → walked rules [] (walk_at rows last) (option_text c) ≡ value_next (used_last last rows) c
unfolding walked
option_step rows None choice.Schedule = refl
option_step rows None choice.Fair = refl
option_step rows None choice.Shuffle = refl
option_step rows None choice.Steps = refl
option_step rows None choice.Record = refl
option_step rows (Some (AnOption g)) choice.Schedule = refl
option_step rows (Some (AnOption g)) choice.Fair = refl
option_step rows (Some (AnOption g)) choice.Shuffle = refl
option_step rows (Some (AnOption g)) choice.Steps = refl
option_step rows (Some (AnOption g)) choice.Record = refl
option_step rows (Some (APosition w)) choice.Schedule = refl
option_step rows (Some (APosition w)) choice.Fair = refl
option_step rows (Some (APosition w)) choice.Shuffle = refl
option_step rows (Some (APosition w)) choice.Steps = refl
option_step rows (Some (APosition w)) choice.Record = refl

value_step : (rows : List Row) (c : Choice) (v : Text) → IsName v → walked rules [] (value_next rows c) v ≡ walk_with (held_with rows (Some (option_name c, v ∷ []))) idle
unfolding walked
value_step rows c [] n = absurd n
value_step rows choice.Schedule (b ∷ rest) n = rw (ne_eqb b 45 n) (rw (ne_eqb b 45 n) refl)
value_step rows choice.Fair (b ∷ rest) n = rw (ne_eqb b 45 n) (rw (ne_eqb b 45 n) refl)
value_step rows choice.Shuffle (b ∷ rest) n = rw (ne_eqb b 45 n) (rw (ne_eqb b 45 n) refl)
value_step rows choice.Steps (b ∷ rest) n = rw (ne_eqb b 45 n) (rw (ne_eqb b 45 n) refl)
value_step rows choice.Record (b ∷ rest) n = rw (ne_eqb b 45 n) (rw (ne_eqb b 45 n) refl)

pub walk_part : (rows : List Row) (last : Option Part) (p : Part) (rest : List Text) → IsPart p
    → fold (walked rules []) (walk_at rows last) (words_of_part p ++ rest) ≡ fold (walked rules []) (walk_at (used_last last rows) (Some p)) rest
walk_part rows last (APosition w) rest n = ap (λ (k : Walk). fold (walked rules []) k rest) (position_step rows last w n)
walk_part rows last (AnOption g) rest n =
    ap (λ (k : Walk). fold (walked rules []) k (g.value ∷ rest)) (option_step rows last g.option)
    ∙ ap (λ (k : Walk). fold (walked rules []) k rest) (value_step (used_last last rows) g.option g.value n)

-- ---- the faults of the walk: those of the uses of its parts

else_nil : (a : Kinds) → or_else a [] ≡ a
else_nil [] = refl
else_nil (k ∷ ks) = refl

else_assoc : (a b c : Kinds) → or_else (or_else a b) c ≡ or_else a (or_else b c)
else_assoc [] b c = refl
else_assoc (k ∷ ks) b c = refl

else_none : (a b : Kinds) → or_else a b ≡ [] → (a ≡ []) × (b ≡ [])
else_none [] b e = (refl, e)
else_none (k ∷ ks) b e = absurd (cc)

abbrev last_fault : Option Part → List Row → Kinds
last_fault last rows = settle_fault rules false (held_with rows (pending_of last))

position_fault : (rows : List Row) (last : Option Part) (w : Text) → IsName w → turn_fault top [] (walk_at rows last) w ≡ last_fault last rows
position_fault rows last [] n = absurd n
position_fault rows None (b ∷ rest) n = rw (ne_eqb b 45 n) (rw (ne_eqb b 45 n) refl)
position_fault rows (Some (AnOption g)) (b ∷ rest) n =
    let p = pending_of (Some (AnOption g)) in
    rw (ne_eqb b 45 n) (rw (ne_eqb b 45 n) (never_joins (is_pending the_positions p) [] (last_fault (Some (AnOption g)) rows)))
position_fault rows (Some (APosition v)) (b ∷ rest) n = rw (ne_eqb b 45 n) (rw (ne_eqb b 45 n) refl)

option_fault_is : (rows : List Row) (last : Option Part) (c : Choice) → turn_fault top [] (walk_at rows last) (option_text c) ≡ last_fault last rows
option_fault_is rows None choice.Schedule = refl
option_fault_is rows None choice.Fair = refl
option_fault_is rows None choice.Shuffle = refl
option_fault_is rows None choice.Steps = refl
option_fault_is rows None choice.Record = refl
option_fault_is rows (Some (AnOption g)) choice.Schedule = else_nil (last_fault (Some (AnOption g)) rows)
option_fault_is rows (Some (AnOption g)) choice.Fair = else_nil (last_fault (Some (AnOption g)) rows)
option_fault_is rows (Some (AnOption g)) choice.Shuffle = else_nil (last_fault (Some (AnOption g)) rows)
option_fault_is rows (Some (AnOption g)) choice.Steps = else_nil (last_fault (Some (AnOption g)) rows)
option_fault_is rows (Some (AnOption g)) choice.Record = else_nil (last_fault (Some (AnOption g)) rows)
option_fault_is rows (Some (APosition w)) choice.Schedule = refl
option_fault_is rows (Some (APosition w)) choice.Fair = refl
option_fault_is rows (Some (APosition w)) choice.Shuffle = refl
option_fault_is rows (Some (APosition w)) choice.Steps = refl
option_fault_is rows (Some (APosition w)) choice.Record = refl

value_fault_is : (rows : List Row) (c : Choice) (v : Text) → IsName v → turn_fault top [] (value_next rows c) v ≡ []
value_fault_is rows c [] n = absurd n
value_fault_is rows choice.Schedule (b ∷ rest) n = rw (ne_eqb b 45 n) (rw (ne_eqb b 45 n) refl)
value_fault_is rows choice.Fair (b ∷ rest) n = rw (ne_eqb b 45 n) (rw (ne_eqb b 45 n) refl)
value_fault_is rows choice.Shuffle (b ∷ rest) n = rw (ne_eqb b 45 n) (rw (ne_eqb b 45 n) refl)
value_fault_is rows choice.Steps (b ∷ rest) n = rw (ne_eqb b 45 n) (rw (ne_eqb b 45 n) refl)
value_fault_is rows choice.Record (b ∷ rest) n = rw (ne_eqb b 45 n) (rw (ne_eqb b 45 n) refl)

part_faults : (rows : List Row) (last : Option Part) (p : Part) (rest : List Text) → IsPart p
    → walk_fault top [] (walk_at rows last) (words_of_part p ++ rest) ≡ or_else (last_fault last rows) (walk_fault top [] (walk_at (used_last last rows) (Some p)) rest)
unfolding walk_fault
part_faults rows last (APosition w) rest n =
    ap (λ (k : Kinds). or_else k (walk_fault top [] (walked rules [] (walk_at rows last) w) rest)) (position_fault rows last w n)
    ∙ ap (λ (k : Walk). or_else (last_fault last rows) (walk_fault top [] k rest)) (position_step rows last w n)
part_faults rows last (AnOption g) rest n =
    let next = value_next (used_last last rows) g.option in
    ap (λ (k : Kinds). or_else k (walk_fault top [] (walked rules [] (walk_at rows last) (option_text g.option)) (g.value ∷ rest))) (option_fault_is rows last g.option)
    ∙ ap (λ (k : Walk). or_else (last_fault last rows) (walk_fault top [] k (g.value ∷ rest))) (option_step rows last g.option)
    ∙ ap (λ (k : Kinds). or_else (last_fault last rows) (or_else k (walk_fault top [] (walked rules [] next g.value) rest))) (value_fault_is (used_last last rows) g.option g.value n)
    ∙ ap (λ (k : Walk). or_else (last_fault last rows) (walk_fault top [] k rest)) (value_step (used_last last rows) g.option g.value n)

-- ---- all parts

abbrev end_rows : List Row → Option Part → List Part → List Row
end_rows rows last [] = rows
end_rows rows last (p ∷ parts) = end_rows (used_last last rows) (Some p) parts

abbrev end_last : Option Part → List Part → Option Part
end_last last [] = last
end_last last (p ∷ parts) = end_last (Some p) parts

abbrev use_part : List Row → Part → List Row
use_part rows p = used_last (Some p) rows

abbrev use_faults : List Row → List Part → Kinds
use_faults rows [] = []
use_faults rows (p ∷ parts) = or_else (last_fault (Some p) rows) (use_faults (use_part rows p) parts)

walk_ends : (parts : List Part) (rows : List Row) (last : Option Part) → All IsPart parts
    → fold (walked rules []) (walk_at rows last) (flat_map words_of_part parts) ≡ walk_at (end_rows rows last parts) (end_last last parts)
walk_ends [] rows last all = refl
walk_ends (p ∷ parts) rows last all =
    walk_part rows last p (flat_map words_of_part parts) (All-head IsPart p parts all) ∙ walk_ends parts (used_last last rows) (Some p) (All-tail IsPart p parts all)

rows_end : (parts : List Part) (rows : List Row) (last : Option Part) → used_last (end_last last parts) (end_rows rows last parts) ≡ fold use_part (used_last last rows) parts
rows_end [] rows last = refl
rows_end (p ∷ parts) rows last = rows_end parts (used_last last rows) (Some p)

faults_end : (parts : List Part) (rows : List Row) (last : Option Part) → All IsPart parts
    → or_else (walk_fault top [] (walk_at rows last) (flat_map words_of_part parts)) (last_fault (end_last last parts) (end_rows rows last parts))
    ≡ or_else (last_fault last rows) (use_faults (used_last last rows) parts)
unfolding walk_fault
faults_end [] rows last all = sym (else_nil (last_fault last rows))
faults_end (p ∷ parts) rows last all =
    let end = last_fault (end_last last (p ∷ parts)) (end_rows rows last (p ∷ parts)) in
    let rest = walk_fault top [] (walk_at (used_last last rows) (Some p)) (flat_map words_of_part parts) in
    ap (λ (k : Kinds). or_else k end) (part_faults rows last p (flat_map words_of_part parts) (All-head IsPart p parts all))
    ∙ else_assoc (last_fault last rows) rest end
    ∙ ap (or_else (last_fault last rows)) (faults_end parts (used_last last rows) (Some p) (All-tail IsPart p parts all))

-- ---- no argument has a default

either_way : {A : Type 0} (b : Bool) (x : A) → cond b x x ≡ x
either_way true x = refl
either_way false x = refl

none_missing : (b : Bool) (k : Kinds) → cond (b || true) [] k ≡ []
none_missing true k = refl
none_missing false k = refl

no_defaults : (rs : List Rule) → list_all (λ a. is_empty a.defaults) rs ≡ true → (rows : List Row) → defaults_fault rows rs ≡ []
unfolding defaults_fault
no_defaults [] e rows = refl
no_defaults (a ∷ rs) e rows =
    let b = both (is_empty a.defaults) (list_all (λ x. is_empty x.defaults) rs) e in
    let rest = no_defaults rs b.1 (with_default rows a) in
    rw (b.0, none_missing (has_row a.id rows) (given_default_fault a a.defaults)) rest

given_rows : (rows : List Row) → fold with_default rows rules ≡ rows
given_rows rows =
    let same = λ (id : Text). either_way (has_row id rows) rows in
    rw (same (option_name choice.Schedule), same (option_name choice.Fair), same (option_name choice.Shuffle), same (option_name choice.Steps), same (option_name choice.Record), same positions_name) refl

-- ---- the matches and their faults

module _ (words : List Text) (parts : List Part) (are : words ≡ flat_map words_of_part parts) (all : All IsPart parts) where
  walk_words : walk rules [] nothing_held words ≡ walk_at (end_rows [] None parts) (end_last None parts)
  walk_words = ap (walk rules [] nothing_held) are ∙ walk_ends parts [] None all

  pub rows_are : matches_of line_app words ≡ fold use_part [] parts
  rows_are =
      ap (λ (k : Walk). finished rules k.held) walk_words
      ∙ given_rows (used_last (end_last None parts) (end_rows [] None parts))
      ∙ rows_end parts [] None

  pub faults_are : fault_of line_app words ≡ use_faults [] parts
  faults_are =
      let last = end_last None parts in
      let rows = end_rows [] None parts in
      let walked_words = walk_fault top [] (walk_at [] None) words in
      let no_default = no_defaults rules refl (used_last last rows) in
      leaf_fault (built line_app) nothing_held words refl
      ∙ ap (λ (k : Walk). or_else walked_words (or_else (settle_fault rules false k.held) (or_else (defaults_fault (settled rules k.held).rows rules) (check_fault top (finished rules k.held) false)))) walk_words
      ∙ ap (λ (k : Kinds). or_else walked_words (or_else (last_fault last rows) (or_else k []))) no_default
      ∙ ap (or_else walked_words) (else_nil (last_fault last rows))
      ∙ ap (λ (k : List Text). or_else (walk_fault top [] (walk_at [] None) k) (last_fault last rows)) are
      ∙ faults_end parts [] None all

-- ---- rows of an id

same_id : (a b : Text) → bytes_eq a b ≡ true → a ≡ b
same_id a b e = (bytes_eq-Decides a b).0 e

id_itself : (a : Text) → bytes_eq a a ≡ true
id_itself a = (bytes_eq-Decides a a).1 refl

has_row_is : (id : Text) (rows : List Row) → has_row id rows ≡ is_some (all_of id rows)
has_row_is id [] = refl
has_row_is id (r ∷ rows) = by_test (bytes_eq r.id id) (has_row_is id rows)
  where
    by_test : (b : Bool) → has_row id rows ≡ is_some (all_of id rows)
        → (b || has_row id rows) ≡ is_some (option_map (λ (x : Row). x.values) (cond b (Some r) (find (λ (x : Row). bytes_eq x.id id) rows)))
    by_test true h = refl
    by_test false h = h

without_none : (id : Text) (rows : List Row) → has_row id rows ≡ false → without id rows ≡ rows
without_none id [] e = refl
without_none id (r ∷ rows) e = by_test (bytes_eq r.id id) e (without_none id rows)
  where
    by_test : (b : Bool) → (b || has_row id rows) ≡ false → (has_row id rows ≡ false → without id rows ≡ rows) → cond b ([] ++ rows) (r ∷ without id rows) ≡ r ∷ rows
    by_test true f h = absurd (true≢false f)
    by_test false f h = ap (λ (l : List Row). r ∷ l) (h f)

abbrev given_with : Text → List Text → List Row → List Row
given_with id vs rows = with_values id AsWritten CommandLine vs rows

-- an id gets values behind those that it has
more_of : (id : Text) (vs : List Text) (rows : List Row) → all_of id (given_with id vs rows) ≡ Some (unwrap_or (all_of id rows) [] ++ vs)
more_of id vs [] = rw (id_itself id) refl
more_of id vs (r ∷ rows) = by_test (bytes_eq r.id id) refl (more_of id vs rows)
  where
    by_test : (b : Bool) → bytes_eq r.id id ≡ b → all_of id (given_with id vs rows) ≡ Some (unwrap_or (all_of id rows) [] ++ vs)
        → all_of id (given_with id vs (r ∷ rows)) ≡ Some (unwrap_or (all_of id (r ∷ rows)) [] ++ vs)
    by_test true e h = rw e (rw e refl)
    by_test false e h = rw e (rw e h)

-- and every other id keeps its values
other_of : (id other : Text) (vs : List Text) (rows : List Row) → bytes_eq id other ≡ false → all_of other (given_with id vs rows) ≡ all_of other rows
other_of id other vs [] e = rw e refl
other_of id other vs (r ∷ rows) e = by_test (bytes_eq r.id id) refl (other_of id other vs rows e)
  where
    again : (c : Bool) → all_of other (given_with id vs rows) ≡ all_of other rows
        → option_map (λ (x : Row). x.values) (cond c (Some r) (find (λ (x : Row). bytes_eq x.id other) (given_with id vs rows)))
        ≡ option_map (λ (x : Row). x.values) (cond c (Some r) (find (λ (x : Row). bytes_eq x.id other) rows))
    again true h = refl
    again false h = h

    by_test : (b : Bool) → bytes_eq r.id id ≡ b → all_of other (given_with id vs rows) ≡ all_of other rows → all_of other (given_with id vs (r ∷ rows)) ≡ all_of other (r ∷ rows)
    by_test true f h =
        let here : bytes_eq r.id other ≡ false = ap (λ (x : Text). bytes_eq x other) (same_id r.id id f) ∙ e in
        rw f (rw here refl)
    by_test false f h = rw f (again (bytes_eq r.id other) h)

-- ---- rows tell a line on which no option stands twice

abbrev found_in : List Text → Option (List Text)
found_in [] = None
found_in (v ∷ vs) = Some (v ∷ vs)

record Tells (rows : List Row) (line : Line) : Type 0 where
  given : (c : Choice) → all_of (option_name c) rows ≡ found_in (values c line)
  positions : all_of positions_name rows ≡ found_in line.positions
  once : (c : Choice) → length (values c line) ≤ 1

abbrev part_on : Line → Part → Line
part_on line (AnOption g) = record { given = λ n. line.given n ++ value_for n g; positions = line.positions }
part_on line (APosition w) = record { given = line.given; positions = line.positions ++ w ∷ [] }

abbrev parts_on : Line → List Part → Line
parts_on line parts = record { given = λ n. line.given n ++ (line_of parts).given n; positions = line.positions ++ (line_of parts).positions }

given_on : (line : Line) (p : Part) (parts : List Part) (n : ℕ) → (parts_on (part_on line p) parts).given n ≡ (parts_on line (p ∷ parts)).given n
given_on line (AnOption g) parts n = append_assoc (line.given n) (value_for n g) ((line_of parts).given n)
given_on line (APosition w) parts n = refl

positions_on : (line : Line) (p : Part) (parts : List Part) → (parts_on (part_on line p) parts).positions ≡ (parts_on line (p ∷ parts)).positions
positions_on line (AnOption g) parts = refl
positions_on line (APosition w) parts = append_assoc line.positions (w ∷ []) (line_of parts).positions

tells_as : (rows : List Row) (a b : Line) → ((n : ℕ) → a.given n ≡ b.given n) → a.positions ≡ b.positions → Tells rows a → Tells rows b
tells_as rows a b given positions t =
    record {
      given = λ c. t.given c ∙ ap found_in (given (number_of c));
      positions = t.positions ∙ ap found_in positions;
      once = λ c. subst (λ (l : List Text). length l ≤ 1) (given (number_of c)) (t.once c);
    }

-- names of options, and the positions' name, are different ones
by_choice : (P : Choice → Type 0) → P choice.Schedule → P choice.Fair → P choice.Shuffle → P choice.Steps → P choice.Record → (c : Choice) → P c
by_choice P a b c d e choice.Schedule = a
by_choice P a b c d e choice.Fair = b
by_choice P a b c d e choice.Shuffle = c
by_choice P a b c d e choice.Steps = d
by_choice P a b c d e choice.Record = e

abbrev Agrees : Choice → Choice → Type 0
Agrees c d = bytes_eq (option_name c) (option_name d) ≡ (number_of c == number_of d)

names_agree : (c d : Choice) → Agrees c d
names_agree choice.Schedule = by_choice (Agrees choice.Schedule) refl refl refl refl refl
names_agree choice.Fair = by_choice (Agrees choice.Fair) refl refl refl refl refl
names_agree choice.Shuffle = by_choice (Agrees choice.Shuffle) refl refl refl refl refl
names_agree choice.Steps = by_choice (Agrees choice.Steps) refl refl refl refl refl
names_agree choice.Record = by_choice (Agrees choice.Record) refl refl refl refl refl

no_position : (c : Choice) → bytes_eq (option_name c) positions_name ≡ false
no_position = by_choice (λ c. bytes_eq (option_name c) positions_name ≡ false) refl refl refl refl refl

no_option : (c : Choice) → bytes_eq positions_name (option_name c) ≡ false
no_option = by_choice (λ c. bytes_eq positions_name (option_name c) ≡ false) refl refl refl refl refl

-- ---- one more part

none_found : (l : List Text) → found_in l ≡ None → l ≡ []
none_found [] e = refl
none_found (v ∷ vs) e = absurd (cc)

found_more : (o : Option (List Text)) (l vs : List Text) (v : Text) → o ≡ found_in l → Some (unwrap_or o [] ++ v ∷ vs) ≡ found_in (l ++ v ∷ vs)
found_more o [] vs v e = rw e refl
found_more o (x ∷ l) vs v e = rw e refl

option_used : (rows : List Row) (g : Given) → use_part rows (AnOption g) ≡ given_with (option_name g.option) (g.value ∷ []) (without (option_name g.option) rows)
option_used rows g = ap (λ (r : Option Rule). used_by_id r (g.value ∷ []) rows) (found_option g.option)

option_faults : (rows : List Row) (g : Given) → last_fault (Some (AnOption g)) rows ≡ repeat_fault false (option_name g.option) rows
option_faults rows g =
    ap (λ (r : Option Rule). option_map_or (λ a. use_fault false a (g.value ∷ []) rows) r []) (found_option g.option) ∙ else_nil (repeat_fault false (option_name g.option) rows)

repeat_none : (id : Text) (rows : List Row) → repeat_fault false id rows ≡ [] → has_row id rows ≡ false
repeat_none id rows e = by_test (has_row id rows) e
  where
    by_test : (b : Bool) → cond (b && true) (ArgumentConflict ∷ []) [] ≡ [] → b ≡ false
    by_test true f = absurd (cc)
    by_test false f = refl

none_repeats : (id : Text) (rows : List Row) → has_row id rows ≡ false → repeat_fault false id rows ≡ []
none_repeats id rows e = rw e refl

no_values : (rows : List Row) (line : Line) (c : Choice) → Tells rows line → has_row (option_name c) rows ≡ false → all_of (option_name c) rows ≡ None
no_values rows line c t e = by_found (all_of (option_name c) rows) (sym (has_row_is (option_name c) rows) ∙ e)
  where
    by_found : (o : Option (List Text)) → is_some o ≡ false → o ≡ None
    by_found None f = refl
    by_found (Some l) f = absurd (true≢false f)

option_told : (rows : List Row) (line : Line) (g : Given) → Tells rows line → has_row (option_name g.option) rows ≡ false → Tells (use_part rows (AnOption g)) (part_on line (AnOption g))
option_told rows line g t none =
    let name = option_name g.option in
    let now : use_part rows (AnOption g) ≡ given_with name (g.value ∷ []) rows = option_used rows g ∙ ap (given_with name (g.value ∷ [])) (without_none name rows none) in
    let first : values g.option line ≡ [] = none_found (values g.option line) (sym (t.given g.option) ∙ no_values rows line g.option t none) in
    rw now (record {
      given = λ c. more_given c (number_of g.option == number_of c) refl;
      positions = other_of name positions_name (g.value ∷ []) rows (no_position g.option) ∙ t.positions;
      once = λ c. more_once c (number_of g.option == number_of c) refl;
    })
  where
    here : has_row (option_name g.option) rows ≡ false → (c : Choice) → (number_of g.option == number_of c) ≡ true → values c line ≡ []
    here none c same =
        let names : option_name g.option ≡ option_name c = same_id (option_name g.option) (option_name c) (names_agree g.option c ∙ same) in
        none_found (values c line) (sym (t.given c) ∙ ap (λ (id : Text). all_of id rows) (sym names) ∙ no_values rows line g.option t none)

    more_given : (c : Choice) (b : Bool) → (number_of g.option == number_of c) ≡ b
        → all_of (option_name c) (given_with (option_name g.option) (g.value ∷ []) rows) ≡ found_in (values c line ++ value_for (number_of c) g)
    more_given c true same =
        let names : option_name g.option ≡ option_name c = same_id (option_name g.option) (option_name c) (names_agree g.option c ∙ same) in
        rw same (
        ap (λ (id : Text). all_of (option_name c) (given_with id (g.value ∷ []) rows)) names
        ∙ more_of (option_name c) (g.value ∷ []) rows ∙ found_more (all_of (option_name c) rows) (values c line) [] g.value (t.given c))
    more_given c false other =
        rw other (other_of (option_name g.option) (option_name c) (g.value ∷ []) rows (names_agree g.option c ∙ other) ∙ t.given c ∙ ap found_in (sym (append-nil (values c line))))

    more_once : (c : Choice) (b : Bool) → (number_of g.option == number_of c) ≡ b → length (values c line ++ value_for (number_of c) g) ≤ 1
    more_once c true same = rw (same, here none c same) (omega arith)
    more_once c false other = rw (other, append-nil (values c line)) (t.once c)

position_told : (rows : List Row) (line : Line) (w : Text) → Tells rows line → Tells (use_part rows (APosition w)) (part_on line (APosition w))
position_told rows line w t =
    record {
      given = λ c. other_of positions_name (option_name c) (w ∷ []) rows (no_option c) ∙ t.given c;
      positions = more_of positions_name (w ∷ []) rows ∙ found_more (all_of positions_name rows) line.positions [] w t.positions;
      once = t.once;
    }

part_told : (rows : List Row) (line : Line) (p : Part) → Tells rows line → last_fault (Some p) rows ≡ [] → Tells (use_part rows p) (part_on line p)
part_told rows line (AnOption g) t e = option_told rows line g t (repeat_none (option_name g.option) rows (sym (option_faults rows g) ∙ e))
part_told rows line (APosition w) t e = position_told rows line w t

-- an option that stands once isn't given before
part_passes : (rows : List Row) (line : Line) (p : Part) (parts : List Part) → Tells rows line → GivesOnce (parts_on line (p ∷ parts)) → last_fault (Some p) rows ≡ []
part_passes rows line (APosition w) parts t once = refl
part_passes rows line (AnOption g) parts t once =
    option_faults rows g ∙ none_repeats (option_name g.option) rows (has_row_is (option_name g.option) rows ∙ ap is_some (t.given g.option) ∙ by_values (values g.option line) refl)
  where
    by_values : (l : List Text) → values g.option line ≡ l → is_some (found_in l) ≡ false
    by_values [] e = refl
    by_values (v ∷ vs) e =
        let more = (line_of parts).given (number_of g.option) in
        let test : (number_of g.option == number_of g.option) ≡ true = eq-eqb (number_of g.option) (number_of g.option) refl in
        let both_times : length ((v ∷ vs) ++ (value_for (number_of g.option) g ++ more)) ≤ 1 = subst (λ (l : List Text). length (l ++ (value_for (number_of g.option) g ++ more)) ≤ 1) e (once g.option) in
        let at_all : length ((v ∷ vs) ++ (g.value ∷ more)) ≤ 1 = rw test at both_times in
        absurd (omega (arith, length-append (v ∷ vs) (g.value ∷ more)))

parts_told : (parts : List Part) (rows : List Row) (line : Line) → Tells rows line → use_faults rows parts ≡ [] → Tells (fold use_part rows parts) (parts_on line parts)
parts_told [] rows line t e = tells_as rows line (parts_on line []) (λ n. sym (append-nil (line.given n))) (sym (append-nil line.positions)) t
parts_told (p ∷ parts) rows line t e =
    let b = else_none (last_fault (Some p) rows) (use_faults (use_part rows p) parts) e in
    tells_as (fold use_part rows (p ∷ parts)) (parts_on (part_on line p) parts) (parts_on line (p ∷ parts)) (given_on line p parts) (positions_on line p parts)
    (parts_told parts (use_part rows p) (part_on line p) (part_told rows line p t b.0) b.1)

parts_pass : (parts : List Part) (rows : List Row) (line : Line) → Tells rows line → GivesOnce (parts_on line parts) → use_faults rows parts ≡ []
parts_pass [] rows line t once = refl
parts_pass (p ∷ parts) rows line t once =
    let none = part_passes rows line p parts t once in
    let next : GivesOnce (parts_on (part_on line p) parts) = λ c. subst (λ (l : List Text). length l ≤ 1) (sym (given_on line p parts (number_of c))) (once c) in
    ap (λ (k : Kinds). or_else k (use_faults (use_part rows p) parts)) none ∙ parts_pass parts (use_part rows p) (part_on line p) (part_told rows line p t none) next

abbrev no_line : Line
no_line = record { given = λ n. []; positions = [] }

nothing_told : Tells [] no_line
nothing_told = record { given = λ c. refl; positions = refl; once = λ c. omega arith }

-- ---- what the getters give

first_given : (id : Text) (rows : List Row) (l : List Text) → all_of id rows ≡ found_in l → length l ≤ 1 → option_to_list (first_of id rows) ≡ l
first_given id rows l e short = by_row (find (λ (r : Row). bytes_eq r.id id) rows) e
  where
    by_list : (o : List Text) → Some o ≡ found_in l → option_to_list (slice_get o 0) ≡ l
    by_list o f = of l f short
      where
        of : (k : List Text) → Some o ≡ found_in k → length k ≤ 1 → option_to_list (slice_get o 0) ≡ k
        of [] g s = absurd (cc)
        of (v ∷ []) g s = let same : o ≡ v ∷ [] = cc in rw same refl
        of (v ∷ x ∷ k) g s = absurd (omega arith)

    by_row : (o : Option Row) → option_map (λ (r : Row). r.values) o ≡ found_in l → option_to_list (option_and_then (λ (r : Row). slice_get r.values 0) o) ≡ l
    by_row None f = sym (none_found l (sym f))
    by_row (Some r) f = by_list r.values f

found_or_none : (l : List Text) → unwrap_or (found_in l) [] ≡ l
found_or_none [] = refl
found_or_none (v ∷ vs) = refl

pub match_of_parts : (words : List Text) (parts : List Part) (m : ArgMatches) → AreParts words parts → fault_of line_app words ≡ [] → HasMatchesOf line_app words m → IsMatchOf (line_of parts) m
match_of_parts words parts m a passed h =
    let t = parts_told parts [] no_line nothing_told (sym (faults_are words parts a.are a.names) ∙ passed) in
    let rows : rows_of (found_of m) ≡ fold use_part [] parts = (h refl).0 ∙ rows_are words parts a.are a.names in
    record {
      given = λ c. ap option_to_list (first_value-rows (found_of m) (option_name c)) ∙ ap (λ (r : List Row). option_to_list (first_of (option_name c) r)) rows
          ∙ first_given (option_name c) (fold use_part [] parts) (values c (line_of parts)) (t.given c) (t.once c);
      positions = ap (λ (o : Option (List Text)). unwrap_or o []) (raw_values-rows (found_of m) positions_name ∙ ap (all_of positions_name) rows ∙ t.positions)
          ∙ found_or_none (line_of parts).positions;
    }

pub parts_fault : (words : List Text) (parts : List Part) → AreParts words parts → GivesOnce (line_of parts) → fault_of line_app words ≡ []
parts_fault words parts a once = faults_are words parts a.are a.names ∙ parts_pass parts [] no_line nothing_told once

pub memory_only : (kinds : Kinds) (e : Error) → kinds ≡ [] → HasKind kinds e → kind_of e ≡ OutOfMemory
memory_only [] e none h = ⊎_elim (λ m. m) (λ other. absurd other) h
memory_only (k ∷ kinds) e none h = absurd (cc)

-- ---- the line of the matches

number_small : (c : Choice) → number_of c < 5
number_small = by_choice (λ c. number_of c < 5) (omega arith) (omega arith) (omega arith) (omega arith) (omega arith)

none_beyond : (n : ℕ) → 5 ≤ n → (gs : List Given) → flat_map (value_for n) gs ≡ []
none_beyond n far [] = refl
none_beyond n far (g ∷ gs) =
    let other : (number_of g.option == n) ≡ false = ne_eqb (number_of g.option) n (λ e. omega (arith, number_small g.option, far, e)) in
    rw other (none_beyond n far gs)

pub line_of_match : (words : List Text) (parts : List Part) (m : ArgMatches) (a b c d e : Option Text) (ps : List Text) → AreParts words parts → IsMatchOf (line_of parts) m
    → a ≡ first_value (found_of m) (option_name choice.Schedule) → b ≡ first_value (found_of m) (option_name choice.Fair) → c ≡ first_value (found_of m) (option_name choice.Shuffle)
    → d ≡ first_value (found_of m) (option_name choice.Steps) → e ≡ first_value (found_of m) (option_name choice.Record)
    → ps ≡ unwrap_or (option_map raw_values (matched_of (found_of m) positions_name)) []
    → IsLine words (record { given = λ n. option_to_list (slice_index_or (a ∷ b ∷ c ∷ d ∷ e ∷ []) n None); positions = ps })
line_of_match words parts m a b c d e ps are h is_a is_b is_c is_d is_e is_ps =
    record { parts = parts; are = are.are; names = are.names; given = given; positions = is_ps ∙ h.positions }
  where
    given : (n : ℕ) → option_to_list (slice_index_or (a ∷ b ∷ c ∷ d ∷ e ∷ []) n None) ≡ (line_of parts).given n
    given zero = ap option_to_list is_a ∙ h.given choice.Schedule
    given (suc zero) = ap option_to_list is_b ∙ h.given choice.Fair
    given (suc (suc zero)) = ap option_to_list is_c ∙ h.given choice.Shuffle
    given (suc (suc (suc zero))) = ap option_to_list is_d ∙ h.given choice.Steps
    given (suc (suc (suc (suc zero)))) = ap option_to_list is_e ∙ h.given choice.Record
    given (suc (suc (suc (suc (suc k))))) = sym (none_beyond (suc (suc (suc (suc (suc k))))) (omega arith) (flat_map options_in parts))

pub positions_are : (o : Option (Bor (List (Bor Text)))) (none : Bor (List (Bor Text))) → none.now ≡ []
    → map (λ s. s.now) (unwrap_or o none).now ≡ unwrap_or (option_map (λ s. map (λ v. v.now) s.now) o) []
positions_are None none e = ap (map (λ s. s.now)) e
positions_are (Some s) none e = refl
