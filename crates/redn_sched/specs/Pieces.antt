-- A schedule's text that is read in pieces.
use Rattle.std.specs.Prelude.{◌≡◌, ◌⊎◌, ℕ, ◌+◌, true, List, [], ◌∷◌, ◌++◌, length, take, Option, Some, None}
use Rattle.std.specs.List.{list_all}
use Rattle.redn_sched.specs.declared.text.Numbered.{Numbered}
use Rattle.redn_sched.specs.declared.reader.Got.{Got}
use Rattle.redn_sched.specs.declared.reader.Got.TheVariants.{More, Action as AnAction, Bad}
use Rattle.redn_sched.specs.declared.reader.TheConstants.{HELD}
use Rattle.redn_sched.specs.declared.reader.ScheduleReader.TheInside.{Inside}
use Rattle.redn_sched.specs.ScheduleText.{IsSkipped, IsAction, IsBad, lines_after, Reads, Begins}
use Rattle.redn_text.specs.Texts.{IsSplit, is_no_newline}

-- a reader between two pieces: how many lines it took, what it holds of the next one, and the bad line that it met
pub record Reader : Type 0 where
  pub lines : ℕ
  pub held : List ℕ
  pub bad : Option ℕ

abbrev pub first_reader : Reader
first_reader = record { lines = 0; held = []; bad = None }

-- what is held of a line: of one that is longer than any action's the first bytes tell whether it is a remark
abbrev pub held_of : List ℕ → List ℕ
held_of line = take HELD line

-- what a reader still reads where this text follows
abbrev pub ReadsOn : Option ℕ → ℕ → List (List ℕ) → List Numbered → Option ℕ → Type 0
ReadsOn None n lines xs bad = Reads n lines xs bad
ReadsOn (Some m) n lines xs bad = (xs ≡ []) × (bad ≡ Some m)

abbrev pub StillReads : Reader → List ℕ → List Numbered → Option ℕ → Type 0
StillReads r text xs bad = ReadsOn r.bad (r.lines + 1) (lines_after r.held text) xs bad

-- what it still reads begins with these actions
abbrev pub BeginsOn : Option ℕ → ℕ → List (List ℕ) → List Numbered → Type 0
BeginsOn None n lines xs = Begins n lines xs
BeginsOn (Some m) n lines xs = xs ≡ []

abbrev pub StillBegins : Reader → List ℕ → List Numbered → Type 0
StillBegins r text xs = BeginsOn r.bad (r.lines + 1) (lines_after r.held text) xs

-- what an answer gives: an action, a bad line
abbrev pub actions_got : Got → List Numbered
actions_got More = []
actions_got (AnAction line action) = record { line = line; action = action } ∷ []
actions_got (Bad line) = []

abbrev pub bad_got : Got → Option ℕ
bad_got More = None
bad_got (AnAction line action) = None
bad_got (Bad line) = Some line

-- after one more line
abbrev pub behind_line : Reader → Option ℕ → Reader
behind_line r bad = record { lines = r.lines + 1; held = []; bad = bad }

-- a line was taken: what is told of it, and the reader behind it
abbrev pub Takes : Reader → List ℕ → Got → Reader → Type 0
Takes r line More now = IsSkipped line × (now ≡ behind_line r None)
Takes r line (AnAction n a) now = IsAction line a × (n ≡ r.lines + 1) × (now ≡ behind_line r None)
Takes r line (Bad n) now = IsBad line × (n ≡ r.lines + 1) × (now ≡ behind_line r (Some n))

-- a piece has no newline and is taken whole
pub record TakesWhole (r : Reader) (piece : List ℕ) (taken : ℕ) (got : Got) (now : Reader) : Type 0 where
  pub one_line : list_all is_no_newline piece ≡ true
  pub taken_is : taken ≡ length piece
  pub got_is : got ≡ More
  pub now_is : now ≡ record r { held = held_of (r.held ++ piece) }

-- a piece is taken up to and with its first newline
pub record TakesLine (r : Reader) (piece : List ℕ) (taken : ℕ) (got : Got) (now : Reader) : Type 0 where
  pub front : List ℕ
  pub behind : List ℕ
  pub split : IsSplit 10 piece front behind
  pub taken_is : taken ≡ length front + 1
  pub takes : Takes r (r.held ++ front) got now

-- once it met a bad line a reader takes nothing
pub record TakesNothing (r : Reader) (n taken : ℕ) (got : Got) (now : Reader) : Type 0 where
  pub taken_is : taken ≡ 0
  pub got_is : got ≡ Bad n
  pub now_is : now ≡ r

-- how much is taken of a piece, what is told, and the reader behind it
abbrev pub FedBy : Option ℕ → Reader → List ℕ → ℕ → Got → Reader → Type 0
FedBy None r piece taken got now = TakesWhole r piece taken got now ⊎ TakesLine r piece taken got now
FedBy (Some n) r piece taken got now = TakesNothing r n taken got now

abbrev pub IsFed : Reader → List ℕ → ℕ → Got → Reader → Type 0
IsFed r piece taken got now = FedBy r.bad r piece taken got now

-- the text ends: a line that is left is taken
abbrev pub EndsWith : List ℕ → Reader → Got → Reader → Type 0
EndsWith [] r got now = (got ≡ More) × (now ≡ r)
EndsWith (b ∷ line) r got now = Takes r (b ∷ line) got now

abbrev pub EndedBy : Option ℕ → Reader → Got → Reader → Type 0
EndedBy None r got now = EndsWith r.held r got now
EndedBy (Some n) r got now = (got ≡ Bad n) × (now ≡ r)

abbrev pub IsEnded : Reader → Got → Reader → Type 0
IsEnded r got now = EndedBy r.bad r got now

-- how the fields are seen, and what they keep
abbrev pub reader_view : Inside → Reader
reader_view a = record { lines = a.lines; held = take a.len a.held; bad = a.bad }
