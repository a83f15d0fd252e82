-- Texts cut at separators and at newlines.
use Rattle.std.specs.Prelude.{◌≡◌, ℕ, Bool, true, not, ◌==◌, if◌then◌else◌, List, [], ◌∷◌, ◌++◌}
use Rattle.std.specs.List.{list_all}

-- the byte isn't the separator
abbrev pub is_not : ℕ → ℕ → Bool
is_not separator b = not (b == separator)

-- the text before its first separator, and behind it
pub record IsSplit (separator : ℕ) (text front behind : List ℕ) : Type 0 where
  pub is : text ≡ front ++ separator ∷ behind
  pub first : list_all (is_not separator) front ≡ true

abbrev pub is_no_newline : ℕ → Bool
is_no_newline b = is_not 10 b

-- A text is cut behind each newline. What stands behind the last one is a line too, unless it is empty.
abbrev pub last_line : List ℕ → List (List ℕ)
last_line [] = []
last_line (b ∷ line) = (b ∷ line) ∷ []

abbrev pub lines_after : List ℕ → List ℕ → List (List ℕ)
lines_after line [] = last_line line
lines_after line (b ∷ rest) = if b == 10 then (line ++ b ∷ []) ∷ lines_after [] rest else lines_after (line ++ b ∷ []) rest

-- each with its newline
abbrev pub lines_of : List ℕ → List (List ℕ)
lines_of text = lines_after [] text
