-- The text of a schedule.
use Rattle.std.specs.Prelude.{◌≡◌, ℕ, ◌+◌, ◌^◌, ◌<◌, ◌==◌, if◌then◌else◌, ◌⊎◌, List, [], ◌∷◌, ◌++◌, codes, decimal, Option, Some, None}
use Rattle.std.specs.List.{flat_map}
use Rattle.redn_words.specs.declared.types.Action.{Action}
use Rattle.redn_words.specs.declared.types.Action.TheVariants.{Deliver, Fetch, Start, Land, Complete}
use Rattle.redn_sched.specs.declared.text.Numbered.{Numbered}

-- two numbers with a space between
abbrev pub pair_text : ℕ → ℕ → List ℕ
pair_text q i = decimal q ++ (codes " " ++ decimal i)

-- an action's line, without its newline
unfoldable pub action_text : Action → List ℕ
action_text (Deliver c) = codes "d " ++ decimal c
action_text (Fetch q i) = codes "f " ++ pair_text q i
action_text (Start q) = codes "s " ++ decimal q
action_text (Land q i) = codes "l " ++ pair_text q i
action_text (Complete q) = codes "c " ++ decimal q

-- the numbers of an action fit their types
abbrev pub Fits : Action → Type 0
Fits (Deliver c) = c < 2 ^ 32
Fits (Fetch q i) = (q < 2 ^ 32) × (i < 2 ^ 64)
Fits (Start q) = q < 2 ^ 32
Fits (Land q i) = (q < 2 ^ 32) × (i < 2 ^ 64)
Fits (Complete q) = q < 2 ^ 32

-- a line is this action's
pub record IsAction (line : List ℕ) (a : Action) : Type 0 where
  pub text : line ≡ action_text a
  pub fits : Fits a

-- a line that means nothing: it is empty, or a remark behind `#`
abbrev pub IsSkipped : List ℕ → Type 0
IsSkipped [] = Unit {0}
IsSkipped (b ∷ rest) = b ≡ 35

-- a line that is neither
pub record IsBad (line : List ℕ) : Type 0 where
  pub meant : ¬ IsSkipped line
  pub no_action : (a : Action) → ¬ IsAction line a

-- what stands behind the last newline is a line, unless it is empty
abbrev pub last_line : List ℕ → List (List ℕ)
last_line [] = []
last_line (b ∷ line) = (b ∷ line) ∷ []

-- the lines of a text that goes on after the start of a line: it is cut at newlines
abbrev pub lines_after : List ℕ → List ℕ → List (List ℕ)
lines_after line [] = last_line line
lines_after line (b ∷ rest) = if b == 10 then line ∷ lines_after [] rest else lines_after (line ++ b ∷ []) rest

abbrev pub lines_of : List ℕ → List (List ℕ)
lines_of text = lines_after [] text

-- the lines from number n on have these actions, up to the first bad line, whose number is given, or to the end
abbrev pub Reads : ℕ → List (List ℕ) → List Numbered → Option ℕ → Type 0
Reads n [] [] None = Unit {0}
Reads n [] [] (Some m) = ⊥
Reads n [] (x ∷ xs) bad = ⊥
Reads n (line ∷ rest) [] bad = (IsBad line × (bad ≡ Some n)) ⊎ (IsSkipped line × Reads (n + 1) rest [] bad)
Reads n (line ∷ rest) (x ∷ xs) bad = (IsAction line x.action × (x.line ≡ n) × Reads (n + 1) rest xs bad) ⊎ (IsSkipped line × Reads (n + 1) rest (x ∷ xs) bad)

-- the text of actions, each on a line of its own
abbrev pub recorded : List Action → List ℕ
recorded actions = flat_map (λ a. action_text a ++ codes "\n") actions

-- actions by the numbers of their lines, from n on
abbrev pub numbered : ℕ → List Action → List Numbered
numbered n [] = []
numbered n (a ∷ actions) = record { line = n; action = a } ∷ numbered (n + 1) actions

-- the lines from number n on begin with these actions
abbrev pub Begins : ℕ → List (List ℕ) → List Numbered → Type 0
Begins n lines [] = Unit {0}
Begins n [] (x ∷ xs) = ⊥
Begins n (line ∷ rest) (x ∷ xs) = (IsAction line x.action × (x.line ≡ n) × Begins (n + 1) rest xs) ⊎ (IsSkipped line × Begins (n + 1) rest (x ∷ xs))
