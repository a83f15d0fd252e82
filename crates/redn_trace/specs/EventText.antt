-- The line of an event.
use Rattle.std.specs.Prelude.{ℕ, ◌≤◌, List, [], ◌∷◌, ◌++◌, take, codes, decimal}
use Rattle.std.specs.List.{flat_map}
use Rattle.redn_words.specs.declared.types.Action.{Action}
use Rattle.redn_words.specs.declared.types.Obs.{Obs}
use Rattle.redn_words.specs.States.{State}
use Rattle.redn_words.specs.Steps.{shown}
use Rattle.redn_words.specs.declared.types.Obs.TheVariants as shows

-- a number after a space
abbrev pub field : ℕ → List ℕ
field n = codes " " ++ decimal n

-- a word and numbers, ended by a newline
abbrev pub line : List ℕ → List ℕ → List ℕ
line word numbers = word ++ flat_map field numbers ++ codes "\n"

-- the line that an event prints; no event prints nothing
unfoldable pub event_text : Obs → List ℕ
event_text shows.Nothing = []
event_text (shows.Set c x w) = line (codes "set") (c ∷ x ∷ w ∷ [])
event_text (shows.Load c x t o w) = line (codes "load") (c ∷ x ∷ t ∷ o ∷ w ∷ [])
event_text (shows.Look c t o w) = line (codes "look") (c ∷ t ∷ o ∷ w ∷ [])
event_text (shows.Store c t o w) = line (codes "store") (c ∷ t ∷ o ∷ w ∷ [])
event_text (shows.Reply c n words) = line (codes "reply") (c ∷ take n words)
event_text (shows.Fault c t o) = line (codes "fault") (c ∷ t ∷ o ∷ [])
event_text (shows.Stale q i) = line (codes "stale") (q ∷ i ∷ [])
event_text (shows.Undefined q i) = line (codes "undefined") (q ∷ i ∷ [])
event_text (shows.Refused q i) = line (codes "refused") (q ∷ i ∷ [])
event_text (shows.Odd q i) = line (codes "odd") (q ∷ i ∷ [])

-- a reply has at most eight words
abbrev pub IsPrintable : Obs → Type 0
IsPrintable (shows.Reply c n words) = n ≤ 8
IsPrintable _ = Unit {0}

-- an event in a table
abbrev pub IsOfTable : Obs → Type 0
IsOfTable (shows.Load c x t o w) = Unit {0}
IsOfTable (shows.Look c t o w) = Unit {0}
IsOfTable (shows.Store c t o w) = Unit {0}
IsOfTable (shows.Fault c t o) = Unit {0}
IsOfTable _ = ⊥

-- whatever an action shows, in whatever state, has a line
abbrev pub EachEventHasALine : Type 0
EachEventHasALine = (s : State) (a : Action) → IsPrintable (shown s a)
