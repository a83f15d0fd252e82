-- Images and their bytes belong to one another.
use Rattle.std.specs.Prelude.{◌≡◌, ℕ, List, None}
use Rattle.redn_image.specs.Rules.{Image}
use Rattle.redn_image.specs.Spelling.{Spells, refused}

-- bytes spell at most one image
abbrev pub OneImage : Type 0
OneImage = (b : List ℕ) (i j : Image) → Spells b i → Spells b j → i ≡ j

-- an image has one spelling
abbrev pub OneSpelling : Type 0
OneSpelling = (b c : List ℕ) (i : Image) → Spells b i → Spells c i → b ≡ c

-- bytes that spell an image are refused for no reason
abbrev pub NotRefused : Type 0
NotRefused = (b : List ℕ) (i : Image) → Spells b i → refused b ≡ None
