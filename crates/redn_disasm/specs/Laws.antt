-- What a text means, and what a listing is assembled to.
use Rattle.std.specs.Prelude.{◌≡◌, ◌≤◌, ℕ, List, length}
use Rattle.redn_image.specs.Rules.{Image, numbers_of}
use Rattle.redn_disasm.specs.Assembly.{Assembles, Outcome, Made}
use Rattle.redn_disasm.specs.Listing.{IsListing}

-- a text comes to one outcome
abbrev pub OneMeaning : Type 0
OneMeaning = (text : List ℕ) (a b : Outcome) → Assembles text a → Assembles text b → a ≡ b

-- the listing of an image comes to that image
abbrev pub ListingsComeBack : Type 0
ListingsComeBack = (text : List ℕ) (i : Image) → IsListing text i → Assembles text (Made (numbers_of i) i.memory)

-- and to no other
abbrev pub ListingsAreOfOne : Type 0
ListingsAreOfOne = (text : List ℕ) (i j : Image) → IsListing text i → Assembles text (Made (numbers_of j) j.memory) → j ≡ i

-- no listing is longer than 268,435,456 bytes
abbrev pub ListingsAreShort : Type 0
ListingsAreShort = (text : List ℕ) (i : Image) → IsListing text i → length text ≤ 268435456
