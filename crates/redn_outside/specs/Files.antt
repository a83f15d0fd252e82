-- What a store holds: the bytes of files, under their names. A name is the bytes of a text.
use Rattle.std.specs.Prelude.{◌≡◌, ◌≢◌, ℕ, List, Option, is_some, map, Vec, String, string_bytes}
use Rattle.std.specs.BTreeMap.{BTreeMap}
use Rattle.std.specs.Option.{option_and_then}
use Rattle.std.specs.Ordering.{nat_cmp}
use Rattle.std.specs.Cmp.Lexicographic.{slice_cmp}
use Rattle.std.specs.FinMap as finite

abbrev pub Files : Type 0
Files = finite.FinMap (slice_cmp nat_cmp) (List ℕ)

-- the file under a name, or None
abbrev pub file_at : Files → List ℕ → Option (List ℕ)
file_at files name = finite.get files name

-- the files with these bytes under a name, and all others as they were
abbrev pub with_file : List ℕ → List ℕ → Files → Files
with_file name bytes files = finite.insert files name bytes

-- what is told of the file under a name: None where nothing is told or no such file is held
abbrev pub told_at : Option Files → List ℕ → Option (List ℕ)
told_at told name = option_and_then (λ files. file_at files name) told

-- as much is told as before, and of each other name the same
pub record OthersStay (name : List ℕ) (before now : Option Files) : Type 0 where
  pub tells : is_some now ≡ is_some before
  pub others : (other : List ℕ) → other ≢ name → told_at now other ≡ told_at before other

module _ {Y Z : Type 0} where
  -- the files in a map from texts to vectors of bytes
  abbrev pub files_in : BTreeMap (String Y) (Vec ℕ Z) → Files
  files_in m = finite.from_entries (map (λ e. (string_bytes e.0, e.1.items)) m.entries)
