-- Ranges of memory, by tests.
use Rattle.std.specs.Prelude.{◌≡◌, ℕ, ◌+◌, ◌≤◌, Bool, true, ◌&&◌, ◌||◌, ◌==◌, nat_le, nat_lt, List, [], ◌∷◌, map, length}
use Rattle.std.specs.List.{list_any, list_all}
use Rattle.redn_words.specs.declared.types.Region.{Region}
use Rattle.redn_words.specs.Words.{bytes_at}
use Rattle.redn_words.specs.Landings.{Place, Change, Landing}

-- whether a range has this byte
abbrev pub holds : Place → ℕ → Bool
holds place p = nat_le place.at p && nat_lt p (place.at + place.len)

abbrev pub within : List Place → ℕ → Bool
within places p = list_any (λ place. holds place p) places

abbrev pub is_apart : Place → Place → Bool
is_apart a b = nat_le (a.at + a.len) b.at || nat_le (b.at + b.len) a.at

-- each of these lies apart from each of those
abbrev pub all_apart : List Place → List Place → Bool
all_apart these those = list_all (λ a. list_all (λ b. is_apart a b) those) these

abbrev pub is_inside : Place → Place → Bool
is_inside a b = nat_le b.at a.at && nat_le (a.at + a.len) (b.at + b.len)

-- each of these lies inside one of those
abbrev pub all_inside : List Place → List Place → Bool
all_inside these those = list_all (λ a. list_any (λ b. is_inside a b) those) these

-- where a change writes
abbrev pub range_of : Change → Place
range_of c = record { at = c.at; len = length c.bytes }

abbrev pub ranges_of : List Change → List Place
ranges_of changes = map range_of changes

-- the changes lie in a memory of this size
abbrev pub Fits : ℕ → List Change → Type 0
Fits size [] = Unit {0}
Fits size (c ∷ rest) = (c.at + length c.bytes ≤ size) × Fits size rest

-- each change lies apart from those behind it
abbrev pub LieApart : List Change → Type 0
LieApart [] = Unit {0}
LieApart (c ∷ rest) = (all_apart (ranges_of rest) (range_of c ∷ []) ≡ true) × LieApart rest

-- the bytes of each change stand in memory
abbrev pub AllStand : List ℕ → List Change → Type 0
AllStand memory [] = Unit {0}
AllStand memory (c ∷ rest) = (bytes_at memory c.at (length c.bytes) ≡ c.bytes) × AllStand memory rest

-- whether a region of a domain has this byte
abbrev pub region_holds : ℕ → ℕ → Region → Bool
region_holds domain p r = r.domain == domain && holds (record { at = r.base; len = r.len }) p

abbrev pub domain_holds : List Region → ℕ → ℕ → Bool
domain_holds regions domain p = list_any (λ r. region_holds domain p r) regions

-- what one landing writes lies apart from what the other reads and writes
pub record AreApart (a b : Landing) : Type 0 where
  pub first : all_apart (ranges_of a.writes) (b.reads ∷ ranges_of b.writes) ≡ true
  pub second : all_apart (ranges_of b.writes) (a.reads ∷ []) ≡ true
