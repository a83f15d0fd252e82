-- Memory byte by byte: what changes make of each.
use Rattle.std.specs.Prelude.{ℕ, ◌+◌, ◌-◌, Bool, ◌&&◌, List, [], ◌∷◌, length, get_or, nat_le, nat_lt, if◌then◌else◌}
use Rattle.std.specs.List.{list_any}
use Rattle.redn_words.specs.Landings.{Change}

abbrev pub byte : List ℕ → ℕ → ℕ
byte memory p = get_or memory p 0

abbrev pub covers : Change → ℕ → Bool
covers c p = nat_le c.at p && nat_lt p (c.at + length c.bytes)

-- whether some of the changes writes a byte
abbrev pub hits : List Change → ℕ → Bool
hits changes p = list_any (λ c. covers c p) changes

-- what a change makes of a byte
abbrev pub put : Change → ℕ → ℕ → ℕ
put c p before = if covers c p then get_or c.bytes (p - c.at) 0 else before

abbrev pub over : List Change → ℕ → ℕ → ℕ
over [] p before = before
over (c ∷ rest) p before = over rest p (put c p before)
