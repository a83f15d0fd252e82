-- The classes of bytes in a source text.
use Rattle.std.specs.Prelude.{ℕ, Bool, ◌||◌, ◌==◌}
use Rattle.std.specs.Char.{is_ascii_digit, is_ascii_lowercase}

-- space, tab, carriage return and newline
abbrev pub is_blank : ℕ → Bool
is_blank b = b == 32 || b == 9 || b == 13 || b == 10

-- `a` to `z` and `_`
abbrev pub is_letter : ℕ → Bool
is_letter b = is_ascii_lowercase b || b == 95

-- a letter or `0` to `9`
abbrev pub is_name_byte : ℕ → Bool
is_name_byte b = is_letter b || is_ascii_digit b
