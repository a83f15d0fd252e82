-- The held copies of the indexes from head on.
use Rattle.std.specs.Prelude.{ℕ, Bool, false, Option, Some, None, is_none, is_some}
use Rattle.std.specs.FinMap as finite
use Rattle.redn_words.specs.States.{Copies}

pub record Window : Type 0 where
  pub head : ℕ
  pub slots : ℕ
  pub untouched : ℕ  -- no index from this one on was ever held
  pub copies : Copies

abbrev pub empty_window : ℕ → Window
empty_window slots = record { head = 0; slots = slots; untouched = 0; copies = finite.empty }

-- no copy of the index is held
abbrev pub lacks : Copies → ℕ → Bool
lacks copies i = is_none (finite.get copies i)

abbrev pub is_held : Copies → Option ℕ → Bool
is_held copies None = false
is_held copies (Some i) = is_some (finite.get copies i)
