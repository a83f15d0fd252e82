-- What events say of the tables that were seen, and what they leave.
use Rattle.std.specs.Prelude.{◌≡◌, ℕ, ◌+◌, true, false, nat_le, List, length}
use Rattle.redn_words.specs.declared.types.Obs.{Obs}
use Rattle.redn_words.specs.declared.types.Obs.TheVariants as shows
use Rattle.redn_words.specs.Words.{word}

abbrev pub IsTrueBy : (ℕ → List ℕ) → Obs → Type 0
IsTrueBy see (shows.Load c x t o w) = (nat_le (o + 8) (length (see t)) ≡ true) × (word (see t) o ≡ w)
IsTrueBy see (shows.Look c t o w) = (nat_le (o + 8) (length (see t)) ≡ true) × (word (see t) o ≡ w)
IsTrueBy see (shows.Store c t o w) = nat_le (o + 8) (length (see t)) ≡ true
IsTrueBy see (shows.Fault c t o) = nat_le (o + 8) (length (see t)) ≡ false
IsTrueBy see _ = Unit {0}
