-- How many of a queue's slots are still to be fetched.
use Rattle.std.specs.Prelude.{ℕ, zero, suc, ◌+◌, nat_le, is_none, ◌&&◌, if◌then◌else◌}
use Rattle.std.specs.FinMap.{get}
use Rattle.redn_words.specs.States.{Copies}

-- 1 where an index that may be fetched isn't held
abbrev pub one : ℕ → Copies → ℕ → ℕ
one head held j = if nat_le head j && is_none (get held j) then 1 else 0

-- how many such indexes there are below n
abbrev pub missing : ℕ → Copies → ℕ → ℕ
missing head held zero = 0
missing head held (suc n) = one head held n + missing head held n
