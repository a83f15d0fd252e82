-- From an index on at most as many of a queue's slots are still to be fetched as there are.
use Rattle.std.proofs.Common.{◌≡◌, ℕ, zero, suc, ◌+◌, ◌≤◌, false, refl, arith}
use Rattle.std.specs.Prelude.{nat_le, is_none, ◌&&◌}
use Rattle.std.proofs.lemmas.Bool.Decides.{nat_tests}
use Rattle.std.specs.FinMap.{get}
use Rattle.redn_words.specs.States.{Copies}
use Rattle.redn_words.proofs.Missing.{small}
use Rattle.redn_words.specs.Missing.{missing}

none_below : (head k : ℕ) (held : Copies) → k ≤ head → missing head held k ≡ 0
none_below head zero held l = refl
none_below head (suc k) held l =
    let low : nat_le head k ≡ false = grind (arith, nat_tests) in
    let rest : missing head held k ≡ 0 = none_below head k held (omega arith) in
    rw (low, rest) refl

pub missing_within : (head n k : ℕ) (held : Copies) → k ≡ head + n → missing head held k ≤ n
missing_within head zero k held e = omega (arith, none_below head k held (omega arith))
missing_within head (suc n) k held e =
    let at : k ≡ suc (head + n) = omega arith in
    rw at (omega (arith, small (nat_le head (head + n) && is_none (get held (head + n))), missing_within head n (head + n) held refl))
