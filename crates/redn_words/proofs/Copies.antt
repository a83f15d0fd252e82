-- The laws of the held copies, by `==`.
use Rattle.std.proofs.Common.{◌≡◌, ℕ, cond, eqb, List, Some, None, ap, ◌∙◌, arith}
use Rattle.std.proofs.lemmas.Bool.Decides.{nat_tests}
use Rattle.std.specs.Ordering.{nat_cmp, eq_by_cmp}
use Rattle.std.specs.Cmp.{nat_cmp_total}
use Rattle.std.specs.FinMap.{empty, get-empty, get, insert, remove, get-insert, get-remove, same_map, nat_cmp-IsAntisymmetric}
use Rattle.redn_words.specs.States.{Copies}

pub eq_is : (q k : ℕ) → eq_by_cmp nat_cmp q k ≡ eqb q k
eq_is q k = grind (arith, nat_tests)

pub get_insert : (m : Copies) (k : ℕ) (v : List ℕ) (q : ℕ) → get (insert m k v) q ≡ cond (eqb q k) (Some v) (get m q)
get_insert m k v q = get-insert nat_cmp_total m k v q ∙ ap (λ b. cond b (Some v) (get m q)) (eq_is q k)

pub get_remove : (m : Copies) (k q : ℕ) → get (remove m k) q ≡ cond (eqb q k) None (get m q)
get_remove m k q = get-remove nat_cmp_total m k q ∙ ap (λ b. cond b None (get m q)) (eq_is q k)

pub get_empty : (q : ℕ) → get {X = List ℕ} {R = nat_cmp} empty q ≡ None
get_empty q = get-empty nat_cmp q

-- copies are told by the copy of each index
pub same_copies : (m n : Copies) → ((q : ℕ) → get m q ≡ get n q) → m ≡ n
same_copies m n h = same_map nat_cmp_total nat_cmp-IsAntisymmetric m n h
