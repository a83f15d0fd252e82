-- How many useful actions there are, by their chains.
use Rattle.std.proofs.Common.{arith, ◌≡◌, ℕ, zero, suc, ◌+◌, ◌*◌, ◌≤◌, Bool, true, false, ◌==◌, List, [], ◌∷◌, Some, length, refl, sym, subst}
use Rattle.std.specs.Prelude.{nat_lt, if◌then◌else◌}
use Rattle.std.proofs.lemmas.Bool.Decides.{nat_tests}
use Rattle.redn_words.specs.declared.types.Action.{Action}
use Rattle.redn_words.specs.States.{State}
use Rattle.redn_words.specs.Steps.{after, is_useful, chain_of}
use Rattle.redn_words.specs.Runs.{useful_for}
use Rattle.redn_summary.specs.Counting.{AllUseful}
use Rattle.redn_summary.proofs.Chains.{AllBelow}

-- those of the chains below n
abbrev useful_below : ℕ → State → List Action → ℕ
useful_below zero s acts = 0
useful_below (suc n) s acts = useful_below n s acts + useful_for n s acts

none_below : (n : ℕ) (s : State) → useful_below n s [] ≡ 0
none_below zero s = refl
none_below (suc n) s = omega (arith, none_below n s)

-- a useful action of chain c counts for that chain alone
for_one : (n c : ℕ) (s : State) (a : Action) (rest : List Action) → is_useful s a ≡ true → chain_of s a ≡ Some c → useful_for n s (a ∷ rest) ≡ (if n == c then 1 else 0) + useful_for n (after s a) rest
for_one n c s a rest useful its = rw (useful, its) refl

one_more : (n c : ℕ) (s : State) (a : Action) (rest : List Action) → is_useful s a ≡ true → chain_of s a ≡ Some c → useful_below n s (a ∷ rest) ≡ (if nat_lt c n then 1 else 0) + useful_below n (after s a) rest
one_more zero c s a rest useful its = (let none : nat_lt c 0 ≡ false = grind (arith, nat_tests) in rw none (omega arith))
one_more (suc n) c s a rest useful its =
    let before = one_more n c s a rest useful its in
    let this = for_one n c s a rest useful its in
    adds (useful_below n s (a ∷ rest)) (useful_for n s (a ∷ rest)) (useful_below n (after s a) rest) (useful_for n (after s a) rest) before this
  where
    adds : (x y p q : ℕ) → x ≡ (if nat_lt c n then 1 else 0) + p → y ≡ (if n == c then 1 else 0) + q → x + y ≡ (if nat_lt c (suc n) then 1 else 0) + (p + q)
    adds x y p q e f = grind (arith, nat_tests)

all_counted : (n : ℕ) (s : State) (acts : List Action) → AllUseful s acts → AllBelow n s acts → length acts ≡ useful_below n s acts
all_counted n s [] useful below = sym (none_below n s)
all_counted n s (a ∷ rest) useful below =
    let b = below.0 in
    let more = one_more n b.chain s a rest useful.0 b.its in
    let this : nat_lt b.chain n ≡ true = (let low = b.low in grind (arith, nat_tests)) in
    omega (arith, subst (λ (t : Bool). useful_below n s (a ∷ rest) ≡ (if t then 1 else 0) + useful_below n (after s a) rest) this more, all_counted n (after s a) rest useful.1 below.1)

each_few : (n most : ℕ) (s : State) (acts : List Action) → ((c : ℕ) → useful_for c s acts ≤ most) → useful_below n s acts ≤ n * most
each_few zero most s acts few = omega arith
each_few (suc n) most s acts few = omega (arith, each_few n most s acts few, few n)

-- no more actions than so many for each chain
pub at_most : (n most : ℕ) (s : State) (acts : List Action) → AllUseful s acts → AllBelow n s acts → ((c : ℕ) → useful_for c s acts ≤ most) → length acts ≤ n * most
at_most n most s acts useful below few = subst (λ (m : ℕ). m ≤ n * most) (sym (all_counted n s acts useful below)) (each_few n most s acts few)
