-- What each step of a chain of the generated file does.
use Rattle.std.proofs.Common.{arith, ◌≡◌, ℕ, zero, suc, ◌+◌, ◌-◌, ◌*◌, ◌^◌, ◌<◌, ◌≤◌, true, false, List, [], ◌∷◌, length, refl, ap, ◌∙◌}
use Rattle.std.specs.Prelude.{nat_le, ◌==◌}
use Rattle.std.proofs.lemmas.Bool.{le-leb, eq-eqb, ne_eqb}
use Rattle.std.proofs.Math.Nat.{mul-le-mul_right}
use Rattle.redn_words.specs.declared.types.Obs.TheVariants as shows
use Rattle.redn_words.specs.Words.{word}
use Rattle.redn_kernel.specs.declared.types.Word.TheVariants.{Var, Num}
use Rattle.redn_kernel.specs.declared.types.Kernel.{Kernel, out-Kernel}
use Rattle.redn_kernel.specs.declared.types.Kernel.TheVariants as k
use Rattle.redn_kernel.specs.declared.types.Kernel.TheOpen.{Kernel-F}
use Rattle.redn_kernel.specs.Source.{Item, Do, ChainState, Turn, wrapped, same_low, item_does, statement_does, first_does}
use Rattle.redn_gen.proofs.Stages.{Stage, First, Second, Entry, Looks, Finds, Takes, Sums, Counts, Again, Answers, Over, is_over, next, IsAt, behind, doing, state_of, event_of}

-- a bucket whose key and value stand at this offset
pub record HasBucket (bytes : List ℕ) (o key v : ℕ) : Type 0 where
  pub fits : o + 16 ≤ length bytes
  pub key_is : word bytes o ≡ key
  pub value_is : word bytes (o + 8) ≡ v
  pub low : o < 8192
  pub small : v < 2 ^ 33

keeps : (n : ℕ) → n < 2 ^ 64 → wrapped n ≡ n
keeps n h = omega arith

-- a sum that grows 1,000 times at most
small_sum : (s i left v : ℕ) → s ≡ i * v → i + left ≡ 999 → v < 2 ^ 33 → s + v < 2 ^ 64
small_sum s i left v is few small = let most : i * v ≤ 999 * v = mul-le-mul_right v (omega (arith, few)) in omega (arith, is, most, small)

module _ (c o key v : ℕ) (bytes : List ℕ) (b : HasBucket bytes o key v) where
  abbrev turn_of : Stage → Turn
  turn_of p = record { tables = bytes ∷ []; chain = state_of o key v (next v p); event = event_of o key v c p }

  does_layer : (t : ChainState) (s : Kernel) (layer : Kernel-F Kernel) (rest : List Item) → out-Kernel s ≡ layer → item_does c (bytes ∷ []) t (Do s) rest ≡ statement_does c (bytes ∷ []) t layer rest
  unfolding item_does
  does_layer t s layer rest e = ap (λ l. statement_does c (bytes ∷ []) t l rest) e

  has_key : nat_le (o + 8) (length bytes) ≡ true
  has_key = le-leb (o + 8) (length bytes) (omega (arith, b.fits))

  has_value : nat_le (o + 8 + 8) (length bytes) ≡ true
  has_value = le-leb (o + 8 + 8) (length bytes) (omega (arith, b.fits))

  same_key : same_low key key ≡ true
  same_key = eq-eqb _ _ refl

  pub does : (p : Stage) → IsAt v p → is_over p ≡ false → first_does c (bytes ∷ []) (state_of o key v p) (state_of o key v p).items ≡ turn_of p
  unfolding item_does statement_does
  does First h on = refl
  does Second h on = refl
  does Entry h on = does_layer _ _ _ _ (k.outs-Repeat _ _)
  does (Looks x s i left) h on = does_layer _ _ _ _ (k.outs-Lookup _ _ _ _ _)
  does (Finds x s i left) h on = let wraps : wrapped (o + 8) ≡ o + 8 = keeps (o + 8) (omega (arith, b.low)) in rw (has_key, b.key_is, same_key, wraps) refl
  does (Takes x s i left) h on = rw (has_value, b.value_is) refl
  does (Sums s i left) h on =
      let put : ℕ → Turn = λ w. record { tables = bytes ∷ []; chain = doing o key v v w i (Do (k.Add 4 (Num 1)) ∷ behind left); event = shows.Set c 3 w } in
      does_layer (state_of o key v (Sums s i left)) (k.Add 3 (Var 2)) (Kernel-F.Add 3 (Var 2)) (Do (k.Add 4 (Num 1)) ∷ behind left) (k.outs-Add _ _) ∙ ap put (keeps (s + v) (small_sum s i left v h.0 h.1 b.small))
  does (Counts s i left) h on =
      let put : ℕ → Turn = λ w. record { tables = bytes ∷ []; chain = doing o key v v s w (behind left); event = shows.Set c 4 w } in
      does_layer (state_of o key v (Counts s i left)) (k.Add 4 (Num 1)) (Kernel-F.Add 4 (Num 1)) (behind left) (k.outs-Add _ _) ∙ ap put (keeps (i + 1) (omega (arith, h.1)))
  does (Again s i zero) h on = refl
  does (Again s i (suc left)) h on =
      let some : (suc left == 0) ≡ false = ne_eqb (suc left) 0 (λ e. omega (arith, e)) in
      let one_less : suc left - 1 ≡ left = omega arith in
      rw (some, one_less) refl
  does (Answers s i) h on = does_layer _ _ _ _ (k.outs-Reply _)
  does (Over s i) h on = cc
