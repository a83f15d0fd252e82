-- Where the tables lie.
use Rattle.std.proofs.Common.{◌≡◌, ℕ, zero, suc, ◌+◌, ◌<◌, ◌≤◌, List, [], ◌∷◌, length, map, get_or, Some, refl, ap, subst, arith}
use Rattle.std.specs.Prelude.{sum_by, slice_get}
use Rattle.std.proofs.lemmas.List.Sums.{sum_by-cons}
use Rattle.redn_kernel.specs.declared.types.TableInit.{TableInit}
use Rattle.redn_emit.specs.Layout.{TablePlan}
use Rattle.redn_emit.specs.Placed.{tables_from}

pub length-tables : (number base : ℕ) (ts : List TableInit) → length (tables_from number base ts) ≡ length ts
length-tables number base [] = refl
length-tables number base (t ∷ ts) = ap suc (length-tables (suc number) (base + length t.bytes) ts)

-- a table and its place
pub record IsTable (number base : ℕ) (ts : List TableInit) (k : ℕ) (t : TablePlan) : Type 0 where
  pub init : TableInit
  pub init_at : slice_get ts k ≡ Some init
  pub number_is : t.number ≡ number + k
  pub bytes_are : t.bytes ≡ init.bytes
  pub writable_is : t.writable ≡ init.writable
  pub above : base ≤ t.base
  pub inside : t.base + length t.bytes ≤ base + sum_by (λ (x : TableInit). length x.bytes) ts

pub table_is : (number base : ℕ) (ts : List TableInit) (k : ℕ) (t : TablePlan) → slice_get (tables_from number base ts) k ≡ Some t → IsTable number base ts k t
table_is number base [] k t e = absurd (cc)
table_is number base (x ∷ ts) zero t e =
    let plan : TablePlan = record { number = number; bytes = x.bytes; writable = x.writable; base = base } in
    let same : plan ≡ t = cc in
    let all = sum_by-cons (λ (y : TableInit). length y.bytes) x ts in
    subst (IsTable number base (x ∷ ts) 0) same (record { init = x; init_at = refl; number_is = omega arith; bytes_are = refl; writable_is = refl; above = omega arith; inside = omega (arith, all) })
table_is number base (x ∷ ts) (suc k) t e =
    let rest = table_is (suc number) (base + length x.bytes) ts k t e in
    let all = sum_by-cons (λ (y : TableInit). length y.bytes) x ts in
    let n = rest.number_is in
    let low = rest.above in
    let high = rest.inside in
    record {
      init = rest.init;
      init_at = rest.init_at;
      number_is = omega (arith, n);
      bytes_are = rest.bytes_are;
      writable_is = rest.writable_is;
      above = omega (arith, low);
      inside = omega (arith, all, high);
    }

-- one lies below the next
pub tables_rise : (number base : ℕ) (ts : List TableInit) (i j : ℕ) (t u : TablePlan) → i < j → slice_get (tables_from number base ts) i ≡ Some t → slice_get (tables_from number base ts) j ≡ Some u → t.base + length t.bytes ≤ u.base
tables_rise number base [] i j t u l e f = absurd (cc)
tables_rise number base (x ∷ ts) i zero t u l e f = absurd (omega arith)
tables_rise number base (x ∷ ts) zero (suc j) t u l e f =
    let plan : TablePlan = record { number = number; bytes = x.bytes; writable = x.writable; base = base } in
    let same : plan ≡ t = cc in
    let rest = table_is (suc number) (base + length x.bytes) ts j u f in
    let low = rest.above in
    subst (λ (y : TablePlan). y.base + length y.bytes ≤ u.base) same low
tables_rise number base (x ∷ ts) (suc i) (suc j) t u l e f = tables_rise (suc number) (base + length x.bytes) ts i j t u (omega (arith, l)) e f

-- what stands at a place
pub item_at : {X : Type 0} (xs : List X) (k : ℕ) → k < length xs → (x : X) × (slice_get xs k ≡ Some x)
item_at [] k l = absurd (omega arith)
item_at (x ∷ xs) zero l = (x, refl)
item_at (x ∷ xs) (suc k) l = item_at xs k (omega (arith, l))

pub mapped_at : {X Y : Type 0} (f : X → Y) (xs : List X) (k : ℕ) (x : X) (d : Y) → slice_get xs k ≡ Some x → get_or (map f xs) k d ≡ f x
mapped_at f [] k x d e = absurd (cc)
mapped_at f (y ∷ xs) zero x d e = let same : y ≡ x = cc in ap f same
mapped_at f (y ∷ xs) (suc k) x d e = mapped_at f xs k x d e

pub place_inside : {X : Type 0} (xs : List X) (k : ℕ) (x : X) → slice_get xs k ≡ Some x → k < length xs
place_inside [] k x e = absurd (cc)
place_inside (y ∷ xs) zero x e = omega arith
place_inside (y ∷ xs) (suc k) x e = let rest = place_inside xs k x e in omega (arith, rest)
