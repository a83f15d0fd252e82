-- What a chain has for itself is no other's, and no table's.
use Rattle.std.proofs.Common.{◌≡◌, ◌≢◌, ℕ, suc, ◌+◌, ◌*◌, ◌<◌, ◌≤◌, ◌⊎◌, inl, inr, Bool, true, false, ◌&&◌, ◌||◌, ◌==◌, List, [], ◌∷◌, ◌++◌, length, map, Some, refl, sym, ap, ◌∙◌, arith}
use Rattle.std.specs.Prelude.{slice_get, nat_lt, nat_le}
use Rattle.std.specs.List.{flat_map, list_any}
use Rattle.std.proofs.lemmas.Bool.{and_parts, ltb-true, leb-true, ne_eqb, false≢true, true≢false, cases_lt, cases_eq, false_from_ne_true as none_if, or_left as first_of, or_from as none_both}
use Rattle.redn_words.specs.declared.types.Region.{Region}
use Rattle.redn_words.specs.Ranges.{holds, region_holds, domain_holds}
use Rattle.redn_kernel.specs.declared.types.Program.{Program}
use Rattle.redn_graph.specs.declared.types.Graph.{Graph}
use Rattle.redn_emit.specs.Layout.{ChainPlan, TablePlan, code_slots, data_len, vars_row, code_row, control_row, message_row, table_row, chain_rows}
use Rattle.redn_emit.specs.Placed.{entries_base, data_base, plans, tables_base, tables, regions}
use Rattle.redn_proof_layout.specs.Layouts.{range, is_own, table_range}
use Rattle.redn_proof_layout.specs.PlacedLaws.{AreSound, ChainsLieApart}
use Rattle.redn_proof_layout.proofs.Tables.{table_is}
use Rattle.redn_proof_layout.proofs.Chains.{plans_follow}
use Rattle.redn_proof_layout.proofs.Homes.{in_range}
use Rattle.redn_proof_layout.proofs.Lengths.{ends}
use Rattle.redn_proof_layout.proofs.Whole.{chain, placed, above}

-- in which of its ranges a byte of a chain lies
pub record In (at len q : ℕ) : Type 0 where
  pub low : at ≤ q
  pub high : q < at + len

held : (at len q : ℕ) → holds (range at len) q ≡ true → In at len q
held at len q h = let parts = and_parts (nat_le at q) (nat_lt q (at + len)) h in record { low = leb-true at q parts.0; high = ltb-true q (at + len) parts.1 }

abbrev InOwn : ℕ → ChainPlan → ℕ → Type 0
InOwn entries c q = In c.code_base (64 * code_slots c.rings) q ⊎ (In (entries + 128 * c.number) 128 q ⊎ In c.control_base (data_len c) q)

own_in : (entries : ℕ) (c : ChainPlan) (q : ℕ) → is_own entries c q ≡ true → InOwn entries c q
own_in entries c q h = by_test (holds (range c.code_base (64 * code_slots c.rings)) q) (holds (range (entries + 128 * c.number) 128) q) (holds (range c.control_base (data_len c)) q) refl refl refl h
  where
    by_test : (x y z : Bool) → holds (range c.code_base (64 * code_slots c.rings)) q ≡ x → holds (range (entries + 128 * c.number) 128) q ≡ y → holds (range c.control_base (data_len c)) q ≡ z → (x || (y || (z || false))) ≡ true → InOwn entries c q
    by_test true y z e f g k = inl (held c.code_base (64 * code_slots c.rings) q e)
    by_test false true z e f g k = inr (inl (held (entries + 128 * c.number) 128 q f))
    by_test false false true e f g k = inr (inr (held c.control_base (data_len c) q g))
    by_test false false false e f g k = absurd (false≢true k)

pub third : (a b d : Bool) → d ≡ true → (a || (b || (d || false))) ≡ true
third true b d e = refl
third false true d e = refl
third false false true e = refl
third false false false e = e

any_both : {X : Type 0} (test : X → Bool) (xs ys : List X) → list_any test xs ≡ false → list_any test ys ≡ false → list_any test (xs ++ ys) ≡ false
any_both test [] ys a b = b
any_both test (x ∷ xs) ys a b = by_test (test x) (list_any test xs) a refl (λ e. any_both test xs ys e b)
  where
    by_test : (u v : Bool) → (u || v) ≡ false → list_any test xs ≡ v → (v ≡ false → list_any test (xs ++ ys) ≡ false) → (u || list_any test (xs ++ ys)) ≡ false
    by_test true v e f g = absurd (true≢false e)
    by_test false v e f g = g e

none_flat : {X Y : Type 0} (test : Y → Bool) (f : X → List Y) (xs : List X) → ((k : ℕ) (x : X) → slice_get xs k ≡ Some x → list_any test (f x) ≡ false) → list_any test (flat_map f xs) ≡ false
none_flat test f [] h = refl
none_flat test f (x ∷ xs) h = any_both test (f x) (flat_map f xs) (h 0 x refl) (none_flat test f xs (λ k y e. h (suc k) y e))

none_mapped : {X Y : Type 0} (test : Y → Bool) (f : X → Y) (xs : List X) → ((k : ℕ) (x : X) → slice_get xs k ≡ Some x → test (f x) ≡ false) → list_any test (map f xs) ≡ false
none_mapped test f [] h = refl
none_mapped test f (x ∷ xs) h = none_both (test (f x)) (list_any test (map f xs)) (h 0 x refl) (none_mapped test f xs (λ k y e. h (suc k) y e))

module _ (p : Program) (graphs : List Graph) (are : AreSound p graphs) where
  abbrev entries : ℕ
  entries = entries_base p graphs

  -- of two chains, the one before the other
  ordered : (i j : ℕ) (c d : ChainPlan) → i < j → slice_get (plans p graphs) i ≡ Some c → slice_get (plans p graphs) j ≡ Some d → (q : ℕ) → InOwn entries c q → InOwn entries d q → ⊥
  ordered i j c d l x y q a b =
      let follow = plans_follow (length p.tables) 0 0 (data_base p graphs) (length p.chains) p.chains graphs i j c d l x y in
      let code = follow.code in
      let control = follow.control in
      let one = placed p graphs are i c x in
      let other = placed p graphs are j d y in
      let code_c = one.code_in in
      let code_d = other.code_in in
      let number_c = one.number in
      let number_d = other.number in
      let low_c = (above p graphs are i c x).control_base in
      let low_d = (above p graphs are j d y).control_base in
      let n_c : c.number ≡ 0 + i = ap (λ (z : ChainPlan). z.number) (chain p graphs are i c x).is in
      let n_d : d.number ≡ 0 + j = ap (λ (z : ChainPlan). z.number) (chain p graphs are j d y).is in
      both code control code_c code_d number_c number_d low_c low_d n_c n_d a b
    where
      both : c.code_base + 64 * code_slots c.rings ≤ d.code_base → c.control_base + data_len c ≤ d.control_base → c.code_base + 64 * code_slots c.rings ≤ entries → d.code_base + 64 * code_slots d.rings ≤ entries → c.number < length p.chains → d.number < length p.chains → data_base p graphs ≤ c.control_base → data_base p graphs ≤ d.control_base → c.number ≡ 0 + i → d.number ≡ 0 + j → InOwn entries c q → InOwn entries d q → ⊥
      both code control code_c code_d number_c number_d low_c low_d n_c n_d (inl u) (inl v) = let a = u.high in let b = v.low in omega arith
      both code control code_c code_d number_c number_d low_c low_d n_c n_d (inl u) (inr (inl v)) = let a = u.high in let b = v.low in omega arith
      both code control code_c code_d number_c number_d low_c low_d n_c n_d (inl u) (inr (inr v)) = let a = u.high in let b = v.low in omega arith
      both code control code_c code_d number_c number_d low_c low_d n_c n_d (inr (inl u)) (inl v) = let a = u.low in let b = v.high in omega arith
      both code control code_c code_d number_c number_d low_c low_d n_c n_d (inr (inl u)) (inr (inl v)) = let a = u.high in let b = v.low in omega arith
      both code control code_c code_d number_c number_d low_c low_d n_c n_d (inr (inl u)) (inr (inr v)) = let a = u.high in let b = v.low in omega arith
      both code control code_c code_d number_c number_d low_c low_d n_c n_d (inr (inr u)) (inl v) = let a = u.low in let b = v.high in omega arith
      both code control code_c code_d number_c number_d low_c low_d n_c n_d (inr (inr u)) (inr (inl v)) = let a = u.low in let b = v.high in omega arith
      both code control code_c code_d number_c number_d low_c low_d n_c n_d (inr (inr u)) (inr (inr v)) = let a = u.high in let b = v.low in omega arith

  chains_apart : (i j : ℕ) (c d : ChainPlan) → slice_get (plans p graphs) i ≡ Some c → slice_get (plans p graphs) j ≡ Some d → i ≢ j → (q : ℕ) → is_own entries c q ≡ true → is_own entries d q ≡ false
  chains_apart i j c d x y ne q h =
      none_if (is_own entries d q) (λ g. elim (cases_lt i j) [
        | inl before ↦ ordered i j c d before x y q (own_in entries c q h) (own_in entries d q g)
        | inr past ↦ ordered j i d c (omega (arith, past, ne)) y x q (own_in entries d q g) (own_in entries c q h)
      ])

  own_below : (i : ℕ) (c : ChainPlan) → slice_get (plans p graphs) i ≡ Some c → (q : ℕ) → is_own entries c q ≡ true → q < tables_base p graphs
  own_below i c x q h =
      let its = placed p graphs are i c x in
      let code = its.code_in in
      let control = its.control_in in
      let number = its.number in
      by_range code control number (own_in entries c q h)
    where
      by_range : c.code_base + 64 * code_slots c.rings ≤ entries → c.control_base + data_len c ≤ tables_base p graphs → c.number < length p.chains → InOwn entries c q → q < tables_base p graphs
      by_range code control number (inl u) = let a = u.high in omega arith
      by_range code control number (inr (inl u)) = let a = u.high in omega arith
      by_range code control number (inr (inr u)) = let a = u.high in omega arith

  tables_apart : (i k : ℕ) (c : ChainPlan) (t : TablePlan) → slice_get (plans p graphs) i ≡ Some c → slice_get (tables p graphs) k ≡ Some t → (q : ℕ) → holds (table_range t) q ≡ true → is_own entries c q ≡ false
  tables_apart i k c t x y q h =
      none_if (is_own entries c q) (λ g.
      let low = (table_is 0 (tables_base p graphs) p.tables k t y).above in
      let at = (held t.base (length t.bytes) q h).low in
      let below = own_below i c x q g in
      omega (arith, low, at, below))

  number_of : (i : ℕ) (c : ChainPlan) → slice_get (plans p graphs) i ≡ Some c → c.number ≡ i
  number_of i c x = let n : c.number ≡ 0 + i = ap (λ (z : ChainPlan). z.number) (chain p graphs are i c x).is in omega (arith, n)

  -- the rows of another chain
  module _ (i : ℕ) (c : ChainPlan) (x : slice_get (plans p graphs) i ≡ Some c) (q : ℕ) (h : is_own entries c q ≡ true) where
    none_holds : (j : ℕ) (r : Region) → (holds (record { at = r.base; len = r.len }) q ≡ true → ⊥) → region_holds j q r ≡ false
    none_holds j r f = none_if (region_holds j q r) (λ g. f (and_parts (r.domain == j) (holds (record { at = r.base; len = r.len }) q) g).1)

    not_its : (k : ℕ) (d : ChainPlan) → slice_get (plans p graphs) k ≡ Some d → i ≢ k → is_own entries d q ≡ true → ⊥
    not_its k d y ne g = true≢false (sym g ∙ chains_apart i k c d x y ne q h)

    rows_clear : (k : ℕ) (d : ChainPlan) → slice_get (plans p graphs) k ≡ Some d → i ≢ k → list_any (region_holds k q) (chain_rows d (tables p graphs)) ≡ false
    rows_clear k d y ne =
        none_both _ _ (none_holds k (vars_row d) (λ g. let at = held (vars_row d).base (vars_row d).len q g in let a = at.low in let b = at.high in not_its k d y ne (third _ _ _ (in_range d.control_base (data_len d) q (omega (arith, a)) (omega (arith, b)))))) (none_both _ _ (none_holds k (code_row d) (λ g. not_its k d y ne (first_of _ _ g))) (none_both _ _ (none_holds k (control_row d) (λ g. let at = held (control_row d).base (control_row d).len q g in let a = at.low in let b = at.high in not_its k d y ne (third _ _ _ (in_range d.control_base (data_len d) q (omega (arith, a)) (omega (arith, b)))))) (none_both _ _ (none_holds k (message_row d) (λ g. let at = held (message_row d).base (message_row d).len q g in let a = at.low in let b = at.high in not_its k d y ne (third _ _ _ (in_range d.control_base (data_len d) q (omega (arith, a)) (omega (arith, b)))))) (none_mapped (region_holds k q) (table_row d) (tables p graphs) (λ n t z. none_holds k (table_row d t) (λ g. true≢false (sym h ∙ tables_apart i n c t x z q g)))))))

    other_domain : (j k : ℕ) (d : ChainPlan) → slice_get (plans p graphs) k ≡ Some d → k ≢ j → list_any (region_holds j q) (chain_rows d (tables p graphs)) ≡ false
    other_domain j k d y ne =
        let n = number_of k d y in
        let other : (d.number == j) ≡ false = ne_eqb d.number j (λ e. ne (sym n ∙ e)) in
        let clear : (b : Bool) → (d.number == j && b) ≡ false = λ b. ap (λ (z : Bool). z && b) other in
        none_both _ _ (clear _) (none_both _ _ (clear _) (none_both _ _ (clear _) (none_both _ _ (clear _) (none_mapped (region_holds j q) (table_row d) (tables p graphs) (λ n t z. clear _)))))

    private_apart : (j : ℕ) → i ≢ j → domain_holds (regions p graphs) j q ≡ false
    private_apart j ne =
        none_flat (region_holds j q) (λ (d : ChainPlan). chain_rows d (tables p graphs)) (plans p graphs) (λ k d y. elim (cases_eq k j) [
          | inl same ↦ ap (λ (n : ℕ). list_any (region_holds n q) (chain_rows d (tables p graphs))) (sym same) ∙ rows_clear k d y (λ e. ne (e ∙ same))
          | inr far ↦ other_domain j k d y far
        ])

pub chains_lie_apart : ChainsLieApart
chains_lie_apart p graphs are =
    record {
      numbered = number_of p graphs are;
      chains = chains_apart p graphs are;
      shared = tables_apart p graphs are;
      private = λ i j c x ne q h. private_apart p graphs are i c x q h j ne;
      ends = ends p graphs are;
    }
