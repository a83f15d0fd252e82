-- Rising numbers among which all are that pass a test, through each change.
use Rattle.std.proofs.Common.{◌≡◌, ◌≢◌, ℕ, zero, suc, ◌+◌, ◌-◌, ◌<◌, ◌≤◌, Bool, true, false, List, [], ◌∷◌, ◌++◌, length, get_or, take, drop, map, refl, sym, ap, ◌∙◌, arith, inl, inr}
use Rattle.std.specs.List.{All, AllPairs, Contains}
use Rattle.std.proofs.lemmas.Bool.{true≢false, cases_lt, cases_eq}
use Rattle.std.proofs.lemmas.List.{get_or-take, get_or_append_left, get_or-append_right, length-append, length-take, length-drop, length-map, get_or-map}
use Rattle.std.proofs.lemmas.List.Elements.{All-push}
use Rattle.std.proofs.lemmas.List.Quantifiers.{all_pairs_push}
use Rattle.redn_queue.specs.Covers.{Covers, FirstPasses, LastPasses}

-- an element doesn't depend on what is read past the end
pub same_read : (xs : List ℕ) (k a b : ℕ) → k < length xs → get_or xs k a ≡ get_or xs k b
same_read [] k a b l = absurd (omega arith)
same_read (x ∷ xs) zero a b l = refl
same_read (x ∷ xs) (suc k) a b l = same_read xs k a b (omega arith)

read_drop : (xs : List ℕ) (k d : ℕ) → get_or (drop 1 xs) k d ≡ get_or xs (suc k) d
read_drop [] k d = refl
read_drop (x ∷ xs) k d = refl

-- a rising list from a on
rise_from : (xs : List ℕ) (low k d : ℕ) → AllPairs (λ (a b : ℕ). a < b) xs → All (λ (n : ℕ). low ≤ n) xs → k < length xs → low + k ≤ get_or xs k d
rise_from xs low zero d rising from l = omega (arith, from 0 d l)
rise_from xs low (suc k) d rising from l = let before = rise_from xs low k d rising from (omega arith) in let step = rising k (suc k) d (omega arith) l in omega arith

module _ (test : ℕ → Bool) (low high : ℕ) (ns : List ℕ) (c : Covers test low high ns) where
  -- no more numbers than the range has
  pub covers_few : low ≤ high → low + length ns ≤ high
  covers_few le =
      elim (cases_eq (length ns) 0) [
        | inl e ↦ omega arith
        | inr ne ↦
            let l : length ns - 1 < length ns = omega arith in
            omega (arith, rise_from ns low (length ns - 1) 0 c.rising c.from l, c.below (length ns - 1) 0 l)
      ]

  pub covers_weaker : (other : ℕ → Bool) → ((n : ℕ) → n < high → other n ≡ true → test n ≡ true) → Covers other low high ns
  covers_weaker other h = record { rising = c.rising; from = c.from; below = c.below; all = λ n l u e. c.all n l u (h n u e) }

  -- one number more, on whichever side of the test
  pub covers_push : low ≤ high → Covers test low (high + 1) (ns ++ high ∷ [])
  covers_push le = record {
    rising = all_pairs_push (λ (a b : ℕ). a < b) ns high c.rising c.below;
    from = All-push (λ (n : ℕ). low ≤ n) ns high c.from le;
    below = All-push (λ (n : ℕ). n < high + 1) ns high (λ k d l. omega (arith, c.below k d l)) (omega arith);
    all = λ n l u e.
        elim (cases_eq n high) [
          | inl same ↦ (length ns, omega (arith, length-append ns (high ∷ [])), get_or-append_right ns (high ∷ []) (length ns) (length ns) n refl (omega arith) ∙ rw same (let z : length ns - length ns ≡ 0 = omega arith in rw z refl))
          | inr ne ↦ let old = c.all n l (omega arith) e in (old.0, omega (arith, old.1, length-append ns (high ∷ [])), get_or_append_left ns (high ∷ []) n old.0 old.1 ∙ old.2)
        ];
  }

  pub covers_skip : test high ≡ false → Covers test low (high + 1) ns
  covers_skip fails = record {
    rising = c.rising;
    from = c.from;
    below = λ k d l. omega (arith, c.below k d l);
    all = λ n l u e.
        elim (cases_eq n high) [
          | inl same ↦ absurd (true≢false (sym e ∙ ap test same ∙ fails))
          | inr ne ↦ c.all n l (omega arith) e
        ];
  }

  -- the first one leaves, which fails
  pub covers_drop : ((d : ℕ) → test (get_or ns 0 d) ≡ false) → Covers test low high (drop 1 ns)
  covers_drop fails = record {
    rising = λ i j d lt l. rw (read_drop ns i d, read_drop ns j d) (c.rising (suc i) (suc j) d (omega arith) (omega (arith, l, length-drop 1 ns)));
    from = λ k d l. rw (read_drop ns k d) (c.from (suc k) d (omega (arith, l, length-drop 1 ns)));
    below = λ k d l. rw (read_drop ns k d) (c.below (suc k) d (omega (arith, l, length-drop 1 ns)));
    all = λ n l u e. later n e (c.all n l u e);
  }
    where
      later : (n : ℕ) → test n ≡ true → Contains ns n → Contains (drop 1 ns) n
      later n e (zero, l, at) = absurd (true≢false (sym e ∙ ap test (sym at) ∙ fails n))
      later n e (suc k, l, at) = (k, omega (arith, l, length-drop 1 ns), read_drop ns k n ∙ at)

  -- the last one leaves, which fails
  pub covers_take : ((d : ℕ) → test (get_or ns (length ns - 1) d) ≡ false) → Covers test low high (take (length ns - 1) ns)
  covers_take fails = record {
    rising = λ i j d lt l. let lj : j < length ns - 1 = omega (arith, l, length-take (length ns - 1) ns) in let li : i < length ns - 1 = omega arith in rw (get_or-take (length ns - 1) ns i d li, get_or-take (length ns - 1) ns j d lj) (c.rising i j d lt (omega arith));
    from = λ k d l. let lk : k < length ns - 1 = omega (arith, l, length-take (length ns - 1) ns) in rw (get_or-take (length ns - 1) ns k d lk) (c.from k d (omega arith));
    below = λ k d l. let lk : k < length ns - 1 = omega (arith, l, length-take (length ns - 1) ns) in rw (get_or-take (length ns - 1) ns k d lk) (c.below k d (omega arith));
    all = λ n l u e. earlier n e (c.all n l u e);
  }
    where
      earlier : (n : ℕ) → test n ≡ true → Contains ns n → Contains (take (length ns - 1) ns) n
      earlier n e there =
          elim (cases_lt there.0 (length ns - 1)) [
            | inl lt ↦ (there.0, omega (arith, lt, length-take (length ns - 1) ns), get_or-take (length ns - 1) ns there.0 n lt ∙ there.2)
            | inr ge ↦ let is : there.0 ≡ length ns - 1 = omega (arith, ge, there.1) in absurd (true≢false (sym e ∙ ap test (sym there.2) ∙ ap (λ (k : ℕ). test (get_or ns k n)) is ∙ fails n))
          ]

  -- nothing below the first one passes, nor above the last one
  pub none_before : (n d : ℕ) → low ≤ n → n < high → (0 < length ns → n < get_or ns 0 d) → test n ≡ false
  none_before n d l u before = by_test (test n) refl
    where
      by_test : (b : Bool) → test n ≡ b → b ≡ false
      by_test false e = refl
      by_test true e =
          let there = c.all n l u e in
          let some : 0 < length ns = omega (arith, there.1) in
          let first = same_read ns 0 d n some in
          let at = there.2 in
          elim (cases_eq there.0 0) [
            | inl z ↦ absurd (omega (arith, before some, first, at, ap (λ (k : ℕ). get_or ns k n) z))
            | inr nz ↦ absurd (omega (arith, before some, first, at, c.rising 0 there.0 n (omega arith) there.1))
          ]

  pub none_after : (n d : ℕ) → low ≤ n → n < high → (0 < length ns → get_or ns (length ns - 1) d < n) → test n ≡ false
  none_after n d l u after = by_test (test n) refl
    where
      by_test : (b : Bool) → test n ≡ b → b ≡ false
      by_test false e = refl
      by_test true e =
          let there = c.all n l u e in
          let some : 0 < length ns = omega (arith, there.1) in
          let last = same_read ns (length ns - 1) d n (omega arith) in
          let at = there.2 in
          elim (cases_eq there.0 (length ns - 1)) [
            | inl z ↦ absurd (omega (arith, after some, last, at, ap (λ (k : ℕ). get_or ns k n) z))
            | inr nz ↦ absurd (omega (arith, after some, last, at, c.rising there.0 (length ns - 1) n (omega (arith, there.1)) (omega arith)))
          ]

  -- the lowest number leaves the range, which fails
  pub above_low : FirstPasses test ns → test low ≡ false → All (λ (n : ℕ). low + 1 ≤ n) ns
  above_low passes fails = λ k d l. from k d l (omega arith)
    where
      from : (j e : ℕ) → j < length ns → 0 < length ns → low + 1 ≤ get_or ns j e
      from j e lj some =
          let differs : get_or ns 0 e ≢ low = λ (same : get_or ns 0 e ≡ low). true≢false (sym (passes e some) ∙ ap test same ∙ fails) in
          elim (cases_eq j 0) [
            | inl z ↦ omega (arith, c.from 0 e some, differs, ap (λ (i : ℕ). get_or ns i e) z)
            | inr nz ↦ omega (arith, c.from 0 e some, c.rising 0 j e (omega arith) lj)
          ]

  pub covers_raise : FirstPasses test ns → test low ≡ false → (other : ℕ → Bool) → ((n : ℕ) → n ≢ low → other n ≡ test n) → Covers other (low + 1) high ns
  covers_raise passes fails other same = record {
    rising = c.rising;
    from = above_low passes fails;
    below = c.below;
    all = λ n l u e. let ne : n ≢ low = omega arith in c.all n (omega arith) u (sym (same n ne) ∙ e);
  }

-- the ends behind a push, and one place lower
module _ (test other : ℕ → Bool) (low high : ℕ) (ns : List ℕ) (c : Covers test low high ns) where
  pub first_push : FirstPasses test ns → ((n : ℕ) → n < high → other n ≡ test n) → other high ≡ true → FirstPasses other (ns ++ high ∷ [])
  first_push passes same new = λ d l.
      elim (cases_eq (length ns) 0) [
        | inl none ↦ ap other (get_or-append_right ns (high ∷ []) 0 0 d none (omega arith)) ∙ new
        | inr some ↦
            let there : 0 < length ns = omega arith in
            ap other (get_or_append_left ns (high ∷ []) d 0 there) ∙ same (get_or ns 0 d) (c.below 0 d there) ∙ passes d there
      ]

  pub last_push : other high ≡ true → LastPasses other (ns ++ high ∷ [])
  last_push new = λ d l.
      let at : length (ns ++ high ∷ []) - 1 ≡ length ns = omega (arith, length-append ns (high ∷ [])) in
      ap (λ (k : ℕ). other (get_or (ns ++ high ∷ []) k d)) at ∙ ap other (get_or-append_right ns (high ∷ []) (length ns) (length ns) d refl (omega arith) ∙ (let z : length ns - length ns ≡ 0 = omega arith in rw z refl)) ∙ new

module _ (test other : ℕ → Bool) (same : (n : ℕ) → other n ≡ test (n + 1)) (high : ℕ) (ns : List ℕ) (c : Covers test 0 (high + 1) ns) (above : All (λ (n : ℕ). 1 ≤ n) ns) where
  read_less : (k d : ℕ) → k < length (map (λ (n : ℕ). n - 1) ns) → get_or (map (λ (n : ℕ). n - 1) ns) k d ≡ get_or ns k 0 - 1
  read_less k d l = get_or-map (λ (n : ℕ). n - 1) ns k 0 d (omega (arith, l, length-map ns (λ (n : ℕ). n - 1)))

  within : (k : ℕ) → k < length (map (λ (n : ℕ). n - 1) ns) → k < length ns
  within k l = omega (arith, l, length-map ns (λ (n : ℕ). n - 1))

  pub covers_less : Covers other 0 high (map (λ (n : ℕ). n - 1) ns)
  covers_less = record {
    rising = λ i j d lt l. let li : i < length (map (λ (n : ℕ). n - 1) ns) = omega arith in omega (arith, read_less i d li, read_less j d l, c.rising i j 0 lt (within j l), above i 0 (within i li), above j 0 (within j l));
    from = λ k d l. omega arith;
    below = λ k d l. omega (arith, read_less k d l, c.below k 0 (within k l), above k 0 (within k l));
    all = λ n l u e. there n (c.all (n + 1) (omega arith) (omega arith) (sym (same n) ∙ e));
  }
    where
      there : (n : ℕ) → Contains ns (n + 1) → Contains (map (λ (n : ℕ). n - 1) ns) n
      there n at =
          let l : at.0 < length (map (λ (n : ℕ). n - 1) ns) = omega (arith, at.1, length-map ns (λ (n : ℕ). n - 1)) in
          (at.0, l, omega (arith, read_less at.0 n l, same_read ns at.0 0 (n + 1) at.1, at.2))

  pub first_less : FirstPasses test ns → FirstPasses other (map (λ (n : ℕ). n - 1) ns)
  first_less passes = λ d l. at_place 0 d l (passes 0 (within 0 l))
    where
      at_place : (k d : ℕ) → k < length (map (λ (n : ℕ). n - 1) ns) → test (get_or ns k 0) ≡ true → other (get_or (map (λ (n : ℕ). n - 1) ns) k d) ≡ true
      at_place k d l e =
          let up : get_or ns k 0 - 1 + 1 ≡ get_or ns k 0 = omega (arith, above k 0 (within k l)) in
          ap other (read_less k d l) ∙ same (get_or ns k 0 - 1) ∙ ap test up ∙ e

  pub last_less : LastPasses test ns → LastPasses other (map (λ (n : ℕ). n - 1) ns)
  last_less passes = λ d l.
      let k = length (map (λ (n : ℕ). n - 1) ns) - 1 in
      let at : length ns - 1 ≡ k = omega (arith, length-map ns (λ (n : ℕ). n - 1)) in
      let lk : k < length (map (λ (n : ℕ). n - 1) ns) = omega arith in
      let up : get_or ns k 0 - 1 + 1 ≡ get_or ns k 0 = omega (arith, above k 0 (within k lk)) in
      ap other (read_less k d lk) ∙ same (get_or ns k 0 - 1) ∙ ap test up ∙ ap (λ (i : ℕ). test (get_or ns i 0)) (sym at) ∙ passes 0 (within 0 l)
