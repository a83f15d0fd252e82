-- Portions of a list, by where they begin.
use Rattle.std.proofs.Common.{◌≡◌, ℕ, zero, suc, ◌+◌, ◌-◌, ◌≤◌, List, [], ◌∷◌, ◌++◌, length, Some, refl, sym, ap, ◌∙◌, subst, arith, length-append, append_assoc, append-nil}
use Rattle.std.specs.Prelude.{slice_get, replicate}
use Rattle.std.specs.List.{flat_map}
use Rattle.std.proofs.lemmas.List.{length-replicate}
use Rattle.redn_words.specs.Words.{bytes_at}
use Rattle.redn_words.proofs.Slots.{bytes_at_append}

pub record PartOf (m : List ℕ) (at : ℕ) (xs : List ℕ) : Type 0 where
  pub front : List ℕ
  pub rest : List ℕ
  pub is : m ≡ front ++ (xs ++ rest)
  pub len : length front ≡ at

pub whole : (m : List ℕ) → PartOf m 0 m
whole m = record { front = []; rest = []; is = sym (append-nil m); len = refl }

pub part_left : (m : List ℕ) (at : ℕ) (xs ys : List ℕ) → PartOf m at (xs ++ ys) → PartOf m at xs
part_left m at xs ys h = record { front = h.front; rest = ys ++ h.rest; is = h.is ∙ ap (λ (l : List ℕ). h.front ++ l) (append_assoc xs ys h.rest); len = h.len }

pub part_right : (m : List ℕ) (at there : ℕ) (xs ys : List ℕ) → there ≡ at + length xs → PartOf m at (xs ++ ys) → PartOf m there ys
part_right m at there xs ys e h =
    let all = length-append h.front xs in
    let begins = h.len in
    record {
      front = h.front ++ xs;
      rest = h.rest;
      is = h.is ∙ ap (λ (l : List ℕ). h.front ++ l) (append_assoc xs ys h.rest) ∙ sym (append_assoc h.front xs (ys ++ h.rest));
      len = omega (arith, all, begins, e);
    }

-- the bytes there
pub part_bytes : (m : List ℕ) (at n : ℕ) (xs : List ℕ) → n ≡ length xs → PartOf m at xs → bytes_at m at n ≡ xs
part_bytes m at n xs e h = ap (λ (l : List ℕ). bytes_at l at n) h.is ∙ bytes_at_append h.front xs h.rest at n h.len (sym e)

-- one of the lists that are joined
pub part_flat : {X : Type 0} (m : List ℕ) (f : X → List ℕ) (xs : List X) (off : ℕ → ℕ) → ((j : ℕ) (x : X) → slice_get xs j ≡ Some x → off (suc j) ≡ off j + length (f x)) → PartOf m (off 0) (flat_map f xs) → (i : ℕ) (x : X) → slice_get xs i ≡ Some x → PartOf m (off i) (f x)
part_flat m f [] off step h i x e = absurd (cc)
part_flat m f (y ∷ xs) off step h zero x e = let same : y ≡ x = cc in subst (λ z. PartOf m (off 0) (f z)) same (part_left m (off 0) (f y) (flat_map f xs) h)
part_flat m f (y ∷ xs) off step h (suc i) x e = part_flat m f xs (λ j. off (suc j)) (λ j z g. step (suc j) z g) (part_right m (off 0) (off 1) (f y) (flat_map f xs) (step 0 y refl) h) i x e

-- where the bytes are zeros, so are those of a part
abbrev pub zeros : ℕ → List ℕ
zeros n = replicate n 0

zeros_split : (a b : ℕ) → zeros (a + b) ≡ zeros a ++ zeros b
zeros_split zero b = let e : 0 + b ≡ b = omega arith in ap zeros e
zeros_split (suc a) b = let e : suc a + b ≡ suc (a + b) = omega arith in ap zeros e ∙ ap (λ (l : List ℕ). 0 ∷ l) (zeros_split a b)

pub part_zeros : (m : List ℕ) (at n o k there : ℕ) → o + k ≤ n → there ≡ at + o → PartOf m at (zeros n) → PartOf m there (zeros k)
part_zeros m at n o k there l e h =
    let split : n ≡ o + (k + (n - (o + k))) = omega (arith, l) in
    let parts : zeros n ≡ zeros o ++ (zeros k ++ zeros (n - (o + k))) = ap zeros split ∙ zeros_split o (k + (n - (o + k))) ∙ ap (λ (x : List ℕ). zeros o ++ x) (zeros_split k (n - (o + k))) in
    let long = length-replicate {A = ℕ} o 0 in
    part_left m there (zeros k) (zeros (n - (o + k))) (part_right m at there (zeros o) (zeros k ++ zeros (n - (o + k))) (omega (arith, long, e)) (subst (PartOf m at) parts h))
