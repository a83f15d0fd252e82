-- Texts joined end to end, one row more.
use Rattle.std.proofs.Common.{◌≡◌, ℕ, zero, suc, ◌+◌, ◌<◌, List, [], ◌∷◌, ◌++◌, length, take, get_or, refl, sym, ap, ◌∙◌, add-one, arith, append_assoc, append-nil}
use Rattle.std.proofs.lemmas.List.{take_more}
use Rattle.redn_disasm.specs.Listing.{flat_from, flat_below}

pub flat_from-append : {X : Type 0} (f : ℕ → X → List ℕ) (n : ℕ) (xs : List X) (x : X) → flat_from f n (xs ++ x ∷ []) ≡ flat_from f n xs ++ f (n + length xs) x
flat_from-append f n [] x = let e : n + 0 ≡ n = omega arith in append-nil (f n x) ∙ ap (λ (k : ℕ). f k x) (sym e)
flat_from-append f n (y ∷ xs) x =
    let e : (n + 1) + length xs ≡ n + suc (length xs) = omega arith in
    ap (λ (l : List ℕ). f n y ++ l) (flat_from-append f (n + 1) xs x) ∙ sym (append_assoc (f n y) (flat_from f (n + 1) xs) (f ((n + 1) + length xs) x)) ∙ ap (λ (k : ℕ). (f n y ++ flat_from f (n + 1) xs) ++ f k x) e

pub length-taken : {X : Type 0} (i : ℕ) (xs : List X) → i < length xs → length (take i xs) ≡ i
length-taken zero [] h = refl
length-taken zero (x ∷ xs) h = refl
length-taken (suc i) [] h = absurd (omega arith)
length-taken (suc i) (x ∷ xs) h = ap suc (length-taken i xs (omega arith))

-- one row more
pub flat_from-more : {X : Type 0} (f : ℕ → X → List ℕ) (xs : List X) (i : ℕ) (d : X) → i < length xs → flat_from f 0 (take (i + 1) xs) ≡ flat_from f 0 (take i xs) ++ f i (get_or xs i d)
flat_from-more f xs i d h =
    let e : 0 + length (take i xs) ≡ i = omega (arith, length-taken i xs h) in
    ap (flat_from f 0) (take_more xs i d h) ∙ flat_from-append f 0 (take i xs) (get_or xs i d) ∙ ap (λ (k : ℕ). flat_from f 0 (take i xs) ++ f k (get_or xs i d)) e

pub flat_below-more : (f : ℕ → List ℕ) (n : ℕ) → flat_below f (n + 1) ≡ flat_below f n ++ f n
flat_below-more f n = ap (flat_below f) (add-one n)

-- out grew by the row i
pub grown_from : {X : Type 0} (f : ℕ → X → List ℕ) (xs : List X) (i : ℕ) (d : X) (start before after : List ℕ) → i < length xs → before ≡ start ++ flat_from f 0 (take i xs) → after ≡ before ++ f i (get_or xs i d) → after ≡ start ++ flat_from f 0 (take (i + 1) xs)
grown_from f xs i d start before after h b a =
    a ∙ ap (λ (l : List ℕ). l ++ f i (get_or xs i d)) b ∙ append_assoc start (flat_from f 0 (take i xs)) (f i (get_or xs i d)) ∙ ap (λ (l : List ℕ). start ++ l) (sym (flat_from-more f xs i d h))

pub grown_below : (f : ℕ → List ℕ) (n : ℕ) (start before after : List ℕ) → before ≡ start ++ flat_below f n → after ≡ before ++ f n → after ≡ start ++ flat_below f (n + 1)
grown_below f n start before after b a =
    a ∙ ap (λ (l : List ℕ). l ++ f n) b ∙ append_assoc start (flat_below f n) (f n) ∙ ap (λ (l : List ℕ). start ++ l) (sym (flat_below-more f n))
