-- What is made for each number below one is made one after the other.
use Rattle.std.proofs.Common.{arith, ◌≡◌, ℕ, suc, ◌+◌, List, [], ◌∷◌, ◌++◌, map, refl, sym, ap, ◌∙◌}
use Rattle.std.specs.List.{flat_map}
use Rattle.std.proofs.lemmas.List.{map-append, append_assoc}
use Rattle.std.proofs.lemmas.List.Concat.{flat_map-append}
use Rattle.redn_gen.specs.Generated.{below, bucket, key, word}

pub one_more : (j : ℕ) → j + 1 ≡ suc j
one_more j = omega arith

below_more : (j : ℕ) → below (j + 1) ≡ below j ++ j ∷ []
unfolding below
below_more j = ap below (one_more j)

pub none : {X : Type 0} (f : ℕ → X) → map f (below 0) ≡ []
unfolding below
none f = refl

-- a list that grows by what is made for the next number
pub goes_on : {X : Type 0} (f : ℕ → X) (j : ℕ) (xs ys : List X) (x : X) → ys ≡ xs ++ x ∷ [] → xs ≡ map f (below j) → x ≡ f j → ys ≡ map f (below (j + 1))
goes_on f j xs ys x grown so_far this =
    grown ∙ ap (λ l. l ++ x ∷ []) so_far ∙ ap (λ y. map f (below j) ++ y ∷ []) this
    ∙ sym (ap (map f) (below_more j) ∙ map-append f (below j) (j ∷ []))

pub no_bucket : (n : ℕ) → map word (flat_map (bucket n) (below 0)) ≡ []
unfolding below
no_bucket n = refl

pub next_bucket : (n j : ℕ) → map word (flat_map (bucket n) (below (j + 1))) ≡ (map word (flat_map (bucket n) (below j)) ++ word (key n j) ∷ []) ++ word (n + j) ∷ []
next_bucket n j =
    ap (λ l. map word (flat_map (bucket n) l)) (below_more j)
    ∙ ap (map word) (flat_map-append (bucket n) (below j) (j ∷ []))
    ∙ map-append word (flat_map (bucket n) (below j)) (bucket n j)
    ∙ sym (append_assoc (map word (flat_map (bucket n) (below j))) (word (key n j) ∷ []) (word (n + j) ∷ []))
