-- Messages that don't fit, one chain after another.
use Rattle.std.proofs.Common.{◌≡◌, true, false, cond, ℕ, ◌+◌, ◌<◌, ◌==◌, List, [], ◌∷◌, ◌++◌, Option, None, Some, IfSome, length, map, get_or, drop, refl, sym, ap, ◌∙◌, arith}
use Rattle.std.specs.Prelude.{slice_get, is_some}
use Rattle.std.specs.Option.{option_map}
use Rattle.std.proofs.lemmas.Bool.{false≢true, eqb-true}
use Rattle.std.proofs.lemmas.List.{drop_more, length-map, get_or-map}
use Rattle.redn_words.specs.Misfits.{misfit, misfits}

-- messages as they are kept, and rows that say what is wanted: v is the message of chain k
pub misfits_kept : {F R V : Type 0} (fault : ℕ → ℕ → ℕ → F) (want : R → ℕ) (items : V → List ℕ) (k : ℕ) (rows : List R) (kept : List (Option V)) (row : R) (v : Option V) → k < length rows → length kept ≡ length rows → v ≡ get_or kept k v
    → misfits fault k (map want (drop k rows)) (drop k (map (option_map items) kept)) ≡ misfit fault k (want (get_or rows k row)) (option_map items v) ++ misfits fault (k + 1) (map want (drop (k + 1) rows)) (drop (k + 1) (map (option_map items) kept))
misfits_kept fault want items k rows kept row v l same e =
    let lk : k < length kept = omega arith in
    let lm : k < length (map (option_map items) kept) = omega (arith, length-map kept (option_map items)) in
    let at : get_or (map (option_map items) kept) k None ≡ option_map items v = get_or-map (option_map items) kept k v None lk ∙ ap (option_map items) (sym e) in
    rw (drop_more rows k row l, drop_more (map (option_map items) kept) k None lm, at) refl

-- the first one of the two parts
pub first_here : {X : Type 0} (xs ys : List X) (o : Option X) → o ≡ slice_get xs 0 → is_some o ≡ true → o ≡ slice_get (xs ++ ys) 0
first_here [] ys o e some = absurd (false≢true (ap is_some (sym e) ∙ some))
first_here (z ∷ zs) ys o e some = e

pub none_here : {X : Type 0} (xs ys : List X) (o : Option X) → o ≡ slice_get xs 0 → is_some o ≡ false → xs ++ ys ≡ ys
none_here [] ys o e none = refl
none_here (z ∷ zs) ys o e none = absurd (false≢true (sym none ∙ ap is_some e))

pub none_first : {X : Type 0} (xs : List X) → None ≡ slice_get xs 0 → xs ≡ []
none_first [] e = refl
none_first (x ∷ xs) e = absurd (cc)

pub both_none : {X : Type 0} (xs ys : List X) → xs ++ ys ≡ [] → (xs ≡ []) × (ys ≡ [])
both_none [] ys e = (refl, e)
both_none (x ∷ xs) ys e = absurd (cc)

-- a message that is no misfit has the length that is wanted
pub misfit_fits : {F : Type 0} (fault : ℕ → ℕ → ℕ → F) (c want : ℕ) (m : Option (List ℕ)) → misfit fault c want m ≡ [] → IfSome m (λ bytes. length bytes ≡ want)
misfit_fits fault c want None e = tt
misfit_fits fault c want (Some bytes) e =
    eqb-true (length bytes) want
    (elim (length bytes == want) as (λ b. cond b [] (fault c (length bytes) want ∷ []) ≡ [] → b ≡ true) [ true ↦ λ h. refl | false ↦ λ h. absurd (cc) ] e)
