-- Up to eight words, and 0 past them.
use Rattle.std.proofs.Common.{◌≡◌, ℕ, suc, ◌+◌, ◌-◌, ◌<◌, ◌≤◌, List, [], ◌∷◌, ◌++◌, length, map, take, replicate, get_or, set, refl, sym, ap, ◌∙◌, arith}
use Rattle.std.proofs.lemmas.List.{take_more, map-append, length-map, length-take-le, take-replicate, take_all}
use Rattle.std.proofs.Math.Seq.{take-append-add}
use Rattle.redn_kernel.specs.Source.{eight}

set_next : (xs : List ℕ) (m v : ℕ) → set (xs ++ replicate (suc m) 0) (length xs) v ≡ (xs ++ v ∷ []) ++ replicate m 0
set_next [] m v = refl
set_next (x ∷ xs) m v = ap (λ ys. x ∷ ys) (set_next xs m v)

abbrev pub padded : List ℕ → ℕ → List ℕ
padded xs n = xs ++ replicate (8 - n) 0

pub padded_next : {A : Type 0} (f : A → ℕ) (list : List A) (i v : ℕ) (d : A) (words : List ℕ) → i < length list → length list ≤ 8 → words ≡ padded (map f (take i list)) i → v ≡ f (get_or list i d) →
    set words i v ≡ padded (map f (take (i + 1) list)) (i + 1)
padded_next f list i v d words lt few e is =
    let xs = map f (take i list) in
    let place : length xs ≡ i = length-map (take i list) f ∙ length-take-le i list (omega arith) in
    let room : 8 - i ≡ suc (8 - (i + 1)) = omega arith in
    ap (λ ws. set ws i v) e
    ∙ ap (λ n. set (xs ++ replicate n 0) i v) room
    ∙ ap (λ n. set (xs ++ replicate (suc (8 - (i + 1))) 0) n v) (sym place)
    ∙ set_next xs (8 - (i + 1)) v
    ∙ ap (λ ys. ys ++ replicate (8 - (i + 1)) 0) (ap (λ w. xs ++ w ∷ []) is ∙ sym (ap (map f) (take_more list i d lt) ∙ map-append f (take i list) (get_or list i d ∷ [])))

pub eight_is : (xs : List ℕ) → length xs ≤ 8 → eight xs ≡ padded xs (length xs)
eight_is xs few =
    let all : length xs + (8 - length xs) ≡ 8 = omega arith in
    ap (λ n. take n (xs ++ replicate 8 0)) (sym all) ∙ take-append-add xs (replicate 8 0) (8 - length xs) ∙ ap (λ ys. xs ++ ys) (take-replicate (8 - length xs) 8 0 (omega arith))

pub padded_all : {A : Type 0} (f : A → ℕ) (list : List A) (i : ℕ) (words : List ℕ) → i ≡ length list → length list ≤ 8 → words ≡ padded (map f (take i list)) i → words ≡ eight (map f list)
padded_all f list i words end few e =
    let all : take i list ≡ list = take_all i list (omega arith) in
    let count : i ≡ length (map f list) = end ∙ sym (length-map list f) in
    e ∙ ap (λ xs. padded (map f xs) i) all ∙ ap (padded (map f list)) count ∙ sym (eight_is (map f list) (omega (arith, length-map list f)))
