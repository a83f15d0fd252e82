-- Rows that break the same rules have the same first fault.
use Rattle.std.proofs.Common.{◌≡◌, ℕ, ◌+◌, ◌<◌, ◌≤◌, List, [], ◌∷◌, ◌++◌, length, map, take, get_or, sym, ap, subst, ◌∙◌}
use Rattle.std.proofs.lemmas.List.{take_all, take_more}
use Rattle.redn_disasm.specs.Holding.{StandFor}
use Rattle.redn_disasm.proofs.Steps.{map_one}

pub stand_more : {X : Type 0} (P : X → X → Type 0) (xs ys : List X) (x y : X) → StandFor P xs ys → P x y → StandFor P (xs ++ x ∷ []) (ys ++ y ∷ [])
stand_more P [] [] x y h p = (p, tt)
stand_more P [] (b ∷ ys) x y h p = absurd h
stand_more P (a ∷ xs) [] x y h p = absurd h
stand_more P (a ∷ xs) (b ∷ ys) x y h p = (h.0, stand_more P xs ys x y h.1 p)

pub stand_step : {X Y Z : Type 0} (P : Z → Z → Type 0) (f : X → Z) (g : Y → Z) (rows : List X) (ys now : List Y) (i : ℕ) (d : X) (y : Y) → i < length rows → StandFor P (map f (take i rows)) (map g ys) → P (f (get_or rows i d)) (g y) → now ≡ ys ++ y ∷ [] → StandFor P (map f (take (i + 1) rows)) (map g now)
stand_step P f g rows ys now i d y low h p e =
    let more = stand_more P (map f (take i rows)) (map g ys) (f (get_or rows i d)) (g y) h p in
    let left = sym (ap (map f) (take_more rows i d low) ∙ map_one f (take i rows) (get_or rows i d)) in
    let right = sym (ap (map g) e ∙ map_one g ys y) in
    subst (λ (l : List _). StandFor P l (map g now)) left (subst (λ (l : List _). StandFor P (map f (take i rows) ++ f (get_or rows i d) ∷ []) l) right more)

pub stand_all : {X Y Z : Type 0} (P : Z → Z → Type 0) (f : X → Z) (g : Y → Z) (rows : List X) (ys : List Y) (i : ℕ) → length rows ≤ i → StandFor P (map f (take i rows)) (map g ys) → StandFor P (map f rows) (map g ys)
stand_all P f g rows ys i past h = subst (λ (l : List _). StandFor P (map f l) (map g ys)) (take_all i rows past) h
