-- Lists that are gone through from the front.
use Rattle.std.proofs.Common.{◌≡◌, ℕ, zero, suc, ◌+◌, ◌<◌, ◌≤◌, List, [], ◌∷◌, ◌++◌, length, map, take, drop, get_or, refl, sym, ap, ◌∙◌, arith, length-append, append-nil, append_assoc, Bool, true, false, cond, Some, None, inl, inr}
use Rattle.std.specs.Prelude.{sum_by, nat_lt, not, position}
use Rattle.std.proofs.lemmas.List.Sums.{sum_by-cons, prefix_len-le-length}
use Rattle.std.proofs.lemmas.List.Concat.{flat_map-append}
use Rattle.std.specs.List.{flat_map, position_or_len}
use Rattle.std.specs.Option.{unwrap_or}
use Rattle.std.proofs.lemmas.Bool.{lt-ltb, cases_lt}
use Rattle.redn_segment.specs.declared.types.Draft.{Draft}
use Rattle.redn_segment.specs.Building.{drafts_of}
use Rattle.redn_emit.specs.Layout.{with_new, each_once}

-- the drafts of some segments and of the next one are among all
pub drafts_next : (xs : List (List Draft)) (i : ℕ) (d : List Draft) → i < length xs → length (drafts_of (take i xs)) + length (get_or xs i d) ≤ length (drafts_of xs)
drafts_next [] i d l = absurd (omega arith)
drafts_next (x ∷ xs) zero d l = let all = length-append x (drafts_of xs) in omega (arith, all)
drafts_next (x ∷ xs) (suc i) d l =
    let rest = drafts_next xs i d (omega arith) in
    let all = length-append x (drafts_of xs) in
    let front = length-append x (drafts_of (take i xs)) in
    omega (arith, rest, all, front)

pub take_next : {X : Type 0} (xs : List X) (i : ℕ) (d : X) → i < length xs → take (i + 1) xs ≡ take i xs ++ get_or xs i d ∷ []
take_next [] i d l = absurd (omega arith)
take_next (x ∷ xs) zero d l = refl
take_next (x ∷ xs) (suc i) d l = let e : suc i + 1 ≡ suc (i + 1) = omega arith in ap (λ (n : ℕ). take n (x ∷ xs)) e ∙ ap (λ l. x ∷ l) (take_next xs i d (omega arith))

-- numbers that are added one after the other
pub once_append : (seen xs ys : List ℕ) → each_once seen (xs ++ ys) ≡ each_once (each_once seen xs) ys
once_append seen [] ys = refl
once_append seen (x ∷ xs) ys = once_append (with_new seen x) xs ys

pub once_next : {X : Type 0} (f : X → List ℕ) (seen : List ℕ) (xs : List X) (i : ℕ) (d : X) → i < length xs → each_once seen (flat_map f (take (i + 1) xs)) ≡ each_once (each_once seen (flat_map f (take i xs))) (f (get_or xs i d))
once_next f seen [] i d l = absurd (omega arith)
once_next f seen (x ∷ xs) zero d l = ap (each_once seen) (append-nil (f x))
once_next f seen (x ∷ xs) (suc i) d l =
    let e : suc i + 1 ≡ suc (i + 1) = omega arith in
    ap (λ (n : ℕ). each_once seen (flat_map f (take n (x ∷ xs)))) e ∙ once_append seen (f x) (flat_map f (take (i + 1) xs)) ∙ once_next f (each_once seen (f x)) xs i d (omega arith) ∙ ap (λ (s : List ℕ). each_once s (f (get_or xs i d))) (sym (once_append seen (f x) (flat_map f (take i xs))))

pub once_drafts : (f : Draft → List ℕ) (seen : List ℕ) (xs : List (List Draft)) (i : ℕ) (d : List Draft) → i < length xs → each_once seen (flat_map f (drafts_of (take (i + 1) xs))) ≡ each_once (each_once seen (flat_map f (drafts_of (take i xs)))) (flat_map f (get_or xs i d))
once_drafts f seen [] i d l = absurd (omega arith)
once_drafts f seen (x ∷ xs) zero d l = ap (λ (k : List Draft). each_once seen (flat_map f k)) (append-nil x)
once_drafts f seen (x ∷ xs) (suc i) d l =
    let e : suc i + 1 ≡ suc (i + 1) = omega arith in
    let split : (ys : List Draft) → each_once seen (flat_map f (x ++ ys)) ≡ each_once (each_once seen (flat_map f x)) (flat_map f ys) = λ ys. ap (each_once seen) (flat_map-append f x ys) ∙ once_append seen (flat_map f x) (flat_map f ys) in
    ap (λ (n : ℕ). each_once seen (flat_map f (drafts_of (take n (x ∷ xs))))) e ∙ split (drafts_of (take (i + 1) xs)) ∙ once_drafts f (each_once seen (flat_map f x)) xs i d (omega arith) ∙ ap (λ (s : List ℕ). each_once s (flat_map f (get_or xs i d))) (sym (split (drafts_of (take i xs))))

pub once_step : {X : Type 0} (f : X → List ℕ) (seen s new : List ℕ) (xs : List X) (i : ℕ) (d : X) → i < length xs → new ≡ each_once s (f (get_or xs i d)) → s ≡ each_once seen (flat_map f (take i xs)) → new ≡ each_once seen (flat_map f (take (i + 1) xs))
once_step f seen s new xs i d l e h = e ∙ ap (λ (k : List ℕ). each_once k (f (get_or xs i d))) h ∙ sym (once_next f seen xs i d l)

pub map_at : {X Y : Type 0} (f : X → Y) (xs : List X) (i : ℕ) (x : X) (y : Y) → i < length xs → get_or (map f xs) i y ≡ f (get_or xs i x)
map_at f [] i x y l = absurd (omega arith)
map_at f (z ∷ xs) zero x y l = refl
map_at f (z ∷ xs) (suc i) x y l = map_at f xs i x y (omega arith)

pub sum_take : {X : Type 0} (f : X → ℕ) (xs : List X) (i : ℕ) → sum_by f (take i xs) ≤ sum_by f xs
sum_take f [] zero = omega arith
sum_take f [] (suc i) = omega arith
sum_take f (x ∷ xs) zero = omega arith
sum_take f (x ∷ xs) (suc i) = let rest = sum_take f xs i in omega (arith, rest, sum_by-cons f x xs, sum_by-cons f x (take i xs))

-- the place of a number, or the length where it isn't there
pub position_is : (p : ℕ → Bool) (xs : List ℕ) → unwrap_or (position p xs) (length xs) ≡ position_or_len p xs
position_is p xs =
    elim (cases_lt (position_or_len p xs) (length xs)) [
      | inl below ↦ rw (lt-ltb (position_or_len p xs) (length xs) below) refl
      | inr past ↦
          let few = prefix_len-le-length (λ (x : ℕ). not (p x)) xs in
          let all : length xs ≡ position_or_len p xs = omega (arith, past, few) in
          either (nat_lt (position_or_len p xs) (length xs)) all
    ]
  where
    either : (b : Bool) → length xs ≡ position_or_len p xs → unwrap_or (cond b (Some (position_or_len p xs)) None) (length xs) ≡ position_or_len p xs
    either true e = refl
    either false e = e

-- one more part is appended
pub append_step : {X : Type 0} (f : X → List ℕ) (start now new : List ℕ) (xs : List X) (i : ℕ) (d : X) → i < length xs → new ≡ now ++ f (get_or xs i d) → now ≡ start ++ flat_map f (take i xs) → new ≡ start ++ flat_map f (take (i + 1) xs)
append_step f start now new xs i d l e h =
    e ∙ ap (λ (k : List ℕ). k ++ f (get_or xs i d)) h ∙ append_assoc start (flat_map f (take i xs)) (f (get_or xs i d)) ∙ ap (λ (k : List ℕ). start ++ k) (sym (ap (flat_map f) (take_next xs i d l) ∙ flat_map-append f (take i xs) (get_or xs i d ∷ []) ∙ ap (λ (k : List ℕ). flat_map f (take i xs) ++ k) (append-nil (f (get_or xs i d)))))

pub append_six : (o a b c d e f o1 o2 o3 o4 o5 o6 : List ℕ) → o1 ≡ o ++ a → o2 ≡ o1 ++ b → o3 ≡ o2 ++ c → o4 ≡ o3 ++ d → o5 ≡ o4 ++ e → o6 ≡ o5 ++ f → o6 ≡ o ++ ((a ++ (b ++ (c ++ d))) ++ (e ++ f))
append_six o a b c d e f o1 o2 o3 o4 o5 o6 h1 h2 h3 h4 h5 h6 = rw (h6, h5, h4, h3, h2, h1) (simp append_assoc)
