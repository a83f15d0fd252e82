-- The fault that is told, of lists put together.
use Rattle.std.proofs.Common.{◌≡◌, ℕ, ◌+◌, ◌<◌, List, [], ◌∷◌, ◌++◌, length, map, take, get_or, Option, Some, None, refl, sym, ap, ◌∙◌, arith}
use Rattle.std.specs.List.{flat_map}
use Rattle.std.proofs.lemmas.List.{append-nil, map-append, take_more}
use Rattle.std.proofs.lemmas.List.Concat.{flat_map-append}
use Rattle.std.proofs.lemmas.Bool.Decides.{nat_tests}
use Rattle.redn_check.specs.declared.fault.Fault.{Fault}
use Rattle.redn_check.specs.Statements.{with_earlier}
use Rattle.redn_check.specs.Faults.{earlier_of, earlier, first_of}

earlier_of_assoc : (a b c : Fault) → earlier_of (earlier_of a b) c ≡ earlier_of a (earlier_of b c)
earlier_of_assoc a b c = grind (arith, nat_tests)

pub earlier_none : (a : Option Fault) → earlier a None ≡ a
earlier_none None = refl
earlier_none (Some a) = refl

pub earlier_assoc : (a b c : Option Fault) → earlier (earlier a b) c ≡ earlier a (earlier b c)
earlier_assoc None b c = refl
earlier_assoc (Some a) None c = refl
earlier_assoc (Some a) (Some b) None = refl
earlier_assoc (Some a) (Some b) (Some c) = ap Some (earlier_of_assoc a b c)

pub first_of-append : (xs ys : List Fault) → first_of (xs ++ ys) ≡ earlier (first_of xs) (first_of ys)
first_of-append [] ys = refl
first_of-append (x ∷ xs) ys = ap (earlier (Some x)) (first_of-append xs ys) ∙ sym (earlier_assoc (Some x) (first_of xs) (first_of ys))

-- ---- one more of a list, as in a loop

module _ {X : Type 0} where
  pub first_push : (g : X → List Fault) (xs : List X) (x : X) → first_of (flat_map g (xs ++ x ∷ [])) ≡ earlier (first_of (flat_map g xs)) (first_of (g x))
  first_push g xs x =
      ap first_of (flat_map-append g xs (x ∷ []) ∙ ap (λ l. flat_map g xs ++ l) (append-nil (g x))) ∙ first_of-append (flat_map g xs) (g x)

  -- of the elements of a list up to an index
  pub first_more : (g : X → List Fault) (xs : List X) (i : ℕ) (x : X) → i < length xs → x ≡ get_or xs i x →
      first_of (flat_map g (take (i + 1) xs)) ≡ earlier (first_of (flat_map g (take i xs))) (first_of (g x))
  first_more g xs i x h e = ap (λ l. first_of (flat_map g l)) (take_more xs i x h ∙ ap (λ y. take i xs ++ y ∷ []) (sym e)) ∙ first_push g (take i xs) x

  abbrev behind : X → List X × X → List X × X
  behind x e = (x ∷ e.0, e.1)

  pub with_earlier_push : (xs : List X) (x : X) → with_earlier (xs ++ x ∷ []) ≡ with_earlier xs ++ (xs, x) ∷ []
  with_earlier_push [] x = refl
  with_earlier_push (y ∷ ys) x = ap (λ l. ([], y) ∷ map (behind y) l) (with_earlier_push ys x) ∙ ap (λ l. ([], y) ∷ l) (map-append (behind y) (with_earlier ys) ((ys, x) ∷ []))

  pub first_push_earlier : (g : List X × X → List Fault) (xs : List X) (x : X) →
      first_of (flat_map g (with_earlier (xs ++ x ∷ []))) ≡ earlier (first_of (flat_map g (with_earlier xs))) (first_of (g (xs, x)))
  first_push_earlier g xs x = ap (λ l. first_of (flat_map g l)) (with_earlier_push xs x) ∙ first_push' g (with_earlier xs) (xs, x)
    where
      first_push' : (g : List X × X → List Fault) (es : List (List X × X)) (e : List X × X) → first_of (flat_map g (es ++ e ∷ [])) ≡ earlier (first_of (flat_map g es)) (first_of (g e))
      first_push' g es e = ap first_of (flat_map-append g es (e ∷ []) ∙ ap (λ l. flat_map g es ++ l) (append-nil (g e))) ∙ first_of-append (flat_map g es) (g e)

  pub first_more_earlier : (g : List X × X → List Fault) (xs : List X) (i : ℕ) (x : X) → i < length xs → x ≡ get_or xs i x →
      first_of (flat_map g (with_earlier (take (i + 1) xs))) ≡ earlier (first_of (flat_map g (with_earlier (take i xs)))) (first_of (g (take i xs, x)))
  first_more_earlier g xs i x h e =
      ap (λ l. first_of (flat_map g (with_earlier l))) (take_more xs i x h ∙ ap (λ y. take i xs ++ y ∷ []) (sym e)) ∙ first_push_earlier g (take i xs) x

module _ {X Y : Type 0} (g : Y → List Fault) (h : X → List Y) where
  -- the same of what each element gives
  pub first_more_of : (xs : List X) (i : ℕ) (x : X) → i < length xs → x ≡ get_or xs i x →
      first_of (flat_map g (flat_map h (take (i + 1) xs))) ≡ earlier (first_of (flat_map g (flat_map h (take i xs)))) (first_of (flat_map g (h x)))
  first_more_of xs i x lt e =
      ap (λ l. first_of (flat_map g (flat_map h l))) (take_more xs i x lt ∙ ap (λ y. take i xs ++ y ∷ []) (sym e))
      ∙ ap (λ l. first_of (flat_map g l)) (flat_map-append h (take i xs) (x ∷ []) ∙ ap (λ l. flat_map h (take i xs) ++ l) (append-nil (h x)))
      ∙ ap first_of (flat_map-append g (flat_map h (take i xs)) (h x)) ∙ first_of-append (flat_map g (flat_map h (take i xs))) (flat_map g (h x))

-- two calls after each other, and what they say together
pub stepped : (r a b x y z : Option Fault) → r ≡ earlier a b → a ≡ x → b ≡ y → z ≡ earlier x y → r ≡ z
stepped r a b x y z e left right whole = e ∙ (λ i. earlier (left i) (right i)) ∙ sym whole
