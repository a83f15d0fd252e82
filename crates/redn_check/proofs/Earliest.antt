-- The fault that is told, as a place in the list of faults.
use Rattle.std.proofs.Common.{◌≡◌, Bool, true, false, if◌then◌else◌, List, [], ◌∷◌, ◌++◌, Option, Some, None, Result, Ok, Err, OnOk, refl, ap, ◌∙◌, subst, arith}
use Rattle.std.specs.Prelude.{All}
use Rattle.std.proofs.lemmas.Bool.Decides.{nat_tests}
use Rattle.std.proofs.lemmas.List.Elements.{All-nil, All-cons, All-head, All-tail, All-append, All-weaker, All-same}
use Rattle.redn_check.specs.declared.fault.Fault.{Fault}
use Rattle.redn_check.specs.Faults.{comes_before, earlier, first_of, IsFirst}
use Rattle.redn_check.proofs.EarliestOf.{first_of-append}

-- what is before an earlier one is before a later one
after_earlier : (x f g : Fault) → comes_before x g ≡ true → comes_before x f ≡ false → comes_before g f ≡ false
after_earlier x f g a b = grind (arith, nat_tests)

not_before : (x f g : Fault) → comes_before g x ≡ false → comes_before x f ≡ false → comes_before g f ≡ false
not_before x f g a b = grind (arith, nat_tests)

pub first_none : (faults : List Fault) → first_of faults ≡ None → faults ≡ []
first_none [] e = refl
first_none (f ∷ faults) e = by (first_of faults) e
  where
    by : (o : Option Fault) → earlier (Some f) o ≡ None → f ∷ faults ≡ []
    by None h = cc
    by (Some g) h = cc

first_holds : (P : Fault → Type 0) (faults : List Fault) (x : Fault) → first_of faults ≡ Some x → All P faults → P x
first_holds P [] x e all = cc
first_holds P (f ∷ faults) x e all =
    by (first_of faults) refl e (first_holds P faults)
  where
    by : (o : Option Fault) → first_of faults ≡ o → earlier (Some f) o ≡ Some x → ((y : Fault) → first_of faults ≡ Some y → All P faults → P y) → P x
    by None is h rest = let same : f ≡ x = cc in subst P same (All-head P f faults all)
    by (Some g) is h rest = either (comes_before g f) refl
      where
        either : (b : Bool) → comes_before g f ≡ b → P x
        either true t = let same : g ≡ x = cc in subst P same (rest g is (All-tail P f faults all))
        either false t = let same : f ≡ x = cc in subst P same (All-head P f faults all)

-- what `first_of` gives is the first
pub first_is : (faults : List Fault) (x : Fault) → first_of faults ≡ Some x → IsFirst x faults
first_is [] x e = cc
first_is (f ∷ faults) x e = by (first_of faults) refl e (first_is faults)
  where
    alone : (y : Fault) → f ≡ y → All (λ g. comes_before g f ≡ false) faults → IsFirst y (f ∷ faults)
    alone y same later = subst (λ z. IsFirst z (f ∷ faults)) same (record {
      earlier = [];
      later = faults;
      split = refl;
      before_earlier = All-nil (λ g. comes_before f g ≡ true);
      none_before = later;
    })

    behind : (y : Fault) → comes_before y f ≡ true → IsFirst y faults → IsFirst y (f ∷ faults)
    behind y t h = record {
      earlier = f ∷ h.earlier;
      later = h.later;
      split = ap (λ l. f ∷ l) h.split;
      before_earlier = All-cons (λ g. comes_before y g ≡ true) f h.earlier t h.before_earlier;
      none_before = h.none_before;
    }

    stays : (y : Fault) → comes_before y f ≡ false → IsFirst y faults → All (λ g. comes_before g f ≡ false) faults
    stays y t h =
        let P : Fault → Type 0 = λ g. comes_before g f ≡ false in
        let front = All-weaker (λ g. comes_before y g ≡ true) P (λ g b. after_earlier y f g b t) h.earlier h.before_earlier in
        let back = All-weaker (λ g. comes_before g y ≡ false) P (λ g b. not_before y f g b t) h.later h.none_before in
        All-same P faults (h.earlier ++ y ∷ h.later) h.split (All-append P h.earlier (y ∷ h.later) front (All-cons P y h.later t back))

    by : (o : Option Fault) → first_of faults ≡ o → earlier (Some f) o ≡ Some x → ((y : Fault) → first_of faults ≡ Some y → IsFirst y faults) → IsFirst x (f ∷ faults)
    by None is h rest =
        let same : f ≡ x = cc in
        alone x same (All-same (λ g. comes_before g f ≡ false) faults [] (first_none faults is) (All-nil (λ g. comes_before g f ≡ false)))
    by (Some g) is h rest = either (comes_before g f) refl
      where
        either : (b : Bool) → comes_before g f ≡ b → IsFirst x (f ∷ faults)
        either true t = let same : g ≡ x = cc in subst (λ z. IsFirst z (f ∷ faults)) same (behind g t (rest g is))
        either false t = let same : f ≡ x = cc in alone x same (stays g t (rest g is))

-- and there is only one
pub first_only : (faults : List Fault) (x : Fault) → IsFirst x faults → first_of faults ≡ Some x
first_only faults x h = ap first_of h.split ∙ first_of-append h.earlier (x ∷ h.later) ∙ ap (earlier (first_of h.earlier)) here ∙ whole
  where
    keeps : (o : Option Fault) → first_of h.later ≡ o → earlier (Some x) o ≡ Some x
    keeps None is = refl
    keeps (Some g) is =
        let t = first_holds (λ y. comes_before y x ≡ false) h.later g is h.none_before in
        ap (λ b. Some (if b then g else x)) t

    here : earlier (Some x) (first_of h.later) ≡ Some x
    here = keeps (first_of h.later) refl

    takes : (o : Option Fault) → first_of h.earlier ≡ o → earlier o (Some x) ≡ Some x
    takes None is = refl
    takes (Some g) is =
        let t = first_holds (λ y. comes_before x y ≡ true) h.earlier g is h.before_earlier in
        ap (λ b. Some (if b then x else g)) t

    whole : earlier (first_of h.earlier) (Some x) ≡ Some x
    whole = takes (first_of h.earlier) refl

pub on_ok : {T E : Type 0} {P : Type 0} (r : Result T E) → P → OnOk r P
on_ok (Ok x) p = p
on_ok (Err e) p = tt
