-- The first row that breaks a rule, found in one pass.
use Rattle.std.proofs.Common.{◌≡◌, ℕ, suc, ◌+◌, ◌<◌, ◌≤◌, Bool, true, false, not, cond, List, [], ◌∷◌, ◌++◌, Option, Some, None, length, take, drop, get_or, refl, sym, ap, ◌∙◌, add-one, zero-add, arith, length-append, length-take, drop-cons}
use Rattle.std.specs.Prelude.{nat_lt, if◌then◌else◌}
use Rattle.std.proofs.lemmas.Bool.Decides.{nat_tests}
use Rattle.std.specs.Option.{option_map, option_or}
use Rattle.std.proofs.lemmas.List.Folds.{find-append}
use Rattle.std.specs.List.{find, position, position_from, position_or_len}
use Rattle.std.proofs.lemmas.List.{take_more, drop_all}
use Rattle.redn_image.specs.Rules.{Fault, RegionNumbers, fault_at, breaking, first_of}

pub first_append : (xs ys : List Fault) → first_of (xs ++ ys) ≡ option_or (first_of xs) (first_of ys)
first_append [] ys = refl
first_append (x ∷ xs) ys = refl

-- two lists of faults, each with its first
pub first_both : (xs ys : List Fault) (a b : Option Fault) → a ≡ first_of xs → b ≡ first_of ys → option_or a b ≡ first_of (xs ++ ys)
first_both xs ys a b e f = ap (λ (o : Option Fault). option_or o b) e ∙ ap (option_or (first_of xs)) f ∙ sym (first_append xs ys)

-- the rows that break a rule, behind those that were looked at
pub record PassedTo {X : Type 0} (rule : ℕ) (keeps : List X → X → Bool) (rows : List X) (i : ℕ) : Type 0 where
  pub none : breaking rule keeps [] rows ≡ breaking rule keeps (take i rows) (drop i rows)

breaks_cons : {X : Type 0} (rule : ℕ) (keeps : List X → X → Bool) (earlier rest : List X) (x : X) → keeps earlier x ≡ true → breaking rule keeps earlier (x ∷ rest) ≡ breaking rule keeps (earlier ++ x ∷ []) rest
breaks_cons rule keeps earlier rest x e = rw e refl

-- a row that keeps the rule
pub passed_more : {X : Type 0} (rule : ℕ) (keeps : List X → X → Bool) (rows : List X) (i : ℕ) (d : X) → i < length rows → PassedTo rule keeps rows i → keeps (take i rows) (get_or rows i d) ≡ true → PassedTo rule keeps rows (i + 1)
passed_more rule keeps rows i d low p e =
    let x = get_or rows i d in
    let cut : drop i rows ≡ x ∷ drop (i + 1) rows = drop-cons rows i d low ∙ ap (λ (n : ℕ). x ∷ drop n rows) (sym (add-one i)) in
    let more : take (i + 1) rows ≡ take i rows ++ x ∷ [] = take_more rows i d low in
    record {
      none = p.none ∙ ap (breaking rule keeps (take i rows)) cut ∙ breaks_cons rule keeps (take i rows) (drop (i + 1) rows) x e ∙ ap (λ (l : List _). breaking rule keeps l (drop (i + 1) rows)) (sym more);
    }

one_row : (rule n : ℕ) (keeps : Bool) (f : Fault) (rest : List Fault) (later : Option ℕ) → f ≡ fault_at rule n → first_of rest ≡ option_map (fault_at rule) later → first_of ((if keeps then [] else f ∷ []) ++ rest) ≡ option_map (fault_at rule) (cond (not keeps) (Some n) later)
one_row rule n true f rest later e h = h
one_row rule n false f rest later e h = ap Some e

-- a rule that looks at no other row
from_place : {X : Type 0} (rule n : ℕ) (keeps : X → Bool) (earlier rows : List X) → length earlier ≡ n → first_of (breaking rule (λ (before : List X) (x : X). keeps x) earlier rows) ≡ option_map (fault_at rule) (position_from (λ (x : X). not (keeps x)) n rows)
from_place rule n keeps earlier [] e = refl
from_place rule n keeps earlier (x ∷ rows) e =
    let more : length (earlier ++ x ∷ []) ≡ n + 1 = length-append earlier (x ∷ []) ∙ omega arith in
    one_row rule n (keeps x) _ _ _ (ap (fault_at rule) e) (from_place rule (n + 1) keeps (earlier ++ x ∷ []) rows more)

one_place : (n a m : ℕ) (b : Bool) (later : Option ℕ) → later ≡ cond (nat_lt a m) (Some (n + 1 + a)) None → cond b (Some n) later ≡ cond (nat_lt (cond (not b) (1 + a) 0) (suc m)) (Some (n + cond (not b) (1 + a) 0)) None
one_place n a m true later e = grind (arith, nat_tests)
one_place n a m false later e = grind (arith, nat_tests)

place_from : {X : Type 0} (p : X → Bool) (n : ℕ) (xs : List X) → position_from p n xs ≡ cond (nat_lt (position_or_len p xs) (length xs)) (Some (n + position_or_len p xs)) None
place_from p n [] = refl
place_from p n (x ∷ xs) = one_place n (position_or_len p xs) (length xs) (p x) _ (place_from p (n + 1) xs)

place_is : {X : Type 0} (p : X → Bool) (xs : List X) → position_from p 0 xs ≡ position p xs
place_is p xs = place_from p 0 xs ∙ ap (λ (n : ℕ). cond (nat_lt (position_or_len p xs) (length xs)) (Some n) None) (zero-add (position_or_len p xs))

-- the first row at which a test of one row fails is the first fault
pub position_first : {X : Type 0} (rule : ℕ) (keeps : X → Bool) (rows : List X) → option_map (fault_at rule) (position (λ (x : X). not (keeps x)) rows) ≡ first_of (breaking rule (λ (before : List X) (x : X). keeps x) [] rows)
position_first rule keeps rows = ap (option_map (fault_at rule)) (sym (place_is (λ x. not (keeps x)) rows)) ∙ sym (from_place rule 0 keeps [] rows refl)

-- what stands past the last region
abbrev pub no_region : RegionNumbers
no_region = record { key = 0; domain = 0; kind = 0; table = 0; rights = 0; base = 0; len = 0 }

-- what is found among one row more
pub find_more : {X : Type 0} (p : X → Bool) (rows : List X) (i : ℕ) (d : X) → i < length rows → find p (take (i + 1) rows) ≡ option_or (find p (take i rows)) (cond (p (get_or rows i d)) (Some (get_or rows i d)) None)
find_more p rows i d low = ap (find p) (take_more rows i d low) ∙ find-append p (take i rows) (get_or rows i d ∷ [])

-- the first of two lists of faults, from the first of each
pub joined : (xs ys : List Fault) (r a b : Option Fault) → r ≡ option_or a b → a ≡ first_of xs → b ≡ first_of ys → r ≡ first_of (xs ++ ys)
joined xs ys r a b is e f = is ∙ first_both xs ys a b e f

-- a rule of one row, from the place at which its test fails
pub placed : {X : Type 0} (rule : ℕ) (keeps : X → Bool) (rows : List X) (f : Option Fault) (i : Option ℕ) → f ≡ option_map (fault_at rule) i → i ≡ position (λ (x : X). not (keeps x)) rows → f ≡ first_of (breaking rule (λ (before : List X) (x : X). keeps x) [] rows)
placed rule keeps rows f i e at = e ∙ ap (option_map (fault_at rule)) at ∙ position_first rule keeps rows
