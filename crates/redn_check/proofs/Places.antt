-- Where a name stands in a list of names.
use Rattle.std.proofs.Common.{◌≡◌, ℕ, suc, ◌+◌, ◌≤◌, Bool, true, false, cond, not, ltb, List, [], ◌∷◌, ◌++◌, if◌then◌else◌, length, map, Option, Some, None, is_some, slice_get, position, refl, sym, ap, ◌∙◌, arith}
use Rattle.std.specs.List.{position_or_len}
use Rattle.std.specs.Str.{bytes_eq}
use Rattle.std.specs.Map.{update}
use Rattle.std.proofs.lemmas.Slice.Eq.{bytes_eq-Decides}
use Rattle.indexmap.specs.IndexMap.{get_by_text}
use Rattle.std.proofs.lemmas.Bool.Decides.{nat_tests, same_from_decides}
use Rattle.std.proofs.lemmas.Option.{slice_get_past, cond_some}
use Rattle.std.proofs.lemmas.List.{length_push, length-map}
use Rattle.std.proofs.lemmas.List.Folds.{find_at, position_or_len_push}
use Rattle.redn_syntax.specs.declared.tree.Name.{Name}
use Rattle.redn_syntax.specs.declared.tree.Table.{Table}
use Rattle.redn_check.specs.Names.{place_of, table_names, table_of, Places, Holds}

module _ {X : Type 0} (p : X → Bool) where
  position_or_len-le : (xs : List X) → position_or_len p xs ≤ length xs
  position_or_len-le [] = omega arith
  position_or_len-le (x ∷ xs) =
      let rest = position_or_len-le xs in
      elim (p x) as (λ b. cond (not b) (1 + position_or_len p xs) 0 ≤ suc (length xs)) [ true ↦ omega arith | false ↦ omega arith ]

  pub position_push : (xs : List X) (y : X) → position p (xs ++ y ∷ []) ≡ (if is_some (position p xs) then position p xs else (if p y then Some (length xs) else None))
  position_push xs y = grind (arith, nat_tests, position_or_len_push p xs y, length_push xs y, position_or_len-le xs)

pub place_push : (names : List Name) (n : Name) (text : List ℕ) →
    place_of (names ++ n ∷ []) text ≡ (if is_some (place_of names text) then place_of names text else (if bytes_eq text n.text then Some (length names) else None))
place_push names n text = position_push (λ m. bytes_eq text m.text) names n

position_or_len-map : {X Y : Type 0} (f : X → Y) (p : Y → Bool) (xs : List X) → position_or_len p (map f xs) ≡ position_or_len (λ x. p (f x)) xs
position_or_len-map f p [] = refl
position_or_len-map f p (x ∷ xs) = ap (λ n. cond (not (p (f x))) (1 + n) 0) (position_or_len-map f p xs)

cond_none : {A : Type 0} (b : Bool) (x : A) → cond b (Some x) None ≡ None → b ≡ false
cond_none true x e = cc
cond_none false x e = refl

module _ (tables : List Table) (n : Name) where
  abbrev has_name : Table → Bool
  has_name t = bytes_eq n.text t.name.text

  abbrev first_place : ℕ
  first_place = position_or_len (λ m. bytes_eq n.text m.text) (table_names tables)

  same_place : first_place ≡ position_or_len has_name tables
  same_place = position_or_len-map (λ t. t.name) (λ m. bytes_eq n.text m.text) tables

  found_there : slice_get tables first_place ≡ table_of tables n
  found_there = ap (slice_get tables) same_place ∙ sym (find_at has_name tables)

  -- the table that stands where its name does
  pub found_table : (k : ℕ) → place_of (table_names tables) n.text ≡ Some k → slice_get tables k ≡ table_of tables n
  found_table k e = ap (slice_get tables) (sym (cond_some _ _ _ e).1) ∙ found_there

  pub no_table : place_of (table_names tables) n.text ≡ None → table_of tables n ≡ None
  no_table e =
      let past : ltb first_place (length (table_names tables)) ≡ false = cond_none _ _ e in
      let all = length-map tables (λ t. t.name) in
      sym found_there ∙ slice_get_past tables first_place (grind (arith, nat_tests))

-- ---- one more name

bytes_eq_comm : (xs ys : List ℕ) → bytes_eq xs ys ≡ bytes_eq ys xs
bytes_eq_comm xs ys =
    let other = bytes_eq-Decides ys xs in
    same_from_decides (bytes_eq xs ys) (bytes_eq ys xs) (bytes_eq-Decides xs ys) (λ e. sym (other.0 e), λ e. other.1 (sym e))

kept : (o : Option ℕ) (b : Bool) (k : ℕ) → (b ≡ true → is_some o ≡ true) → o ≡ (if is_some o then o else (if b then Some k else None))
kept (Some x) b k h = refl
kept None false k h = refl
kept None true k h = cc (h refl)

fresh : (o : Option ℕ) (b : Bool) (k : ℕ) → (b ≡ true → o ≡ None) → (if b then Some k else o) ≡ (if is_some o then o else (if b then Some k else None))
fresh (Some x) false k h = refl
fresh (Some x) true k h = cc (h refl)
fresh None b k h = refl

module _ (m : Places) (names : List Name) (n : Name) (holds : Holds m names) where
  same_text : (text : List ℕ) → bytes_eq text n.text ≡ true → place_of names text ≡ place_of names n.text
  same_text text e = ap (place_of names) ((bytes_eq-Decides text n.text).0 e)

  -- that stands there already
  pub Holds-known : is_some (get_by_text m n.text) ≡ true → Holds m (names ++ n ∷ [])
  Holds-known known text =
      let here : is_some (place_of names n.text) ≡ true = ap is_some (sym (holds n.text)) ∙ known in
      holds text ∙ kept (place_of names text) (bytes_eq text n.text) (length names) (λ e. ap is_some (same_text text e) ∙ here) ∙ sym (place_push names n text)

  -- that doesn't
  pub Holds-new : (more : Places) (place : ℕ) → is_some (get_by_text m n.text) ≡ false → length names ≡ place →
      ((text : List ℕ) → get_by_text more text ≡ update bytes_eq (get_by_text m) n.text (Some place) text) → Holds more (names ++ n ∷ [])
  Holds-new more place unknown e updates text =
      let none : place_of names n.text ≡ None = sym (holds n.text) ∙ none_of (get_by_text m n.text) unknown in
      updates text ∙ (λ i. if bytes_eq_comm n.text text i then Some (sym e i) else holds text i)
      ∙ fresh (place_of names text) (bytes_eq text n.text) (length names) (λ b. same_text text b ∙ none) ∙ sym (place_push names n text)
    where
      none_of : (o : Option ℕ) → is_some o ≡ false → o ≡ None
      none_of None h = refl
      none_of (Some x) h = cc
