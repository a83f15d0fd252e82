-- Places behind others, items behind others, and lengths that sum up.
use Rattle.std.proofs.Common.{◌≡◌, ℕ, zero, suc, ◌+◌, ◌-◌, ◌^◌, ◌<◌, ◌≤◌, min, false, List, [], ◌∷◌, ◌++◌, length, map, take, drop, get_or, Some, None, slice_get, refl, sym, ap, ◌∙◌, arith}
use Rattle.std.specs.List.{flat_map, sum_by}
use Rattle.std.proofs.lemmas.List.{append-nil, map-append, take_more, drop_more, take-append-drop, get_or_default, length-map}
use Rattle.std.proofs.lemmas.List.Concat.{flat_map-append}
use Rattle.std.proofs.lemmas.Grind.{fold-append}
use Rattle.std.proofs.lemmas.Option.{slice_get-map}
use Rattle.std.specs.Prelude.{Option}
use Rattle.std.specs.Option.{option_map, option_map_or}
use Rattle.std.proofs.lemmas.Bool.Decides.{nat_tests}
use Rattle.redn_syntax.specs.declared.tree.Item.{Item}
use Rattle.redn_syntax.specs.declared.tree.Name.{Name}
use Rattle.redn_syntax.specs.declared.tree.Num.{Num}
use Rattle.redn_syntax.specs.declared.tree.VarDecl.{VarDecl}
use Rattle.redn_check.specs.Names.{variable_names}
use Rattle.redn_check.specs.Faults.{fault}
use Rattle.redn_check.specs.Statements.{with_earlier}
use Rattle.redn_check.specs.Rules.{offset_behind, end_of, is_misplaced, misplaced, place_of_item}
use Rattle.redn_check.proofs.Nothing.{nil_left, nil_right, when_none}

pub slice_get_right : {X : Type 0} (xs ys : List X) (k : ℕ) → length xs ≤ k → slice_get (xs ++ ys) k ≡ slice_get ys (k - length xs)
slice_get_right [] ys k h = ap (slice_get ys) (omega arith)
slice_get_right (x ∷ xs) ys zero h = absurd (omega arith)
slice_get_right (x ∷ xs) ys (suc k) h =
    let same : k - length xs ≡ suc k - suc (length xs) = omega arith in
    slice_get_right xs ys k (omega arith) ∙ ap (slice_get ys) same

module _ {X : Type 0} where
  abbrev pub behind_one : X → List X × X → List X × X
  behind_one x e = (x ∷ e.0, e.1)

  abbrev pub behind_all : List X → List X × X → List X × X
  behind_all xs e = (xs ++ e.0, e.1)

  behind_none : (es : List (List X × X)) → map (behind_all []) es ≡ es
  behind_none [] = refl
  behind_none (e ∷ es) = ap (λ l. e ∷ l) (behind_none es)

  behind_both : (x : X) (xs : List X) (es : List (List X × X)) → map (behind_one x) (map (behind_all xs) es) ≡ map (behind_all (x ∷ xs)) es
  behind_both x xs [] = refl
  behind_both x xs (e ∷ es) = ap (λ l. behind_all (x ∷ xs) e ∷ l) (behind_both x xs es)

  pub with_earlier-append : (xs ys : List X) → with_earlier (xs ++ ys) ≡ with_earlier xs ++ map (behind_all xs) (with_earlier ys)
  with_earlier-append [] ys = sym (behind_none (with_earlier ys))
  with_earlier-append (x ∷ xs) ys =
      ap (λ l. ([], x) ∷ map (behind_one x) l) (with_earlier-append xs ys)
      ∙ ap (λ l. ([], x) ∷ l) (map-append (behind_one x) (with_earlier xs) (map (behind_all xs) (with_earlier ys)) ∙ ap (λ l. map (behind_one x) (with_earlier xs) ++ l) (behind_both x xs (with_earlier ys)))

  pub split_at : (xs : List X) (i : ℕ) (x : X) → i < length xs → x ≡ get_or xs i x → xs ≡ take i xs ++ x ∷ drop (i + 1) xs
  split_at xs i x h e = sym (take-append-drop i xs) ∙ ap (λ l. take i xs ++ l) (drop_more xs i x h ∙ ap (λ y. y ∷ drop (i + 1) xs) (sym e))

pub end_push : (items : List Item) (i : Item) → end_of (items ++ i ∷ []) ≡ offset_behind (end_of items) i + 8
end_push items i = fold-append (λ end x. offset_behind end x + 8) 0 items (i ∷ [])

-- ---- the items of a table

-- where an item stands behind an end that stops at the greatest number
pub offset_capped : (end from offset : ℕ) (i : Item) → end ≡ min from (2 ^ 64 - 1) → offset < 2 ^ 64 → offset ≡ offset_behind end i → offset ≡ min (offset_behind from i) (2 ^ 64 - 1)
offset_capped end from offset i ended low stands = by_place i.at stands
  where
    by_place : (o : Option Num) → offset ≡ option_map_or (λ (n : Num). n.value) o end → offset ≡ min (option_map_or (λ (n : Num). n.value) o from) (2 ^ 64 - 1)
    by_place None e = e ∙ ended
    by_place (Some n) e = omega (arith, e, low)

-- the end of the items so far, one more
pub end_more : (end next offset i : ℕ) (items : List Item) (d : Item) → i < length items → end ≡ min (end_of (take i items)) (2 ^ 64 - 1) → offset < 2 ^ 64 → offset ≡ offset_behind end (get_or items i d) → next ≡ min (offset + 8) (2 ^ 64 - 1) →
    next ≡ min (end_of (take (i + 1) items)) (2 ^ 64 - 1)
end_more end next offset i items d within ended low stands is =
    let there = offset_capped end (end_of (take i items)) offset (get_or items i d) ended low stands in
    let more : end_of (take (i + 1) items) ≡ offset_behind (end_of (take i items)) (get_or items i d) + 8 = ap end_of (take_more items i d within) ∙ end_push (take i items) (get_or items i d) in
    omega (arith, there, more, is)

-- ---- the variable behind so many

pub place_behind : (args : List Name) (vars : List VarDecl) (count : ℕ) (v : VarDecl) → length args ≤ count → slice_get vars (count - length args) ≡ Some v →
    slice_get (map (λ n. n.at) (args ++ variable_names vars)) count ≡ Some v.name.at
place_behind args vars count v past found =
    let size = length-map args (λ n. n.at) in
    ap (λ l. slice_get l count) (map-append (λ n. n.at) args (variable_names vars))
    ∙ slice_get_right (map (λ n. n.at) args) (map (λ n. n.at) (variable_names vars)) count (omega arith)
    ∙ ap (λ k. slice_get (map (λ n. n.at) (variable_names vars)) (count - k)) size
    ∙ slice_get-map (λ n. n.at) (variable_names vars) (count - length args) ∙ ap (option_map (λ n. n.at)) (slice_get-map (λ w. w.name) vars (count - length args))
    ∙ ap (λ o. option_map (λ n. n.at) (option_map (λ w. w.name) o)) found

-- ---- lengths that sum up

module _ {X : Type 0} (f : X → ℕ) where
  pub sum_push : (xs : List X) (x : X) → sum_by f (xs ++ x ∷ []) ≡ sum_by f xs + f x
  sum_push xs x = fold-append (λ a y. a + f y) 0 xs (x ∷ [])

  pub sum_more : (xs : List X) (i : ℕ) (x : X) → i < length xs → x ≡ get_or xs i x → sum_by f (take (i + 1) xs) ≡ sum_by f (take i xs) + f x
  sum_more xs i x h e = ap (sum_by f) (take_more xs i x h ∙ ap (λ y. take i xs ++ y ∷ []) (sym e)) ∙ sum_push (take i xs) x

-- what a sum is that stops at a limit
pub capped : (next total sum own sums most : ℕ) → next ≡ min (total + own) most → total ≡ min sum most → sums ≡ sum + own → next ≡ min sums most
capped next total sum own sums most a b d = omega arith

-- where an item ends is where those up to it end
pub good_last : (end offset i : ℕ) (items : List Item) (d : Item) → i < length items → end ≡ end_of (take i items) → offset ≡ offset_behind end (get_or items i d) →
    offset + 8 ≡ end_of (take (i + 1) items)
good_last end offset i items d within ended stands =
    ap (λ n. n + 8) (stands ∙ ap (λ e. offset_behind e (get_or items i d)) ended) ∙ sym (ap end_of (take_more items i d within) ∙ end_push (take i items) (get_or items i d))

-- ---- no item is misplaced

module _ (len i : ℕ) (items all : List Item) (d : Item) (same : items ≡ all) (within : i < length items)
    (none : flat_map (λ e. misplaced len e.0 e.1) (with_earlier all) ≡ []) where
  pub none_here : misplaced len (take i items) (get_or items i d) ≡ []
  none_here =
      let x = get_or items i d in
      let rest = map (behind_all (take i items)) (map (behind_one x) (with_earlier (drop (i + 1) items))) in
      let whole : flat_map (λ e. misplaced len e.0 e.1) (with_earlier (take i items) ++ ((take i items ++ [], x) ∷ rest)) ≡ [] =
      ap (flat_map (λ e. misplaced len e.0 e.1)) (sym (with_earlier-append (take i items) (x ∷ drop (i + 1) items)))
      ∙ ap (λ l. flat_map (λ e. misplaced len e.0 e.1) (with_earlier l)) (sym (split_at items i x within (get_or_default items i d x within)) ∙ same) ∙ none
      in
      let later = nil_right (flat_map (λ e. misplaced len e.0 e.1) (with_earlier (take i items))) _ (sym (flat_map-append (λ e. misplaced len e.0 e.1) (with_earlier (take i items)) ((take i items ++ [], x) ∷ rest)) ∙ whole) in
      ap (λ l. misplaced len l x) (sym (append-nil (take i items))) ∙ nil_left _ (flat_map (λ e. misplaced len e.0 e.1) rest) later

  pub fits_here : (end offset : ℕ) → end ≡ end_of (take i items) → offset ≡ offset_behind end (get_or items i d) → offset + 8 ≤ len
  fits_here end offset ended stands =
      let x = get_or items i d in
      let good = when_none _ (fault 12 (place_of_item x) (min (offset_behind (end_of (take i items)) x) (2 ^ 64 - 1))) none_here in
      let there : offset ≡ offset_behind (end_of (take i items)) x = stands ∙ ap (λ e. offset_behind e x) ended in
      let same_test : is_misplaced len (end_of (take i items)) offset ≡ false = ap (is_misplaced len (end_of (take i items))) there ∙ good in
      grind (arith, nat_tests)
