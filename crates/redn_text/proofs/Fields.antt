-- Fields with a separator between.
use Rattle.std.proofs.Common.{◌≡◌, ℕ, suc, ◌+◌, ◌<◌, ◌%◌, ◌^◌, Bool, true, false, cond, ◌&&◌, List, [], ◌∷◌, ◌++◌, length, take, drop, decimal, refl, sym, ap, ◌∙◌, arith}
use Rattle.std.specs.List.{list_all, prefix_len}
use Rattle.std.proofs.lemmas.Bool.Decides.{nat_tests}
use Rattle.std.proofs.lemmas.List.{take_at, drop_at}
use Rattle.std.proofs.lemmas.Fmt.{decimal_by_steps}
use Rattle.redn_text.specs.Texts.{is_not, IsSplit}

pub and_left : (a b : Bool) → (a && b) ≡ true → a ≡ true
and_left true b e = refl
and_left false b e = e

pub and_right : (a b : Bool) → (a && b) ≡ true → b ≡ true
and_right true b e = e
and_right false b e = absurd (cc)

module _ (separator : ℕ) where
  -- the front before the first separator
  pub front_is : (front behind : List ℕ) → list_all (is_not separator) front ≡ true → prefix_len (is_not separator) (front ++ separator ∷ behind) ≡ length front
  front_is [] behind e =
      let stops : is_not separator separator ≡ false = grind (arith, nat_tests) in
      ap (λ v. cond v (1 + prefix_len (is_not separator) behind) 0) stops
  front_is (b ∷ front) behind e =
      ap (λ v. cond v (1 + prefix_len (is_not separator) (front ++ separator ∷ behind)) 0) (and_left (is_not separator b) _ e) ∙ omega (arith, front_is front behind (and_right (is_not separator b) _ e))

  pub front_of : (text front behind : List ℕ) → IsSplit separator text front behind → take (prefix_len (is_not separator) text) text ≡ front
  front_of text front behind s =
      let len : prefix_len (is_not separator) text ≡ length front = ap (prefix_len (is_not separator)) s.is ∙ front_is front behind s.first in
      ap (λ k. take k text) len ∙ ap (take (length front)) s.is ∙ take_at front (separator ∷ behind) (length front) refl

  pub behind_of : (text front behind : List ℕ) → IsSplit separator text front behind → drop (prefix_len (is_not separator) text) text ≡ separator ∷ behind
  behind_of text front behind s =
      let len : prefix_len (is_not separator) text ≡ length front = ap (prefix_len (is_not separator)) s.is ∙ front_is front behind s.first in
      ap (λ k. drop k text) len ∙ ap (drop (length front)) s.is ∙ drop_at front (separator ∷ behind) (length front) refl

  -- a text is split in one way
  pub same_split : (text front behind other rest : List ℕ) → IsSplit separator text front behind → IsSplit separator text other rest → (front ≡ other) × (behind ≡ rest)
  same_split text front behind other rest s t =
      let tails : separator ∷ behind ≡ separator ∷ rest = sym (behind_of text front behind s) ∙ behind_of text other rest t in
      (sym (front_of text front behind s) ∙ front_of text other rest t, cc)

  -- the front of a text has no separator
  one_more : (n b : ℕ) (text : List ℕ) → take (1 + n) (b ∷ text) ≡ b ∷ take n text
  one_more n b text = let e : 1 + n ≡ suc n = omega arith in ap (λ k. take k (b ∷ text)) e

  pub front_has_none : (text : List ℕ) → list_all (is_not separator) (take (prefix_len (is_not separator) text) text) ≡ true
  front_has_none [] = refl
  front_has_none (b ∷ text) =
      elim (is_not separator b) as (λ v. (is_not separator) b ≡ v → list_all (is_not separator) (take (cond v (1 + prefix_len (is_not separator) text) 0) (b ∷ text)) ≡ true) [
        | true ↦ λ e. ap (list_all (is_not separator)) (one_more (prefix_len (is_not separator) text) b text) ∙ ap (λ v. v && list_all (is_not separator) (take (prefix_len (is_not separator) text) text)) e ∙ front_has_none text
        | false ↦ λ e. refl
      ] refl

pub all_append : (p : ℕ → Bool) (xs ys : List ℕ) → list_all p xs ≡ true → list_all p ys ≡ true → list_all p (xs ++ ys) ≡ true
all_append p [] ys e f = f
all_append p (x ∷ xs) ys e f = ap (λ v. v && list_all p (xs ++ ys)) (and_left (p x) _ e) ∙ all_append p xs ys (and_right (p x) _ e) f

-- what holds of each digit holds along a number
pub decimal_all : (p : ℕ → Bool) → ((n : ℕ) → n < 10 → p (48 + n) ≡ true) → (n : ℕ) → n < 2 ^ 64 → list_all p (decimal n) ≡ true
decimal_all p digit n small =
    let one = λ (k : ℕ) (h : k < 10). ap (λ v. v && true) (digit k h) in
    decimal_by_steps (λ k ds. list_all p ds ≡ true) (λ k h. one k h) (λ k ds h e. all_append p ds ((48 + k % 10) ∷ []) e (one (k % 10) (omega arith))) n small

pub space_is_no_digit : (n : ℕ) → n < 10 → is_not 32 (48 + n) ≡ true
space_is_no_digit n small = grind (arith, nat_tests)

pub equals_is_no_digit : (n : ℕ) → n < 10 → is_not 61 (48 + n) ≡ true
equals_is_no_digit n small = grind (arith, nat_tests)

-- a number has no space
pub decimal_has_none : (n : ℕ) → n < 2 ^ 64 → list_all (is_not 32) (decimal n) ≡ true
decimal_has_none n small = decimal_all (is_not 32) space_is_no_digit n small

pub pair_split : (q i : ℕ) (text : List ℕ) → q < 2 ^ 64 → text ≡ decimal q ++ 32 ∷ decimal i → IsSplit 32 text (decimal q) (decimal i)
pair_split q i text small e = record { is = e; first = decimal_has_none q small }

module _ (separator : ℕ) where
  -- what is left begins with the separator
  pub space_first : (text : List ℕ) (b : ℕ) (behind : List ℕ) → drop (prefix_len (is_not separator) text) text ≡ b ∷ behind → b ≡ separator
  space_first [] b behind e = absurd (cc)
  space_first (x ∷ text) b behind e =
      elim (is_not separator x) as (λ v. (is_not separator) x ≡ v → drop (cond v (1 + prefix_len (is_not separator) text) 0) (x ∷ text) ≡ b ∷ behind → b ≡ separator) [
        | true ↦ λ t f. let n : 1 + prefix_len (is_not separator) text ≡ suc (prefix_len (is_not separator) text) = omega arith in space_first text b behind (sym (ap (λ k. drop k (x ∷ text)) n) ∙ f)
        | false ↦ λ t f. let is : x ≡ b = cc in let space : x ≡ separator = grind (arith, nat_tests) in sym is ∙ space
      ] refl e
