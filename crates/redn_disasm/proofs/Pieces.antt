-- A text cut at its first space or newline.
use Rattle.std.proofs.Common.{◌≡◌, ℕ, suc, ◌+◌, ◌%◌, ◌^◌, ◌<◌, Bool, true, false, cond, ◌&&◌, List, [], ◌∷◌, ◌++◌, length, take, drop, decimal, refl, sym, ap, ◌∙◌, arith}
use Rattle.std.specs.List.{list_all, prefix_len}
use Rattle.std.proofs.lemmas.Bool.{and_parts}
use Rattle.std.proofs.lemmas.Bool.Decides.{nat_tests}
use Rattle.std.proofs.lemmas.List.{take_at, drop_at}
use Rattle.std.proofs.lemmas.Fmt.{decimal_by_steps}
use Rattle.redn_disasm.specs.Assembly.{is_inside}
use Rattle.redn_disasm.specs.Reading.{IsField}

one_more : (n b : ℕ) (text : List ℕ) → take (1 + n) (b ∷ text) ≡ b ∷ take n text
one_more n b text = let e : 1 + n ≡ suc n = omega arith in ap (λ (k : ℕ). take k (b ∷ text)) e

-- a front of a text passes a test up to where it ends
pub front_passes : (p : ℕ → Bool) (text : List ℕ) → list_all p (take (prefix_len p text) text) ≡ true
front_passes p [] = refl
front_passes p (b ∷ text) =
    elim (p b) as (λ v. p b ≡ v → list_all p (take (cond v (1 + prefix_len p text) 0) (b ∷ text)) ≡ true) [
      | true ↦ λ e. ap (list_all p) (one_more (prefix_len p text) b text) ∙ ap (λ (v : Bool). v && list_all p (take (prefix_len p text) text)) e ∙ front_passes p text
      | false ↦ λ e. refl
    ] refl

-- and what stands behind doesn't
pub behind_stops : (p : ℕ → Bool) (text : List ℕ) → prefix_len p (drop (prefix_len p text) text) ≡ 0
behind_stops p [] = refl
behind_stops p (b ∷ text) =
    elim (p b) as (λ v. p b ≡ v → prefix_len p (drop (cond v (1 + prefix_len p text) 0) (b ∷ text)) ≡ 0) [
      | true ↦ λ e. let n : 1 + prefix_len p text ≡ suc (prefix_len p text) = omega arith in ap (λ (k : ℕ). prefix_len p (drop k (b ∷ text))) n ∙ behind_stops p text
      | false ↦ λ e. ap (λ (v : Bool). cond v (1 + prefix_len p text) 0) e
    ] refl

pub front_len : (p : ℕ → Bool) (front behind : List ℕ) → list_all p front ≡ true → prefix_len p behind ≡ 0 → prefix_len p (front ++ behind) ≡ length front
front_len p [] behind e f = f
front_len p (b ∷ front) behind e f =
    let both = and_parts (p b) (list_all p front) e in
    ap (λ (v : Bool). cond v (1 + prefix_len p (front ++ behind)) 0) both.0 ∙ omega (arith, front_len p front behind both.1 f)

-- a text is cut there in one way
pub same_cut : (p : ℕ → Bool) (text front behind other rest : List ℕ) → text ≡ front ++ behind → list_all p front ≡ true → prefix_len p behind ≡ 0 → text ≡ other ++ rest → list_all p other ≡ true → prefix_len p rest ≡ 0 → (front ≡ other) × (behind ≡ rest)
same_cut p text front behind other rest e a b f c d =
    let same : front ++ behind ≡ other ++ rest = sym e ∙ f in
    let n : length front ≡ length other = sym (front_len p front behind a b) ∙ ap (prefix_len p) same ∙ front_len p other rest c d in
    (sym (take_at front behind (length front) refl) ∙ ap (take (length front)) same ∙ take_at other rest (length front) (sym n), sym (drop_at front behind (length front) refl) ∙ ap (drop (length front)) same ∙ drop_at other rest (length front) (sym n))

abbrev tail : List ℕ → List ℕ
tail [] = []
tail (b ∷ rest) = rest

pub same_field : (text front behind other rest : List ℕ) → IsField text front behind → IsField text other rest → (front ≡ other) × (behind ≡ rest)
same_field text front behind other rest f g = same_cut is_inside (tail text) front behind other rest (ap tail f.is) f.inside f.stops (ap tail g.is) g.inside g.stops

pub all_append : (p : ℕ → Bool) (xs ys : List ℕ) → list_all p xs ≡ true → list_all p ys ≡ true → list_all p (xs ++ ys) ≡ true
all_append p [] ys e f = f
all_append p (x ∷ xs) ys e f = let both = and_parts (p x) (list_all p xs) e in ap (λ (v : Bool). v && list_all p (xs ++ ys)) both.0 ∙ all_append p xs ys both.1 f

digit : (n : ℕ) → is_inside (48 + n) ≡ true
digit n = grind (arith, nat_tests)

-- a number has no space and no newline
pub decimal_inside : (n : ℕ) → n < 2 ^ 64 → list_all is_inside (decimal n) ≡ true
decimal_inside n small =
    let one = λ (k : ℕ). ap (λ (v : Bool). v && true) (digit k) in
    decimal_by_steps (λ k ds. list_all is_inside ds ≡ true) (λ k h. one k) (λ k ds h e. all_append is_inside ds ((48 + k % 10) ∷ []) e (one (k % 10))) n small
