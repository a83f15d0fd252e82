-- Bytes are the digits of the number that they spell, so they are spelled again.
use Rattle.std.proofs.Common.{◌≡◌, ℕ, zero, suc, ◌+◌, ◌*◌, ◌^◌, ◌<◌, ◌≤◌, List, [], ◌∷◌, length, drop, refl, sym, ap, ◌∙◌, inl, inr, arith, length-take, length-drop}
use Rattle.std.specs.Prelude.{slice_index}
use Rattle.std.specs.Int.{bytes_high_first}
use Rattle.std.proofs.lemmas.Bool.{cases_lt}
use Rattle.std.proofs.lemmas.List.{get_or-drop, get_or-take, get_or_past, append-nil}
use Rattle.std.proofs.Math.Nat.{mul-le-mul_right, mod-lt, mod-eq_of_lt}
use Rattle.byteorder.specs.Endian.{big_from}
use Rattle.byteorder.specs.Numbers.{big_from-cons, big_from-lt, big_from-bytes, length-bytes_high_first}
use Rattle.redn_words.specs.Words.{bytes_at, number, spelled}
use Rattle.redn_words.proofs.Numbers.{number-bytes_at}

-- each is below 256
abbrev pub AreBytes : List ℕ → Type 0
AreBytes xs = (k : ℕ) → slice_index xs k < 256

-- a greatest digit and what is left of a number
greatest_digit : (a b r s p : ℕ) → r < p → s < p → a * p + r ≡ b * p + s → a ≡ b
greatest_digit a b r s p low below same =
    elim (cases_lt a b) [
      | inl less ↦ let top : suc a * p ≤ b * p = mul-le-mul_right p (omega arith) in let next : suc a * p ≡ a * p + p = omega arith in absurd (omega arith)
      | inr more ↦ elim (cases_lt b a) [
        | inl less ↦ let top : suc b * p ≤ a * p = mul-le-mul_right p (omega arith) in let next : suc b * p ≡ b * p + p = omega arith in absurd (omega arith)
        | inr not_more ↦ omega arith
      ]
    ]

-- equal numbers have equal digits
digits : (n : ℕ) (xs ys : List ℕ) → length xs ≡ n → length ys ≡ n → AreBytes xs → AreBytes ys → big_from 0 n xs ≡ big_from 0 n ys → xs ≡ ys
digits n [] [] e f h k same = refl
digits n [] (y ∷ ys) e f h k same = absurd (omega arith)
digits n (x ∷ xs) [] e f h k same = absurd (omega arith)
digits zero (x ∷ xs) (y ∷ ys) e f h k same = absurd (omega arith)
digits (suc n) (x ∷ xs) (y ∷ ys) e f h k same =
    let left : big_from 1 n (x ∷ xs) ≡ big_from 0 n xs = big_from-cons 0 n x xs in
    let right : big_from 1 n (y ∷ ys) ≡ big_from 0 n ys = big_from-cons 0 n y ys in
    let low = big_from-lt 0 n xs (λ i. h (suc i)) in
    let below = big_from-lt 0 n ys (λ i. k (suc i)) in
    let split : x * 256 ^ n + big_from 0 n xs ≡ y * 256 ^ n + big_from 0 n ys = ap (λ (r : ℕ). x * 256 ^ n + r) (sym left) ∙ same ∙ ap (λ (r : ℕ). y * 256 ^ n + r) right in
    let first : x ≡ y = greatest_digit x y (big_from 0 n xs) (big_from 0 n ys) (256 ^ n) low below split in
    let rest : big_from 0 n xs ≡ big_from 0 n ys = let scaled : x * 256 ^ n ≡ y * 256 ^ n = ap (λ (d : ℕ). d * 256 ^ n) first in omega (arith, split, scaled) in
    let later : xs ≡ ys = digits n xs ys (omega (arith, e)) (omega (arith, f)) (λ i. h (suc i)) (λ i. k (suc i)) rest in
    cc

pub bytes_of_number : (n x : ℕ) → AreBytes (bytes_high_first n x)
bytes_of_number zero x k = omega arith
bytes_of_number (suc zero) x zero = mod-lt x (omega arith)
bytes_of_number (suc (suc n)) x zero = mod-lt _ (omega arith)
bytes_of_number (suc n) x (suc k) = bytes_of_number n x k

pub part_of_bytes : (b : List ℕ) (o n : ℕ) → AreBytes b → AreBytes (bytes_at b o n)
part_of_bytes b o n h k =
    elim (cases_lt k n) [
      | inl low ↦ let e : slice_index (bytes_at b o n) k ≡ slice_index b (o + k) = get_or-take n (drop o b) k 0 low ∙ get_or-drop o b k 0 in let there = h (o + k) in omega (arith, e, there)
      | inr high ↦
          let size : length (bytes_at b o n) ≤ k = omega (arith, length-take n (drop o b)) in
          let e : slice_index (bytes_at b o n) k ≡ 0 = get_or_past (bytes_at b o n) k 0 size in
          omega (arith, e)
    ]

-- a number read from bytes is spelled by these bytes
pub spelled-number : (n : ℕ) (b : List ℕ) (o : ℕ) → o + n ≤ length b → AreBytes b → spelled n (number n b o) ≡ bytes_at b o n
unfolding number spelled
spelled-number n b o fits h =
    let x : ℕ = number n b o in
    let there : AreBytes (bytes_at b o n) = part_of_bytes b o n h in
    let size : length (bytes_at b o n) ≡ n = omega (arith, length-take n (drop o b), length-drop o b) in
    let is : x ≡ big_from 0 n (bytes_at b o n) = number-bytes_at n b o in
    let low : big_from 0 n (bytes_at b o n) < 256 ^ n = big_from-lt 0 n (bytes_at b o n) there in
    let read : big_from 0 n (bytes_high_first n x) ≡ x = ap (big_from 0 n) (sym (append-nil (bytes_high_first n x))) ∙ big_from-bytes n x [] ∙ mod-eq_of_lt (omega (arith, is, low)) in
    digits n (bytes_high_first n x) (bytes_at b o n) (length-bytes_high_first n x) size (bytes_of_number n x) there (read ∙ is)
