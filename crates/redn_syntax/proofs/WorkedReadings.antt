-- What is a token, and what is none, at the edges.
use Rattle.std.proofs.Common.{arith, ◌≡◌, ◌<◌, ℕ, inl, inr, true, false, List, [], ◌∷◌, ◌++◌, codes, length, refl, ap, ◌∙◌, get_or}
use Rattle.std.proofs.lemmas.Bool.{leb-true}
use Rattle.std.specs.Str.{bytes_eq}
use Rattle.redn_syntax.specs.declared.token.TokenKind.{TokenKind}
use Rattle.redn_syntax.specs.declared.token.TokenKind.TheVariants as k
use Rattle.redn_syntax.specs.Tokens.{spelling, IsName, IsNumber, IsToken, HasShape, EndsBefore, Tokenizes}
use Rattle.redn_syntax.proofs.Shapes.{kind_in, kinds}
use Rattle.redn_syntax.proofs.Decided.{tokenizes_by, name_by}
use Rattle.redn_syntax.proofs.Worked.{t, number_token}

-- ---- the longest mark

pub marks_apart : Tokenizes (codes "==+===") (t k.DoubleEquals 0 2 ∷ t k.PlusEquals 2 2 ∷ t k.DoubleEquals 4 2 ∷ [])
unfolding kind_in kinds
marks_apart = tokenizes_by (codes "==+===") (t k.DoubleEquals 0 2 ∷ t k.PlusEquals 2 2 ∷ t k.DoubleEquals 4 2 ∷ []) refl

pub three_equals : Tokenizes (codes "===") (t k.DoubleEquals 0 2 ∷ t k.Equals 2 1 ∷ [])
unfolding kind_in kinds
three_equals = tokenizes_by (codes "===") (t k.DoubleEquals 0 2 ∷ t k.Equals 2 1 ∷ []) refl

pub spaced_equals : Tokenizes (codes "= =") (t k.Equals 0 1 ∷ t k.Equals 2 1 ∷ [])
unfolding kind_in kinds
spaced_equals = tokenizes_by (codes "= =") (t k.Equals 0 1 ∷ t k.Equals 2 1 ∷ []) refl

-- `=` doesn't end before another
pub equals_goes_on : EndsBefore (codes "=") (codes "=") → ⊥
equals_goes_on ends =
    let none : codes "=" ≡ [] = ends.longest (codes "=") [] refl (inl (k.DoubleEquals, omega arith, refl)) in
    cc none

unspelled : (kind : TokenKind) → bytes_eq (codes "+") (spelling kind) ≡ false
unspelled k.Name = refl
unspelled kind = refl

-- `+` alone is no shape of a token
pub plus_alone : HasShape (codes "+") → ⊥
plus_alone (inl (kind, some, e)) =
    let wrong : true ≡ false = ap (bytes_eq (codes "+")) e ∙ unspelled kind in
    cc wrong
plus_alone (inr (inl word)) = cc (word.0)
plus_alone (inr (inr (value, inl number))) = cc (number.digits)
plus_alone (inr (inr (value, inr number))) =
    let wrong : 43 ≡ 48 = ap (λ l. get_or l 0 0) number.spelled in
    omega (arith, wrong)

-- ---- numbers

pub leading_zeros : Tokenizes (codes "007 0x00f") (number_token 0 3 7 ∷ number_token 4 5 15 ∷ [])
unfolding kind_in kinds
leading_zeros = tokenizes_by (codes "007 0x00f") (number_token 0 3 7 ∷ number_token 4 5 15 ∷ []) refl

pub either_case : Tokenizes (codes "0xaF 0xAf") (number_token 0 4 175 ∷ number_token 5 4 175 ∷ [])
unfolding kind_in kinds
either_case = tokenizes_by (codes "0xaF 0xAf") (number_token 0 4 175 ∷ number_token 5 4 175 ∷ []) refl

pub largest : Tokenizes (codes "18446744073709551615") (number_token 0 20 18446744073709551615 ∷ [])
unfolding kind_in kinds
largest = tokenizes_by (codes "18446744073709551615") (number_token 0 20 18446744073709551615 ∷ []) refl

pub largest_hexadecimal : Tokenizes (codes "0x0ffffffffffffffff") (number_token 0 19 18446744073709551615 ∷ [])
unfolding kind_in kinds
largest_hexadecimal = tokenizes_by (codes "0x0ffffffffffffffff") (number_token 0 19 18446744073709551615 ∷ []) refl

pub one_more : (value : ℕ) → IsToken k.Number (codes "18446744073709551616") value → ⊥
one_more value (inl number, small) = omega (arith, number.reads)
one_more value (inr number, small) =
    let wrong : 49 ≡ 48 = ap (λ l. get_or l 0 0) number.spelled in
    omega (arith, wrong)

pub prefix_alone : (value : ℕ) → IsNumber (codes "0x") value → ⊥
prefix_alone value (inl number) = cc (number.digits)
prefix_alone value (inr number) = no_digits number.digits number.spelled number.hexadecimal.some
  where
    no_digits : (digits : List ℕ) → codes "0x" ≡ codes "0x" ++ digits → 0 < length digits → ⊥
    no_digits [] e some = omega arith
    no_digits (d ∷ digits) e some = cc e

-- no token ends between a digit and a letter
pub digit_and_letter : EndsBefore (codes "1") (codes "a") → ⊥
digit_and_letter ends = ends.whole refl refl

-- ---- names and keywords

pub name_of_32 : IsName (codes "a_name_of_thirty_two_bytes_01234")
unfolding kind_in kinds
name_of_32 = name_by _ refl (leb-true (length (codes "a_name_of_thirty_two_bytes_01234")) 32 refl) refl

pub name_of_33 : IsName (codes "a_name_of_thirty_three_bytes_0123") → ⊥
name_of_33 name = omega (arith, name.short)

pub keyword : IsName (codes "walk") → ⊥
keyword name = name.own k.Walk refl

pub near_keywords : Tokenizes (codes "walk walks _walk wal") (t k.Walk 0 4 ∷ t k.Name 5 5 ∷ t k.Name 11 5 ∷ t k.Name 17 3 ∷ [])
unfolding kind_in kinds
near_keywords = tokenizes_by (codes "walk walks _walk wal") (t k.Walk 0 4 ∷ t k.Name 5 5 ∷ t k.Name 11 5 ∷ t k.Name 17 3 ∷ []) refl

-- ---- comments

pub one_comment : Tokenizes (codes "# a") []
one_comment = tokenizes_by (codes "# a") [] refl

pub comment_at_the_end : Tokenizes (codes "a#b\n;# c") (t k.Name 0 1 ∷ t k.Semicolon 4 1 ∷ [])
unfolding kind_in kinds
comment_at_the_end = tokenizes_by (codes "a#b\n;# c") (t k.Name 0 1 ∷ t k.Semicolon 4 1 ∷ []) refl

pub nothing_at_all : Tokenizes [] []
nothing_at_all = tokenizes_by [] [] refl
