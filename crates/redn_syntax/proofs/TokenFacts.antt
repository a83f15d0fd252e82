-- Facts on the bytes of one token.
use Rattle.std.proofs.Common.{◌≡◌, ◌^◌, ◌<◌, ℕ, inl, inr, Bool, true, false, not, ◌==◌, ◌||◌, List, [], ◌∷◌, ◌++◌, sym, refl, ap, ◌∙◌, subst, arith}
use Rattle.std.proofs.lemmas.Bool.{and_from, and_parts, lt-ltb}
use Rattle.std.proofs.lemmas.Bool.Decides.{nat_tests}
use Rattle.std.proofs.lemmas.Fmt.{decimal_is_IsNumeral}
use Rattle.std.specs.List.{list_all}
use Rattle.std.specs.Char.{is_digit, digit_value}
use Rattle.std.specs.Fmt.{decimal}
use Rattle.std.specs.Str.Parse.{AllDigits}
use Rattle.redn_syntax.specs.declared.token.TokenKind.{TokenKind}
use Rattle.redn_syntax.specs.declared.token.TokenKind.TheVariants.{Name, Number}
use Rattle.redn_syntax.specs.Bytes.{is_blank, is_letter, is_name_byte}
use Rattle.redn_syntax.specs.Tokens.{spelling, IsWord, IsNumber, IsToken, HasShape, BeginsWord, EndsBefore}

-- neither a blank nor what begins a comment
abbrev pub is_solid : ℕ → Bool
is_solid b = not (is_blank b || b == 35)

pub all_weaker : (p q : ℕ → Bool) → ((b : ℕ) → p b ≡ true → q b ≡ true) → (bytes : List ℕ) → list_all p bytes ≡ true → list_all q bytes ≡ true
all_weaker p q h [] e = refl
all_weaker p q h (b ∷ bytes) e =
    let parts = and_parts (p b) (list_all p bytes) e in
    and_from (q b) (list_all q bytes) (h b parts.0) (all_weaker p q h bytes parts.1)

pub solid_name_byte : (b : ℕ) → is_name_byte b ≡ true → is_solid b ≡ true
solid_name_byte b h = grind (arith, nat_tests)

pub name_byte_letter : (b : ℕ) → is_letter b ≡ true → is_name_byte b ≡ true
name_byte_letter b h = grind (arith, nat_tests)

pub name_byte_digit : (b : ℕ) → is_digit b 10 ≡ true → is_name_byte b ≡ true
name_byte_digit b h = grind (arith, nat_tests)

pub solid_hex_digit : (b : ℕ) → is_digit b 16 ≡ true → is_solid b ≡ true
solid_hex_digit b h = grind (arith, nat_tests)

solid_word : (bytes : List ℕ) → IsWord bytes → list_all is_solid bytes ≡ true
solid_word [] h = absurd h
solid_word (b ∷ bytes) h =
    and_from (is_solid b) (list_all is_solid bytes) (solid_name_byte b (name_byte_letter b h.0)) (all_weaker is_name_byte is_solid solid_name_byte bytes h.1)

solid_number : (bytes : List ℕ) (value : ℕ) → IsNumber bytes value → list_all is_solid bytes ≡ true
solid_number bytes value (inl d) = all_weaker (λ b. is_digit b 10) is_solid (λ b h. solid_name_byte b (name_byte_digit b h)) bytes d.digits
solid_number bytes value (inr x) = ap (list_all is_solid) x.spelled ∙ all_weaker (λ b. is_digit b 16) is_solid solid_hex_digit x.digits x.hexadecimal.digits

-- a keyword or a mark: neither a name nor a number
abbrev pub IsFixed : TokenKind → Type 0
IsFixed Name = ⊥
IsFixed Number = ⊥
IsFixed kind = Unit {0}

solid_spelling : (kind : TokenKind) → list_all is_solid (spelling kind) ≡ true
solid_spelling Name = refl
solid_spelling kind = refl

-- no byte of a token is a blank or begins a comment
pub solid_token : (kind : TokenKind) (bytes : List ℕ) (value : ℕ) → IsToken kind bytes value → list_all is_solid bytes ≡ true
solid_token Name bytes value h = solid_word bytes h.0.word
solid_token Number bytes value h = solid_number bytes value h.0
solid_token kind bytes value h = ap (list_all is_solid) h.0 ∙ solid_spelling kind

-- a fixed token's bytes
pub fixed_token : (kind : TokenKind) → IsFixed kind → IsToken kind (spelling kind) 0
fixed_token Name h = absurd h
fixed_token Number h = absurd h
fixed_token kind h = (refl, refl)

digits_all : (bytes : List ℕ) → AllDigits 10 bytes → list_all (λ b. is_digit b 10) bytes ≡ true
digits_all [] h = refl
digits_all (b ∷ bytes) h = and_from (is_digit b 10) (list_all (λ c. is_digit c 10) bytes) (lt-ltb (digit_value b) 10 h.0) (digits_all bytes h.1)

-- a number in decimal
pub decimal_token : (n : ℕ) → n < 2 ^ 64 → IsToken Number (decimal n) n
decimal_token n h =
    let reads = decimal_is_IsNumeral n h in
    (inl (record { some = reads.0.0; digits = digits_all (decimal n) reads.0.1; reads = sym reads.1 }), h)

-- no byte of a mark, a word or a number is a blank or begins a comment
pub solid_shape : (bytes : List ℕ) → HasShape bytes → list_all is_solid bytes ≡ true
solid_shape bytes (inl (kind, some, e)) = ap (list_all is_solid) e ∙ solid_spelling kind
solid_shape bytes (inr (inl word)) = solid_word bytes word
solid_shape bytes (inr (inr (value, number))) = solid_number bytes value number

-- solid bytes end where the next byte isn't solid
pub ends_solid : (bytes rest : List ℕ) (b : ℕ) (others : List ℕ) → rest ≡ b ∷ others → is_solid b ≡ false → EndsBefore bytes rest
ends_solid bytes rest b others e blank = record {
  longest = λ more others' same shape. longest more others' (sym e ∙ same) shape;
  whole = λ _ begins. whole (subst BeginsWord e begins);
}
  where
    solid_at : (xs : List ℕ) (y : ℕ) (ys : List ℕ) → list_all is_solid (xs ++ y ∷ ys) ≡ true → is_solid y ≡ true
    solid_at [] y ys h = (and_parts (is_solid y) (list_all is_solid ys) h).0
    solid_at (x ∷ xs) y ys h = solid_at xs y ys (and_parts (is_solid x) (list_all is_solid (xs ++ y ∷ ys)) h).1

    longest : (more others' : List ℕ) → b ∷ others ≡ more ++ others' → HasShape (bytes ++ more) → more ≡ []
    longest [] others' same shape = refl
    longest (m ∷ more) others' same shape =
        let head : b ≡ m = cc in
        let solid = solid_at bytes m more (solid_shape (bytes ++ m ∷ more) shape) in
        absurd (cc (solid, blank, head))

    whole : BeginsWord (b ∷ others) → ⊥
    whole h = cc (solid_name_byte b h, blank)
