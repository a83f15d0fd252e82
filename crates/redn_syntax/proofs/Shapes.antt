-- Marks, words and numbers by their first byte.
use Rattle.std.proofs.Common.{◌≡◌, ◌^◌, ◌<◌, ◌≤◌, ◌+◌, ◌*◌, ℕ, ◌⊎◌, inl, inr, Bool, true, false, not, ◌==◌, ◌||◌, ◌&&◌, cond, List, [], ◌∷◌, ◌++◌, length, sym, refl, ap, ◌∙◌, subst, arith, length-append}
use Rattle.std.proofs.lemmas.Bool.{and_from, and_parts, or_cases, not-true, eqb-true}
use Rattle.std.proofs.lemmas.Bool.Decides.{nat_tests}
use Rattle.std.proofs.lemmas.List.Folds.{list_all-append}
use Rattle.std.proofs.Math.Nat.{mul-le-mul_left}
use Rattle.std.specs.List.{list_all}
use Rattle.std.specs.Char.{is_digit, digit_value}
use Rattle.std.specs.Str.Parse.{digits_value, digits_value_after}
use Rattle.redn_syntax.specs.declared.token.TokenKind.{TokenKind}
use Rattle.redn_syntax.specs.declared.token.TokenKind.TheVariants.{Table, Ro, Rw, Chain, Arg, Var, If, Else, Loop, Repeat, Break, Lookup, Key, Probes, Walk, Nodes, Reply, Serve, OpenBrace, CloseBrace, OpenBracket, CloseBracket, Semicolon, Comma, Colon, Equals, PlusEquals, DoubleEquals, Tilde, Name, Number}
use Rattle.redn_syntax.specs.Bytes.{is_letter, is_name_byte}
use Rattle.redn_syntax.specs.Tokens.{spelling, AreDigits, IsNumber, IsToken, HasShape}
use Rattle.std.specs.Str.{bytes_eq}
use Rattle.redn_syntax.proofs.TokenFacts.{name_byte_digit, IsFixed}

-- ---- what spellings have in common

begins_letter : List ℕ → Bool
begins_letter [] = false
begins_letter (b ∷ bytes) = is_letter b

begins_digit : List ℕ → Bool
begins_digit [] = false
begins_digit (b ∷ bytes) = is_digit b 10

tail_is_named : List ℕ → Bool
tail_is_named [] = true
tail_is_named (b ∷ bytes) = list_all is_name_byte bytes

-- a keyword is a word
keyword_named : (kind : TokenKind) → (not (begins_letter (spelling kind)) || tail_is_named (spelling kind)) ≡ true
unfolding begins_letter tail_is_named
keyword_named Name = refl
keyword_named kind = refl

-- no spelling begins with a digit
spelling_undigit : (kind : TokenKind) → begins_digit (spelling kind) ≡ false
unfolding begins_digit
spelling_undigit Name = refl
spelling_undigit kind = refl

is_short : List ℕ → Bool
is_short [] = true
is_short (a ∷ []) = true
is_short (a ∷ b ∷ []) = true
is_short (a ∷ b ∷ c ∷ []) = true
is_short (a ∷ b ∷ c ∷ d ∷ []) = true
is_short (a ∷ b ∷ c ∷ d ∷ e ∷ []) = true
is_short (a ∷ b ∷ c ∷ d ∷ e ∷ f ∷ bytes) = list_all (λ _. false) bytes

short_spelling : (kind : TokenKind) → is_short (spelling kind) ≡ true
unfolding is_short
short_spelling Name = refl
short_spelling kind = refl

short_length : (bytes : List ℕ) → is_short bytes ≡ true → length bytes ≤ 6
unfolding is_short
short_length [] h = omega arith
short_length (a ∷ []) h = omega arith
short_length (a ∷ b ∷ []) h = omega arith
short_length (a ∷ b ∷ c ∷ []) h = omega arith
short_length (a ∷ b ∷ c ∷ d ∷ []) h = omega arith
short_length (a ∷ b ∷ c ∷ d ∷ e ∷ []) h = omega arith
short_length (a ∷ b ∷ c ∷ d ∷ e ∷ f ∷ []) h = omega arith
short_length (a ∷ b ∷ c ∷ d ∷ e ∷ f ∷ x ∷ bytes) h = cc

pub length-spelling : (kind : TokenKind) → length (spelling kind) ≤ 6
length-spelling kind = short_length (spelling kind) (short_spelling kind)

-- a longer mark is `==` or `+=`
abbrev IsDouble : ℕ → ℕ → List ℕ → Type 0
IsDouble b m bytes = ((b ≡ 61) ⊎ (b ≡ 43)) × (m ≡ 61) × (bytes ≡ [])

is_double : List ℕ → Bool
is_double (b ∷ m ∷ bytes) = is_letter b || ((b == 61 || b == 43) && m == 61 && list_all (λ _. false) bytes)
is_double bytes = true

double_spelling : (kind : TokenKind) → is_double (spelling kind) ≡ true
unfolding is_double
double_spelling Name = refl
double_spelling kind = refl

-- the kinds by their spelling
unfoldable pub kind_in : List TokenKind → List ℕ → TokenKind
kind_in [] bytes = Name
kind_in (kind ∷ kinds) bytes = cond (bytes_eq (spelling kind) bytes) kind (kind_in kinds bytes)

unfoldable pub kinds : List TokenKind
kinds = Table ∷ Ro ∷ Rw ∷ Chain ∷ Arg ∷ Var ∷ If ∷ Else ∷ Loop ∷ Repeat ∷ Break ∷ Lookup ∷ Key ∷ Probes ∷ Walk ∷ Nodes ∷ Reply ∷ Serve ∷ OpenBrace ∷ CloseBrace ∷ OpenBracket ∷ CloseBracket ∷ Semicolon ∷ Comma ∷ Colon ∷ Equals ∷ PlusEquals ∷ DoubleEquals ∷ Tilde ∷ []

pub spelled_back : (kind : TokenKind) → IsFixed kind → kind_in kinds (spelling kind) ≡ kind
unfolding kind_in kinds
spelled_back Name h = absurd h
spelled_back Number h = absurd h
spelled_back kind h = refl

-- ---- shapes by their first byte

pub letter_undigit : (b : ℕ) → is_letter b ≡ true → is_digit b 10 ≡ true → ⊥
letter_undigit b l d = grind (arith, nat_tests)

pub first_digit : (b : ℕ) (bytes : List ℕ) (value : ℕ) → IsNumber (b ∷ bytes) value → is_digit b 10 ≡ true
first_digit b bytes value (inl d) = (and_parts (is_digit b 10) (list_all (λ c. is_digit c 10) bytes) d.digits).0
first_digit b bytes value (inr x) = let e : b ≡ 48 = cc (x.spelled) in ap (λ c. is_digit c 10) e

-- what begins with a letter goes on with letters and digits
pub shape_by_letter : (b : ℕ) (bytes : List ℕ) → is_letter b ≡ true → HasShape (b ∷ bytes) → list_all is_name_byte bytes ≡ true
unfolding begins_letter tail_is_named
shape_by_letter b bytes letter (inl (kind, some, e)) =
    let named = subst (λ l. (not (begins_letter l) || tail_is_named l) ≡ true) (sym e) (keyword_named kind) in
    elim (or_cases (not (is_letter b)) (list_all is_name_byte bytes) named) [
      | inl no_letter ↦ cc (not-true (is_letter b) no_letter)
      | inr h ↦ h
    ]
shape_by_letter b bytes letter (inr (inl word)) = word.1
shape_by_letter b bytes letter (inr (inr (value, number))) = absurd (letter_undigit b letter (first_digit b bytes value number))

-- what begins with a digit is a number
pub shape_by_digit : (b : ℕ) (bytes : List ℕ) → is_digit b 10 ≡ true → HasShape (b ∷ bytes) → (value : ℕ) × IsNumber (b ∷ bytes) value
unfolding begins_digit
shape_by_digit b bytes digit (inl (kind, some, e)) =
    let undigit = subst (λ l. begins_digit l ≡ false) (sym e) (spelling_undigit kind) in
    cc (undigit, digit)
shape_by_digit b bytes digit (inr (inl word)) = absurd (letter_undigit b word.0 digit)
shape_by_digit b bytes digit (inr (inr number)) = number

not_letter : (b : ℕ) → is_name_byte b ≡ false → is_letter b ≡ true → ⊥
not_letter b h l = grind (arith, nat_tests)

not_digit : (b : ℕ) → is_name_byte b ≡ false → is_digit b 10 ≡ true → ⊥
not_digit b h d = grind (arith, nat_tests)

list_none : (bytes : List ℕ) → list_all (λ _. false) bytes ≡ true → bytes ≡ []
list_none [] h = refl
list_none (b ∷ bytes) h = cc

is_double_true : (b m : ℕ) (bytes : List ℕ) → is_name_byte b ≡ false → is_double (b ∷ m ∷ bytes) ≡ true → IsDouble b m bytes
unfolding is_double
is_double_true b m bytes other h =
    elim (or_cases (is_letter b) ((b == 61 || b == 43) && m == 61 && list_all (λ _. false) bytes) h) [
      | inl letter ↦ absurd (not_letter b other letter)
      | inr e ↦
          let parts = and_parts ((b == 61 || b == 43) && m == 61) (list_all (λ _. false) bytes) e in
          let both = and_parts (b == 61 || b == 43) (m == 61) parts.0 in
          let second : m ≡ 61 = grind (arith, nat_tests) in
          let first : (b ≡ 61) ⊎ (b ≡ 43) = elim (or_cases (b == 61) (b == 43) both.0) [ inl x ↦ inl (eqb-true b 61 x) | inr x ↦ inr (eqb-true b 43 x) ] in
          (first, second, list_none bytes parts.1)
    ]

-- what begins with neither a letter nor a digit, and has two bytes or more, is `==` or `+=`
pub shape_by_mark : (b m : ℕ) (bytes : List ℕ) → is_name_byte b ≡ false → HasShape (b ∷ m ∷ bytes) → IsDouble b m bytes
shape_by_mark b m bytes other (inl (kind, some, e)) = is_double_true b m bytes other (subst (λ l. is_double l ≡ true) (sym e) (double_spelling kind))
shape_by_mark b m bytes other (inr (inl word)) = absurd (not_letter b other word.0)
shape_by_mark b m bytes other (inr (inr (value, number))) = absurd (not_digit b other (first_digit b (m ∷ bytes) value number))

-- ---- tokens by their first byte

pub token_shape : (kind : TokenKind) (bytes : List ℕ) (value : ℕ) → IsToken kind bytes value → HasShape bytes
token_shape Name bytes value h = inr (inl h.0.word)
token_shape Number bytes value h = inr (inr (value, h.0))
token_shape kind bytes value h = inl (kind, subst (λ l. 0 < length l) (sym h.0) (omega arith), h.0)

no_shape : HasShape [] → ⊥
no_shape (inl (kind, some, e)) = omega arith
no_shape (inr (inl word)) = word
no_shape (inr (inr (value, inl d))) = omega (arith, d.some)
no_shape (inr (inr (value, inr x))) = cc (x.spelled)

-- a spelling is no number
pub spelled_number : (kind : TokenKind) (bytes : List ℕ) (value : ℕ) → bytes ≡ spelling kind → IsNumber bytes value → ⊥
unfolding begins_digit
spelled_number kind [] value e number = no_shape (inr (inr (value, number)))
spelled_number kind (b ∷ bytes) value e number =
    let undigit = subst (λ l. begins_digit l ≡ false) (sym e) (spelling_undigit kind) in
    cc (undigit, first_digit b bytes value number)

-- a token has a first byte
pub token_nonempty : (kind : TokenKind) (value : ℕ) → IsToken kind [] value → ⊥
token_nonempty kind value h = no_shape (token_shape kind [] value h)

-- a token that begins with a letter is short
pub letter_token : (kind : TokenKind) (b : ℕ) (bytes : List ℕ) (value : ℕ) → is_letter b ≡ true → IsToken kind (b ∷ bytes) value → length (b ∷ bytes) ≤ 32
letter_token Name b bytes value letter h = h.0.short
letter_token Number b bytes value letter h = absurd (letter_undigit b letter (first_digit b bytes value h.0))
letter_token kind b bytes value letter h = omega (arith, ap length h.0, length-spelling kind)

-- a token that begins with a digit is a number
pub digit_token : (kind : TokenKind) (b : ℕ) (bytes : List ℕ) (value : ℕ) → is_digit b 10 ≡ true → IsToken kind (b ∷ bytes) value → IsNumber (b ∷ bytes) value × (value < 2 ^ 64)
unfolding begins_digit
digit_token Name b bytes value digit h = absurd (letter_undigit b h.0.word.0 digit)
digit_token Number b bytes value digit h = h
digit_token kind b bytes value digit h =
    let undigit = subst (λ l. begins_digit l ≡ false) (sym h.0) (spelling_undigit kind) in
    cc (undigit, digit)

-- one that begins with neither is a mark
pub mark_token : (kind : TokenKind) (b : ℕ) (bytes : List ℕ) (value : ℕ) → is_name_byte b ≡ false → IsToken kind (b ∷ bytes) value → b ∷ bytes ≡ spelling kind
mark_token Name b bytes value other h = absurd (not_letter b other h.0.word.0)
mark_token Number b bytes value other h = absurd (not_digit b other (first_digit b bytes value h.0))
mark_token kind b bytes value other h = h.0

-- ---- numbers

pub all_front : (p : ℕ → Bool) (xs ys : List ℕ) → list_all p (xs ++ ys) ≡ true → (list_all p xs ≡ true) × (list_all p ys ≡ true)
all_front p xs ys h = and_parts (list_all p xs) (list_all p ys) (sym (list_all-append p xs ys) ∙ h)

pub all_at : (p : ℕ → Bool) (xs : List ℕ) (y : ℕ) (ys : List ℕ) → list_all p (xs ++ y ∷ ys) ≡ true → p y ≡ true
all_at p xs y ys h = (and_parts (p y) (list_all p ys) (all_front p xs (y ∷ ys) h).1).0

all_with : (p : ℕ → Bool) (xs : List ℕ) (y : ℕ) → list_all p xs ≡ true → p y ≡ true → list_all p (xs ++ y ∷ []) ≡ true
all_with p xs y h e = list_all-append p xs (y ∷ []) ∙ and_from (list_all p xs) (list_all p (y ∷ [])) h (and_from (p y) true e refl)

-- `x` is no decimal digit
no_x : (bytes more : List ℕ) (c : ℕ) → list_all (λ b. is_digit b 10) (c ∷ 120 ∷ bytes) ≡ true → ⊥
no_x bytes more c h = let parts = all_at (λ b. is_digit b 10) (c ∷ []) 120 bytes h in cc

-- a decimal number that goes on as a hexadecimal one is the byte `0`
pub zero_x : (bytes more digits : List ℕ) → 0 < length bytes → list_all (λ b. is_digit b 10) bytes ≡ true → bytes ++ more ≡ 48 ∷ 120 ∷ digits → (bytes ≡ 48 ∷ []) × (more ≡ 120 ∷ digits)
zero_x [] more digits some h e = absurd (omega arith)
zero_x (c ∷ []) more digits some h e = (cc, cc)
zero_x (c ∷ d ∷ bytes) more digits some h e =
    let second : d ≡ 120 = cc in
    absurd (no_x bytes more c (subst (λ x. list_all (λ b. is_digit b 10) (c ∷ x ∷ bytes) ≡ true) second h))

-- a hexadecimal number is no decimal one
pub hex_undecimal : (digits more : List ℕ) → list_all (λ b. is_digit b 10) (48 ∷ 120 ∷ (digits ++ more)) ≡ true → ⊥
hex_undecimal digits more h = no_x (digits ++ more) [] 48 h

digits_after_grows : (base n : ℕ) (bytes : List ℕ) → 0 < base → n ≤ digits_value_after base n bytes
digits_after_grows base n [] h = omega arith
digits_after_grows base n (c ∷ bytes) h =
    omega (arith, digits_after_grows base (n * base + digit_value c) bytes h, mul-le-mul_left n h)

digits_after_append : (base n : ℕ) (xs ys : List ℕ) → digits_value_after base n (xs ++ ys) ≡ digits_value_after base (digits_value_after base n xs) ys
digits_after_append base n [] ys = refl
digits_after_append base n (c ∷ xs) ys = digits_after_append base (n * base + digit_value c) xs ys

digits_grow : (base : ℕ) (xs ys : List ℕ) (v w : ℕ) → 0 < base → AreDigits base xs v → AreDigits base (xs ++ ys) w → v ≤ w
digits_grow base xs ys v w h a b =
    omega (arith, a.reads, b.reads, digits_after_append base 0 xs ys, digits_after_grows base (digits_value base xs) ys h)

-- a number that goes on grows
pub number_grows : (xs ys : List ℕ) (v w : ℕ) → IsNumber xs v → IsNumber (xs ++ ys) w → v ≤ w
number_grows xs ys v w (inl d) (inl e) = digits_grow 10 xs ys v w (omega arith) d e
number_grows xs ys v w (inl d) (inr e) =
    let short = (zero_x xs ys e.digits d.some d.digits e.spelled).0 in
    let none : v ≡ 0 = d.reads ∙ ap (digits_value 10) short in
    omega arith
number_grows xs ys v w (inr d) (inl e) = absurd (hex_undecimal d.digits ys (subst (λ l. list_all (λ b. is_digit b 10) (l ++ ys) ≡ true) d.spelled e.digits))
number_grows xs ys v w (inr d) (inr e) =
    let same : d.digits ++ ys ≡ e.digits = cc (sym (ap (λ l. l ++ ys) d.spelled) ∙ e.spelled) in
    digits_grow 16 d.digits ys v w (omega arith) d.hexadecimal (subst (λ l. AreDigits 16 l w) (sym same) e.hexadecimal)

-- where a number goes on, the next byte is a letter or a digit, or with it the number is one too
pub number_step : (bytes : List ℕ) (x : ℕ) (more : List ℕ) (v w : ℕ) → IsNumber bytes v → IsNumber (bytes ++ x ∷ more) w → (is_name_byte x ≡ true) ⊎ ((u : ℕ) × IsNumber (bytes ++ x ∷ []) u)
number_step bytes x more v w (inl d) (inl e) = inl (name_byte_digit x (all_at (λ b. is_digit b 10) bytes x more e.digits))
number_step bytes x more v w (inl d) (inr e) =
    let next = (zero_x bytes (x ∷ more) e.digits d.some d.digits e.spelled).1 in
    let is_x : x ≡ 120 = cc in
    inl (ap is_name_byte is_x)
number_step bytes x more v w (inr d) (inl e) = absurd (hex_undecimal d.digits (x ∷ more) (subst (λ l. list_all (λ b. is_digit b 10) (l ++ x ∷ more) ≡ true) d.spelled e.digits))
number_step bytes x more v w (inr d) (inr e) =
    let same : d.digits ++ x ∷ more ≡ e.digits = cc (sym (ap (λ l. l ++ x ∷ more) d.spelled) ∙ e.spelled) in
    let hex = all_at (λ b. is_digit b 16) d.digits x more (ap (list_all (λ b. is_digit b 16)) same ∙ e.hexadecimal.digits) in
    inr (
      digits_value 16 (d.digits ++ x ∷ []),
      inr (record {
        digits = d.digits ++ x ∷ [];
        spelled = ap (λ l. l ++ x ∷ []) d.spelled;
        hexadecimal = record {
          some = omega (arith, length-append d.digits (x ∷ []));
          digits = all_with (λ b. is_digit b 16) d.digits x d.hexadecimal.digits hex;
          reads = refl;
        };
      }),
    )
