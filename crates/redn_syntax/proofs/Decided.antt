-- Tests by which the checker computes that a text has given tokens.
use Rattle.std.proofs.Common.{◌≡◌, ◌≢◌, ◌^◌, ◌≤◌, ◌+◌, ◌-◌, ℕ, ◌⊎◌, inl, inr, Bool, true, false, not, ◌==◌, ◌||◌, ◌&&◌, cond, nat_lt, nat_le, List, [], ◌∷◌, ◌++◌, length, take, drop, codes, sym, refl, ap, ◌∙◌, subst, arith}
use Rattle.std.proofs.lemmas.Bool.{and_from, and_parts, or_cases, cases_Bool, not-true, eqb-true, ltb-true, leb-true, eq-eqb}
use Rattle.std.proofs.lemmas.Bool.Decides.{nat_tests}
use Rattle.std.proofs.lemmas.List.{take-append-drop}
use Rattle.std.specs.List.{list_all}
use Rattle.std.specs.Char.{is_digit, is_ascii_alphanumeric}
use Rattle.std.specs.Str.{bytes_eq}
use Rattle.std.specs.Str.Parse.{digits_value}
use Rattle.redn_syntax.specs.declared.token.Token.{Token}
use Rattle.redn_syntax.specs.declared.token.TokenKind.{TokenKind}
use Rattle.redn_syntax.specs.declared.token.TokenKind.TheVariants.{Name, Number}
use Rattle.redn_syntax.specs.Bytes.{is_blank, is_letter, is_name_byte}
use Rattle.redn_syntax.specs.Tokens.{spelling, IsWord, IsName, AreDigits, IsNumber, IsToken, HasShape, EndsBefore, IsGap, IsComment, TokenizesFrom, Tokenizes}
use Rattle.redn_syntax.proofs.TokenFacts.{IsFixed, all_weaker}
use Rattle.redn_syntax.proofs.Shapes.{kind_in, kinds, spelled_back, shape_by_letter, shape_by_digit, shape_by_mark, all_at}

bytes_same : (xs ys : List ℕ) → bytes_eq xs ys ≡ true → xs ≡ ys
bytes_same [] [] h = refl
bytes_same [] (y ∷ ys) h = cc
bytes_same (x ∷ xs) [] h = cc
bytes_same (x ∷ xs) (y ∷ ys) h =
    let parts = and_parts (x == y) (bytes_eq xs ys) h in
    let head = eqb-true x y parts.0 in
    let tail = bytes_same xs ys parts.1 in
    λ i. head i ∷ tail i

-- ---- where a token ends

-- what may stand in a word or a number
abbrev goes_on : ℕ → Bool
goes_on b = is_ascii_alphanumeric b || b == 95

goes_on_name : (b : ℕ) → is_name_byte b ≡ true → goes_on b ≡ true
goes_on_name b h = grind (arith, nat_tests)

goes_on_digit : (b : ℕ) → is_digit b 10 ≡ true → goes_on b ≡ true
goes_on_digit b h = grind (arith, nat_tests)

goes_on_hex : (b : ℕ) → is_digit b 16 ≡ true → goes_on b ≡ true
goes_on_hex b h = grind (arith, nat_tests)

letter_or_digit : (b : ℕ) → is_name_byte b ≡ true → (is_letter b ≡ true) ⊎ (is_digit b 10 ≡ true)
letter_or_digit b h = elim (or_cases (is_letter b) (b == b && is_digit b 10) (grind (arith, nat_tests))) [ inl l ↦ inl l | inr d ↦ inr (and_parts (b == b) (is_digit b 10) d).1 ]

number_goes_on : (bytes : List ℕ) (value : ℕ) → IsNumber bytes value → list_all goes_on bytes ≡ true
number_goes_on bytes value (inl d) = all_weaker (λ b. is_digit b 10) goes_on goes_on_digit bytes d.digits
number_goes_on bytes value (inr x) = ap (list_all goes_on) x.spelled ∙ all_weaker (λ b. is_digit b 16) goes_on goes_on_hex x.digits x.hexadecimal.digits

-- what begins as a word or a number has only what may stand in one
word_goes_on : (b : ℕ) (bytes : List ℕ) → is_name_byte b ≡ true → HasShape (b ∷ bytes) → list_all goes_on (b ∷ bytes) ≡ true
word_goes_on b bytes begins shape = elim (letter_or_digit b begins) [
  | inl letter ↦ and_from (goes_on b) (list_all goes_on bytes) (goes_on_name b begins) (all_weaker is_name_byte goes_on goes_on_name bytes (shape_by_letter b bytes letter shape))
  | inr digit ↦ let number = shape_by_digit b bytes digit shape in number_goes_on (b ∷ bytes) number.0 number.1
]

-- a test of the byte behind a token
abbrev ends_test : List ℕ → List ℕ → Bool
ends_test [] rest = false
ends_test (b ∷ bytes) [] = true
ends_test (b ∷ bytes) (r ∷ rest) =
    cond (is_name_byte b) (not (goes_on r)) (not (bytes_eq bytes [] && (b == 61 || b == 43) && r == 61))

ends_by : (bytes rest : List ℕ) → ends_test bytes rest ≡ true → EndsBefore bytes rest
ends_by [] rest h = cc
ends_by (b ∷ bytes) [] h = record {
  longest = λ more others e shape. nothing more others e;
  whole = λ begins none. none;
}
  where
    nothing : (more others : List ℕ) → [] ≡ more ++ others → more ≡ []
    nothing [] others e = refl
    nothing (m ∷ more) others e = cc
ends_by (b ∷ bytes) (r ∷ rest) h = elim (cases_Bool (is_name_byte b)) [
  | inl begins ↦ word begins (not-true (goes_on r) (rw begins at h))
  | inr other ↦ mark other (not-true (bytes_eq bytes [] && (b == 61 || b == 43) && r == 61) (rw other at h))
]
  where
    word : is_name_byte b ≡ true → goes_on r ≡ false → EndsBefore (b ∷ bytes) (r ∷ rest)
    word begins stops = record {
      longest = longest;
      whole = λ _ named. cc (goes_on_name r named, stops);
    }
      where
        longest : (more others : List ℕ) → r ∷ rest ≡ more ++ others → HasShape (b ∷ (bytes ++ more)) → more ≡ []
        longest [] others e shape = refl
        longest (m ∷ more) others e shape =
            let first : r ≡ m = cc in
            let passes = all_at goes_on (b ∷ bytes) m more (word_goes_on b (bytes ++ m ∷ more) begins shape) in
            cc (passes, stops, first)

    mark : is_name_byte b ≡ false → (bytes_eq bytes [] && (b == 61 || b == 43) && r == 61) ≡ false → EndsBefore (b ∷ bytes) (r ∷ rest)
    mark other single = record {
      longest = longest bytes single;
      whole = λ named _. cc (named, other);
    }
      where
        longest : (bs : List ℕ) → (bytes_eq bs [] && (b == 61 || b == 43) && r == 61) ≡ false → (more others : List ℕ) → r ∷ rest ≡ more ++ others → HasShape (b ∷ (bs ++ more)) → more ≡ []
        longest bs single' [] others e shape = refl
        longest [] single' (m ∷ more) others e shape =
            let double = shape_by_mark b m more other shape in
            let first : r ≡ m = cc in
            let second : r ≡ 61 = first ∙ double.1 in
            absurd (elim double.0 [ inl x ↦ grind (arith, nat_tests) | inr x ↦ grind (arith, nat_tests) ])
        longest (c ∷ []) single' (m ∷ more) others e shape = let double = shape_by_mark b c (m ∷ more) other shape in cc (double.2)
        longest (c ∷ d ∷ bs) single' (m ∷ more) others e shape = let double = shape_by_mark b c (d ∷ (bs ++ m ∷ more)) other shape in cc (double.2)

-- ---- tokens

abbrev word_test : List ℕ → Bool
word_test [] = false
word_test (b ∷ bytes) = is_letter b && list_all is_name_byte bytes

word_by : (bytes : List ℕ) → word_test bytes ≡ true → IsWord bytes
word_by [] h = cc
word_by (b ∷ bytes) h = and_parts (is_letter b) (list_all is_name_byte bytes) h

abbrev is_name_kind : TokenKind → Bool
is_name_kind Name = true
is_name_kind kind = false

name_kind : (kind : TokenKind) → is_name_kind kind ≡ true → kind ≡ Name
name_kind Name h = refl
name_kind kind h = cc

fixed_or_not : (kind : TokenKind) → IsFixed kind ⊎ (spelling kind ≡ [])
fixed_or_not Name = inr refl
fixed_or_not Number = inr refl
fixed_or_not kind = inl tt

-- a short word that is no keyword
pub name_by : (bytes : List ℕ) → word_test bytes ≡ true → length bytes ≤ 32 → is_name_kind (kind_in kinds bytes) ≡ true → IsName bytes
name_by bytes word short unspelled = record { word = word_by bytes word; short = short; own = own }
  where
    own : (kind : TokenKind) → bytes ≢ spelling kind
    own kind e = elim (fixed_or_not kind) [
      | inl fixed ↦
          let named : kind ≡ Name = sym (spelled_back kind fixed) ∙ ap (kind_in kinds) (sym e) ∙ name_kind (kind_in kinds bytes) unspelled in
          subst IsFixed named fixed
      | inr none ↦ subst IsWord (e ∙ none) (word_by bytes word)
    ]

abbrev digits_test : ℕ → List ℕ → ℕ → Bool
digits_test base bytes value = nat_lt 0 (length bytes) && list_all (λ b. is_digit b base) bytes && value == digits_value base bytes

digits_by : (base : ℕ) (bytes : List ℕ) (value : ℕ) → digits_test base bytes value ≡ true → AreDigits base bytes value
digits_by base bytes value h =
    let both = and_parts (nat_lt 0 (length bytes) && list_all (λ b. is_digit b base) bytes) (value == digits_value base bytes) h in
    let first = and_parts (nat_lt 0 (length bytes)) (list_all (λ b. is_digit b base) bytes) both.0 in
    record { some = ltb-true 0 (length bytes) first.0; digits = first.1; reads = eqb-true value (digits_value base bytes) both.1 }

abbrev number_test : List ℕ → ℕ → Bool
number_test bytes value = digits_test 10 bytes value || (bytes_eq (take 2 bytes) (codes "0x") && digits_test 16 (drop 2 bytes) value)

pub number_by : (bytes : List ℕ) (value : ℕ) → number_test bytes value ≡ true → IsNumber bytes value
number_by bytes value h = elim (or_cases (digits_test 10 bytes value) (bytes_eq (take 2 bytes) (codes "0x") && digits_test 16 (drop 2 bytes) value) h) [
  | inl d ↦ inl (digits_by 10 bytes value d)
  | inr x ↦
      let both = and_parts (bytes_eq (take 2 bytes) (codes "0x")) (digits_test 16 (drop 2 bytes) value) x in
      inr (record {
        digits = drop 2 bytes;
        spelled = sym (take-append-drop 2 bytes) ∙ ap (λ l. l ++ drop 2 bytes) (bytes_same (take 2 bytes) (codes "0x") both.0);
        hexadecimal = digits_by 16 (drop 2 bytes) value both.1;
      })
]

abbrev token_test : TokenKind → List ℕ → ℕ → Bool
token_test Name bytes value = word_test bytes && nat_le (length bytes) 32 && is_name_kind (kind_in kinds bytes) && value == 0
token_test Number bytes value = number_test bytes value && nat_lt value (2 ^ 64)
token_test kind bytes value = bytes_eq bytes (spelling kind) && value == 0

token_by : (kind : TokenKind) (bytes : List ℕ) (value : ℕ) → token_test kind bytes value ≡ true → IsToken kind bytes value
token_by Name bytes value h =
    let a = and_parts (word_test bytes && nat_le (length bytes) 32 && is_name_kind (kind_in kinds bytes)) (value == 0) h in
    let b = and_parts (word_test bytes && nat_le (length bytes) 32) (is_name_kind (kind_in kinds bytes)) a.0 in
    let c = and_parts (word_test bytes) (nat_le (length bytes) 32) b.0 in
    (name_by bytes c.0 (leb-true (length bytes) 32 c.1) b.1, eqb-true value 0 a.1)
token_by Number bytes value h =
    let a = and_parts (number_test bytes value) (nat_lt value (2 ^ 64)) h in
    (number_by bytes value a.0, ltb-true value (2 ^ 64) a.1)
token_by kind bytes value h =
    let a = and_parts (bytes_eq bytes (spelling kind)) (value == 0) h in
    (bytes_same bytes (spelling kind) a.0, eqb-true value 0 a.1)

-- ---- gaps

abbrev mutual
  gap_test : Bool → List ℕ → Bool
  gap_test at_end [] = true
  gap_test at_end (b ∷ bytes) = (is_blank b && gap_test at_end bytes) || (b == 35 && comment_test at_end bytes)

  comment_test : Bool → List ℕ → Bool
  comment_test at_end [] = at_end
  comment_test at_end (b ∷ bytes) = cond (b == 10) (gap_test at_end bytes) (comment_test at_end bytes)

mutual
  pub gap_by : (at_end : Bool) (bytes : List ℕ) → gap_test at_end bytes ≡ true → IsGap at_end bytes
  gap_by at_end [] h = tt
  gap_by at_end (b ∷ bytes) h = elim (or_cases (is_blank b && gap_test at_end bytes) (b == 35 && comment_test at_end bytes) h) [
    | inl x ↦ let parts = and_parts (is_blank b) (gap_test at_end bytes) x in inl (parts.0, gap_by at_end bytes parts.1)
    | inr x ↦ let parts = and_parts (b == 35) (comment_test at_end bytes) x in inr (eqb-true b 35 parts.0, comment_by at_end bytes parts.1)
  ]

  comment_by : (at_end : Bool) (bytes : List ℕ) → comment_test at_end bytes ≡ true → IsComment at_end bytes
  comment_by at_end [] h = h
  comment_by at_end (b ∷ bytes) h = elim (cases_Bool (b == 10)) [
    | inl newline ↦ inl (eqb-true b 10 newline, gap_by at_end bytes (rw newline at h))
    | inr other ↦ inr (λ e. cc (eq-eqb b 10 e, other), comment_by at_end bytes (rw other at h))
  ]

-- ---- texts

-- the text at this place has these tokens
abbrev pub tokens_test : ℕ → List ℕ → List Token → Bool
tokens_test at text [] = gap_test true text
tokens_test at text (t ∷ ts) =
    let gap = take (t.at - at) text in
    let bytes = take t.len (drop (t.at - at) text) in
    let rest = drop t.len (drop (t.at - at) text) in
    t.at == at + length gap && t.len == length bytes && gap_test false gap && token_test t.kind bytes t.value && ends_test bytes rest
    && tokens_test (t.at + t.len) rest ts

pub tokens_from : (at : ℕ) (text : List ℕ) (tokens : List Token) → tokens_test at text tokens ≡ true → TokenizesFrom at text tokens
tokens_from at text [] h = gap_by true text h
tokens_from at text (t ∷ ts) h =
    let gap = take (t.at - at) text in
    let bytes = take t.len (drop (t.at - at) text) in
    let rest = drop t.len (drop (t.at - at) text) in
    let a = and_parts _ (tokens_test (t.at + t.len) rest ts) h in
    let b = and_parts _ (ends_test bytes rest) a.0 in
    let c = and_parts _ (token_test t.kind bytes t.value) b.0 in
    let d = and_parts _ (gap_test false gap) c.0 in
    let e = and_parts (t.at == at + length gap) (t.len == length bytes) d.0 in (
      rest,
      record {
        gap = gap;
        bytes = bytes;
        split = sym (take-append-drop (t.at - at) text) ∙ ap (λ l. gap ++ l) (sym (take-append-drop t.len (drop (t.at - at) text)));
        blank = gap_by false gap d.1;
        place = eqb-true t.at (at + length gap) e.0;
        size = eqb-true t.len (length bytes) e.1;
        means = token_by t.kind bytes t.value c.1;
        ends = ends_by bytes rest b.1;
      },
      tokens_from (t.at + t.len) rest ts a.1,
    )

-- a text has the tokens that the test finds in it
pub tokenizes_by : (text : List ℕ) (tokens : List Token) → tokens_test 0 text tokens ≡ true → Tokenizes text tokens
tokenizes_by text tokens h = tokens_from 0 text tokens h
