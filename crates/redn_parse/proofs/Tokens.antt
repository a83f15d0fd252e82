-- What the tokens of a text are, one by one.
use Rattle.std.proofs.Common.{arith, ◌≡◌, ◌+◌, ◌<◌, ℕ, zero, suc, true, List, [], ◌∷◌, ◌++◌, Some, None, length, take, drop, slice_index_or, sym, refl, ap, ◌∙◌, subst, append_assoc, length-append}
use Rattle.std.specs.Prelude.{All, slice_get}
use Rattle.std.specs.Option.{option_map}
use Rattle.std.specs.List.{list_all}
use Rattle.std.specs.Str.{IsAscii}
use Rattle.std.proofs.lemmas.Bool.{and_parts}
use Rattle.std.proofs.lemmas.Bool.Decides.{nat_tests}
use Rattle.std.proofs.Math.Seq.{drop-append_seam, take-append_seam}
use Rattle.redn_syntax.specs.declared.token.Token.{Token}
use Rattle.redn_syntax.specs.declared.token.TokenKind.{TokenKind}
use Rattle.redn_syntax.specs.declared.token.TokenKind.TheVariants.{Name, Number}
use Rattle.redn_syntax.specs.Bytes.{is_letter, is_name_byte}
use Rattle.redn_syntax.specs.Tokens.{IsWord, IsToken, TokenizesFrom, Tokenizes}
use Rattle.redn_syntax.specs.Lexemes.{lexeme_by, lexemes_of}
use Rattle.redn_parse.specs.Lookahead.{kind_of, kind_at, IsTokenOf}

-- ---- each token of a text is a token of it

-- the bytes of a part of a text
slice : (front bytes rest : List ℕ) → take (length bytes) (drop (length front) (front ++ (bytes ++ rest))) ≡ bytes
slice front bytes rest = ap (take (length bytes)) (drop-append_seam front (bytes ++ rest)) ∙ take-append_seam bytes rest

tokens_from : (front text : List ℕ) (at : ℕ) (tokens : List Token) → at ≡ length front → TokenizesFrom at text tokens → All (IsTokenOf (front ++ text)) tokens
tokens_from front text at [] same h k d lt = absurd (omega arith)
tokens_from front text at (token ∷ tokens) same (rest, next, more) k d lt =
    let before = front ++ next.gap in
    let behind = before ++ next.bytes in
    let whole : front ++ text ≡ before ++ (next.bytes ++ rest) = ap (λ l. front ++ l) next.split ∙ sym (append_assoc front next.gap (next.bytes ++ rest)) in
    let at_is : token.at ≡ length before = omega (arith, next.place, length-append front next.gap) in
    let end_is : token.at + token.len ≡ length behind = omega (arith, at_is, next.size, length-append before next.bytes) in
    let bytes_are : take token.len (drop token.at (front ++ text)) ≡ next.bytes = rw (next.size, at_is, whole) (slice before next.bytes rest) in
    let whole' : front ++ text ≡ behind ++ rest = whole ∙ sym (append_assoc before next.bytes rest) in
    let first : IsTokenOf (front ++ text) token = record {
      within = omega (arith, end_is, ap length whole', length-append behind rest);
      means = subst (λ l. IsToken token.kind l token.value) (sym bytes_are) next.means;
    } in
    cases k first (subst (λ t. All (IsTokenOf t) tokens) (sym whole') (tokens_from behind rest (token.at + token.len) tokens end_is more)) lt
  where
    cases : (k : ℕ) → IsTokenOf (front ++ text) token → All (IsTokenOf (front ++ text)) tokens → k < length (token ∷ tokens) → IsTokenOf (front ++ text) (slice_index_or (token ∷ tokens) k d)
    cases zero first others lt' = first
    cases (suc k') first others lt' = others k' d (omega arith)

pub tokens_of : (text : List ℕ) (tokens : List Token) → Tokenizes text tokens → All (IsTokenOf text) tokens
tokens_of text tokens h = tokens_from [] text 0 tokens refl h

-- ---- the first of some tokens, and the rest

pub all_rest : (P : Token → Type 0) (xs ys : List Token) (x : Token) → xs ≡ x ∷ ys → All P xs → All P ys
all_rest P xs ys x e h k d lt = subst (All P) e h (suc k) d (omega arith)

pub all_first : (P : Token → Type 0) (xs : List Token) (x : Token) → Some x ≡ slice_get xs 0 → All P xs → P x
all_first P [] x e h = cc
all_first P (y ∷ ys) x e h = let same : x ≡ y = cc in subst P (sym same) (h 0 y (omega arith))

-- ---- kinds

kind_of_by : (kind : TokenKind) (bytes : List ℕ) (value at : ℕ) → kind_of (lexeme_by kind bytes value at) ≡ kind
kind_of_by Name bytes value at = refl
kind_of_by Number bytes value at = refl
kind_of_by kind bytes value at = refl

pub kind_at_is : (text : List ℕ) (tokens : List Token) (n : ℕ) → kind_at n (lexemes_of text tokens) ≡ option_map (λ (t : Token). t.kind) (slice_get tokens n)
kind_at_is text [] n = refl
kind_at_is text (t ∷ ts) zero = ap (λ kind. Some kind) (kind_of_by t.kind _ t.value t.at)
kind_at_is text (t ∷ ts) (suc n) = kind_at_is text ts n

pub kind_there : (text : List ℕ) (tokens : List Token) (n : ℕ) (t : Token) → Some t ≡ slice_get tokens n → kind_at n (lexemes_of text tokens) ≡ Some t.kind
kind_there text tokens n t e = kind_at_is text tokens n ∙ ap (option_map (λ (t : Token). t.kind)) (sym e)

pub no_kind : (text : List ℕ) (tokens : List Token) (n : ℕ) → None ≡ slice_get tokens n → kind_at n (lexemes_of text tokens) ≡ None
no_kind text tokens n e = kind_at_is text tokens n ∙ ap (option_map (λ (t : Token). t.kind)) (sym e)

-- ---- names are ASCII

name_byte_small : (b : ℕ) → is_name_byte b ≡ true → b < 128
name_byte_small b h = grind (arith, nat_tests)

letter_small : (b : ℕ) → is_letter b ≡ true → b < 128
letter_small b h = grind (arith, nat_tests)

named_small : (bytes : List ℕ) → list_all is_name_byte bytes ≡ true → IsAscii bytes
named_small [] h i = omega arith
named_small (b ∷ bytes) h zero = name_byte_small b (and_parts (is_name_byte b) (list_all is_name_byte bytes) h).0
named_small (b ∷ bytes) h (suc i) = named_small bytes (and_parts (is_name_byte b) (list_all is_name_byte bytes) h).1 i

word_small : (bytes : List ℕ) → IsWord bytes → IsAscii bytes
word_small [] h i = absurd h
word_small (b ∷ bytes) h zero = letter_small b h.0
word_small (b ∷ bytes) h (suc i) = named_small bytes h.1 i

pub name_small : (text : List ℕ) (t : Token) (n : ℕ) → IsTokenOf text t → t.kind ≡ Name → n ≡ t.len → IsAscii (take n (drop t.at text))
name_small text t n h kind e =
    let token = subst (λ k. IsToken k (take t.len (drop t.at text)) t.value) kind h.means in
    subst (λ m. IsAscii (take m (drop t.at text))) (sym e) (word_small (take t.len (drop t.at text)) token.0.word)
