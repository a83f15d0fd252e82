-- Lexing the canonical text gives the canonical lexemes.
use Rattle.std.proofs.Common.{◌≡◌, ◌+◌, ◌-◌, ℕ, inl, List, [], ◌∷◌, ◌++◌, map, length, take, drop, sym, refl, ap, ◌∙◌, subst, append_assoc, length-append, arith}
use Rattle.std.proofs.Math.ListN.{set}
use Rattle.std.proofs.lemmas.List.{append-nil, length_push, set_at}
use Rattle.std.proofs.Math.Seq.{drop-append_seam, take-append_seam}
use Rattle.std.specs.List.{join_with_byte}
use Rattle.redn_syntax.specs.declared.token.Token.{Token}
use Rattle.redn_syntax.specs.declared.token.TokenKind.{TokenKind}
use Rattle.redn_syntax.specs.declared.token.TokenKind.TheVariants.{Name, Number}
use Rattle.redn_syntax.specs.declared.tree.File.{File}
use Rattle.redn_syntax.specs.Tokens.{spelling, IsToken, EndsBefore, TokenizesFrom, Tokenizes}
use Rattle.redn_syntax.specs.Lexemes.{Lexeme, Fixed, Named, Numbered, lexeme_by, lexemes_of, spelled, unplaced}
use Rattle.redn_syntax.specs.Grammar as g
use Rattle.redn_syntax.specs.Grammar.{HasTreeAsideWithin, IsWritableWithin}
use Rattle.redn_syntax.specs.Canonical.{text_of, spaced, canonical_text, file, ReadsBack}
use Rattle.redn_syntax.proofs.TokenFacts.{IsFixed, fixed_token, decimal_token, ends_solid}
use Rattle.redn_syntax.proofs.Printed.{Says, AllSay, IsPlain, AllPlain, file_again, file_begins}

-- ---- what is next in a text: the bytes of its token

-- the bytes of a part of a text
pub slice : (front bytes rest : List ℕ) → take (length bytes) (drop (length front) (front ++ (bytes ++ rest))) ≡ bytes
slice front bytes rest = ap (take (length bytes)) (drop-append_seam front (bytes ++ rest)) ∙ take-append_seam bytes rest

-- what a token of a kind with these bytes says
said_by : (kind : TokenKind) (bytes : List ℕ) (value at : ℕ) → IsToken kind bytes value → Says (unplaced (lexeme_by kind bytes value at))
said_by Name bytes value at h = h.0
said_by Number bytes value at h = h.1
said_by kind bytes value at h = tt

-- the tokens of a text say what tokens may say
says_from : (front text : List ℕ) (at : ℕ) (tokens : List Token) → at ≡ length front → TokenizesFrom at text tokens → AllSay (map unplaced (lexemes_of (front ++ text) tokens))
says_from front text at [] same h = tt
says_from front text at (token ∷ tokens) same (rest, next, more) =
    let before = front ++ next.gap in
    let behind = before ++ next.bytes in
    let whole : front ++ text ≡ before ++ (next.bytes ++ rest) = ap (λ l. front ++ l) next.split ∙ sym (append_assoc front next.gap (next.bytes ++ rest)) in
    let at_is : token.at ≡ length before = omega (arith, next.place, length-append front next.gap) in
    let end_is : token.at + token.len ≡ length behind = omega (arith, at_is, next.size, length-append before next.bytes) in
    let bytes_are : take token.len (drop token.at (front ++ text)) ≡ next.bytes = rw (next.size, at_is, whole) (slice before next.bytes rest) in
    let whole' : front ++ text ≡ behind ++ rest = whole ∙ sym (append_assoc before next.bytes rest) in (
      subst (λ b. Says (unplaced (lexeme_by token.kind b token.value token.at))) (sym bytes_are) (said_by token.kind next.bytes token.value token.at next.means),
      subst (λ t. AllSay (map unplaced (lexemes_of t tokens))) (sym whole') (says_from behind rest (token.at + token.len) tokens end_is more),
    )

-- ---- the tokens of the canonical text

kind_of : Lexeme → TokenKind
kind_of (Fixed kind at) = kind
kind_of (Named name at) = Name
kind_of (Numbered value at) = Number

value_of : Lexeme → ℕ
value_of (Fixed kind at) = 0
value_of (Named name at) = 0
value_of (Numbered value at) = value

spelled_token : (x : Lexeme) → Says x → IsToken (kind_of x) (spelled x) (value_of x)
unfolding kind_of value_of
spelled_token (Fixed kind at) h = fixed_token kind h
spelled_token (Named name at) h = (h, refl)
spelled_token (Numbered value at) h = decimal_token value h

lexeme_back : (x : Lexeme) (at : ℕ) → IsPlain x → unplaced (lexeme_by (kind_of x) (spelled x) (value_of x) at) ≡ x
unfolding kind_of value_of
lexeme_back (Fixed kind place) at h = fixed kind h.0 ∙ ap (λ p. Fixed kind p) (sym h.1)
  where
    fixed : (kind : TokenKind) → IsFixed kind → unplaced (lexeme_by kind (spelling kind) 0 at) ≡ Fixed kind 0
    fixed Name e = absurd e
    fixed Number e = absurd e
    fixed kind e = refl
lexeme_back (Named name place) at h = ap (λ p. Named name p) (sym h.1)
lexeme_back (Numbered value place) at h = ap (λ p. Numbered value p) (sym h.1)

-- the tokens of these lexemes, each behind a blank
tokens_behind : ℕ → List Lexeme → List Token
tokens_behind at [] = []
tokens_behind at (x ∷ xs) =
    record { kind = kind_of x; at = at + 1; len = length (spelled x); value = value_of x } ∷ tokens_behind (at + 1 + length (spelled x)) xs

-- the canonical text behind a token: a space before each further one, and a newline at the end
tail : List Lexeme → List ℕ
tail [] = 10 ∷ []
tail (x ∷ xs) = 32 ∷ (spelled x ++ tail xs)

text_is : (x : Lexeme) (xs : List Lexeme) → text_of (x ∷ xs) ≡ spelled x ++ tail xs
unfolding tail
text_is x [] = refl
text_is x (y ∷ ys) = append_assoc (spelled x) _ (10 ∷ []) ∙ ap (λ l. spelled x ++ 32 ∷ l) (text_is y ys)

ends_tail : (bytes : List ℕ) (xs : List Lexeme) → EndsBefore bytes (tail xs)
unfolding tail
ends_tail bytes [] = ends_solid bytes (10 ∷ []) 10 [] refl refl
ends_tail bytes (x ∷ xs) = ends_solid bytes (32 ∷ (spelled x ++ tail xs)) 32 (spelled x ++ tail xs) refl refl

tokenizes_tail : (at : ℕ) (xs : List Lexeme) → AllPlain xs → TokenizesFrom at (tail xs) (tokens_behind at xs)
unfolding tail tokens_behind
tokenizes_tail at [] h = inl (refl, tt)
tokenizes_tail at (x ∷ xs) h = (
  tail xs,
  record {
    gap = 32 ∷ [];
    bytes = spelled x;
    split = refl;
    blank = inl (refl, tt);
    place = refl;
    size = refl;
    means = spelled_token x h.0.0;
    ends = ends_tail (spelled x) xs;
  },
  tokenizes_tail (at + 1 + length (spelled x)) xs h.1,
)

lexemes_tail : (front : List ℕ) (at : ℕ) (xs : List Lexeme) → AllPlain xs → at ≡ length front → map unplaced (lexemes_of (front ++ tail xs) (tokens_behind at xs)) ≡ xs
unfolding tail tokens_behind
lexemes_tail front at [] h same = refl
lexemes_tail front at (x ∷ xs) h same =
    let before = front ++ 32 ∷ [] in
    let behind = before ++ spelled x in
    let whole : front ++ 32 ∷ (spelled x ++ tail xs) ≡ before ++ (spelled x ++ tail xs) = sym (append_assoc front (32 ∷ []) (spelled x ++ tail xs)) in
    let at_is : at + 1 ≡ length before = omega (arith, length-append front (32 ∷ [])) in
    let end_is : at + 1 + length (spelled x) ≡ length behind = omega (arith, at_is, length-append before (spelled x)) in
    let bytes_are : take (length (spelled x)) (drop (at + 1) (front ++ 32 ∷ (spelled x ++ tail xs))) ≡ spelled x = rw (at_is, whole) (slice before (spelled x) (tail xs)) in
    let whole' : front ++ 32 ∷ (spelled x ++ tail xs) ≡ behind ++ tail xs = whole ∙ sym (append_assoc before (spelled x) (tail xs)) in
    let first = ap (λ b. unplaced (lexeme_by (kind_of x) b (value_of x) (at + 1))) bytes_are ∙ lexeme_back x (at + 1) h.0 in
    let others = ap (λ t. map unplaced (lexemes_of t (tokens_behind (at + 1 + length (spelled x)) xs))) whole' ∙ lexemes_tail behind (at + 1 + length (spelled x)) xs h.1 end_is in
    (λ i. first i ∷ others i)

-- the tokens of the canonical text
canonical_tokens : List Lexeme → List Token
canonical_tokens [] = []
canonical_tokens (x ∷ xs) = record { kind = kind_of x; at = 0; len = length (spelled x); value = value_of x } ∷ tokens_behind (length (spelled x)) xs

tokenizes_text : (x : Lexeme) (xs : List Lexeme) → AllPlain (x ∷ xs) → Tokenizes (text_of (x ∷ xs)) (canonical_tokens (x ∷ xs))
unfolding canonical_tokens
tokenizes_text x xs h =
    let len_is : 0 + length (spelled x) ≡ length (spelled x) = omega arith in (
      tail xs,
      record {
        gap = [];
        bytes = spelled x;
        split = text_is x xs;
        blank = tt;
        place = refl;
        size = refl;
        means = spelled_token x h.0.0;
        ends = ends_tail (spelled x) xs;
      },
      subst (λ n. TokenizesFrom n (tail xs) (tokens_behind (length (spelled x)) xs)) (sym len_is) (tokenizes_tail (length (spelled x)) xs h.1),
    )

lexemes_text : (x : Lexeme) (xs : List Lexeme) → AllPlain (x ∷ xs) → map unplaced (lexemes_of (text_of (x ∷ xs)) (canonical_tokens (x ∷ xs))) ≡ x ∷ xs
unfolding canonical_tokens
lexemes_text x xs h =
    let bytes_are : take (length (spelled x)) (drop 0 (text_of (x ∷ xs))) ≡ spelled x = ap (λ l. take (length (spelled x)) l) (text_is x xs) ∙ take-append_seam (spelled x) (tail xs) in
    let first = ap (λ b. unplaced (lexeme_by (kind_of x) b (value_of x) 0)) bytes_are ∙ lexeme_back x 0 h.0 in
    let others = ap (λ t. map unplaced (lexemes_of t (tokens_behind (length (spelled x)) xs))) (text_is x xs) ∙ lexemes_tail (spelled x) (length (spelled x)) xs h.1 refl in
    (λ i. first i ∷ others i)

-- ---- the canonical text of a tree

plain_file : (depth : ℕ) (f : File) → IsWritableWithin depth f → AllPlain (file f)
plain_file depth f (text, tokens, tokenized, tree) = (file_again depth f _ (says_from [] text 0 tokens refl tokenized) tree).0

pub reads_back : (depth : ℕ) (f : File) → IsWritableWithin depth f → ReadsBack f (canonical_text f)
reads_back depth f writable =
    let begins = file_begins depth f _ writable.3 in
    let x = begins.0 in
    let xs = begins.1 in
    let same : file f ≡ x ∷ xs = begins.2 in
    let plain : AllPlain (x ∷ xs) = subst AllPlain same (plain_file depth f writable) in
    record {
      tokens = canonical_tokens (x ∷ xs);
      tokenized = rw same (tokenizes_text x xs plain);
      tree = λ depth' writable'.
          let again = (file_again depth' f _ (says_from [] writable'.0 0 writable'.1 refl writable'.2) writable'.3).1 in
          let lexemes = ap (λ l. map unplaced (lexemes_of (text_of l) (canonical_tokens (x ∷ xs)))) same ∙ lexemes_text x xs plain ∙ sym same in
          tree depth' _ lexemes again;
    }
  where
    tree : (d : ℕ) (l : List Lexeme) → l ≡ file f → g.file_within g.AnyPlace d f (file f) [] → g.file_within g.AnyPlace d f l []
    tree d l e h = subst (λ m. g.file_within g.AnyPlace d f m []) (sym e) h

-- what is written has a space in place of the last newline
pub spaced_is : (x : Lexeme) (xs : List Lexeme) → spaced (x ∷ xs) ≡ join_with_byte 32 (map spelled (x ∷ xs)) ++ 32 ∷ []
spaced_is x [] = append-nil _
spaced_is x (y ∷ ys) = append_assoc (spelled x) (32 ∷ []) _ ∙ ap (λ l. spelled x ++ 32 ∷ l) (spaced_is y ys) ∙ sym (append_assoc (spelled x) _ (32 ∷ []))

-- and a newline put in its place gives the canonical text
pub finished : (f : File) (depth : ℕ) (bytes : List ℕ) (n : ℕ) → IsWritableWithin depth f → bytes ≡ spaced (file f) → n ≡ length bytes → set bytes (n - 1) 10 ≡ canonical_text f
finished f depth bytes n writable written whole =
    let begins = file_begins depth f _ writable.3 in
    let joined = join_with_byte 32 (map spelled (file f)) in
    let e : spaced (file f) ≡ joined ++ 32 ∷ [] = rw begins.2 (spaced_is begins.0 begins.1) in
    let all : bytes ≡ joined ++ 32 ∷ [] = written ∙ e in
    let long : length bytes ≡ length joined + 1 = ap length all ∙ length_push joined 32 in
    let last : length joined ≡ n - 1 = omega arith in
    ap (λ l. set l (n - 1) 10) all ∙ set_at joined 32 [] 10 (n - 1) last
