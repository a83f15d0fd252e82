-- Whatever tokens may say one after the other, some text has tokens that say it: each behind a space.
use Rattle.std.proofs.Common.{arith, ◌≡◌, ◌+◌, ℕ, inl, List, [], ◌∷◌, ◌++◌, map, length, take, drop, refl, sym, ap, ◌∙◌, append_assoc, length-append}
use Rattle.redn_syntax.specs.declared.token.Token.{Token}
use Rattle.redn_syntax.specs.declared.token.TokenKind.{TokenKind}
use Rattle.redn_syntax.specs.declared.token.TokenKind.TheVariants.{Name, Number}
use Rattle.redn_syntax.specs.Tokens.{spelling, IsToken, EndsBefore, TokenizesFrom, Tokenizes}
use Rattle.redn_syntax.specs.Lexemes.{Lexeme, Fixed, Named, Numbered, lexeme_by, lexemes_of, spelled, unplaced}
use Rattle.redn_syntax.proofs.TokenFacts.{IsFixed, fixed_token, decimal_token, ends_solid}
use Rattle.redn_syntax.proofs.Printed.{Says, IsPlain, AllPlain}
use Rattle.redn_syntax.proofs.ReadBack.{slice}

kind_of : Lexeme → TokenKind
kind_of (Fixed kind at) = kind
kind_of (Named name at) = Name
kind_of (Numbered value at) = Number

value_of : Lexeme → ℕ
value_of (Fixed kind at) = 0
value_of (Named name at) = 0
value_of (Numbered value at) = value

token_of : (x : Lexeme) → Says x → IsToken (kind_of x) (spelled x) (value_of x)
unfolding kind_of value_of
token_of (Fixed kind at) h = fixed_token kind h
token_of (Named name at) h = (h, refl)
token_of (Numbered value at) h = decimal_token value h

said_again : (x : Lexeme) (at : ℕ) → IsPlain x → unplaced (lexeme_by (kind_of x) (spelled x) (value_of x) at) ≡ x
unfolding kind_of value_of
said_again (Fixed kind place) at h = fixed kind h.0 ∙ ap (λ p. Fixed kind p) (sym h.1)
  where
    fixed : (kind : TokenKind) → IsFixed kind → unplaced (lexeme_by kind (spelling kind) 0 at) ≡ Fixed kind 0
    fixed Name e = absurd e
    fixed Number e = absurd e
    fixed kind e = refl
said_again (Named name place) at h = ap (λ p. Named name p) (sym h.1)
said_again (Numbered value place) at h = ap (λ p. Numbered value p) (sym h.1)

-- each behind a space, and a newline at the end
text_of : List Lexeme → List ℕ
text_of [] = 10 ∷ []
text_of (x ∷ xs) = 32 ∷ (spelled x ++ text_of xs)

tokens_from : ℕ → List Lexeme → List Token
tokens_from at [] = []
tokens_from at (x ∷ xs) =
    record { kind = kind_of x; at = at + 1; len = length (spelled x); value = value_of x } ∷ tokens_from (at + 1 + length (spelled x)) xs

ends : (bytes : List ℕ) (xs : List Lexeme) → EndsBefore bytes (text_of xs)
unfolding text_of
ends bytes [] = ends_solid bytes (10 ∷ []) 10 [] refl refl
ends bytes (x ∷ xs) = ends_solid bytes (32 ∷ (spelled x ++ text_of xs)) 32 (spelled x ++ text_of xs) refl refl

tokenized : (at : ℕ) (xs : List Lexeme) → AllPlain xs → TokenizesFrom at (text_of xs) (tokens_from at xs)
unfolding text_of tokens_from
tokenized at [] h = inl (refl, tt)
tokenized at (x ∷ xs) h = (
  text_of xs,
  record {
    gap = 32 ∷ [];
    bytes = spelled x;
    split = refl;
    blank = inl (refl, tt);
    place = refl;
    size = refl;
    means = token_of x h.0.0;
    ends = ends (spelled x) xs;
  },
  tokenized (at + 1 + length (spelled x)) xs h.1,
)

said : (front : List ℕ) (at : ℕ) (xs : List Lexeme) → AllPlain xs → at ≡ length front → map unplaced (lexemes_of (front ++ text_of xs) (tokens_from at xs)) ≡ xs
unfolding text_of tokens_from
said front at [] h same = refl
said front at (x ∷ xs) h same =
    let before = front ++ 32 ∷ [] in
    let behind = before ++ spelled x in
    let whole : front ++ 32 ∷ (spelled x ++ text_of xs) ≡ before ++ (spelled x ++ text_of xs) = sym (append_assoc front (32 ∷ []) (spelled x ++ text_of xs)) in
    let at_is : at + 1 ≡ length before = omega (arith, length-append front (32 ∷ [])) in
    let end_is : at + 1 + length (spelled x) ≡ length behind = omega (arith, at_is, length-append before (spelled x)) in
    let bytes_are : take (length (spelled x)) (drop (at + 1) (front ++ 32 ∷ (spelled x ++ text_of xs))) ≡ spelled x = rw (at_is, whole) (slice before (spelled x) (text_of xs)) in
    let whole' : front ++ 32 ∷ (spelled x ++ text_of xs) ≡ behind ++ text_of xs = whole ∙ sym (append_assoc before (spelled x) (text_of xs)) in
    let first = ap (λ b. unplaced (lexeme_by (kind_of x) b (value_of x) (at + 1))) bytes_are ∙ said_again x (at + 1) h.0 in
    let others = ap (λ t. map unplaced (lexemes_of t (tokens_from (at + 1 + length (spelled x)) xs))) whole' ∙ said behind (at + 1 + length (spelled x)) xs h.1 end_is in
    (λ i. first i ∷ others i)

pub record HasText (xs : List Lexeme) : Type 0 where
  pub text : List ℕ
  pub tokens : List Token
  pub tokenizes : Tokenizes text tokens
  pub says : map unplaced (lexemes_of text tokens) ≡ xs

pub has_text : (xs : List Lexeme) → AllPlain xs → HasText xs
has_text xs h = record { text = text_of xs; tokens = tokens_from 0 xs; tokenizes = tokenized 0 xs h; says = said [] 0 xs h refl }
