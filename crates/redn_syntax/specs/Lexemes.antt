-- What tokens say.
use Rattle.std.specs.Prelude.{ℕ, List, map, take, drop}
use Rattle.std.specs.Fmt.{decimal}
use Rattle.redn_syntax.specs.declared.token.Token.{Token}
use Rattle.redn_syntax.specs.declared.token.TokenKind.{TokenKind}
use Rattle.redn_syntax.specs.declared.token.TokenKind.TheVariants.{Name, Number}
use Rattle.redn_syntax.specs.Tokens.{spelling}

-- a keyword or a mark, a name or a number, and the place where it stands
pub data Lexeme : Type 0 where
  Fixed : (kind : TokenKind) (at : ℕ) → Lexeme
  Named : (name : List ℕ) (at : ℕ) → Lexeme
  Numbered : (value at : ℕ) → Lexeme

abbrev pub place_of : Lexeme → ℕ
place_of (Fixed kind at) = at
place_of (Named name at) = at
place_of (Numbered value at) = at

abbrev pub lexeme_by : TokenKind → List ℕ → ℕ → ℕ → Lexeme
lexeme_by Name bytes value at = Named bytes at
lexeme_by Number bytes value at = Numbered value at
lexeme_by kind bytes value at = Fixed kind at

-- what a token of a text says
abbrev pub lexeme_of : List ℕ → Token → Lexeme
lexeme_of text token = lexeme_by token.kind (take token.len (drop token.at text)) token.value token.at

abbrev pub lexemes_of : List ℕ → List Token → List Lexeme
lexemes_of text tokens = map (lexeme_of text) tokens

-- its bytes, a number in decimal
abbrev pub spelled : Lexeme → List ℕ
spelled (Fixed kind at) = spelling kind
spelled (Named name at) = name
spelled (Numbered value at) = decimal value

-- places aside: all at place 0
abbrev pub unplaced : Lexeme → Lexeme
unplaced (Fixed kind at) = Fixed kind 0
unplaced (Named name at) = Named name 0
unplaced (Numbered value at) = Numbered value 0
