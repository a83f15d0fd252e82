-- What comes next among the lexemes that are still to be read.
use Rattle.std.specs.Prelude.{◌≡◌, ℕ, ◌+◌, ◌≤◌, List, [], ◌∷◌, Option, Some, map, slice_get, take, drop, length}
use Rattle.redn_syntax.specs.declared.token.Token.{Token}
use Rattle.redn_syntax.specs.declared.token.TokenKind.{TokenKind}
use Rattle.redn_syntax.specs.declared.token.TokenKind.TheVariants.{OpenBracket, Name, Number}
use Rattle.redn_syntax.specs.Lexemes.{Lexeme, Fixed, Named, Numbered, place_of}
use Rattle.redn_syntax.specs.Tokens.{IsToken}

-- a keyword or a mark
abbrev pub IsFixed : TokenKind → Type 0
IsFixed Name = ⊥
IsFixed Number = ⊥
IsFixed kind = Unit {0}

abbrev pub kind_of : Lexeme → TokenKind
kind_of (Fixed kind at) = kind
kind_of (Named name at) = Name
kind_of (Numbered value at) = Number

-- the kind of the lexeme behind so many others
abbrev pub kind_at : ℕ → List Lexeme → Option TokenKind
kind_at count lexemes = slice_get (map kind_of lexemes) count

-- a name and a bracket come next
abbrev pub IsSlot : List Lexeme → Type 0
IsSlot lexemes = (kind_at 0 lexemes ≡ Some Name) × (kind_at 1 lexemes ≡ Some OpenBracket)

-- where the next one stands, or 0
abbrev pub next_place : List Lexeme → ℕ
next_place [] = 0
next_place (lexeme ∷ lexemes) = place_of lexeme

-- the token stands in the text, and its bytes there are those of its kind
pub record IsTokenOf (text : List ℕ) (token : Token) : Type 0 where
  pub within : token.at + token.len ≤ length text
  pub means : IsToken token.kind (take token.len (drop token.at text)) token.value
