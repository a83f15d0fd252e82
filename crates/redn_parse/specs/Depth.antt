-- Where a block opens that is nested too deep.
use Rattle.std.specs.Prelude.{◌≡◌, ℕ, ◌+◌, Bool, true, false, List, ◌∷◌, ◌++◌, count_by}
use Rattle.redn_syntax.specs.declared.token.Token.{Token}
use Rattle.redn_syntax.specs.declared.token.TokenKind.TheVariants.{OpenBrace, CloseBrace}
use Rattle.redn_syntax.specs.Lexemes.{Lexeme, Fixed, lexemes_of}

abbrev pub is_opening : Lexeme → Bool
is_opening (Fixed OpenBrace at) = true
is_opening lexeme = false

abbrev pub is_closing : Lexeme → Bool
is_closing (Fixed CloseBrace at) = true
is_closing lexeme = false

-- 65 braces are open behind these lexemes, where so many were open before them. A block that opens
-- there stands in 64 others: the first of the 65 is the chain's own.
abbrev pub IsFull : ℕ → List Lexeme → Type 0
IsFull opened lexemes = opened + count_by is_opening lexemes ≡ count_by is_closing lexemes + 65

-- The first brace that opens a block where 65 are open stands at this place.
pub record OpensDeepFrom (opened : ℕ) (lexemes : List Lexeme) (at : ℕ) : Type 0 where
  pub before : List Lexeme
  pub behind : List Lexeme
  pub split : lexemes ≡ before ++ Fixed OpenBrace at ∷ behind
  pub full : IsFull opened before
  pub first : (earlier later : List Lexeme) (place : ℕ) → before ≡ earlier ++ Fixed OpenBrace place ∷ later → IsFull opened earlier → ⊥

-- the first brace of these tokens that opens a 65th nested block
abbrev pub OpensDeep : List ℕ → List Token → ℕ → Type 0
OpensDeep text tokens at = OpensDeepFrom 0 (lexemes_of text tokens) at
