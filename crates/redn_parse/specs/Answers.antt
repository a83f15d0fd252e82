-- What each answer of the parser says of the tokens of a text.
use Rattle.std.specs.Prelude.{◌≡◌, ℕ, ◌+◌, ◌<◌, ◌≤◌, ◌⊎◌, Result, Ok, Err, List, [], ◌∷◌, ◌++◌, length, take}
use Rattle.redn_syntax.specs.declared.token.Token.{Token}
use Rattle.redn_syntax.specs.declared.token.TokenKind.TheVariants.{OpenBrace}
use Rattle.redn_syntax.specs.declared.tree.File.{File}
use Rattle.redn_syntax.specs.Lexemes.{Fixed, lexemes_of}
use Rattle.redn_syntax.specs.Grammar.{HasTree, IsViable}
use Rattle.redn_parse.specs.declared.fault.ParseFault.{ParseFault}
use Rattle.redn_parse.specs.declared.fault.ParseFault.TheVariants.{Memory}
use Rattle.redn_parse.specs.Depth.{OpensDeep}

-- the answer is an Ok of which this holds, unless memory runs out
abbrev pub Gives : {T : Type 0} → Result T ParseFault → (T → Type 0) → Type 0
Gives (Ok x) P = P x
Gives (Err e) P = e ≡ Memory

-- the answer is this fault, unless memory runs out
abbrev pub FailsWith : {T : Type 0} → Result T ParseFault → ParseFault → Type 0
FailsWith (Ok x) fault = ⊥
FailsWith (Err e) fault = (e ≡ fault) ⊎ (e ≡ Memory)

-- some file begins with these tokens, at whatever depth
abbrev pub AreViable : List ℕ → List Token → Type 0
AreViable text tokens = IsViable (lexemes_of text tokens)

-- The tokens have no tree. The first of them up to this number are viable, and with one more they aren't.
-- None of these opens a block that is nested too deep.
pub record IsUnexpected (text : List ℕ) (tokens : List Token) (token : ℕ) : Type 0 where
  pub none : (f : File) → HasTree text tokens f → ⊥
  pub within : token ≤ length tokens
  pub viable : AreViable text (take token tokens)
  pub last : token < length tokens → AreViable text (take (token + 1) tokens) → ⊥
  pub shallow : (at : ℕ) → OpensDeep text (take token tokens) at → ⊥

-- the first brace that opens a block too deep stands at this place, and the tokens up to it are viable
pub record IsTooDeep (text : List ℕ) (tokens : List Token) (at : ℕ) : Type 0 where
  pub opens : OpensDeep text tokens at
  pub viable : IsViable (opens.before ++ Fixed OpenBrace at ∷ [])
