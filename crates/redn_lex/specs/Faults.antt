-- Where a text that has no tokens goes wrong.
use Rattle.std.specs.Prelude.{◌≡◌, ℕ, ◌^◌, ◌+◌, ◌-◌, ◌<◌, ◌≤◌, ◌⊎◌, true, Option, Some, None, Result, Ok, Err, List, [], ◌∷◌, ◌++◌, length, drop}
use Rattle.redn_syntax.specs.declared.token.Token.{Token}
use Rattle.redn_syntax.specs.declared.token.TokenKind.TheVariants.{Number}
use Rattle.redn_syntax.specs.Tokens.{IsNumber, IsGap, NextToken, TokenizesFrom}
use Rattle.redn_lex.specs.declared.fault.LexFault.{LexFault}
use Rattle.redn_lex.specs.declared.fault.LexFault.TheVariants.{BadByte, NumberTooWide, Memory}

-- At this place stands a text of which `front` has tokens, and no longer front has any.
pub record StopsFrom (place : ℕ) (text front : List ℕ) : Type 0 where
  pub next : ℕ
  pub others : List ℕ
  pub split : text ≡ front ++ next ∷ others
  pub tokens : List Token
  pub tokenized : TokenizesFrom place front tokens
  pub longest : (longer rest : List ℕ) (found : List Token) → text ≡ longer ++ rest → length front < length longer → TokenizesFrom place longer found → ⊥

-- The longest front that has tokens ends with a number, at `at`. With the byte behind it that number
-- would be above 2^64 - 1.
pub record IsTooWideFrom (place : ℕ) (text : List ℕ) (at : ℕ) : Type 0 where
  pub before : List ℕ
  pub digits : List ℕ
  pub stops : StopsFrom place text (before ++ digits)
  pub earlier : List Token
  pub last : Token
  pub ends : TokenizesFrom place (before ++ digits) (earlier ++ last ∷ [])
  pub kind : last.kind ≡ Number
  pub start : last.at ≡ at
  pub size : last.len ≡ length digits
  pub place_is : at ≡ place + length before
  pub value : ℕ
  pub wider : IsNumber (digits ++ stops.next ∷ []) value
  pub wide : 2 ^ 64 ≤ value

-- The longest front that has tokens ends at `at`, and it isn't a number that is too wide.
pub record IsBadByteFrom (place : ℕ) (text : List ℕ) (at : ℕ) : Type 0 where
  pub front : List ℕ
  pub stops : StopsFrom place text front
  pub place_is : at ≡ place + length front
  pub narrow : (wide : ℕ) → IsTooWideFrom place text wide → ⊥

-- the first place at which no token goes on
abbrev pub IsBadByte : List ℕ → ℕ → Type 0
IsBadByte text at = IsBadByteFrom 0 text at

-- the first byte of a number above 2^64 - 1
abbrev pub IsTooWide : List ℕ → ℕ → Type 0
IsTooWide text at = IsTooWideFrom 0 text at

-- what a fault says of the text that stands at this place; of memory it says nothing
abbrev pub IsFaultFrom : ℕ → List ℕ → LexFault → Type 0
IsFaultFrom place text (BadByte at) = IsBadByteFrom place text at
IsFaultFrom place text (NumberTooWide at) = IsTooWideFrom place text at
IsFaultFrom place text Memory = Unit {0}

-- the text that stands at this place goes on with this token, or with none
abbrev pub FollowsFrom : ℕ → List ℕ → Option Token → Type 0
FollowsFrom place text None = IsGap true text
FollowsFrom place text (Some token) = NextToken place text token (drop (token.at + token.len - place) text)

-- the answer is this fault, unless memory runs out
abbrev pub FailsWith : {T : Type 0} → Result T LexFault → LexFault → Type 0
FailsWith (Ok x) fault = ⊥
FailsWith (Err e) fault = (e ≡ fault) ⊎ (e ≡ Memory)

-- the answer is an Ok of which this holds, unless memory runs out
abbrev pub Gives : {T : Type 0} → Result T LexFault → (T → Type 0) → Type 0
Gives (Ok x) P = P x
Gives (Err e) P = e ≡ Memory
