-- What stands at the front of a text that begins with no gap.
use Rattle.std.specs.Prelude.{◌≡◌, ℕ, ◌^◌, ◌+◌, ◌<◌, ◌≤◌, ◌⊎◌, IsTrue, Bool, true, false, not, ◌||◌, ◌&&◌, ◌==◌, slice_index, take, List, [], ◌∷◌, ◌++◌, length}
use Rattle.std.specs.Char.{is_digit}
use Rattle.std.specs.Str.Parse.{digits_value}
use Rattle.redn_syntax.specs.declared.token.TokenKind.{TokenKind}
use Rattle.redn_syntax.specs.declared.token.TokenKind.TheVariants.{Number}
use Rattle.redn_syntax.specs.Bytes.{is_blank}
use Rattle.redn_syntax.specs.Tokens.{IsNumber, IsToken, EndsBefore, IsGap, IsComment}
use Rattle.redn_lex.specs.declared.front.Stop.{Stop}
use Rattle.redn_lex.specs.declared.front.Stop.TheVariants.{Bad, Wide}

-- begins with neither a blank nor a comment
abbrev pub BeginsSolid : List ℕ → Type 0
BeginsSolid [] = ⊥
BeginsSolid (b ∷ bytes) = IsTrue (not (is_blank b || b == 35))

-- its first bytes are a token, which ends there
pub record IsFront (text : List ℕ) (kind : TokenKind) (len value : ℕ) : Type 0 where
  pub bytes : List ℕ
  pub rest : List ℕ
  pub split : text ≡ bytes ++ rest
  pub size : len ≡ length bytes
  pub means : IsToken kind bytes value
  pub ends : EndsBefore bytes rest

-- no front of the text that is longer than this one begins with a token that ends within it
abbrev pub NoneBehind : List ℕ → List ℕ → Type 0
NoneBehind text front =
    (longer others bytes rest : List ℕ) (kind : TokenKind) (value : ℕ) →
    text ≡ longer ++ others → length front < length longer → longer ≡ bytes ++ rest → IsToken kind bytes value → EndsBefore bytes rest → ⊥

-- its first bytes, or none, are a token, and with the next byte no token goes on
pub record IsStuck (text : List ℕ) (len : ℕ) : Type 0 where
  pub front : List ℕ
  pub next : ℕ
  pub others : List ℕ
  pub split : text ≡ front ++ next ∷ others
  pub size : len ≡ length front
  pub before : (front ≡ []) ⊎ ((kind : TokenKind) × (value : ℕ) × IsToken kind front value)
  pub narrow : (value : ℕ) → IsNumber (front ++ next ∷ []) value → ⊥
  pub none : NoneBehind text front

-- its first bytes are a number, and with the next byte they are one above 2^64 - 1
pub record IsWide (text : List ℕ) : Type 0 where
  pub front : List ℕ
  pub next : ℕ
  pub others : List ℕ
  pub split : text ≡ front ++ next ∷ others
  pub narrower : ℕ
  pub before : IsToken Number front narrower
  pub value : ℕ
  pub wider : IsNumber (front ++ next ∷ []) value
  pub wide : 2 ^ 64 ≤ value
  pub none : NoneBehind text front

-- why no token stands at the front
abbrev pub StopsAt : List ℕ → Stop → Type 0
StopsAt text (Bad len) = IsStuck text len
StopsAt text Wide = IsWide text

-- begins with `0x` and a hexadecimal digit
abbrev pub is_hexadecimal : List ℕ → Bool
is_hexadecimal text = slice_index text 0 == 48 && slice_index text 1 == 120 && is_digit (slice_index text 2) 16

-- a number stands at the front: how many bytes stand before its digits, and their base
abbrev pub NumberBegins : List ℕ → ℕ → ℕ → Type 0
NumberBegins text skip base =
    ((skip ≡ 0) × (base ≡ 10) × (is_hexadecimal text ≡ false)) ⊎ ((skip ≡ 2) × (base ≡ 16) × (is_hexadecimal text ≡ true))

-- the value of the first n digits is below 2^64, and that of one more isn't
pub record PassesAt (base : ℕ) (digits : List ℕ) (n : ℕ) : Type 0 where
  pub within : n < length digits
  pub below : digits_value base (take n digits) < 2 ^ 64
  pub above : 2 ^ 64 ≤ digits_value base (take (n + 1) digits)

-- a gap goes on with this, in a comment or out of one
abbrev pub GapGoesOn : Bool → Bool → List ℕ → Type 0
GapGoesOn open_end true more = IsComment open_end more
GapGoesOn open_end false more = IsGap open_end more
