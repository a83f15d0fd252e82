-- The tokens of a text.
use Rattle.std.specs.Prelude.{◌≡◌, ◌≢◌, ℕ, ◌+◌, ◌^◌, ◌<◌, ◌≤◌, ◌⊎◌, Bool, true, false, IsTrue, List, [], ◌∷◌, ◌++◌, length, codes}
use Rattle.std.specs.List.{list_all}
use Rattle.std.specs.Char.{is_digit}
use Rattle.std.specs.Str.Parse.{digits_value}
use Rattle.redn_syntax.specs.declared.token.Token.{Token}
use Rattle.redn_syntax.specs.declared.token.TokenKind.{TokenKind}
use Rattle.redn_syntax.specs.declared.token.TokenKind.TheVariants.{Table, Ro, Rw, Chain, Arg, Var, If, Else, Loop, Repeat, Break, Lookup, Key, Probes, Walk, Nodes, Reply, Serve, OpenBrace, CloseBrace, OpenBracket, CloseBracket, Semicolon, Comma, Colon, Equals, PlusEquals, DoubleEquals, Tilde, Name, Number}
use Rattle.redn_syntax.specs.Bytes.{is_blank, is_letter, is_name_byte}

-- the bytes of each keyword and each mark; names and numbers have no one spelling
abbrev pub spelling : TokenKind → List ℕ
spelling Table = codes "table"
spelling Ro = codes "ro"
spelling Rw = codes "rw"
spelling Chain = codes "chain"
spelling Arg = codes "arg"
spelling Var = codes "var"
spelling If = codes "if"
spelling Else = codes "else"
spelling Loop = codes "loop"
spelling Repeat = codes "repeat"
spelling Break = codes "break"
spelling Lookup = codes "lookup"
spelling Key = codes "key"
spelling Probes = codes "probes"
spelling Walk = codes "walk"
spelling Nodes = codes "nodes"
spelling Reply = codes "reply"
spelling Serve = codes "serve"
spelling OpenBrace = codes "{"
spelling CloseBrace = codes "}"
spelling OpenBracket = codes "["
spelling CloseBracket = codes "]"
spelling Semicolon = codes ";"
spelling Comma = codes ","
spelling Colon = codes ":"
spelling Equals = codes "="
spelling PlusEquals = codes "+="
spelling DoubleEquals = codes "=="
spelling Tilde = codes "~"
spelling Name = []
spelling Number = []

-- a letter, and then letters and digits
abbrev pub IsWord : List ℕ → Type 0
IsWord [] = ⊥
IsWord (b ∷ bytes) = IsTrue (is_letter b) × IsTrue (list_all is_name_byte bytes)

-- a word of 32 bytes at most that is no keyword
pub record IsName (bytes : List ℕ) : Type 0 where
  pub word : IsWord bytes
  pub short : length bytes ≤ 32
  pub own : (kind : TokenKind) → bytes ≢ spelling kind

-- one digit of this base or more, and their value
pub record AreDigits (base : ℕ) (bytes : List ℕ) (value : ℕ) : Type 0 where
  pub some : 0 < length bytes
  pub digits : IsTrue (list_all (λ b. is_digit b base) bytes)
  pub reads : value ≡ digits_value base bytes

-- `0x`, and hexadecimal digits of either case
pub record IsHexadecimal (bytes : List ℕ) (value : ℕ) : Type 0 where
  pub digits : List ℕ
  pub spelled : bytes ≡ codes "0x" ++ digits
  pub hexadecimal : AreDigits 16 digits value

-- a number of any size
abbrev pub IsNumber : List ℕ → ℕ → Type 0
IsNumber bytes value = AreDigits 10 bytes value ⊎ IsHexadecimal bytes value

-- these bytes are a token of this kind, with this value, which is 0 for all but numbers
abbrev pub IsToken : TokenKind → List ℕ → ℕ → Type 0
IsToken Name bytes value = IsName bytes × (value ≡ 0)
IsToken Number bytes value = IsNumber bytes value × (value < 2 ^ 64)
IsToken kind bytes value = (bytes ≡ spelling kind) × (value ≡ 0)

-- a mark or a keyword, a word of any length, or a number of any size
abbrev pub HasShape : List ℕ → Type 0
HasShape bytes =
    ((kind : TokenKind) × (0 < length bytes) × (bytes ≡ spelling kind)) ⊎ IsWord bytes ⊎ ((value : ℕ) × IsNumber bytes value)

-- begins with a letter or a digit, as names, keywords and numbers do
abbrev pub BeginsWord : List ℕ → Type 0
BeginsWord [] = ⊥
BeginsWord (b ∷ bytes) = IsTrue (is_name_byte b)

-- A token ends between these bytes and the rest: no longer front of both is a mark, a word or a
-- number, and no letter or digit stands right behind a word or a number.
pub record EndsBefore (bytes rest : List ℕ) : Type 0 where
  pub longest : (more others : List ℕ) → rest ≡ more ++ others → HasShape (bytes ++ more) → more ≡ []
  pub whole : BeginsWord bytes → BeginsWord rest → ⊥

-- Blanks and comments. A comment goes from `#` up to a newline; where `open` holds, the last one may
-- also go up to the end.
abbrev mutual
  pub IsGap : Bool → List ℕ → Type 0
  IsGap «open» [] = Unit {0}
  IsGap «open» (b ∷ bytes) = (IsTrue (is_blank b) × IsGap «open» bytes) ⊎ ((b ≡ 35) × IsComment «open» bytes)

  pub IsComment : Bool → List ℕ → Type 0
  IsComment «open» [] = IsTrue «open»
  IsComment «open» (b ∷ bytes) = ((b ≡ 10) × IsGap «open» bytes) ⊎ ((b ≢ 10) × IsComment «open» bytes)

-- At this place a text goes on with a gap, then this token, then the rest.
pub record NextToken (at : ℕ) (text : List ℕ) (token : Token) (rest : List ℕ) : Type 0 where
  pub gap : List ℕ
  pub bytes : List ℕ
  pub split : text ≡ gap ++ (bytes ++ rest)
  pub blank : IsGap false gap
  pub place : token.at ≡ at + length gap
  pub size : token.len ≡ length bytes
  pub means : IsToken token.kind bytes token.value
  pub ends : EndsBefore bytes rest

-- what stands from this place on has these tokens, and a gap behind the last
abbrev pub TokenizesFrom : ℕ → List ℕ → List Token → Type 0
TokenizesFrom at text [] = IsGap true text
TokenizesFrom at text (token ∷ tokens) =
    (rest : List ℕ) × NextToken at text token rest × TokenizesFrom (token.at + token.len) rest tokens

-- the text has these tokens
abbrev pub Tokenizes : List ℕ → List Token → Type 0
Tokenizes text tokens = TokenizesFrom 0 text tokens
