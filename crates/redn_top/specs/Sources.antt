-- What a source text means, and why it means nothing.
use Rattle.std.specs.Prelude.{◌≡◌, ℕ, List, length, slice_get}
use Rattle.std.specs.Option.{option_map_or}
use Rattle.redn_syntax.specs.declared.token.Token.{Token}
use Rattle.redn_syntax.specs.declared.tree.File.{File}
use Rattle.redn_syntax.specs.Tokens.{Tokenizes}
use Rattle.redn_syntax.specs.Grammar.{HasTreeWithin}
use Rattle.redn_lex.specs.Faults.{IsBadByte, IsTooWide}
use Rattle.redn_parse.specs.Answers.{IsUnexpected, IsTooDeep}
use Rattle.redn_kernel.specs.declared.types.Program.{Program}
use Rattle.redn_check.specs.Faults.{fault, IsFirst}
use Rattle.redn_check.specs.Rules.{Accepts, faults}
use Rattle.redn_check.specs.Numbering.{program_of}
use Rattle.redn_top.specs.declared.status.TextFault.{TextFault}
use Rattle.redn_top.specs.declared.status.TextFault.TheVariants.{Byte, Nesting}

-- the text is one of this tree, in which no block is nested deeper than 64
pub record IsTextOf (text : List ℕ) (f : File) : Type 0 where
  pub tokens : List Token
  pub tokenized : Tokenizes text tokens
  pub tree : HasTreeWithin 64 text tokens f

-- the text is that of an accepted file, whose program this is
pub record Means (text : List ℕ) (p : Program) : Type 0 where
  pub file : File
  pub read : IsTextOf text file
  pub accepted : Accepts file
  pub is : p ≡ program_of file

-- where a token stands, by its number, and the end of the text behind the last
abbrev pub token_place : List ℕ → List Token → ℕ → ℕ
token_place text tokens n = option_map_or (λ (t : Token). t.at) (slice_get tokens n) (length text)

-- what is wrong with a text, and where
pub data WhyNoTree (text : List ℕ) : TextFault → Type 0 where
  NoToken : (at : ℕ) → IsBadByte text at → WhyNoTree text (Byte at)
  WideNumber : (at : ℕ) → IsTooWide text at → WhyNoTree text (Byte at)
  NoFile : (tokens : List Token) (n : ℕ) → Tokenizes text tokens → IsUnexpected text tokens n → WhyNoTree text (Byte (token_place text tokens n))
  TooDeep : (tokens : List Token) (at : ℕ) → Tokenizes text tokens → IsTooDeep text tokens at → WhyNoTree text (Nesting at)

-- a text of no tree, or of one that is nested too deep
pub record TextRefused (text : List ℕ) (fault : TextFault) : Type 0 where
  pub why : WhyNoTree text fault
  pub none : (f : File) → ¬ IsTextOf text f

-- a rule fails, and this is the first fault
pub record RuleBroken (text : List ℕ) (rule at seen : ℕ) : Type 0 where
  pub file : File
  pub read : IsTextOf text file
  pub first : IsFirst (fault rule at seen) (faults file)
  pub none : (p : Program) → ¬ Means text p
