-- The one canonical text of a tree.
use Rattle.std.specs.Prelude.{ℕ, List, [], ◌∷◌, ◌++◌, Option, Some, None, map}
use Rattle.std.specs.List.{flat_map, join_with_byte}
use Rattle.redn_syntax.specs.declared.token.Token.{Token}
use Rattle.redn_syntax.specs.declared.token.TokenKind.{TokenKind}
use Rattle.redn_syntax.specs.declared.token.TokenKind.TheVariants as k
use Rattle.redn_syntax.specs.declared.tree.Name.{Name}
use Rattle.redn_syntax.specs.declared.tree.Num.{Num}
use Rattle.redn_syntax.specs.declared.tree.Operand.{Operand}
use Rattle.redn_syntax.specs.declared.tree.Operand.TheVariants as operand
use Rattle.redn_syntax.specs.declared.tree.Item.{Item}
use Rattle.redn_syntax.specs.declared.tree.Table.{Table}
use Rattle.redn_syntax.specs.declared.tree.VarDecl.{VarDecl}
use Rattle.redn_syntax.specs.declared.tree.Chain.{Chain}
use Rattle.redn_syntax.specs.declared.tree.File.{File}
use Rattle.redn_syntax.specs.declared.tree.Stmt.{Stmt, fold-Stmt}
use Rattle.redn_syntax.specs.declared.tree.StmtKind.TheOpen.{StmtKind-F}
use Rattle.redn_syntax.specs.Lexemes.{Lexeme, Fixed, Named, Numbered, spelled}
use Rattle.redn_syntax.specs.Tokens.{Tokenizes}
use Rattle.redn_syntax.specs.Grammar.{test_mark, access_mark, IsWritableWithin, HasTreeAsideWithin}

-- All stand at place 0 here: a canonical text has no places of its own.
abbrev pub mark : TokenKind → List Lexeme
mark kind = Fixed kind 0 ∷ []

abbrev pub name : Name → List Lexeme
name n = Named n.text 0 ∷ []

abbrev pub number : Num → List Lexeme
number n = Numbered n.value 0 ∷ []

abbrev pub value : Operand → List Lexeme
value (operand.Name n) = name n
value (operand.Num n) = number n

-- with a comma between two
abbrev pub listed : {X : Type 0} → (X → List Lexeme) → List X → List Lexeme
listed f [] = []
listed f (x ∷ xs) = f x ++ flat_map (λ y. mark k.Comma ++ f y) xs

abbrev pub item_offset : Option Num → List Lexeme
item_offset None = []
item_offset (Some n) = number n ++ mark k.Colon

abbrev pub item : Item → List Lexeme
item i = item_offset i.at ++ number i.word

abbrev pub contents : List Item → List Lexeme
contents [] = []
contents (i ∷ items) = mark k.Equals ++ mark k.OpenBrace ++ listed item (i ∷ items) ++ mark k.CloseBrace

abbrev pub table : Table → List Lexeme
table t =
    mark k.Table ++ name t.name ++ mark k.OpenBracket ++ number t.length ++ mark k.CloseBracket
    ++ mark (access_mark t.writable) ++ contents t.items ++ mark k.Semicolon

abbrev pub argument : Name → List Lexeme
argument n = mark k.Arg ++ name n ++ mark k.Semicolon

abbrev pub first_value : Option Num → List Lexeme
first_value None = []
first_value (Some n) = mark k.Equals ++ number n

abbrev pub variable : VarDecl → List Lexeme
variable v = mark k.Var ++ name v.name ++ first_value v.first ++ mark k.Semicolon

abbrev pub slot : Name → Operand → List Lexeme
slot t offset = name t ++ mark k.OpenBracket ++ value offset ++ mark k.CloseBracket

-- of the lexemes of each statement
abbrev pub block : List (List Lexeme) → List Lexeme
block body = mark k.OpenBrace ++ flat_map (λ s. s) body ++ mark k.CloseBrace

-- an empty block is left out
abbrev pub otherwise : List (List Lexeme) → List Lexeme
otherwise [] = []
otherwise (s ∷ body) = mark k.Else ++ block (s ∷ body)

-- a statement whose blocks are given by the lexemes of their statements
abbrev pub Layer : Type 0
Layer = StmtKind-F (List Lexeme) (List Lexeme)

unfoldable pub form : Layer → List Lexeme
form (StmtKind-F.Move to from) = name to ++ mark k.Equals ++ value from ++ mark k.Semicolon
form (StmtKind-F.Add to by) = name to ++ mark k.PlusEquals ++ value by ++ mark k.Semicolon
form (StmtKind-F.Load to t offset) = name to ++ mark k.Equals ++ slot t offset ++ mark k.Semicolon
form (StmtKind-F.Store t offset from) = slot t offset ++ mark k.Equals ++ value from ++ mark k.Semicolon
form (StmtKind-F.If wide left right then_do else_do) =
    mark k.If ++ value left ++ mark (test_mark wide) ++ value right ++ block then_do ++ otherwise else_do
form (StmtKind-F.Loop body) = mark k.Loop ++ block body
form (StmtKind-F.Repeat count body) = mark k.Repeat ++ number count ++ block body
form StmtKind-F.Break = mark k.Break ++ mark k.Semicolon
form (StmtKind-F.Lookup to t offset key probes) =
    mark k.Lookup ++ name to ++ mark k.Equals ++ slot t offset ++ mark k.Key ++ value key ++ mark k.Probes ++ number probes ++ mark k.Semicolon
form (StmtKind-F.Walk to t offset key nodes) =
    mark k.Walk ++ name to ++ mark k.Equals ++ slot t offset ++ mark k.Key ++ value key ++ mark k.Nodes ++ number nodes ++ mark k.Semicolon
form (StmtKind-F.Reply words) = mark k.Reply ++ listed value words ++ mark k.Semicolon

unfoldable pub statement : Stmt → List Lexeme
statement = fold-Stmt (List Lexeme) (List Lexeme) form (λ s. s.kind)

abbrev pub body_of : List Stmt → List Lexeme
body_of body = flat_map statement body

abbrev pub opening : Option Num → List Lexeme
opening None = mark k.OpenBrace
opening (Some n) = mark k.Serve ++ number n ++ mark k.OpenBrace

abbrev pub chain : Chain → List Lexeme
chain c =
    mark k.Chain ++ name c.name ++ opening c.serve ++ flat_map argument c.args ++ flat_map variable c.vars
    ++ body_of c.body ++ mark k.CloseBrace

abbrev pub file : File → List Lexeme
file f = flat_map table f.tables ++ flat_map chain f.chains

-- one space between two tokens, and one newline behind the last
abbrev pub text_of : List Lexeme → List ℕ
text_of lexemes = join_with_byte 32 (map spelled lexemes) ++ 10 ∷ []

abbrev pub canonical_text : File → List ℕ
canonical_text f = text_of (file f)

-- with a space behind each
abbrev pub spaced : List Lexeme → List ℕ
spaced lexemes = flat_map (λ lexeme. spelled lexeme ++ 32 ∷ []) lexemes

-- this text has tokens, and they have the tree wherever any tokens have it, and no deeper
pub record ReadsBack (f : File) (text : List ℕ) : Type 0 where
  pub tokens : List Token
  pub tokenized : Tokenizes text tokens
  pub tree : (depth : ℕ) → IsWritableWithin depth f → HasTreeAsideWithin depth text tokens f
