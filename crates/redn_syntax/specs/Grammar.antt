-- Which lists of tokens a tree has.
use Rattle.std.specs.Prelude.{◌≡◌, ℕ, zero, suc, ◌⊎◌, Bool, true, false, List, [], ◌∷◌, ◌++◌, Option, Some, None, map}
use Rattle.redn_syntax.specs.declared.token.Token.{Token}
use Rattle.redn_syntax.specs.declared.token.TokenKind.{TokenKind}
use Rattle.redn_syntax.specs.declared.token.TokenKind.TheVariants as k
use Rattle.redn_syntax.specs.declared.tree.Name.{Name}
use Rattle.redn_syntax.specs.declared.tree.Num.{Num}
use Rattle.redn_syntax.specs.declared.tree.Operand.{Operand}
use Rattle.redn_syntax.specs.declared.tree.Operand.TheVariants as operand
use Rattle.redn_syntax.specs.declared.tree.Item.{Item}
use Rattle.redn_syntax.specs.declared.tree.Table.{Table}
use Rattle.redn_syntax.specs.declared.tree.VarDecl.{VarDecl}
use Rattle.redn_syntax.specs.declared.tree.Chain.{Chain}
use Rattle.redn_syntax.specs.declared.tree.File.{File}
use Rattle.redn_syntax.specs.declared.tree.Stmt.{Stmt}
use Rattle.redn_syntax.specs.declared.tree.StmtKind.{StmtKind, out-StmtKind}
use Rattle.redn_syntax.specs.declared.tree.StmtKind.TheOpen.{StmtKind-F}
use Rattle.redn_syntax.specs.Lexemes.{Lexeme, Fixed, Named, Numbered, place_of, unplaced, lexemes_of}
use Rattle.redn_syntax.specs.Tokens.{Tokenizes}

-- A phrase relates a list of lexemes, which begins with the phrase, to what comes after it.
abbrev pub Phrase : Type 1
Phrase = List Lexeme → List Lexeme → Type 0

-- one phrase and then another, so that a `do` block reads as a line of the grammar
infixl 10 ◌>>◌
abbrev pub ◌>>◌ : Phrase → Phrase → Phrase
(p >> q) before after = (between : List Lexeme) × p before between × q between after

abbrev pub nothing : Phrase
nothing before after = before ≡ after

abbrev pub never : Phrase
never before after = ⊥

abbrev pub mark : TokenKind → Phrase
mark kind before after = (at : ℕ) × (before ≡ Fixed kind at ∷ after)

-- each of a list, in order
abbrev pub each : {X : Type 0} → (X → Phrase) → List X → Phrase
each phrase [] = nothing
each phrase (x ∷ xs) = phrase x >> each phrase xs

-- one or more
abbrev pub some : {X : Type 0} → (X → Phrase) → List X → Phrase
some phrase [] = never
some phrase (x ∷ xs) = phrase x >> each phrase xs

-- one or more, with a comma between two
abbrev pub listed : {X : Type 0} → (X → Phrase) → List X → Phrase
listed phrase [] = never
listed phrase (x ∷ xs) = phrase x >> each (λ y. mark k.Comma >> phrase y) xs

-- `==` compares wide, and `~` doesn't
abbrev pub test_mark : Bool → TokenKind
test_mark true = k.DoubleEquals
test_mark false = k.Tilde

abbrev pub access_mark : Bool → TokenKind
access_mark true = k.Rw
access_mark false = k.Ro

-- `Stands` says which places in a tree go with the place of a token: the same, or any.
module _ (Stands : ℕ → ℕ → Type 0) where
  -- a mark at a place that the tree keeps
  abbrev pub mark_at : TokenKind → ℕ → Phrase
  mark_at kind place before after = (at : ℕ) × Stands place at × (before ≡ Fixed kind at ∷ after)

  -- the first lexeme of what follows stands at this place
  abbrev pub begins_at : ℕ → Phrase
  begins_at place before after = (lexeme : Lexeme) × (rest : List Lexeme) × (before ≡ lexeme ∷ rest) × Stands place (place_of lexeme) × (before ≡ after)

  abbrev pub name : Name → Phrase
  name n before after = (at : ℕ) × Stands n.at at × (before ≡ Named n.text at ∷ after)

  abbrev pub number : Num → Phrase
  number n before after = (at : ℕ) × Stands n.at at × (before ≡ Numbered n.value at ∷ after)

  abbrev pub value : Operand → Phrase
  value (operand.Name n) = name n
  value (operand.Num n) = number n

  -- a table's offset before a colon, where there is one
  abbrev pub item_offset : Option Num → Phrase
  item_offset None = nothing
  item_offset (Some n) = do
    number n
    mark k.Colon

  abbrev pub item : Item → Phrase
  item i = do
    item_offset i.at
    number i.word

  -- no items are written by nothing
  abbrev pub contents : List Item → Phrase
  contents [] = nothing
  contents (i ∷ items) = do
    mark k.Equals
    mark k.OpenBrace
    listed item (i ∷ items)
    mark k.CloseBrace

  abbrev pub table : Table → Phrase
  table t = do
    mark k.Table
    name t.name
    mark k.OpenBracket
    number t.length
    mark k.CloseBracket
    mark (access_mark t.writable)
    contents t.items
    mark k.Semicolon

  abbrev pub argument : Name → Phrase
  argument n = do
    mark k.Arg
    name n
    mark k.Semicolon

  abbrev pub first_value : Option Num → Phrase
  first_value None = nothing
  first_value (Some n) = do
    mark k.Equals
    number n

  abbrev pub variable : VarDecl → Phrase
  variable v = do
    mark k.Var
    name v.name
    first_value v.first
    mark k.Semicolon

  -- a place in a table, as `t[a]`
  abbrev pub slot : Name → Operand → Phrase
  slot t offset = do
    name t
    mark k.OpenBracket
    value offset
    mark k.CloseBracket

  module _ (block : List Stmt → Phrase) where
    -- an empty block may be left out
    abbrev pub otherwise : List Stmt → Phrase
    otherwise [] before after = (before ≡ after) ⊎ (mark k.Else >> block []) before after
    otherwise (s ∷ body) before after = (mark k.Else >> block (s ∷ body)) before after

    unfoldable pub form : StmtKind-F StmtKind Stmt → Phrase
    form (StmtKind-F.Move to from) = do
      name to
      mark k.Equals
      value from
      mark k.Semicolon
    form (StmtKind-F.Add to by) = do
      name to
      mark k.PlusEquals
      value by
      mark k.Semicolon
    form (StmtKind-F.Load to t offset) = do
      name to
      mark k.Equals
      slot t offset
      mark k.Semicolon
    form (StmtKind-F.Store t offset from) = do
      slot t offset
      mark k.Equals
      value from
      mark k.Semicolon
    form (StmtKind-F.If wide left right then_do else_do) = do
      mark k.If
      value left
      mark (test_mark wide)
      value right
      block then_do
      otherwise else_do
    form (StmtKind-F.Loop body) = do
      mark k.Loop
      block body
    form (StmtKind-F.Repeat count body) = do
      mark k.Repeat
      number count
      block body
    form StmtKind-F.Break = do
      mark k.Break
      mark k.Semicolon
    form (StmtKind-F.Lookup to t offset key probes) = do
      mark k.Lookup
      name to
      mark k.Equals
      slot t offset
      mark k.Key
      value key
      mark k.Probes
      number probes
      mark k.Semicolon
    form (StmtKind-F.Walk to t offset key nodes) = do
      mark k.Walk
      name to
      mark k.Equals
      slot t offset
      mark k.Key
      value key
      mark k.Nodes
      number nodes
      mark k.Semicolon
    form (StmtKind-F.Reply words) = do
      mark k.Reply
      listed value words
      mark k.Semicolon

    abbrev pub statement : Stmt → Phrase
    statement s = do
      begins_at s.at
      form (out-StmtKind s.kind)

  -- a block in which blocks nest less than this deep
  abbrev pub block_within : ℕ → List Stmt → Phrase
  block_within zero body = never
  block_within (suc depth) body = do
    mark k.OpenBrace
    each (statement (block_within depth)) body
    mark k.CloseBrace

  -- how many messages a chain serves, where that is written, and the brace that opens it
  abbrev pub opening : Option Num → Phrase
  opening None = mark k.OpenBrace
  opening (Some n) = do
    mark k.Serve
    number n
    mark k.OpenBrace

  abbrev pub chain_within : ℕ → Chain → Phrase
  chain_within depth c = do
    mark k.Chain
    name c.name
    opening c.serve
    each argument c.args
    each variable c.vars
    each (statement (block_within depth)) c.body
    mark_at k.CloseBrace c.close

  abbrev pub file_within : ℕ → File → Phrase
  file_within depth f = do
    each table f.tables
    some (chain_within depth) f.chains

-- places in the tree are those of the tokens
abbrev pub SamePlace : ℕ → ℕ → Type 0
SamePlace place at = place ≡ at

-- places aside
abbrev pub AnyPlace : ℕ → ℕ → Type 0
AnyPlace place at = Unit {0}

-- the tokens have this tree, and no block of it is nested deeper than this
abbrev pub HasTreeWithin : ℕ → List ℕ → List Token → File → Type 0
HasTreeWithin depth text tokens f = file_within SamePlace depth f (lexemes_of text tokens) []

abbrev pub HasTree : List ℕ → List Token → File → Type 0
HasTree text tokens f = (depth : ℕ) × HasTreeWithin depth text tokens f

-- the same, places aside
abbrev pub HasTreeAsideWithin : ℕ → List ℕ → List Token → File → Type 0
HasTreeAsideWithin depth text tokens f = file_within AnyPlace depth f (map unplaced (lexemes_of text tokens)) []

-- some text has tokens that have this tree, places aside
abbrev pub IsWritableWithin : ℕ → File → Type 0
IsWritableWithin depth f = (text : List ℕ) × (tokens : List Token) × Tokenizes text tokens × HasTreeAsideWithin depth text tokens f

abbrev pub IsWritable : File → Type 0
IsWritable f = (depth : ℕ) × IsWritableWithin depth f

-- a file can go on with these
abbrev pub IsViable : List Lexeme → Type 0
IsViable lexemes = (more : List Lexeme) × (f : File) × (depth : ℕ) × file_within SamePlace depth f (lexemes ++ more) []
