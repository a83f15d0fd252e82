-- A tree of some tokens is their tree also places aside, so it is writable.
use Rattle.std.proofs.Common.{ℕ, zero, suc, inl, inr, List, [], ◌∷◌, map, Option, Some, None, ap}
use Rattle.redn_syntax.specs.declared.token.Token.{Token}
use Rattle.redn_syntax.specs.declared.token.TokenKind.{TokenKind}
use Rattle.redn_syntax.specs.declared.token.TokenKind.TheVariants as k
use Rattle.redn_syntax.specs.declared.tree.Name.{Name}
use Rattle.redn_syntax.specs.declared.tree.Num.{Num}
use Rattle.redn_syntax.specs.declared.tree.Operand.{Operand}
use Rattle.redn_syntax.specs.declared.tree.Operand.TheVariants as operand
use Rattle.redn_syntax.specs.declared.tree.Item.{Item}
use Rattle.redn_syntax.specs.declared.tree.Table.{Table}
use Rattle.redn_syntax.specs.declared.tree.VarDecl.{VarDecl}
use Rattle.redn_syntax.specs.declared.tree.Chain.{Chain}
use Rattle.redn_syntax.specs.declared.tree.File.{File}
use Rattle.redn_syntax.specs.declared.tree.Stmt.{Stmt}
use Rattle.redn_syntax.specs.declared.tree.StmtKind.{StmtKind, out-StmtKind}
use Rattle.redn_syntax.specs.declared.tree.StmtKind.TheOpen.{StmtKind-F}
use Rattle.redn_syntax.specs.Tokens.{Tokenizes}
use Rattle.redn_syntax.specs.Lexemes.{Lexeme, unplaced, lexemes_of}
use Rattle.redn_syntax.specs.Grammar as g
use Rattle.redn_syntax.specs.Grammar.{Phrase, ◌>>◌, SamePlace, AnyPlace, HasTreeWithin, HasTree, IsWritableWithin, IsWritable}

-- what the one phrase reads the other reads places aside
record Aside (p q : Phrase) : Type 0 where
  reads : (before after : List Lexeme) → p before after → q (map unplaced before) (map unplaced after)

infixr 10 ◌then◌
◌then◌ : {p q p' q' : Phrase} → Aside p p' → Aside q q' → Aside (p >> q) (p' >> q')
a then b = record { reads = λ before after d. (map unplaced d.0, a.reads before d.0 d.1, b.reads d.0 after d.2) }

marked : (kind : TokenKind) → Aside (g.mark kind) (g.mark kind)
marked kind = record { reads = λ before after d. (0, ap (map unplaced) d.1) }

marked_at : (kind : TokenKind) (place : ℕ) → Aside (g.mark_at SamePlace kind place) (g.mark_at AnyPlace kind place)
marked_at kind place = record { reads = λ before after d. (0, tt, ap (map unplaced) d.2) }

begun : (place : ℕ) → Aside (g.begins_at SamePlace place) (g.begins_at AnyPlace place)
begun place = record { reads = λ before after d. (unplaced d.0, map unplaced d.1, ap (map unplaced) d.2, tt, ap (map unplaced) d.4) }

named : (n : Name) → Aside (g.name SamePlace n) (g.name AnyPlace n)
named n = record { reads = λ before after d. (0, tt, ap (map unplaced) d.2) }

numbered : (n : Num) → Aside (g.number SamePlace n) (g.number AnyPlace n)
numbered n = record { reads = λ before after d. (0, tt, ap (map unplaced) d.2) }

valued : (o : Operand) → Aside (g.value SamePlace o) (g.value AnyPlace o)
valued (operand.Name n) = named n
valued (operand.Num n) = numbered n

nothing : Aside g.nothing g.nothing
nothing = record { reads = λ before after e. ap (map unplaced) e }

never : Aside g.never g.never
never = record { reads = λ before after e. e }

each : {X : Type 0} (p q : X → Phrase) → ((x : X) → Aside (p x) (q x)) → (xs : List X) → Aside (g.each p xs) (g.each q xs)
each p q h [] = nothing
each p q h (x ∷ xs) = h x then each p q h xs

some : {X : Type 0} (p q : X → Phrase) → ((x : X) → Aside (p x) (q x)) → (xs : List X) → Aside (g.some p xs) (g.some q xs)
some p q h [] = never
some p q h (x ∷ xs) = h x then each p q h xs

listed : {X : Type 0} (p q : X → Phrase) → ((x : X) → Aside (p x) (q x)) → (xs : List X) → Aside (g.listed p xs) (g.listed q xs)
listed p q h [] = never
listed p q h (x ∷ xs) = h x then each (λ y. g.mark k.Comma >> p y) (λ y. g.mark k.Comma >> q y) (λ y. marked k.Comma then h y) xs

item_offset : (o : Option Num) → Aside (g.item_offset SamePlace o) (g.item_offset AnyPlace o)
item_offset None = nothing
item_offset (Some n) = numbered n then marked k.Colon

item : (i : Item) → Aside (g.item SamePlace i) (g.item AnyPlace i)
item i = item_offset i.at then numbered i.word

contents : (items : List Item) → Aside (g.contents SamePlace items) (g.contents AnyPlace items)
contents [] = nothing
contents (i ∷ items) = marked k.Equals then (marked k.OpenBrace then (listed (g.item SamePlace) (g.item AnyPlace) item (i ∷ items) then marked k.CloseBrace))

table : (t : Table) → Aside (g.table SamePlace t) (g.table AnyPlace t)
table t =
    marked k.Table then (named t.name then (marked k.OpenBracket then (numbered t.length then (marked k.CloseBracket
    then (marked (g.access_mark t.writable) then (contents t.items then marked k.Semicolon))))))

argument : (n : Name) → Aside (g.argument SamePlace n) (g.argument AnyPlace n)
argument n = marked k.Arg then (named n then marked k.Semicolon)

first_value : (o : Option Num) → Aside (g.first_value SamePlace o) (g.first_value AnyPlace o)
first_value None = nothing
first_value (Some n) = marked k.Equals then numbered n

variable : (v : VarDecl) → Aside (g.variable SamePlace v) (g.variable AnyPlace v)
variable v = marked k.Var then (named v.name then (first_value v.first then marked k.Semicolon))

slot : (t : Name) (offset : Operand) → Aside (g.slot SamePlace t offset) (g.slot AnyPlace t offset)
slot t offset = named t then (marked k.OpenBracket then (valued offset then marked k.CloseBracket))

source : (kind : TokenKind) (bound : TokenKind) (to t : Name) (offset key : Operand) (n : Num) →
    Aside (g.mark kind >> (g.name SamePlace to >> (g.mark k.Equals >> (g.slot SamePlace t offset >> (g.mark k.Key >> (g.value SamePlace key >> (g.mark bound >> (g.number SamePlace n >> g.mark k.Semicolon))))))))
    (g.mark kind >> (g.name AnyPlace to >> (g.mark k.Equals >> (g.slot AnyPlace t offset >> (g.mark k.Key >> (g.value AnyPlace key >> (g.mark bound >> (g.number AnyPlace n >> g.mark k.Semicolon))))))))
source kind bound to t offset key n =
    marked kind then (named to then (marked k.Equals then (slot t offset then (marked k.Key then (valued key then (marked bound then (numbered n then marked k.Semicolon)))))))

module _ (p q : List Stmt → Phrase) (blocks : (body : List Stmt) → Aside (p body) (q body)) where
  otherwise : (body : List Stmt) → Aside (g.otherwise SamePlace p body) (g.otherwise AnyPlace q body)
  otherwise [] = record {
    reads = λ before after d. elim d [
      | inl e ↦ inl (ap (map unplaced) e)
      | inr e ↦ inr ((marked k.Else then blocks []).reads before after e)
    ];
  }
  otherwise (s ∷ body) = marked k.Else then blocks (s ∷ body)

  form : (layer : StmtKind-F StmtKind Stmt) → Aside (g.form SamePlace p layer) (g.form AnyPlace q layer)
  unfolding g.form
  form (StmtKind-F.Move to from) = named to then (marked k.Equals then (valued from then marked k.Semicolon))
  form (StmtKind-F.Add to by) = named to then (marked k.PlusEquals then (valued by then marked k.Semicolon))
  form (StmtKind-F.Load to t offset) = named to then (marked k.Equals then (slot t offset then marked k.Semicolon))
  form (StmtKind-F.Store t offset from) = slot t offset then (marked k.Equals then (valued from then marked k.Semicolon))
  form (StmtKind-F.If wide left right then_do else_do) =
      marked k.If then (valued left then (marked (g.test_mark wide) then (valued right then (blocks then_do then otherwise else_do))))
  form (StmtKind-F.Loop body) = marked k.Loop then blocks body
  form (StmtKind-F.Repeat count body) = marked k.Repeat then (numbered count then blocks body)
  form StmtKind-F.Break = marked k.Break then marked k.Semicolon
  form (StmtKind-F.Lookup to t offset key probes) = source k.Lookup k.Probes to t offset key probes
  form (StmtKind-F.Walk to t offset key nodes) = source k.Walk k.Nodes to t offset key nodes
  form (StmtKind-F.Reply words) = marked k.Reply then (listed (g.value SamePlace) (g.value AnyPlace) valued words then marked k.Semicolon)

  statement : (s : Stmt) → Aside (g.statement SamePlace p s) (g.statement AnyPlace q s)
  statement s = begun s.at then form (out-StmtKind s.kind)

block_within : (depth : ℕ) (body : List Stmt) → Aside (g.block_within SamePlace depth body) (g.block_within AnyPlace depth body)
block_within zero body = never
block_within (suc depth) body =
    marked k.OpenBrace then (each _ _ (statement _ _ (block_within depth)) body then marked k.CloseBrace)

opening : (o : Option Num) → Aside (g.opening SamePlace o) (g.opening AnyPlace o)
opening None = marked k.OpenBrace
opening (Some n) = marked k.Serve then (numbered n then marked k.OpenBrace)

chain_within : (depth : ℕ) (c : Chain) → Aside (g.chain_within SamePlace depth c) (g.chain_within AnyPlace depth c)
chain_within depth c =
    marked k.Chain then (named c.name then (opening c.serve then (each _ _ argument c.args then (each _ _ variable c.vars
    then (each _ _ (statement _ _ (block_within depth)) c.body then marked_at k.CloseBrace c.close)))))

file_within : (depth : ℕ) (f : File) → Aside (g.file_within SamePlace depth f) (g.file_within AnyPlace depth f)
file_within depth f = each _ _ table f.tables then some _ _ (chain_within depth) f.chains

pub writable_within : (depth : ℕ) (text : List ℕ) (tokens : List Token) (f : File) → Tokenizes text tokens → HasTreeWithin depth text tokens f → IsWritableWithin depth f
writable_within depth text tokens f tokenized tree = (text, tokens, tokenized, (file_within depth f).reads (lexemes_of text tokens) [] tree)

pub writable : (text : List ℕ) (tokens : List Token) (f : File) → Tokenizes text tokens → HasTree text tokens f → IsWritable f
writable text tokens f tokenized (depth, tree) = (depth, writable_within depth text tokens f tokenized tree)
