-- Phrases that are read the same whatever comes behind them.
use Rattle.std.proofs.Common.{◌≡◌, ℕ, zero, suc, inl, inr, List, [], ◌∷◌, ◌++◌, Option, Some, None, append_assoc, sym, refl, ap, ◌∙◌, subst}
use Rattle.redn_syntax.specs.declared.token.TokenKind.{TokenKind}
use Rattle.redn_syntax.specs.declared.token.TokenKind.TheVariants as k
use Rattle.redn_syntax.specs.declared.tree.Name.{Name}
use Rattle.redn_syntax.specs.declared.tree.Num.{Num}
use Rattle.redn_syntax.specs.declared.tree.Operand.{Operand}
use Rattle.redn_syntax.specs.declared.tree.Operand.TheVariants as operand
use Rattle.redn_syntax.specs.declared.tree.Item.{Item}
use Rattle.redn_syntax.specs.declared.tree.Table.{Table}
use Rattle.redn_syntax.specs.declared.tree.VarDecl.{VarDecl}
use Rattle.redn_syntax.specs.declared.tree.Chain.{Chain}
use Rattle.redn_syntax.specs.declared.tree.Stmt.{Stmt}
use Rattle.redn_syntax.specs.declared.tree.StmtKind.{out-StmtKind}
use Rattle.redn_syntax.specs.declared.tree.StmtKind.TheOpen.{StmtKind-F}
use Rattle.redn_syntax.specs.Lexemes.{Lexeme, Fixed, Named, Numbered, place_of}
use Rattle.redn_syntax.specs.Grammar as g
use Rattle.redn_syntax.specs.Grammar.{Phrase, ◌>>◌, SamePlace}
use Rattle.redn_parse.proofs.Trees.{Layer, form_starts}

-- these lexemes are the phrase, and so before anything
pub record Front (p : Phrase) (b a : List Lexeme) : Type 0 where
  pub front : List Lexeme
  pub split : b ≡ front ++ a
  pub always : (other : List Lexeme) → p (front ++ other) other

pub record Free (p : Phrase) : Type 0 where
  pub fronts : (b a : List Lexeme) → p b a → Front p b a

joined : {p q : Phrase} {b m a : List Lexeme} → Front p b m → Front q m a → Front (p >> q) b a
joined {p} {q} {b} {m} {a} f f' = record {
  front = f.front ++ f'.front;
  split = f.split ∙ ap (λ l. f.front ++ l) f'.split ∙ sym (append_assoc f.front f'.front a);
  always = λ other. subst (λ l. (p >> q) l other) (sym (append_assoc f.front f'.front other)) (f'.front ++ other, f.always (f'.front ++ other), f'.always other);
}

one : {p : Phrase} {b a : List Lexeme} (x : Lexeme) → b ≡ x ∷ a → ((other : List Lexeme) → p (x ∷ other) other) → Front p b a
one x e f = record { front = x ∷ []; split = e; always = f }

infixr 10 ◌plus◌
pub ◌plus◌ : {p q : Phrase} → Free p → Free q → Free (p >> q)
x plus y = record { fronts = λ b a h. joined (x.fronts b h.0 h.1) (y.fronts h.0 a h.2) }

pub nothing : Free g.nothing
nothing = record { fronts = λ b a e. record { front = []; split = e; always = λ other. refl } }

pub never : Free g.never
never = record { fronts = λ b a h. absurd h }

pub marked : (kind : TokenKind) → Free (g.mark kind)
marked kind = record { fronts = λ b a d. one (Fixed kind d.0) d.1 (λ other. (d.0, refl)) }

pub named : (n : Name) → Free (g.name SamePlace n)
named n = record { fronts = λ b a d. one (Named n.text d.0) d.2 (λ other. (d.0, d.1, refl)) }

pub numbered : (n : Num) → Free (g.number SamePlace n)
numbered n = record { fronts = λ b a d. one (Numbered n.value d.0) d.2 (λ other. (d.0, d.1, refl)) }

pub valued : (o : Operand) → Free (g.value SamePlace o)
valued (operand.Name n) = named n
valued (operand.Num n) = numbered n

pub closed_at : (place : ℕ) → Free (g.mark_at SamePlace k.CloseBrace place)
closed_at place = record { fronts = λ b a d. one (Fixed k.CloseBrace d.0) d.2 (λ other. (d.0, d.1, refl)) }

-- ---- lists

pub each : {X : Type 0} (p : X → Phrase) → ((x : X) → Free (p x)) → (xs : List X) → Free (g.each p xs)
each p h [] = nothing
each p h (x ∷ xs) = h x plus each p h xs

pub some : {X : Type 0} (p : X → Phrase) → ((x : X) → Free (p x)) → (xs : List X) → Free (g.some p xs)
some p h [] = never
some p h (x ∷ xs) = h x plus each p h xs

pub listed : {X : Type 0} (p : X → Phrase) → ((x : X) → Free (p x)) → (xs : List X) → Free (g.listed p xs)
listed p h [] = never
listed p h (x ∷ xs) = h x plus each (λ y. g.mark k.Comma >> p y) (λ y. marked k.Comma plus h y) xs

-- with a comma behind each
pub commas : {X : Type 0} (p : X → Phrase) → ((x : X) → Free (p x)) → (xs : List X) → Free (g.each (λ x. p x >> g.mark k.Comma) xs)
commas p h xs = each (λ x. p x >> g.mark k.Comma) (λ x. h x plus marked k.Comma) xs

-- ---- tables

item_offset : (o : Option Num) → Free (g.item_offset SamePlace o)
item_offset None = nothing
item_offset (Some x) = numbered x plus marked k.Colon

pub item : (i : Item) → Free (g.item SamePlace i)
item i = item_offset i.at plus numbered i.word

contents : (items : List Item) → Free (g.contents SamePlace items)
contents [] = nothing
contents (i ∷ items) = marked k.Equals plus (marked k.OpenBrace plus (listed (g.item SamePlace) item (i ∷ items) plus marked k.CloseBrace))

pub table : (t : Table) → Free (g.table SamePlace t)
table t =
    marked k.Table plus (named t.name plus (marked k.OpenBracket plus (numbered t.length plus (marked k.CloseBracket
    plus (marked (g.access_mark t.writable) plus (contents t.items plus marked k.Semicolon))))))

-- ---- statements

pub argument : (x : Name) → Free (g.argument SamePlace x)
argument x = marked k.Arg plus (named x plus marked k.Semicolon)

first_value : (o : Option Num) → Free (g.first_value SamePlace o)
first_value None = nothing
first_value (Some x) = marked k.Equals plus numbered x

pub variable : (v : VarDecl) → Free (g.variable SamePlace v)
variable v = marked k.Var plus (named v.name plus (first_value v.first plus marked k.Semicolon))

pub slot : (t : Name) (o : Operand) → Free (g.slot SamePlace t o)
slot t o = named t plus (marked k.OpenBracket plus (valued o plus marked k.CloseBracket))

module _ (block : List Stmt → Phrase) (blocks : (xs : List Stmt) → Free (block xs)) where
  otherwise_front : (b a : List Lexeme) → g.otherwise SamePlace block [] b a → Front (g.otherwise SamePlace block []) b a
  otherwise_front b a (inl e) = record { front = []; split = e; always = λ other. inl refl }
  otherwise_front b a (inr h) = let f = (marked k.Else plus blocks []).fronts b a h in record { front = f.front; split = f.split; always = λ other. inr (f.always other) }

  pub otherwise : (xs : List Stmt) → Free (g.otherwise SamePlace block xs)
  otherwise [] = record { fronts = otherwise_front }
  otherwise (x ∷ xs) = marked k.Else plus blocks (x ∷ xs)

  pub form : (layer : Layer) → Free (g.form SamePlace block layer)
  unfolding g.form
  form (StmtKind-F.Move to from) = named to plus (marked k.Equals plus (valued from plus marked k.Semicolon))
  form (StmtKind-F.Add to by) = named to plus (marked k.PlusEquals plus (valued by plus marked k.Semicolon))
  form (StmtKind-F.Load to t offset) = named to plus (marked k.Equals plus (slot t offset plus marked k.Semicolon))
  form (StmtKind-F.Store t offset from) = slot t offset plus (marked k.Equals plus (valued from plus marked k.Semicolon))
  form (StmtKind-F.If wide left right then_do else_do) =
      marked k.If plus (valued left plus (marked (g.test_mark wide) plus (valued right plus (blocks then_do plus otherwise else_do))))
  form (StmtKind-F.Loop body) = marked k.Loop plus blocks body
  form (StmtKind-F.Repeat count body) = marked k.Repeat plus (numbered count plus blocks body)
  form StmtKind-F.Break = marked k.Break plus marked k.Semicolon
  form (StmtKind-F.Lookup to t offset key probes) =
      marked k.Lookup plus (named to plus (marked k.Equals plus (slot t offset plus (marked k.Key plus (valued key
      plus (marked k.Probes plus (numbered probes plus marked k.Semicolon)))))))
  form (StmtKind-F.Walk to t offset key nodes) =
      marked k.Walk plus (named to plus (marked k.Equals plus (slot t offset plus (marked k.Key plus (valued key
      plus (marked k.Nodes plus (numbered nodes plus marked k.Semicolon)))))))
  form (StmtKind-F.Reply ws) = marked k.Reply plus (listed (g.value SamePlace) valued ws plus marked k.Semicolon)

  -- a statement has a first lexeme
  first_placed : (s : Stmt) (b a m front : List Lexeme) → g.begins_at SamePlace s.at b m → m ≡ front ++ a →
      ((other : List Lexeme) → g.form SamePlace block (out-StmtKind s.kind) (front ++ other) other) → Front (g.statement SamePlace block s) b a
  first_placed s b a m [] d e again = let wrong = form_starts block (out-StmtKind s.kind) [] [] (again []) in cc
  first_placed s b a m (x ∷ front) d e again =
      let same : d.0 ≡ x = cc (d.2, d.4, e) in
      record { front = x ∷ front; split = d.4 ∙ e; always = λ other. (x ∷ (front ++ other), (x, front ++ other, refl, d.3 ∙ ap place_of same, refl), again other) }

  pub statement : (s : Stmt) → Free (g.statement SamePlace block s)
  statement s = record {
    fronts = λ b a h. let f = (form (out-StmtKind s.kind)).fronts h.0 a h.2 in first_placed s b a h.0 f.front h.1 f.split f.always;
  }

-- a block in which so many blocks may still be nested
pub block : (d : ℕ) (xs : List Stmt) → Free (g.block_within SamePlace d xs)
block zero xs = never
block (suc d) xs =
    marked k.OpenBrace plus (each (g.statement SamePlace (g.block_within SamePlace d)) (statement (g.block_within SamePlace d) (block d)) xs plus marked k.CloseBrace)

pub statements : (d : ℕ) (xs : List Stmt) → Free (g.each (g.statement SamePlace (g.block_within SamePlace d)) xs)
statements d xs = each (g.statement SamePlace (g.block_within SamePlace d)) (statement (g.block_within SamePlace d) (block d)) xs

pub opening : (o : Option Num) → Free (g.opening SamePlace o)
opening None = marked k.OpenBrace
opening (Some x) = marked k.Serve plus (numbered x plus marked k.OpenBrace)

pub chain : (d : ℕ) (c : Chain) → Free (g.chain_within SamePlace d c)
chain d c =
    marked k.Chain plus (named c.name plus (opening c.serve plus (each (g.argument SamePlace) argument c.args plus (each (g.variable SamePlace) variable c.vars
    plus (statements d c.body plus closed_at c.close)))))

-- ---- one block deeper

module _ (block block' : List Stmt → Phrase) (more : (xs : List Stmt) (b a : List Lexeme) → block xs b a → block' xs b a) where
  otherwise_more : (xs : List Stmt) (b a : List Lexeme) → g.otherwise SamePlace block xs b a → g.otherwise SamePlace block' xs b a
  otherwise_more [] b a (inl e) = inl e
  otherwise_more [] b a (inr h) = inr (h.0, h.1, more [] h.0 a h.2)
  otherwise_more (x ∷ xs) b a h = (h.0, h.1, more (x ∷ xs) h.0 a h.2)

  form_more : (layer : Layer) (b a : List Lexeme) → g.form SamePlace block layer b a → g.form SamePlace block' layer b a
  unfolding g.form
  form_more (StmtKind-F.If wide left right then_do else_do) b a (m0, h0, (m1, h1, (m2, h2, (m3, h3, (n, body, rest))))) =
      (m0, h0, (m1, h1, (m2, h2, (m3, h3, (n, more then_do m3 n body, otherwise_more else_do n a rest)))))
  form_more (StmtKind-F.Loop body) b a h = (h.0, h.1, more body h.0 a h.2)
  form_more (StmtKind-F.Repeat count body) b a h = (h.0, h.1, (h.2.0, h.2.1, more body h.2.0 a h.2.2))
  form_more (StmtKind-F.Move to from) b a h = h
  form_more (StmtKind-F.Add to by) b a h = h
  form_more (StmtKind-F.Load to t offset) b a h = h
  form_more (StmtKind-F.Store t offset from) b a h = h
  form_more StmtKind-F.Break b a h = h
  form_more (StmtKind-F.Lookup to t offset key probes) b a h = h
  form_more (StmtKind-F.Walk to t offset key nodes) b a h = h
  form_more (StmtKind-F.Reply ws) b a h = h

  statements_more : (xs : List Stmt) (b a : List Lexeme) → g.each (g.statement SamePlace block) xs b a → g.each (g.statement SamePlace block') xs b a
  statements_more [] b a h = h
  statements_more (x ∷ xs) b a (m, h, hs) = (m, (h.0, h.1, form_more (out-StmtKind x.kind) h.0 m h.2), statements_more xs m a hs)

pub block_more : (d : ℕ) (xs : List Stmt) (b a : List Lexeme) → g.block_within SamePlace d xs b a → g.block_within SamePlace (suc d) xs b a
block_more zero xs b a h = absurd h
block_more (suc d) xs b a (m, h, (n, hs, close)) =
    (m, h, (n, statements_more (g.block_within SamePlace d) (g.block_within SamePlace (suc d)) (block_more d) xs m n hs, close))

pub body_more : (d : ℕ) (xs : List Stmt) (b a : List Lexeme) → g.each (g.statement SamePlace (g.block_within SamePlace d)) xs b a → g.each (g.statement SamePlace (g.block_within SamePlace (suc d))) xs b a
body_more d = statements_more (g.block_within SamePlace d) (g.block_within SamePlace (suc d)) (block_more d)

chain_more : (d : ℕ) (c : Chain) (b a : List Lexeme) → g.chain_within SamePlace d c b a → g.chain_within SamePlace (suc d) c b a
chain_more d c b a (m0, h0, (m1, h1, (m2, h2, (m3, h3, (m4, h4, (m5, h5, h6)))))) =
    (m0, h0, (m1, h1, (m2, h2, (m3, h3, (m4, h4, (m5, body_more d c.body m4 m5 h5, h6))))))

pub chains_more : (d : ℕ) (cs : List Chain) (b a : List Lexeme) → g.each (g.chain_within SamePlace d) cs b a → g.each (g.chain_within SamePlace (suc d)) cs b a
chains_more d [] b a h = h
chains_more d (c ∷ cs) b a (m, h, hs) = (m, chain_more d c b m h, chains_more d cs m a hs)
