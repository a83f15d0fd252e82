-- The canonical lexemes of a tree read as that tree, places aside.
use Rattle.std.proofs.Common.{◌≡◌, ◌^◌, ◌<◌, ℕ, zero, suc, inl, inr, Bool, true, false, List, [], ◌∷◌, ◌++◌, map, Option, Some, None, sym, refl, ap, subst, append_assoc}
use Rattle.std.proofs.lemmas.List.{append-nil}
use Rattle.std.specs.List.{flat_map, AllByRecursion}
use Rattle.redn_syntax.specs.declared.token.TokenKind.{TokenKind}
use Rattle.redn_syntax.specs.declared.token.TokenKind.TheVariants as k
use Rattle.redn_syntax.specs.declared.tree.Name.{Name}
use Rattle.redn_syntax.specs.declared.tree.Num.{Num}
use Rattle.redn_syntax.specs.declared.tree.Operand.{Operand}
use Rattle.redn_syntax.specs.declared.tree.Operand.TheVariants as operand
use Rattle.redn_syntax.specs.declared.tree.Item.{Item}
use Rattle.redn_syntax.specs.declared.tree.Table.{Table}
use Rattle.redn_syntax.specs.declared.tree.VarDecl.{VarDecl}
use Rattle.redn_syntax.specs.declared.tree.Chain.{Chain}
use Rattle.redn_syntax.specs.declared.tree.File.{File}
use Rattle.redn_syntax.specs.declared.tree.Stmt.{Stmt}
use Rattle.redn_syntax.specs.declared.tree.StmtKind.{StmtKind, out-StmtKind}
use Rattle.redn_syntax.specs.declared.tree.StmtKind.TheOpen.{StmtKind-F}
use Rattle.redn_syntax.specs.Tokens.{IsName}
use Rattle.redn_syntax.specs.Lexemes.{Lexeme, Fixed, Named, Numbered, place_of}
use Rattle.redn_syntax.specs.Grammar as g
use Rattle.redn_syntax.specs.Grammar.{Phrase, ◌>>◌, AnyPlace}
use Rattle.redn_syntax.specs.Canonical as c
use Rattle.redn_syntax.proofs.TokenFacts.{IsFixed}
use Rattle.redn_syntax.proofs.Lines.{lines, statement_out, body_of_is}

-- some token says this
abbrev pub Says : Lexeme → Type 0
Says (Fixed kind at) = IsFixed kind
Says (Named n at) = IsName n
Says (Numbered v at) = v < 2 ^ 64

abbrev pub AllSay : List Lexeme → Type 0
AllSay lexemes = AllByRecursion Says lexemes

-- some token says this, and it stands at place 0
abbrev pub IsPlain : Lexeme → Type 0
IsPlain lexeme = Says lexeme × (place_of lexeme ≡ 0)

abbrev pub AllPlain : List Lexeme → Type 0
AllPlain lexemes = AllByRecursion IsPlain lexemes

-- a phrase that was read as far as `after` is read again from these lexemes, whatever follows them
pub record Printed (p : Phrase) (canon after : List Lexeme) : Type 0 where
  pub rest : AllSay after
  pub plain : AllPlain canon
  pub again : (more : List Lexeme) → p (canon ++ more) more

-- it is so wherever the phrase is read from what some tokens say
pub record Prints (p : Phrase) (canon : List Lexeme) : Type 0 where
  pub reads : (before after : List Lexeme) → AllSay before → p before after → Printed p canon after

plain_append : (xs ys : List Lexeme) → AllPlain xs → AllPlain ys → AllPlain (xs ++ ys)
plain_append [] ys a b = b
plain_append (x ∷ xs) ys a b = (a.0, plain_append xs ys a.1 b)

joined : {p q : Phrase} {xs ys between after : List Lexeme} → Printed p xs between → Printed q ys after → Printed (p >> q) (xs ++ ys) after
joined {p} {q} {xs} {ys} {between} {after} a b = record {
  rest = b.rest;
  plain = plain_append xs ys a.plain b.plain;
  again = λ more. (ys ++ more, subst (λ l. p l (ys ++ more)) (sym (append_assoc xs ys more)) (a.again (ys ++ more)), b.again more);
}

infixr 10 ◌then◌
◌then◌ : {p q : Phrase} {xs ys : List Lexeme} → Prints p xs → Prints q ys → Prints (p >> q) (xs ++ ys)
a then b = record {
  reads = λ before after says d.
      let first = a.reads before d.0 says d.1 in
      joined first (b.reads d.0 after first.rest d.2);
}

regrouped : {p : Phrase} {xs ys : List Lexeme} → xs ≡ ys → Prints p xs → Prints p ys
regrouped {p} {xs} {ys} e a = subst (λ l. Prints p l) e a

marked : (kind : TokenKind) → IsFixed kind → Prints (g.mark kind) (c.mark kind)
marked kind fixed = record {
  reads = λ before after says d. record {
    rest = (subst AllSay d.1 says).1;
    plain = ((fixed, refl), tt);
    again = λ more. (0, refl);
  };
}

marked_at : (kind : TokenKind) (place : ℕ) → IsFixed kind → Prints (g.mark_at AnyPlace kind place) (c.mark kind)
marked_at kind place fixed = record {
  reads = λ before after says d. record {
    rest = (subst AllSay d.2 says).1;
    plain = ((fixed, refl), tt);
    again = λ more. (0, tt, refl);
  };
}

named : (n : Name) → Prints (g.name AnyPlace n) (c.name n)
named n = record {
  reads = λ before after says d. let said = subst AllSay d.2 says in record {
    rest = said.1;
    plain = ((said.0, refl), tt);
    again = λ more. (0, tt, refl);
  };
}

numbered : (n : Num) → Prints (g.number AnyPlace n) (c.number n)
numbered n = record {
  reads = λ before after says d. let said = subst AllSay d.2 says in record {
    rest = said.1;
    plain = ((said.0, refl), tt);
    again = λ more. (0, tt, refl);
  };
}

valued : (o : Operand) → Prints (g.value AnyPlace o) (c.value o)
valued (operand.Name n) = named n
valued (operand.Num n) = numbered n

nothing : Prints g.nothing []
nothing = record {
  reads = λ before after says e. record { rest = subst AllSay e says; plain = tt; again = λ more. refl };
}

never : {canon : List Lexeme} → Prints g.never canon
never = record { reads = λ before after says e. absurd e }

each : {X : Type 0} (phrase : X → Phrase) (canon : X → List Lexeme) → ((x : X) → Prints (phrase x) (canon x)) → (xs : List X) → Prints (g.each phrase xs) (flat_map canon xs)
each phrase canon h [] = nothing
each phrase canon h (x ∷ xs) = h x then each phrase canon h xs

listed : {X : Type 0} (phrase : X → Phrase) (canon : X → List Lexeme) → ((x : X) → Prints (phrase x) (canon x)) → (xs : List X) → Prints (g.listed phrase xs) (c.listed canon xs)
listed phrase canon h [] = never
listed phrase canon h (x ∷ xs) = h x then each (λ y. g.mark k.Comma >> phrase y) (λ y. c.mark k.Comma ++ canon y) (λ y. marked k.Comma tt then h y) xs

-- ---- tables, arguments and variables

item_offset : (o : Option Num) → Prints (g.item_offset AnyPlace o) (c.item_offset o)
item_offset None = nothing
item_offset (Some n) = numbered n then marked k.Colon tt

item : (i : Item) → Prints (g.item AnyPlace i) (c.item i)
item i = item_offset i.at then numbered i.word

contents : (items : List Item) → Prints (g.contents AnyPlace items) (c.contents items)
contents [] = nothing
contents (i ∷ items) =
    marked k.Equals tt then (marked k.OpenBrace tt then (listed (g.item AnyPlace) c.item item (i ∷ items) then marked k.CloseBrace tt))

accessed : (writable : Bool) → IsFixed (g.access_mark writable)
accessed true = tt
accessed false = tt

tested : (wide : Bool) → IsFixed (g.test_mark wide)
tested true = tt
tested false = tt

table : (t : Table) → Prints (g.table AnyPlace t) (c.table t)
table t =
    marked k.Table tt then (named t.name then (marked k.OpenBracket tt then (numbered t.length then (marked k.CloseBracket tt
    then (marked (g.access_mark t.writable) (accessed t.writable) then (contents t.items then marked k.Semicolon tt))))))

argument : (n : Name) → Prints (g.argument AnyPlace n) (c.argument n)
argument n = marked k.Arg tt then (named n then marked k.Semicolon tt)

first_value : (o : Option Num) → Prints (g.first_value AnyPlace o) (c.first_value o)
first_value None = nothing
first_value (Some n) = marked k.Equals tt then numbered n

variable : (v : VarDecl) → Prints (g.variable AnyPlace v) (c.variable v)
variable v = marked k.Var tt then (named v.name then (first_value v.first then marked k.Semicolon tt))

slot : (t : Name) (offset : Operand) → Prints (g.slot AnyPlace t offset) (c.slot t offset)
slot t offset = named t then (marked k.OpenBracket tt then (valued offset then marked k.CloseBracket tt))

-- ---- statements

grouped : (u v w x y z : List Lexeme) → u ++ (v ++ (w ++ (x ++ (y ++ z)))) ≡ u ++ v ++ w ++ x ++ y ++ z
grouped u v w x y z = simp append_assoc

Blocks : (List Stmt → Phrase) → Type 0
Blocks block = (body : List Stmt) → Prints (block body) (c.block (map c.statement body))

module _ (block : List Stmt → Phrase) (blocks : Blocks block) where
  otherwise : (body : List Stmt) → Prints (g.otherwise AnyPlace block body) (c.otherwise (map c.statement body))
  unfolding Blocks
  otherwise [] = record {
    reads = λ before after says d. elim d [
      | inl e ↦ record { rest = subst AllSay e says; plain = tt; again = λ more. inl refl }
      | inr e ↦
          let read = (marked k.Else tt then blocks []).reads before after says e in
          record { rest = read.rest; plain = tt; again = λ more. inl refl }
    ];
  }
  otherwise (s ∷ body) = marked k.Else tt then blocks (s ∷ body)

  form : (layer : StmtKind-F StmtKind Stmt) → Prints (g.form AnyPlace block layer) (c.form (lines layer))
  unfolding Blocks g.form c.form
  form (StmtKind-F.Move to from) = named to then (marked k.Equals tt then (valued from then marked k.Semicolon tt))
  form (StmtKind-F.Add to by) = named to then (marked k.PlusEquals tt then (valued by then marked k.Semicolon tt))
  form (StmtKind-F.Load to t offset) = named to then (marked k.Equals tt then (slot t offset then marked k.Semicolon tt))
  form (StmtKind-F.Store t offset from) =
      regrouped (simp append_assoc) (slot t offset then (marked k.Equals tt then (valued from then marked k.Semicolon tt)))
  form (StmtKind-F.If wide left right then_do else_do) =
      regrouped (grouped (c.mark k.If) (c.value left) (c.mark (g.test_mark wide)) (c.value right) (c.block (map c.statement then_do)) (c.otherwise (map c.statement else_do)))
      (marked k.If tt then (valued left then (marked (g.test_mark wide) (tested wide) then (valued right then (blocks then_do then otherwise else_do)))))
  form (StmtKind-F.Loop body) = marked k.Loop tt then blocks body
  form (StmtKind-F.Repeat count body) = marked k.Repeat tt then (numbered count then blocks body)
  form StmtKind-F.Break = marked k.Break tt then marked k.Semicolon tt
  form (StmtKind-F.Lookup to t offset key probes) =
      regrouped (simp append_assoc)
      (marked k.Lookup tt then (named to then (marked k.Equals tt then (slot t offset then (marked k.Key tt then (valued key then (marked k.Probes tt then (numbered probes then marked k.Semicolon tt))))))))
  form (StmtKind-F.Walk to t offset key nodes) =
      regrouped (simp append_assoc)
      (marked k.Walk tt then (named to then (marked k.Equals tt then (slot t offset then (marked k.Key tt then (valued key then (marked k.Nodes tt then (numbered nodes then marked k.Semicolon tt))))))))
  form (StmtKind-F.Reply words) = marked k.Reply tt then (listed (g.value AnyPlace) c.value valued words then marked k.Semicolon tt)

-- a statement has a first lexeme
Begins : List Lexeme → Type 0
Begins lexemes = (x : Lexeme) × (xs : List Lexeme) × (lexemes ≡ x ∷ xs)

begins : (layer : c.Layer) → Begins (c.form layer)
unfolding Begins c.form
begins (StmtKind-F.Move to from) = (_, _, refl)
begins (StmtKind-F.Add to by) = (_, _, refl)
begins (StmtKind-F.Load to t offset) = (_, _, refl)
begins (StmtKind-F.Store t offset from) = (_, _, refl)
begins (StmtKind-F.If wide left right then_do else_do) = (_, _, refl)
begins (StmtKind-F.Loop body) = (_, _, refl)
begins (StmtKind-F.Repeat count body) = (_, _, refl)
begins StmtKind-F.Break = (_, _, refl)
begins (StmtKind-F.Lookup to t offset key probes) = (_, _, refl)
begins (StmtKind-F.Walk to t offset key nodes) = (_, _, refl)
begins (StmtKind-F.Reply words) = (_, _, refl)

begun : (place : ℕ) (p : Phrase) (xs : List Lexeme) → Begins xs → Prints p xs → Prints (g.begins_at AnyPlace place >> p) xs
unfolding Begins
begun place p xs begin a = record {
  reads = λ before after says d.
      let same = d.1.4 in
      let read = a.reads d.0 after (subst AllSay same says) d.2 in
      record {
        rest = read.rest;
        plain = read.plain;
        again = λ more. (xs ++ more, (begin.0, begin.1 ++ more, ap (λ l. l ++ more) begin.2, tt, refl), read.again more);
      };
}

statement : (block : List Stmt → Phrase) → Blocks block → (s : Stmt) → Prints (g.statement AnyPlace block s) (c.statement s)
statement block blocks s =
    let layer = out-StmtKind s.kind in
    regrouped (sym (statement_out s)) (begun s.at _ _ (begins (lines layer)) (form block blocks layer))

block_within : (depth : ℕ) → Blocks (g.block_within AnyPlace depth)
unfolding Blocks
block_within zero body = never
block_within (suc depth) body =
    regrouped (ap (λ l. c.mark k.OpenBrace ++ l ++ c.mark k.CloseBrace) (sym (body_of_is body)))
    (marked k.OpenBrace tt then (each _ c.statement (statement _ (block_within depth)) body then marked k.CloseBrace tt))

opening : (o : Option Num) → Prints (g.opening AnyPlace o) (c.opening o)
opening None = marked k.OpenBrace tt
opening (Some n) = regrouped (simp append_assoc) (marked k.Serve tt then (numbered n then marked k.OpenBrace tt))

chain_within : (depth : ℕ) (x : Chain) → Prints (g.chain_within AnyPlace depth x) (c.chain x)
chain_within depth x =
    regrouped (simp append_assoc)
    (marked k.Chain tt then (named x.name then (opening x.serve then (each _ c.argument argument x.args then (each _ c.variable variable x.vars
    then (each _ c.statement (statement _ (block_within depth)) x.body then marked_at k.CloseBrace x.close tt))))))

some : (depth : ℕ) (xs : List Chain) → Prints (g.some (g.chain_within AnyPlace depth) xs) (flat_map c.chain xs)
some depth [] = never
some depth (x ∷ xs) = chain_within depth x then each _ c.chain (chain_within depth) xs

file_within : (depth : ℕ) (f : File) → Prints (g.file_within AnyPlace depth f) (c.file f)
file_within depth f = each _ c.table table f.tables then some depth f.chains

-- what some tokens say is read again from the canonical lexemes
pub file_again : (depth : ℕ) (f : File) (lexemes : List Lexeme) → AllSay lexemes → g.file_within AnyPlace depth f lexemes [] → AllPlain (c.file f) × g.file_within AnyPlace depth f (c.file f) []
file_again depth f lexemes says d =
    let read = (file_within depth f).reads lexemes [] says d in
    (read.plain, subst (λ l. g.file_within AnyPlace depth f l []) (append-nil (c.file f)) (read.again []))

begins_chains : (depth : ℕ) (chains : List Chain) (before after : List Lexeme) → g.some (g.chain_within AnyPlace depth) chains before after → Begins (flat_map c.chain chains)
unfolding Begins
begins_chains depth [] before after e = absurd e
begins_chains depth (x ∷ chains) before after e = (_, _, refl)

begins_behind : (xs ys : List Lexeme) → Begins ys → Begins (xs ++ ys)
unfolding Begins
begins_behind [] ys e = e
begins_behind (x ∷ xs) ys e = (x, xs ++ ys, refl)

-- a file that has tokens has a chain, and so a first lexeme
pub file_begins : (depth : ℕ) (f : File) (lexemes : List Lexeme) → g.file_within AnyPlace depth f lexemes [] → (x : Lexeme) × (xs : List Lexeme) × (c.file f ≡ x ∷ xs)
unfolding Begins
file_begins depth f lexemes d = begins_behind (flat_map c.table f.tables) (flat_map c.chain f.chains) (begins_chains depth f.chains d.0 [] d.2)
