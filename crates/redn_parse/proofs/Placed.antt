-- Tokens that have a tree places aside have that tree, with their places.
use Rattle.std.proofs.Common.{◌≡◌, ℕ, zero, suc, inl, inr, Bool, List, [], ◌∷◌, Option, Some, None, map, sym, refl, ap, ◌∙◌, subst}
use Rattle.std.specs.Option.{option_map}
use Rattle.redn_syntax.specs.declared.token.TokenKind.{TokenKind}
use Rattle.redn_syntax.specs.declared.token.TokenKind.TheVariants as k
use Rattle.redn_syntax.specs.declared.tree.Name.{Name}
use Rattle.redn_syntax.specs.declared.tree.Num.{Num}
use Rattle.redn_syntax.specs.declared.tree.Operand.{Operand}
use Rattle.redn_syntax.specs.declared.tree.Operand.TheVariants as operand
use Rattle.redn_syntax.specs.declared.tree.Item.{Item}
use Rattle.redn_syntax.specs.declared.tree.Table.{Table}
use Rattle.redn_syntax.specs.declared.tree.VarDecl.{VarDecl}
use Rattle.redn_syntax.specs.declared.tree.Chain.{Chain}
use Rattle.redn_syntax.specs.declared.tree.File.{File}
use Rattle.redn_syntax.specs.declared.tree.Stmt.{Stmt, fold_out-Stmt}
use Rattle.redn_syntax.specs.declared.tree.StmtKind.{StmtKind, out-StmtKind, fold-StmtKind, fold_out-StmtKind, map-StmtKind}
use Rattle.redn_syntax.specs.declared.tree.StmtKind.TheVariants as s
use Rattle.redn_syntax.specs.declared.tree.StmtKind.TheOpen.{StmtKind-F}
use Rattle.redn_syntax.specs.Lexemes.{Lexeme, Fixed, Named, Numbered, unplaced, place_of}
use Rattle.redn_syntax.specs.Grammar as g
use Rattle.redn_syntax.specs.Grammar.{Phrase, ◌>>◌, SamePlace, AnyPlace}
use Rattle.redn_parse.specs.Places as p

-- Where the one phrase is read places aside, the other is read of something that is the same places
-- aside.
record Placed {Y : Type 0} (aside : Phrase) (phrase : Y → Phrase) (E : Y → Type 0) : Type 0 where
  reads : (b r : List Lexeme) → aside (map unplaced b) r → (y : Y) × (a : List Lexeme) × phrase y b a × (map unplaced a ≡ r) × E y

infixr 10 ◌and◌
◌and◌ : {Y Z : Type 0} {p q : Phrase} {p' : Y → Phrase} {q' : Z → Phrase} {E : Y → Type 0} {F : Z → Type 0} → Placed p p' E → Placed q q' F → Placed (p >> q) (λ (w : Y × Z). p' w.0 >> q' w.1) (λ (w : Y × Z). E w.0 × F w.1)
◌and◌ {q = q} x y = record {
  reads = λ b r h.
      let first = x.reads b h.0 h.1 in
      let second = y.reads first.1 r (subst (λ l. q l r) (sym first.3) h.2) in
      ((first.0, second.0), second.1, (first.1, first.2, second.2), second.3, (first.4, second.4));
}

-- read as another thing
as_this : {Y Z : Type 0} {p : Phrase} {q : Y → Phrase} {E : Y → Type 0} (q' : Z → Phrase) (F : Z → Type 0) (f : Y → Z) → Placed p q E → ((y : Y) (b a : List Lexeme) → q y b a → q' (f y) b a) → ((y : Y) → E y → F (f y)) → Placed p q' F
as_this q' F f x conv e = record {
  reads = λ b r h. let o = x.reads b r h in (f o.0, o.1, conv o.0 b o.1 o.2, o.3, e o.0 o.4);
}

-- ---- marks, names and numbers

mark_there : (kind : TokenKind) (b r : List Lexeme) → g.mark kind (map unplaced b) r → (y : Unit {0}) × (a : List Lexeme) × g.mark kind b a × (map unplaced a ≡ r) × Unit {0}
mark_there kind [] r h = cc
mark_there kind (Fixed other at ∷ b) r h = let same : other ≡ kind = cc in (tt, b, (at, ap (λ x. Fixed x at ∷ b) same), cc, tt)
mark_there kind (Named name at ∷ b) r h = cc
mark_there kind (Numbered value at ∷ b) r h = cc

marked : (kind : TokenKind) → Placed (g.mark kind) (λ (y : Unit {0}). g.mark kind) (λ y. Unit {0})
marked kind = record { reads = mark_there kind }

closed_there : (place : ℕ) (b r : List Lexeme) → g.mark_at AnyPlace k.CloseBrace place (map unplaced b) r → (y : ℕ) × (a : List Lexeme) × g.mark_at SamePlace k.CloseBrace y b a × (map unplaced a ≡ r) × Unit {0}
closed_there place [] r h = cc
closed_there place (Fixed other at ∷ b) r h = let same : other ≡ k.CloseBrace = cc in (at, b, (at, refl, ap (λ x. Fixed x at ∷ b) same), cc, tt)
closed_there place (Named name at ∷ b) r h = cc
closed_there place (Numbered value at ∷ b) r h = cc

closed : (place : ℕ) → Placed (g.mark_at AnyPlace k.CloseBrace place) (g.mark_at SamePlace k.CloseBrace) (λ y. Unit {0})
closed place = record { reads = closed_there place }

named_there : (n : Name) (b r : List Lexeme) → g.name AnyPlace n (map unplaced b) r → (y : Name) × (a : List Lexeme) × g.name SamePlace y b a × (map unplaced a ≡ r) × (p.name y ≡ p.name n)
named_there n [] r h = cc
named_there n (Fixed other at ∷ b) r h = cc
named_there n (Named text at ∷ b) r h = let same : text ≡ n.text = cc in (record { text = text; at = at }, b, (at, refl, refl), cc, λ i. record { text = same i; at = 0 })
named_there n (Numbered value at ∷ b) r h = cc

named : (n : Name) → Placed (g.name AnyPlace n) (g.name SamePlace) (λ y. p.name y ≡ p.name n)
named n = record { reads = named_there n }

numbered_there : (n : Num) (b r : List Lexeme) → g.number AnyPlace n (map unplaced b) r → (y : Num) × (a : List Lexeme) × g.number SamePlace y b a × (map unplaced a ≡ r) × (p.number y ≡ p.number n)
numbered_there n [] r h = cc
numbered_there n (Fixed other at ∷ b) r h = cc
numbered_there n (Named text at ∷ b) r h = cc
numbered_there n (Numbered value at ∷ b) r h = let same : value ≡ n.value = cc in (record { value = value; at = at }, b, (at, refl, refl), cc, λ i. record { value = same i; at = 0 })

numbered : (n : Num) → Placed (g.number AnyPlace n) (g.number SamePlace) (λ y. p.number y ≡ p.number n)
numbered n = record { reads = numbered_there n }

valued : (o : Operand) → Placed (g.value AnyPlace o) (g.value SamePlace) (λ y. p.value y ≡ p.value o)
valued (operand.Name n) = as_this (g.value SamePlace) (λ y. p.value y ≡ operand.Name (p.name n)) (λ y. operand.Name y) (named n) (λ y b a h. h) (λ y e. ap (λ x. operand.Name x) e)
valued (operand.Num n) = as_this (g.value SamePlace) (λ y. p.value y ≡ operand.Num (p.number n)) (λ y. operand.Num y) (numbered n) (λ y b a h. h) (λ y e. ap (λ x. operand.Num x) e)

tested : (w : Bool) → Placed (g.mark (g.test_mark w)) (λ y. g.mark (g.test_mark y)) (λ y. y ≡ w)
tested w = as_this (λ y. g.mark (g.test_mark y)) (λ y. y ≡ w) (λ y. w) (marked (g.test_mark w)) (λ y b a h. h) (λ y e. refl)

accessed : (w : Bool) → Placed (g.mark (g.access_mark w)) (λ y. g.mark (g.access_mark y)) (λ y. y ≡ w)
accessed w = as_this (λ y. g.mark (g.access_mark y)) (λ y. y ≡ w) (λ y. w) (marked (g.access_mark w)) (λ y b a h. h) (λ y e. refl)

-- ---- lists

nothing : {Y : Type 0} (q : Y → Phrase) (y : Y) (E : Y → Type 0) → ((b : List Lexeme) → q y b b) → E y → Placed g.nothing q E
nothing q y E h e = record { reads = λ b r same. (y, b, h b, same, e) }

never : {Y : Type 0} (q : Y → Phrase) (E : Y → Type 0) → Placed g.never q E
never q E = record { reads = λ b r h. absurd h }

module _ {X : Type 0} (aside : X → Phrase) (phrase : X → Phrase) (zeroed : X → X) (one : (x : X) → Placed (aside x) phrase (λ y. zeroed y ≡ zeroed x)) where
  each : (xs : List X) → Placed (g.each aside xs) (g.each phrase) (λ ys. map zeroed ys ≡ map zeroed xs)
  each [] = nothing (g.each phrase) [] (λ ys. map zeroed ys ≡ []) (λ b. refl) refl
  each (x ∷ xs) = as_this (g.each phrase) (λ ys. map zeroed ys ≡ map zeroed (x ∷ xs)) (λ (w : X × List X). w.0 ∷ w.1) (one x and each xs) (λ y b a h. h) (λ y e i. e.0 i ∷ e.1 i)

  some : (xs : List X) → Placed (g.some aside xs) (g.some phrase) (λ ys. map zeroed ys ≡ map zeroed xs)
  some [] = never (g.some phrase) (λ ys. map zeroed ys ≡ [])
  some (x ∷ xs) = as_this (g.some phrase) (λ ys. map zeroed ys ≡ map zeroed (x ∷ xs)) (λ (w : X × List X). w.0 ∷ w.1) (one x and each xs) (λ y b a h. h) (λ y e i. e.0 i ∷ e.1 i)

listed : {X : Type 0} (aside phrase : X → Phrase) (zeroed : X → X) → ((x : X) → Placed (aside x) phrase (λ y. zeroed y ≡ zeroed x)) → (xs : List X) → Placed (g.listed aside xs) (g.listed phrase) (λ ys. map zeroed ys ≡ map zeroed xs)
listed aside phrase zeroed one [] = never (g.listed phrase) (λ ys. map zeroed ys ≡ [])
listed {X} aside phrase zeroed one (x ∷ xs) =
    as_this (g.listed phrase) (λ ys. map zeroed ys ≡ map zeroed (x ∷ xs)) (λ (w : X × List X). w.0 ∷ w.1)
    (one x and each (λ y. g.mark k.Comma >> aside y) (λ y. g.mark k.Comma >> phrase y) zeroed another xs) (λ y b a h. h) (λ y e i. e.0 i ∷ e.1 i)
  where
    another : (x : X) → Placed (g.mark k.Comma >> aside x) (λ y. g.mark k.Comma >> phrase y) (λ y. zeroed y ≡ zeroed x)
    another x = as_this (λ y. g.mark k.Comma >> phrase y) (λ y. zeroed y ≡ zeroed x) (λ (w : Unit {0} × X). w.1) (marked k.Comma and one x) (λ y b a h. h) (λ y e. e.1)

-- ---- tables

offset : (o : Option Num) → Placed (g.item_offset AnyPlace o) (g.item_offset SamePlace) (λ y. option_map p.number y ≡ option_map p.number o)
offset None = nothing (g.item_offset SamePlace) None (λ y. option_map p.number y ≡ None) (λ b. refl) refl
offset (Some n) =
    as_this (g.item_offset SamePlace) (λ y. option_map p.number y ≡ Some (p.number n)) (λ (w : Num × Unit {0}). Some w.0) (numbered n and marked k.Colon) (λ y b a h. h) (λ y e. ap (λ x. Some x) e.0)

item : (i : Item) → Placed (g.item AnyPlace i) (g.item SamePlace) (λ y. p.item y ≡ p.item i)
item i =
    as_this (g.item SamePlace) (λ y. p.item y ≡ p.item i) (λ (w : Option Num × Num). record { at = w.0; word = w.1 }) (offset i.at and numbered i.word) (λ y b a h. h)
    (λ y e i. record { at = e.0 i; word = e.1 i })

contents : (xs : List Item) → Placed (g.contents AnyPlace xs) (g.contents SamePlace) (λ ys. map p.item ys ≡ map p.item xs)
contents [] = nothing (g.contents SamePlace) [] (λ ys. map p.item ys ≡ []) (λ b. refl) refl
contents (x ∷ xs) =
    as_this (g.contents SamePlace) (λ ys. map p.item ys ≡ map p.item (x ∷ xs)) (λ (w : Unit {0} × Unit {0} × List Item × Unit {0}). w.2)
    braced written (λ y e. e.2)
  where
    braced : Placed (g.contents AnyPlace (x ∷ xs)) (λ (w : Unit {0} × Unit {0} × List Item × Unit {0}). g.mark k.Equals >> (g.mark k.OpenBrace >> (g.listed (g.item SamePlace) w.2 >> g.mark k.CloseBrace))) (λ w. Unit {0} × Unit {0} × (map p.item w.2 ≡ map p.item (x ∷ xs)) × Unit {0})
    braced =
        as_this (λ (w : Unit {0} × Unit {0} × List Item × Unit {0}). g.mark k.Equals >> (g.mark k.OpenBrace >> (g.listed (g.item SamePlace) w.2 >> g.mark k.CloseBrace))) (λ w. Unit {0} × Unit {0} × (map p.item w.2 ≡ map p.item (x ∷ xs)) × Unit {0})
        (λ (w : Unit {0} × (Unit {0} × (List Item × Unit {0}))). (w.0, w.1.0, w.1.1.0, w.1.1.1))
        (marked k.Equals and (marked k.OpenBrace and (listed (g.item AnyPlace) (g.item SamePlace) p.item item (x ∷ xs) and marked k.CloseBrace)))
        (λ y b a h. h) (λ y e. (tt, tt, e.1.1.0, tt))

    written : (w : Unit {0} × Unit {0} × List Item × Unit {0}) (b a : List Lexeme) → (g.mark k.Equals >> (g.mark k.OpenBrace >> (g.listed (g.item SamePlace) w.2 >> g.mark k.CloseBrace))) b a → g.contents SamePlace w.2 b a
    written (u, v, [], z) b a h = absurd h.2.2.1
    written (u, v, y ∷ ys, z) b a h = h

table : (t : Table) → Placed (g.table AnyPlace t) (g.table SamePlace) (λ y. p.table y ≡ p.table t)
table t =
    as_this (g.table SamePlace) (λ y. p.table y ≡ p.table t)
    (λ (w : Unit {0} × (Name × (Unit {0} × (Num × (Unit {0} × (Bool × (List Item × Unit {0}))))))). record { name = w.1.0; length = w.1.1.1.0; writable = w.1.1.1.1.1.0; items = w.1.1.1.1.1.1.0 })
    (marked k.Table and (named t.name and (marked k.OpenBracket and (numbered t.length and (marked k.CloseBracket and (accessed t.writable and (contents t.items and marked k.Semicolon)))))))
    (λ y b a h. h) (λ y e i. record { name = e.1.0 i; length = e.1.1.1.0 i; writable = e.1.1.1.1.1.0 i; items = e.1.1.1.1.1.1.0 i })

-- ---- chains up to their statements

argument : (n : Name) → Placed (g.argument AnyPlace n) (g.argument SamePlace) (λ y. p.name y ≡ p.name n)
argument n =
    as_this (g.argument SamePlace) (λ y. p.name y ≡ p.name n) (λ (w : Unit {0} × (Name × Unit {0})). w.1.0) (marked k.Arg and (named n and marked k.Semicolon)) (λ y b a h. h) (λ y e. e.1.0)

first_value : (o : Option Num) → Placed (g.first_value AnyPlace o) (g.first_value SamePlace) (λ y. option_map p.number y ≡ option_map p.number o)
first_value None = nothing (g.first_value SamePlace) None (λ y. option_map p.number y ≡ None) (λ b. refl) refl
first_value (Some n) =
    as_this (g.first_value SamePlace) (λ y. option_map p.number y ≡ Some (p.number n)) (λ (w : Unit {0} × Num). Some w.1) (marked k.Equals and numbered n) (λ y b a h. h) (λ y e. ap (λ x. Some x) e.1)

variable : (v : VarDecl) → Placed (g.variable AnyPlace v) (g.variable SamePlace) (λ y. p.variable y ≡ p.variable v)
variable v =
    as_this (g.variable SamePlace) (λ y. p.variable y ≡ p.variable v) (λ (w : Unit {0} × (Name × (Option Num × Unit {0}))). record { name = w.1.0; first = w.1.1.0 })
    (marked k.Var and (named v.name and (first_value v.first and marked k.Semicolon))) (λ y b a h. h) (λ y e i. record { name = e.1.0 i; first = e.1.1.0 i })

-- ---- statements

-- a kind of statement with all its places at 0
abbrev pub kind_of : StmtKind → StmtKind
kind_of = fold-StmtKind StmtKind Stmt p.kind (λ x. record { at = 0; kind = x.kind })

-- a statement with its blocks so
abbrev pub inner : StmtKind-F StmtKind Stmt → StmtKind-F StmtKind Stmt
inner = map-StmtKind StmtKind Stmt StmtKind Stmt kind_of p.statement

kind_out : (x : StmtKind) → kind_of x ≡ p.kind (inner (out-StmtKind x))
unfolding p.statement
kind_out x = fold_out-StmtKind StmtKind Stmt p.kind (λ y. record { at = 0; kind = y.kind }) x

pub statement_out : (x : Stmt) → p.statement x ≡ record { at = 0; kind = kind_of x.kind }
unfolding p.statement
statement_out x = fold_out-Stmt StmtKind Stmt p.kind (λ y. record { at = 0; kind = y.kind }) x

-- of a kind with this layer
pub kind_is : (x : StmtKind) (layer : StmtKind-F StmtKind Stmt) → out-StmtKind x ≡ layer → kind_of x ≡ p.kind (inner layer)
kind_is x layer e = kind_out x ∙ ap (λ l. p.kind (inner l)) e

slot : (t : Name) (o : Operand) → Placed (g.slot AnyPlace t o) (λ (w : Name × Operand). g.slot SamePlace w.0 w.1) (λ w. (p.name w.0 ≡ p.name t) × (p.value w.1 ≡ p.value o))
slot t o =
    as_this (λ (w : Name × Operand). g.slot SamePlace w.0 w.1) (λ w. (p.name w.0 ≡ p.name t) × (p.value w.1 ≡ p.value o)) (λ (w : Name × (Unit {0} × (Operand × Unit {0}))). (w.0, w.1.1.0))
    (named t and (marked k.OpenBracket and (valued o and marked k.CloseBracket))) (λ y b a h. h) (λ y e. (e.0, e.1.1.0))

module _ (aside phrase : List Stmt → Phrase) (blocks : (xs : List Stmt) → Placed (aside xs) phrase (λ ys. map p.statement ys ≡ map p.statement xs)) where
  no_list : (ys : List Stmt) → map p.statement ys ≡ [] → ys ≡ []
  no_list [] e = refl
  no_list (y ∷ ys) e = cc

  else_written : (ys : List Stmt) (b a : List Lexeme) → (g.mark k.Else >> phrase ys) b a → g.otherwise SamePlace phrase ys b a
  else_written [] b a h = inr h
  else_written (y ∷ ys) b a h = h

  else_block : (xs : List Stmt) → Placed (g.mark k.Else >> aside xs) (g.otherwise SamePlace phrase) (λ ys. map p.statement ys ≡ map p.statement xs)
  else_block xs =
      as_this (g.otherwise SamePlace phrase) (λ ys. map p.statement ys ≡ map p.statement xs) (λ (w : Unit {0} × List Stmt). w.1) (marked k.Else and blocks xs) (λ y b a h. else_written y.1 b a h) (λ y e. e.1)

  otherwise : (xs : List Stmt) → Placed (g.otherwise AnyPlace aside xs) (g.otherwise SamePlace phrase) (λ ys. map p.statement ys ≡ map p.statement xs)
  otherwise [] = record {
    reads = λ b r h. elim h [ inl e ↦ ([], b, inl refl, e, refl) | inr e ↦ (else_block []).reads b r e ];
  }
  otherwise (x ∷ xs) = else_block (x ∷ xs)

  abbrev Reads : StmtKind-F StmtKind Stmt → Type 0
  Reads layer = Placed (g.form AnyPlace aside layer) (λ (x : StmtKind). g.form SamePlace phrase (out-StmtKind x)) (λ x. kind_of x ≡ p.kind (inner layer))

  -- a kind made of parts
  made : {Y : Type 0} {q : Phrase} {q' : Y → Phrase} {E : Y → Type 0} (layer : StmtKind-F StmtKind Stmt) (f : Y → StmtKind) (l : Y → StmtKind-F StmtKind Stmt) → ((y : Y) → out-StmtKind (f y) ≡ l y) →
      Placed q q' E → ((y : Y) (b a : List Lexeme) → q' y b a → g.form SamePlace phrase (l y) b a) → ((y : Y) → E y → p.kind (inner (l y)) ≡ p.kind (inner layer)) →
      Placed q (λ (x : StmtKind). g.form SamePlace phrase (out-StmtKind x)) (λ x. kind_of x ≡ p.kind (inner layer))
  made layer f l out x conv e =
      as_this (λ (z : StmtKind). g.form SamePlace phrase (out-StmtKind z)) (λ z. kind_of z ≡ p.kind (inner layer)) f x
      (λ y b a h. subst (λ m. g.form SamePlace phrase m b a) (sym (out y)) (conv y b a h)) (λ y h. kind_is (f y) (l y) (out y) ∙ e y h)

  form : (layer : StmtKind-F StmtKind Stmt) → Reads layer
  unfolding g.form p.kind
  form (StmtKind-F.Move to from) =
      made (StmtKind-F.Move to from) (λ (w : Name × (Unit {0} × (Operand × Unit {0}))). s.Move w.0 w.1.1.0) (λ w. StmtKind-F.Move w.0 w.1.1.0) (λ w. s.outs-Move _ _)
      (named to and (marked k.Equals and (valued from and marked k.Semicolon))) (λ y b a h. h) (λ y e i. s.Move (e.0 i) (e.1.1.0 i))
  form (StmtKind-F.Add to by) =
      made (StmtKind-F.Add to by) (λ (w : Name × (Unit {0} × (Operand × Unit {0}))). s.Add w.0 w.1.1.0) (λ w. StmtKind-F.Add w.0 w.1.1.0) (λ w. s.outs-Add _ _)
      (named to and (marked k.PlusEquals and (valued by and marked k.Semicolon))) (λ y b a h. h) (λ y e i. s.Add (e.0 i) (e.1.1.0 i))
  form (StmtKind-F.Load to t offset) =
      made (StmtKind-F.Load to t offset) (λ (w : Name × (Unit {0} × ((Name × Operand) × Unit {0}))). s.Load w.0 w.1.1.0.0 w.1.1.0.1) (λ w. StmtKind-F.Load w.0 w.1.1.0.0 w.1.1.0.1) (λ w. s.outs-Load _ _ _)
      (named to and (marked k.Equals and (slot t offset and marked k.Semicolon))) (λ y b a h. h) (λ y e i. s.Load (e.0 i) (e.1.1.0.0 i) (e.1.1.0.1 i))
  form (StmtKind-F.Store t offset from) =
      made (StmtKind-F.Store t offset from) (λ (w : (Name × Operand) × (Unit {0} × (Operand × Unit {0}))). s.Store w.0.0 w.0.1 w.1.1.0) (λ w. StmtKind-F.Store w.0.0 w.0.1 w.1.1.0) (λ w. s.outs-Store _ _ _)
      (slot t offset and (marked k.Equals and (valued from and marked k.Semicolon))) (λ y b a h. h) (λ y e i. s.Store (e.0.0 i) (e.0.1 i) (e.1.1.0 i))
  form (StmtKind-F.If wide left right then_do else_do) =
      made (StmtKind-F.If wide left right then_do else_do) (λ (w : Unit {0} × (Operand × (Bool × (Operand × (List Stmt × List Stmt))))). s.If w.1.1.0 w.1.0 w.1.1.1.0 w.1.1.1.1.0 w.1.1.1.1.1)
      (λ w. StmtKind-F.If w.1.1.0 w.1.0 w.1.1.1.0 w.1.1.1.1.0 w.1.1.1.1.1) (λ w. s.outs-If _ _ _ _ _)
      (marked k.If and (valued left and (tested wide and (valued right and (blocks then_do and otherwise else_do))))) (λ y b a h. h)
      (λ y e i. s.If (e.1.1.0 i) (e.1.0 i) (e.1.1.1.0 i) (e.1.1.1.1.0 i) (e.1.1.1.1.1 i))
  form (StmtKind-F.Loop body) =
      made (StmtKind-F.Loop body) (λ (w : Unit {0} × List Stmt). s.Loop w.1) (λ w. StmtKind-F.Loop w.1) (λ w. s.outs-Loop _)
      (marked k.Loop and blocks body) (λ y b a h. h) (λ y e i. s.Loop (e.1 i))
  form (StmtKind-F.Repeat count body) =
      made (StmtKind-F.Repeat count body) (λ (w : Unit {0} × (Num × List Stmt)). s.Repeat w.1.0 w.1.1) (λ w. StmtKind-F.Repeat w.1.0 w.1.1) (λ w. s.outs-Repeat _ _)
      (marked k.Repeat and (numbered count and blocks body)) (λ y b a h. h) (λ y e i. s.Repeat (e.1.0 i) (e.1.1 i))
  form StmtKind-F.Break =
      made StmtKind-F.Break (λ (w : Unit {0} × Unit {0}). s.Break) (λ w. StmtKind-F.Break) (λ w. s.outs-Break) (marked k.Break and marked k.Semicolon) (λ y b a h. h) (λ y e. refl)
  form (StmtKind-F.Lookup to t offset key probes) =
      made (StmtKind-F.Lookup to t offset key probes)
      (λ (w : Unit {0} × (Name × (Unit {0} × ((Name × Operand) × (Unit {0} × (Operand × (Unit {0} × (Num × Unit {0})))))))). s.Lookup w.1.0 w.1.1.1.0.0 w.1.1.1.0.1 w.1.1.1.1.1.0 w.1.1.1.1.1.1.1.0)
      (λ w. StmtKind-F.Lookup w.1.0 w.1.1.1.0.0 w.1.1.1.0.1 w.1.1.1.1.1.0 w.1.1.1.1.1.1.1.0) (λ w. s.outs-Lookup _ _ _ _ _)
      (marked k.Lookup and (named to and (marked k.Equals and (slot t offset and (marked k.Key and (valued key and (marked k.Probes and (numbered probes and marked k.Semicolon)))))))) (λ y b a h. h)
      (λ y e i. s.Lookup (e.1.0 i) (e.1.1.1.0.0 i) (e.1.1.1.0.1 i) (e.1.1.1.1.1.0 i) (e.1.1.1.1.1.1.1.0 i))
  form (StmtKind-F.Walk to t offset key nodes) =
      made (StmtKind-F.Walk to t offset key nodes)
      (λ (w : Unit {0} × (Name × (Unit {0} × ((Name × Operand) × (Unit {0} × (Operand × (Unit {0} × (Num × Unit {0})))))))). s.Walk w.1.0 w.1.1.1.0.0 w.1.1.1.0.1 w.1.1.1.1.1.0 w.1.1.1.1.1.1.1.0)
      (λ w. StmtKind-F.Walk w.1.0 w.1.1.1.0.0 w.1.1.1.0.1 w.1.1.1.1.1.0 w.1.1.1.1.1.1.1.0) (λ w. s.outs-Walk _ _ _ _ _)
      (marked k.Walk and (named to and (marked k.Equals and (slot t offset and (marked k.Key and (valued key and (marked k.Nodes and (numbered nodes and marked k.Semicolon)))))))) (λ y b a h. h)
      (λ y e i. s.Walk (e.1.0 i) (e.1.1.1.0.0 i) (e.1.1.1.0.1 i) (e.1.1.1.1.1.0 i) (e.1.1.1.1.1.1.1.0 i))
  form (StmtKind-F.Reply words) =
      made (StmtKind-F.Reply words) (λ (w : Unit {0} × (List Operand × Unit {0})). s.Reply w.1.0) (λ w. StmtKind-F.Reply w.1.0) (λ w. s.outs-Reply _)
      (marked k.Reply and (listed (g.value AnyPlace) (g.value SamePlace) p.value valued words and marked k.Semicolon)) (λ y b a h. h) (λ y e i. s.Reply (e.1.0 i))

  -- the place of a statement is that of the lexeme that it begins with
  begins : (x : Stmt) (b r : List Lexeme) → g.statement AnyPlace aside x (map unplaced b) r → (y : Stmt) × (a : List Lexeme) × g.statement SamePlace phrase y b a × (map unplaced a ≡ r) × (p.statement y ≡ p.statement x)
  begins x [] r h = let wrong = h.1.2 in cc
  begins x (l ∷ b) r h =
      let kind = (form (out-StmtKind x.kind)).reads (l ∷ b) r (subst (λ m. g.form AnyPlace aside (out-StmtKind x.kind) m r) (sym h.1.4) h.2) in
      let y : Stmt = record { at = place_of l; kind = kind.0 } in
      let same : kind_of kind.0 ≡ kind_of x.kind = kind.4 ∙ sym (kind_out x.kind) in
      (y, kind.1, (l ∷ b, (l, b, refl, refl, refl), kind.2), kind.3, statement_out y ∙ (λ i. record { at = 0; kind = same i }) ∙ sym (statement_out x))

  statement : (x : Stmt) → Placed (g.statement AnyPlace aside x) (g.statement SamePlace phrase) (λ y. p.statement y ≡ p.statement x)
  statement x = record { reads = begins x }

-- ---- blocks, chains and files

block : (d : ℕ) (xs : List Stmt) → Placed (g.block_within AnyPlace d xs) (g.block_within SamePlace d) (λ ys. map p.statement ys ≡ map p.statement xs)
block zero xs = never (g.block_within SamePlace zero) (λ ys. map p.statement ys ≡ map p.statement xs)
block (suc d) xs =
    as_this (g.block_within SamePlace (suc d)) (λ ys. map p.statement ys ≡ map p.statement xs) (λ (w : Unit {0} × (List Stmt × Unit {0})). w.1.0)
    (marked k.OpenBrace and (each (g.statement AnyPlace (g.block_within AnyPlace d)) (g.statement SamePlace (g.block_within SamePlace d)) p.statement (statement (g.block_within AnyPlace d) (g.block_within SamePlace d) (block d)) xs and marked k.CloseBrace))
    (λ y b a h. h) (λ y e. e.1.0)

opening : (o : Option Num) → Placed (g.opening AnyPlace o) (g.opening SamePlace) (λ y. option_map p.number y ≡ option_map p.number o)
opening None = as_this (g.opening SamePlace) (λ y. option_map p.number y ≡ None) (λ (w : Unit {0}). None) (marked k.OpenBrace) (λ y b a h. h) (λ y e. refl)
opening (Some n) =
    as_this (g.opening SamePlace) (λ y. option_map p.number y ≡ Some (p.number n)) (λ (w : Unit {0} × (Num × Unit {0})). Some w.1.0)
    (marked k.Serve and (numbered n and marked k.OpenBrace)) (λ y b a h. h) (λ y e. ap (λ x. Some x) e.1.0)

chain : (d : ℕ) (c : Chain) → Placed (g.chain_within AnyPlace d c) (g.chain_within SamePlace d) (λ y. p.chain y ≡ p.chain c)
chain d c =
    as_this (g.chain_within SamePlace d) (λ y. p.chain y ≡ p.chain c)
    (λ (w : Unit {0} × (Name × (Option Num × (List Name × (List VarDecl × (List Stmt × ℕ)))))). record { name = w.1.0; serve = w.1.1.0; args = w.1.1.1.0; vars = w.1.1.1.1.0; body = w.1.1.1.1.1.0; close = w.1.1.1.1.1.1 })
    (marked k.Chain and (named c.name and (opening c.serve and (each (g.argument AnyPlace) (g.argument SamePlace) p.name argument c.args and (each (g.variable AnyPlace) (g.variable SamePlace) p.variable variable c.vars
    and (each (g.statement AnyPlace (g.block_within AnyPlace d)) (g.statement SamePlace (g.block_within SamePlace d)) p.statement (statement (g.block_within AnyPlace d) (g.block_within SamePlace d) (block d)) c.body and closed c.close))))))
    (λ y b a h. h) (λ y e i. record { name = e.1.0 i; serve = e.1.1.0 i; args = e.1.1.1.0 i; vars = e.1.1.1.1.0 i; body = e.1.1.1.1.1.0 i; close = 0 })

file : (d : ℕ) (f : File) → Placed (g.file_within AnyPlace d f) (g.file_within SamePlace d) (λ y. p.file y ≡ p.file f)
file d f =
    as_this (g.file_within SamePlace d) (λ y. p.file y ≡ p.file f) (λ (w : List Table × List Chain). record { tables = w.0; chains = w.1 })
    (each (g.table AnyPlace) (g.table SamePlace) p.table table f.tables and some (g.chain_within AnyPlace d) (g.chain_within SamePlace d) p.chain (chain d) f.chains)
    (λ y b a h. h) (λ y e i. record { tables = e.0 i; chains = e.1 i })

-- some tokens that have a tree places aside have a tree that is the same places aside
pub placed : (d : ℕ) (f : File) (lexemes : List Lexeme) → g.file_within AnyPlace d f (map unplaced lexemes) [] → (y : File) × g.file_within SamePlace d y lexemes [] × p.IsSameAside y f
placed d f lexemes h =
    let found = (file d f).reads lexemes [] h in
    (found.0, subst (λ l. g.file_within SamePlace d found.0 lexemes l) (none found.1 found.3) found.2, found.4)
  where
    none : (a : List Lexeme) → map unplaced a ≡ [] → a ≡ []
    none [] e = refl
    none (x ∷ a) e = cc
