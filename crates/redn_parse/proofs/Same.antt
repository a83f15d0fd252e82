-- Two readings of the same lexemes are one.
use Rattle.std.proofs.Common.{◌≡◌, ℕ, Bool, true, false, not, List, [], ◌∷◌, Option, Some, None, sym, refl, ap, ◌∙◌, subst}
use Rattle.redn_syntax.specs.declared.token.TokenKind.{TokenKind}
use Rattle.redn_syntax.specs.declared.token.TokenKind.TheVariants as k
use Rattle.redn_syntax.specs.declared.tree.Name.{Name}
use Rattle.redn_syntax.specs.declared.tree.Num.{Num}
use Rattle.redn_syntax.specs.declared.tree.Operand.{Operand}
use Rattle.redn_syntax.specs.declared.tree.Operand.TheVariants as operand
use Rattle.redn_syntax.specs.declared.tree.Item.{Item}
use Rattle.redn_syntax.specs.declared.tree.Table.{Table}
use Rattle.redn_syntax.specs.declared.tree.VarDecl.{VarDecl}
use Rattle.redn_syntax.specs.Lexemes.{Lexeme, Fixed}
use Rattle.redn_syntax.specs.Grammar as g
use Rattle.redn_syntax.specs.Grammar.{Phrase, ◌>>◌, SamePlace, HasTree}
use Rattle.redn_parse.specs.Lookahead.{kind_at}
use Rattle.redn_parse.specs.Reads.{with_mark}

-- a fact on the kind of the next lexeme, or on the end
abbrev pub Ahead : Type 0
Ahead = Option TokenKind → Bool

abbrev pub Sees : Ahead → List Lexeme → Type 0
Sees ahead lexemes = ahead (kind_at 0 lexemes) ≡ true

abbrev pub anything : Ahead
anything kind = true

-- Where these two phrases begin alike, and the next lexeme behind each is as it must be, they end
-- alike, and this follows.
pub record Same (ahead : Ahead) (p q : Phrase) (E : Type 0) : Type 0 where
  pub joins : (b c r s : List Lexeme) → b ≡ c → p b r → q c s → Sees ahead r → Sees ahead s → E × (r ≡ s)

-- the phrase begins with such a lexeme
pub record Begins (ahead : Ahead) (p : Phrase) : Type 0 where
  pub sees : (b r : List Lexeme) → p b r → Sees ahead b

pub weaken : {ahead : Ahead} {p q : Phrase} {E F : Type 0} → Same ahead p q E → (E → F) → Same ahead p q F
weaken same f = record {
  joins = λ b c r s e h h' x y. let both = same.joins b c r s e h h' x y in (f both.0, both.1);
}

pub anywhere : {ahead : Ahead} {p q : Phrase} {E : Type 0} → Same anything p q E → Same ahead p q E
anywhere same = record { joins = λ b c r s e h h' x y. same.joins b c r s e h h' refl refl }

-- one phrase and another
infixr 10 ◌and◌
pub ◌and◌ : {ahead : Ahead} {p q p' q' : Phrase} {E F : Type 0} → Same anything p q E → Same ahead p' q' F → Same ahead (p >> p') (q >> q') (E × F)
x and y = record {
  joins = λ b c r s e h h' u v.
      let first = x.joins b c h.0 h'.0 e h.1 h'.1 refl refl in
      let second = y.joins h.0 h'.0 r s first.1 h.2 h'.2 u v in
      ((first.0, second.0), second.1);
}

-- where it matters what stands between the two
pub before : {ahead middle : Ahead} {p q p' q' : Phrase} {E F : Type 0} → Same middle p q E → Begins middle p' → Begins middle q' → Same ahead p' q' F → Same ahead (p >> p') (q >> q') (E × F)
before x begins begins' y = record {
  joins = λ b c r s e h h' u v.
      let first = x.joins b c h.0 h'.0 e h.1 h'.1 (begins.sees h.0 r h.2) (begins'.sees h'.0 s h'.2) in
      let second = y.joins h.0 h'.0 r s first.1 h.2 h'.2 u v in
      ((first.0, second.0), second.1);
}

-- ---- marks, names and numbers

pub marks : (kind : TokenKind) → Same anything (g.mark kind) (g.mark kind) (Unit {0})
marks kind = record { joins = λ b c r s e h h' x y. (tt, cc) }

pub past : {ahead : Ahead} {p q : Phrase} {E : Type 0} (kind : TokenKind) → Same ahead p q E → Same ahead (g.mark kind >> p) (g.mark kind >> q) E
past kind y = weaken (marks kind and y) (λ e. e.1)

pub names : (n m : Name) → Same anything (g.name SamePlace n) (g.name SamePlace m) (n ≡ m)
names n m = record {
  joins = λ b c r s e h h' x y.
      let text : n.text ≡ m.text = cc in
      let at : n.at ≡ m.at = cc in
      (λ i. record { text = text i; at = at i }, cc);
}

pub numbers : (n m : Num) → Same anything (g.number SamePlace n) (g.number SamePlace m) (n ≡ m)
numbers n m = record {
  joins = λ b c r s e h h' x y.
      let value : n.value ≡ m.value = cc in
      let at : n.at ≡ m.at = cc in
      (λ i. record { value = value i; at = at i }, cc);
}

pub values : (o p : Operand) → Same anything (g.value SamePlace o) (g.value SamePlace p) (o ≡ p)
values (operand.Name n) (operand.Name m) = weaken (names n m) (ap (λ x. operand.Name x))
values (operand.Name n) (operand.Num m) = record { joins = λ b c r s e h h' x y. cc }
values (operand.Num n) (operand.Name m) = record { joins = λ b c r s e h h' x y. cc }
values (operand.Num n) (operand.Num m) = weaken (numbers n m) (ap (λ x. operand.Num x))

-- ---- choices of a mark

-- two marks of different kinds don't begin alike
pub apart : {ahead : Ahead} {p q : Phrase} {E : Type 0} (kind other : TokenKind) → (kind ≡ other → ⊥) → Same ahead (g.mark kind >> p) (g.mark other >> q) E
apart kind other differ = record {
  joins = λ b c r s e h h' x y. let same : kind ≡ other = cc in absurd (differ same);
}

differs : {ahead : Ahead} {E : Type 0} (kind other : TokenKind) → (kind ≡ other → ⊥) → Same ahead (g.mark kind) (g.mark other) E
differs kind other differ = record {
  joins = λ b c r s e h h' x y. let same : kind ≡ other = cc in absurd (differ same);
}

pub tests : (v w : Bool) → Same anything (g.mark (g.test_mark v)) (g.mark (g.test_mark w)) (v ≡ w)
tests true true = weaken (marks k.DoubleEquals) (λ _. refl)
tests true false = differs k.DoubleEquals k.Tilde (λ e. cc)
tests false true = differs k.Tilde k.DoubleEquals (λ e. cc)
tests false false = weaken (marks k.Tilde) (λ _. refl)

pub accesses : (v w : Bool) → Same anything (g.mark (g.access_mark v)) (g.mark (g.access_mark w)) (v ≡ w)
accesses true true = weaken (marks k.Rw) (λ _. refl)
accesses true false = differs k.Rw k.Ro (λ e. cc)
accesses false true = differs k.Ro k.Rw (λ e. cc)
accesses false false = weaken (marks k.Ro) (λ _. refl)

-- ---- lists

module _ {X : Type 0} (p q : X → Phrase) (between stop : Ahead)
    (one : (x y : X) → Same between (p x) (q y) (x ≡ y))
    (begins : (x : X) → Begins between (p x)) (begins' : (x : X) → Begins between (q x))
    (stops : (kind : Option TokenKind) → stop kind ≡ true → between kind ≡ true)
    (begins_not : (x : X) → Begins (λ kind. not (stop kind)) (p x)) (begins_not' : (x : X) → Begins (λ kind. not (stop kind)) (q x)) where
  seen : (p' : X → Phrase) → ((x : X) → Begins between (p' x)) → (xs : List X) (b r : List Lexeme) → g.each p' xs b r → Sees stop r → Sees between b
  seen p' h [] b r e v = subst (Sees between) (sym e) (stops (kind_at 0 r) v)
  seen p' h (x ∷ xs) b r (m, e, es) v = (h x).sees b m e

  none : (ahead : Ahead) (b c : List Lexeme) → b ≡ c → Sees ahead b → Sees (λ kind. not (ahead kind)) c → ⊥
  none ahead b c e v w =
      let same : ahead (kind_at 0 c) ≡ true = ap (λ l. ahead (kind_at 0 l)) (sym e) ∙ v in
      let wrong : true ≡ false = sym w ∙ ap not same in
      cc

  -- two lists of a phrase, where what comes behind can't begin one more
  each_joins : (xs ys : List X) (b c r s : List Lexeme) → b ≡ c → g.each p xs b r → g.each q ys c s → Sees stop r → Sees stop s → (xs ≡ ys) × (r ≡ s)
  each_joins [] [] b c r s e h h' v w = (refl, sym h ∙ e ∙ h')
  each_joins [] (y ∷ ys) b c r s e h (m, h', hs') v w = absurd (none stop r c (sym h ∙ e) v ((begins_not' y).sees c m h'))
  each_joins (x ∷ xs) [] b c r s e (m, h, hs) h' v w = absurd (none stop s b (sym h' ∙ sym e) w ((begins_not x).sees b m h))
  each_joins (x ∷ xs) (y ∷ ys) b c r s e (m, h, hs) (n, h', hs') v w =
      let first = (one x y).joins b c m n e h h' (seen p begins xs m r hs v) (seen q begins' ys n s hs' w) in
      let rest = each_joins xs ys m n r s first.1 hs hs' v w in
      (λ i. first.0 i ∷ rest.0 i, rest.1)

  pub lists : (xs ys : List X) → Same stop (g.each p xs) (g.each q ys) (xs ≡ ys)
  lists xs ys = record { joins = each_joins xs ys }

-- ---- what comes next

abbrev pub no_colon : Ahead
no_colon (Some k.Colon) = false
no_colon kind = true

abbrev pub no_else : Ahead
no_else (Some k.Else) = false
no_else kind = true

abbrev pub no_table : Ahead
no_table (Some k.Table) = false
no_table kind = true

abbrev pub no_argument : Ahead
no_argument (Some k.Arg) = false
no_argument kind = true

abbrev pub no_variable : Ahead
no_variable (Some k.Var) = false
no_variable kind = true

abbrev pub closes : Ahead
closes (Some k.CloseBrace) = true
closes kind = false

abbrev pub ends : Ahead
ends (Some k.Semicolon) = true
ends kind = false

abbrev pub is_end : Ahead
is_end None = true
is_end (Some kind) = false

-- what a statement begins with
abbrev pub starts : Ahead
starts (Some k.Name) = true
starts (Some k.If) = true
starts (Some k.Loop) = true
starts (Some k.Repeat) = true
starts (Some k.Break) = true
starts (Some k.Lookup) = true
starts (Some k.Walk) = true
starts (Some k.Reply) = true
starts kind = false

pub begins_mark : (ahead : Ahead) (kind : TokenKind) → ahead (Some kind) ≡ true → (p : Phrase) → Begins ahead (g.mark kind >> p)
begins_mark ahead kind h p = record { sees = λ b r d. ap (λ l. ahead (kind_at 0 l)) d.1.1 ∙ h }

pub begins_last : (ahead : Ahead) (kind : TokenKind) → ahead (Some kind) ≡ true → Begins ahead (g.mark kind)
begins_last ahead kind h = record { sees = λ b r d. ap (λ l. ahead (kind_at 0 l)) d.1 ∙ h }

pub begins_close : (ahead : Ahead) (place : ℕ) → ahead (Some k.CloseBrace) ≡ true → Begins ahead (g.mark_at SamePlace k.CloseBrace place)
begins_close ahead place h = record { sees = λ b r d. ap (λ l. ahead (kind_at 0 l)) d.2 ∙ h }

pub begins_each : {X : Type 0} (ahead : Ahead) (p : X → Phrase) (R : Phrase) → ((x : X) → Begins ahead (p x)) → Begins ahead R → (xs : List X) → Begins ahead (g.each p xs >> R)
begins_each ahead p R h last [] = record { sees = λ b r d. subst (Sees ahead) (sym d.1) (last.sees d.0 r d.2) }
begins_each ahead p R h last (x ∷ xs) = record { sees = λ b r d. (h x).sees b d.1.0 d.1.1 }

pub begins_weaker : {p : Phrase} (strong weak : Ahead) → ((kind : Option TokenKind) → strong kind ≡ true → weak kind ≡ true) → Begins strong p → Begins weak p
begins_weaker strong weak f h = record { sees = λ b r d. f (kind_at 0 b) (h.sees b r d) }

pub closed : {p q : Phrase} {E : Type 0} (stop : Ahead) (kind : TokenKind) → stop (Some kind) ≡ true → Same stop p q E → Same anything (p >> g.mark kind) (q >> g.mark kind) E
closed stop kind h same = weaken (before same (begins_last stop kind h) (begins_last stop kind h) (marks kind)) (λ e. e.0)

-- ---- lists with commas

module _ {X : Type 0} (P : X → Phrase) (between stop : Ahead) (single : (x y : X) → Same between (P x) (P y) (x ≡ y))
    (comma : between (Some k.Comma) ≡ true) (no_comma : not (stop (Some k.Comma)) ≡ true)
    (stops : (kind : Option TokenKind) → stop kind ≡ true → between kind ≡ true) where
  abbrev another : X → Phrase
  another x = g.mark k.Comma >> P x

  begins_another : (x : X) → Begins between (another x)
  begins_another x = begins_mark between k.Comma comma (P x)

  no_stop : (x : X) → Begins (λ kind. not (stop kind)) (another x)
  no_stop x = begins_mark (λ kind. not (stop kind)) k.Comma no_comma (P x)

  others : (xs ys : List X) → Same stop (g.each another xs) (g.each another ys) (xs ≡ ys)
  others = lists another another between stop (λ x y. past k.Comma (single x y)) begins_another begins_another stops no_stop no_stop

  pub listed : (xs ys : List X) → Same stop (g.listed P xs) (g.listed P ys) (xs ≡ ys)
  listed [] ys = record { joins = λ b c r s e h h' v w. absurd h }
  listed (x ∷ xs) [] = record { joins = λ b c r s e h h' v w. absurd h' }
  listed (x ∷ xs) (y ∷ ys) = record {
    joins = λ b c r s e h h' v w.
        let first = (single x y).joins b c h.0 h'.0 e h.1 h'.1 (seen another another between stop (λ x y. past k.Comma (single x y)) begins_another begins_another stops no_stop no_stop another begins_another xs h.0 r h.2 v) (seen another another between stop (λ x y. past k.Comma (single x y)) begins_another begins_another stops no_stop no_stop another begins_another ys h'.0 s h'.2 w) in
        let rest = (others xs ys).joins h.0 h'.0 r s first.1 h.2 h'.2 v w in
        ((λ i. first.0 i ∷ rest.0 i), rest.1);
  }

closes_no_colon : (kind : Option TokenKind) → closes kind ≡ true → no_colon kind ≡ true
closes_no_colon None h = refl
closes_no_colon (Some k.Colon) h = cc
closes_no_colon (Some kind) h = refl

-- ---- tables

nothing : Same anything g.nothing g.nothing (Unit {0})
nothing = record { joins = λ b c r s e h h' v w. (tt, sym h ∙ e ∙ h') }

-- an item, before anything but a colon
items_joins : (o o' : Option Num) (n m : Num) → Same no_colon (g.item_offset SamePlace o >> g.number SamePlace n) (g.item_offset SamePlace o' >> g.number SamePlace m) ((o ≡ o') × (n ≡ m))
items_joins None None n m = weaken (nothing and anywhere (numbers n m)) (λ e. (refl, e.1))
items_joins None (Some p) n m = record {
  joins = λ b c r s e h h' v w.
      let next : r ≡ Fixed k.Colon h'.1.2.0 ∷ h'.0 = cc in
      let wrong : true ≡ false = sym v ∙ ap (λ l. no_colon (kind_at 0 l)) next in
      cc;
}
items_joins (Some p) None n m = record {
  joins = λ b c r s e h h' v w.
      let next : s ≡ Fixed k.Colon h.1.2.0 ∷ h.0 = cc in
      let wrong : true ≡ false = sym w ∙ ap (λ l. no_colon (kind_at 0 l)) next in
      cc;
}
items_joins (Some p) (Some q) n m = weaken ((numbers p q and marks k.Colon) and anywhere (numbers n m)) (λ e. (ap (λ x. Some x) e.0.0, e.1))

pub items : (i j : Item) → Same no_colon (g.item SamePlace i) (g.item SamePlace j) (i ≡ j)
items i j = weaken (items_joins i.at j.at i.word j.word) (λ e i. record { at = e.0 i; word = e.1 i })

pub item_lists : (xs ys : List Item) → Same anything (with_mark (g.listed (g.item SamePlace)) k.CloseBrace xs) (with_mark (g.listed (g.item SamePlace)) k.CloseBrace ys) (xs ≡ ys)
item_lists xs ys = closed closes k.CloseBrace refl (listed (g.item SamePlace) no_colon closes items refl refl closes_no_colon xs ys)

pub contents : (xs ys : List Item) → Same anything (with_mark (g.contents SamePlace) k.Semicolon xs) (with_mark (g.contents SamePlace) k.Semicolon ys) (xs ≡ ys)
contents [] [] = weaken (nothing and marks k.Semicolon) (λ _. refl)
contents [] (y ∷ ys) = record { joins = λ b c r s e h h' v w. cc }
contents (x ∷ xs) [] = record { joins = λ b c r s e h h' v w. cc }
contents (x ∷ xs) (y ∷ ys) = weaken (past k.Equals (past k.OpenBrace (item_lists (x ∷ xs) (y ∷ ys))) and marks k.Semicolon) (λ e. e.0)

pub tables : (t u : Table) → Same anything (g.table SamePlace t) (g.table SamePlace u) (t ≡ u)
tables t u = weaken (past k.Table (names t.name u.name and past k.OpenBracket (numbers t.length u.length and past k.CloseBracket (accesses t.writable u.writable and contents t.items u.items))))
    (λ e i. record { name = e.0 i; length = e.1.0 i; writable = e.1.1.0 i; items = e.1.1.1 i })

-- ---- chains up to their statements

pub arguments : (n m : Name) → Same anything (g.argument SamePlace n) (g.argument SamePlace m) (n ≡ m)
arguments n m = weaken (past k.Arg (names n m and marks k.Semicolon)) (λ e. e.0)

pub openings : (o p : Option Num) → Same anything (g.opening SamePlace o) (g.opening SamePlace p) (o ≡ p)
openings None None = weaken (marks k.OpenBrace) (λ _. refl)
openings None (Some n) = record { joins = λ b c r s e h h' v w. cc }
openings (Some n) None = record { joins = λ b c r s e h h' v w. cc }
openings (Some n) (Some m) = weaken (past k.Serve (numbers n m and marks k.OpenBrace)) (λ e. ap (λ x. Some x) e.0)

pub firsts : (o p : Option Num) → Same anything (with_mark (g.first_value SamePlace) k.Semicolon o) (with_mark (g.first_value SamePlace) k.Semicolon p) (o ≡ p)
firsts None None = weaken (nothing and marks k.Semicolon) (λ _. refl)
firsts None (Some n) = record { joins = λ b c r s e h h' v w. cc }
firsts (Some n) None = record { joins = λ b c r s e h h' v w. cc }
firsts (Some n) (Some m) = weaken (past k.Equals (numbers n m) and marks k.Semicolon) (λ e. ap (λ x. Some x) e.0)

pub variables : (v w : VarDecl) → Same anything (g.variable SamePlace v) (g.variable SamePlace w) (v ≡ w)
variables v w = weaken (past k.Var (names v.name w.name and firsts v.first w.first)) (λ e i. record { name = e.0 i; first = e.1 i })
