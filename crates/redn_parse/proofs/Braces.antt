-- How many braces are open before and behind a phrase.
use Rattle.std.proofs.Common.{arith, ◌≡◌, ◌≢◌, ◌+◌, ◌≤◌, ℕ, zero, suc, inl, inr, Bool, true, false, List, [], ◌∷◌, ◌++◌, Option, Some, None, cond, count_by, sym, refl, ap, subst}
use Rattle.std.proofs.lemmas.List.Sums.{sum_by-cons}
use Rattle.redn_syntax.specs.declared.token.TokenKind.{TokenKind}
use Rattle.redn_syntax.specs.declared.token.TokenKind.TheVariants as k
use Rattle.redn_syntax.specs.declared.tree.Name.{Name}
use Rattle.redn_syntax.specs.declared.tree.Num.{Num}
use Rattle.redn_syntax.specs.declared.tree.Operand.{Operand}
use Rattle.redn_syntax.specs.declared.tree.Operand.TheVariants as operand
use Rattle.redn_syntax.specs.declared.tree.Item.{Item}
use Rattle.redn_syntax.specs.declared.tree.Table.{Table}
use Rattle.redn_syntax.specs.declared.tree.VarDecl.{VarDecl}
use Rattle.redn_syntax.specs.declared.tree.Chain.{Chain}
use Rattle.redn_syntax.specs.declared.tree.File.{File}
use Rattle.redn_syntax.specs.declared.tree.Stmt.{Stmt}
use Rattle.redn_syntax.specs.declared.tree.StmtKind.{StmtKind, out-StmtKind}
use Rattle.redn_syntax.specs.declared.tree.StmtKind.TheOpen.{StmtKind-F}
use Rattle.redn_syntax.specs.Lexemes.{Lexeme, Fixed, Named, Numbered}
use Rattle.redn_syntax.specs.Grammar as g
use Rattle.redn_syntax.specs.Grammar.{Phrase, ◌>>◌, SamePlace}
use Rattle.redn_parse.specs.Depth.{is_opening, is_closing, IsFull, OpensDeepFrom}

-- ---- one lexeme more

-- where it is none of the braces that open, or at least not the 65th one
pub more : (n m : ℕ) (x : Lexeme) (rest : List Lexeme) (at : ℕ) →
    ((xs : List Lexeme) → IsFull m xs → IsFull n (x ∷ xs)) → ((xs : List Lexeme) → IsFull n (x ∷ xs) → IsFull m xs) → ((place : ℕ) → x ≡ Fixed k.OpenBrace place → IsFull n [] → ⊥) →
    OpensDeepFrom m rest at → OpensDeepFrom n (x ∷ rest) at
more n m x rest at up down here o = record {
  before = x ∷ o.before;
  behind = o.behind;
  split = ap (λ l. x ∷ l) o.split;
  full = up o.before o.full;
  first = first;
}
  where
    first : (earlier later : List Lexeme) (place : ℕ) → x ∷ o.before ≡ earlier ++ Fixed k.OpenBrace place ∷ later → IsFull n earlier → ⊥
    first [] later place e full = here place (cc) full
    first (y ∷ earlier) later place e full =
        let same : x ≡ y = cc in
        let rest_same : o.before ≡ earlier ++ Fixed k.OpenBrace place ∷ later = cc in
        o.first earlier later place rest_same (down earlier (subst (λ z. IsFull n (z ∷ earlier)) (sym same) full))

pub less : (n m : ℕ) (x : Lexeme) (rest : List Lexeme) (at : ℕ) →
    ((xs : List Lexeme) → IsFull m xs → IsFull n (x ∷ xs)) → ((xs : List Lexeme) → IsFull n (x ∷ xs) → IsFull m xs) → ((place : ℕ) → x ≡ Fixed k.OpenBrace place → IsFull n [] → ⊥) →
    OpensDeepFrom n (x ∷ rest) at → OpensDeepFrom m rest at
less n m x rest at up down here o = cases o.before o.behind o.split o.full o.first
  where
    cases : (before behind : List Lexeme) → x ∷ rest ≡ before ++ Fixed k.OpenBrace at ∷ behind → IsFull n before →
        ((earlier later : List Lexeme) (place : ℕ) → before ≡ earlier ++ Fixed k.OpenBrace place ∷ later → IsFull n earlier → ⊥) → OpensDeepFrom m rest at
    cases [] behind e full first = absurd (here at (cc) full)
    cases (y ∷ before) behind e full first =
        let same : x ≡ y = cc in
        let rest_same : rest ≡ before ++ Fixed k.OpenBrace at ∷ behind = cc in
        record {
          before = before;
          behind = behind;
          split = rest_same;
          full = down before (subst (λ z. IsFull n (z ∷ before)) (sym same) full);
          first = λ earlier later place e' full'.
              first (y ∷ earlier) later place (ap (λ l. y ∷ l) e') (subst (λ z. IsFull n (z ∷ earlier)) same (up earlier full'));
        }

-- ---- phrases

-- So many braces are open before the phrase, and so many behind it. It opens no block where 65 are.
pub record Keeps (n m : ℕ) (p : Phrase) : Type 0 where
  pub up : (b a : List Lexeme) → p b a → (at : ℕ) → OpensDeepFrom m a at → OpensDeepFrom n b at
  pub down : (b a : List Lexeme) → p b a → (at : ℕ) → OpensDeepFrom n b at → OpensDeepFrom m a at

infixr 10 ◌then◌
pub ◌then◌ : {n m l : ℕ} {p q : Phrase} → Keeps n m p → Keeps m l q → Keeps n l (p >> q)
x then y = record {
  up = λ b a h at o. x.up b h.0 h.1 at (y.up h.0 a h.2 at o);
  down = λ b a h at o. y.down h.0 a h.2 at (x.down b h.0 h.1 at o);
}

-- a lexeme that is no brace
abbrev IsPlain : Lexeme → Type 0
IsPlain x = (is_opening x ≡ false) × (is_closing x ≡ false)

plain_up : (n : ℕ) (x : Lexeme) → IsPlain x → (xs : List Lexeme) → IsFull n xs → IsFull n (x ∷ xs)
plain_up n x h xs full = let a = h.0 in let b = h.1 in rw (a, b) (omega arith)

plain_down : (n : ℕ) (x : Lexeme) → IsPlain x → (xs : List Lexeme) → IsFull n (x ∷ xs) → IsFull n xs
plain_down n x h xs full = let a = h.0 in let b = h.1 in let full' = rw (a, b) at full in omega arith

plain_here : (n : ℕ) (x : Lexeme) → IsPlain x → (place : ℕ) → x ≡ Fixed k.OpenBrace place → IsFull n [] → ⊥
plain_here n x h place e full = let wrong = ap is_opening e in let a = h.0 in cc

plain : (n : ℕ) (x : Lexeme) (b a : List Lexeme) → IsPlain x → b ≡ x ∷ a → (at : ℕ) → OpensDeepFrom n a at → OpensDeepFrom n b at
plain n x b a h e at o = subst (λ l. OpensDeepFrom n l at) (sym e) (more n n x a at (plain_up n x h) (plain_down n x h) (plain_here n x h) o)

plainly : (n : ℕ) (x : Lexeme) (b a : List Lexeme) → IsPlain x → b ≡ x ∷ a → (at : ℕ) → OpensDeepFrom n b at → OpensDeepFrom n a at
plainly n x b a h e at o = less n n x a at (plain_up n x h) (plain_down n x h) (plain_here n x h) (subst (λ l. OpensDeepFrom n l at) e o)

pub nothing : (n : ℕ) → Keeps n n g.nothing
nothing n = record {
  up = λ b a e at o. subst (λ l. OpensDeepFrom n l at) (sym e) o;
  down = λ b a e at o. subst (λ l. OpensDeepFrom n l at) e o;
}

never : (n m : ℕ) → Keeps n m g.never
never n m = record { up = λ b a h. absurd h; down = λ b a h. absurd h }

pub marked : (n : ℕ) (kind : TokenKind) → ((at : ℕ) → IsPlain (Fixed kind at)) → Keeps n n (g.mark kind)
marked n kind h = record {
  up = λ b a d. plain n (Fixed kind d.0) b a (h d.0) d.1;
  down = λ b a d. plainly n (Fixed kind d.0) b a (h d.0) d.1;
}

pub named : (n : ℕ) (x : Name) → Keeps n n (g.name SamePlace x)
named n x = record {
  up = λ b a d. plain n (Named x.text d.0) b a (refl, refl) d.2;
  down = λ b a d. plainly n (Named x.text d.0) b a (refl, refl) d.2;
}

pub numbered : (n : ℕ) (x : Num) → Keeps n n (g.number SamePlace x)
numbered n x = record {
  up = λ b a d. plain n (Numbered x.value d.0) b a (refl, refl) d.2;
  down = λ b a d. plainly n (Numbered x.value d.0) b a (refl, refl) d.2;
}

pub valued : (n : ℕ) (o : Operand) → Keeps n n (g.value SamePlace o)
valued n (operand.Name x) = named n x
valued n (operand.Num x) = numbered n x

begun : (n place : ℕ) → Keeps n n (g.begins_at SamePlace place)
begun n place = record {
  up = λ b a d at o. subst (λ l. OpensDeepFrom n l at) (sym d.4) o;
  down = λ b a d at o. subst (λ l. OpensDeepFrom n l at) d.4 o;
}

-- ---- braces

count_cons : (p : Lexeme → Bool) (x : Lexeme) (xs : List Lexeme) → count_by p (x ∷ xs) ≡ cond (p x) 1 0 + count_by p xs
count_cons p x xs = sum_by-cons (λ y. cond (p y) 1 0) x xs

opened_up : (n p : ℕ) (xs : List Lexeme) → IsFull (n + 1) xs → IsFull n (Fixed k.OpenBrace p ∷ xs)
opened_up n p xs full =
    let openings : count_by is_opening (Fixed k.OpenBrace p ∷ xs) ≡ 1 + count_by is_opening xs = count_cons is_opening (Fixed k.OpenBrace p) xs in
    let closings : count_by is_closing (Fixed k.OpenBrace p ∷ xs) ≡ 0 + count_by is_closing xs = count_cons is_closing (Fixed k.OpenBrace p) xs in
    omega arith

opened_down : (n p : ℕ) (xs : List Lexeme) → IsFull n (Fixed k.OpenBrace p ∷ xs) → IsFull (n + 1) xs
opened_down n p xs full =
    let openings : count_by is_opening (Fixed k.OpenBrace p ∷ xs) ≡ 1 + count_by is_opening xs = count_cons is_opening (Fixed k.OpenBrace p) xs in
    let closings : count_by is_closing (Fixed k.OpenBrace p ∷ xs) ≡ 0 + count_by is_closing xs = count_cons is_closing (Fixed k.OpenBrace p) xs in
    omega arith

opened_here : (n p : ℕ) → n ≢ 65 → (place : ℕ) → Fixed k.OpenBrace p ≡ Fixed k.OpenBrace place → IsFull n [] → ⊥
opened_here n p few place e full = few (omega arith)

pub opened : (n : ℕ) → n ≢ 65 → Keeps n (n + 1) (g.mark k.OpenBrace)
opened n few = record {
  up = λ b a d at o. subst (λ l. OpensDeepFrom n l at) (sym d.1) (more n (n + 1) (Fixed k.OpenBrace d.0) a at (opened_up n d.0) (opened_down n d.0) (opened_here n d.0 few) o);
  down = λ b a d at o. less n (n + 1) (Fixed k.OpenBrace d.0) a at (opened_up n d.0) (opened_down n d.0) (opened_here n d.0 few) (subst (λ l. OpensDeepFrom n l at) d.1 o);
}

closed_up : (n p : ℕ) (xs : List Lexeme) → IsFull n xs → IsFull (n + 1) (Fixed k.CloseBrace p ∷ xs)
closed_up n p xs full =
    let openings : count_by is_opening (Fixed k.CloseBrace p ∷ xs) ≡ 0 + count_by is_opening xs = count_cons is_opening (Fixed k.CloseBrace p) xs in
    let closings : count_by is_closing (Fixed k.CloseBrace p ∷ xs) ≡ 1 + count_by is_closing xs = count_cons is_closing (Fixed k.CloseBrace p) xs in
    omega arith

closed_down : (n p : ℕ) (xs : List Lexeme) → IsFull (n + 1) (Fixed k.CloseBrace p ∷ xs) → IsFull n xs
closed_down n p xs full =
    let openings : count_by is_opening (Fixed k.CloseBrace p ∷ xs) ≡ 0 + count_by is_opening xs = count_cons is_opening (Fixed k.CloseBrace p) xs in
    let closings : count_by is_closing (Fixed k.CloseBrace p ∷ xs) ≡ 1 + count_by is_closing xs = count_cons is_closing (Fixed k.CloseBrace p) xs in
    omega arith

closed_here : (n p : ℕ) (place : ℕ) → Fixed k.CloseBrace p ≡ Fixed k.OpenBrace place → IsFull (n + 1) [] → ⊥
closed_here n p place e full = cc

closes : (n p : ℕ) (b a : List Lexeme) → b ≡ Fixed k.CloseBrace p ∷ a → (at : ℕ) → OpensDeepFrom n a at → OpensDeepFrom (n + 1) b at
closes n p b a e at o = subst (λ l. OpensDeepFrom (n + 1) l at) (sym e) (more (n + 1) n (Fixed k.CloseBrace p) a at (closed_up n p) (closed_down n p) (closed_here n p) o)

closes_back : (n p : ℕ) (b a : List Lexeme) → b ≡ Fixed k.CloseBrace p ∷ a → (at : ℕ) → OpensDeepFrom (n + 1) b at → OpensDeepFrom n a at
closes_back n p b a e at o = less (n + 1) n (Fixed k.CloseBrace p) a at (closed_up n p) (closed_down n p) (closed_here n p) (subst (λ l. OpensDeepFrom (n + 1) l at) e o)

pub closed : (n : ℕ) → Keeps (n + 1) n (g.mark k.CloseBrace)
closed n = record { up = λ b a d. closes n d.0 b a d.1; down = λ b a d. closes_back n d.0 b a d.1 }

pub closed_at : (n place : ℕ) → Keeps (n + 1) n (g.mark_at SamePlace k.CloseBrace place)
closed_at n place = record { up = λ b a d. closes n d.0 b a d.2; down = λ b a d. closes_back n d.0 b a d.2 }

-- a brace that opens where 65 are open
pub opens_here : (p : ℕ) (a : List Lexeme) → OpensDeepFrom 65 (Fixed k.OpenBrace p ∷ a) p
opens_here p a = record {
  before = [];
  behind = a;
  split = refl;
  full = omega arith;
  first = none;
}
  where
    none : (earlier later : List Lexeme) (place : ℕ) → [] ≡ earlier ++ Fixed k.OpenBrace place ∷ later → IsFull 65 earlier → ⊥
    none [] later place e full = cc
    none (x ∷ earlier) later place e full = cc

pub opens_nowhere : (n at : ℕ) → OpensDeepFrom n [] at → ⊥
opens_nowhere n at o = none o.before o.split
  where
    none : (before : List Lexeme) → [] ≡ before ++ Fixed k.OpenBrace at ∷ o.behind → ⊥
    none [] e = cc
    none (x ∷ before) e = cc

-- ---- lists

pub each : {X : Type 0} (n : ℕ) (p : X → Phrase) → ((x : X) → Keeps n n (p x)) → (xs : List X) → Keeps n n (g.each p xs)
each n p h [] = nothing n
each n p h (x ∷ xs) = h x then each n p h xs

some : {X : Type 0} (n : ℕ) (p : X → Phrase) → ((x : X) → Keeps n n (p x)) → (xs : List X) → Keeps n n (g.some p xs)
some n p h [] = never n n
some n p h (x ∷ xs) = h x then each n p h xs

listed : {X : Type 0} (n : ℕ) (p : X → Phrase) → ((x : X) → Keeps n n (p x)) → (xs : List X) → Keeps n n (g.listed p xs)
listed n p h [] = never n n
listed n p h (x ∷ xs) = h x then each n (λ y. g.mark k.Comma >> p y) (λ y. marked n k.Comma (λ at. (refl, refl)) then h y) xs

-- ---- tables

item_offset : (n : ℕ) (o : Option Num) → Keeps n n (g.item_offset SamePlace o)
item_offset n None = nothing n
item_offset n (Some x) = numbered n x then marked n k.Colon (λ at. (refl, refl))

item : (n : ℕ) (i : Item) → Keeps n n (g.item SamePlace i)
item n i = item_offset n i.at then numbered n i.word

contents : (items : List Item) → Keeps 0 0 (g.contents SamePlace items)
contents [] = nothing 0
contents (i ∷ items) =
    marked 0 k.Equals (λ at. (refl, refl)) then (opened 0 (λ e. omega arith) then (listed 1 (g.item SamePlace) (item 1) (i ∷ items) then closed 0))

access : (w : Bool) → Keeps 0 0 (g.mark (g.access_mark w))
access true = marked 0 k.Rw (λ at. (refl, refl))
access false = marked 0 k.Ro (λ at. (refl, refl))

pub table : (t : Table) → Keeps 0 0 (g.table SamePlace t)
table t =
    marked 0 k.Table (λ at. (refl, refl)) then (named 0 t.name then (marked 0 k.OpenBracket (λ at. (refl, refl)) then (numbered 0 t.length then (marked 0 k.CloseBracket (λ at. (refl, refl))
    then (access t.writable then (contents t.items then marked 0 k.Semicolon (λ at. (refl, refl))))))))

-- ---- statements

pub argument : (n : ℕ) (x : Name) → Keeps n n (g.argument SamePlace x)
argument n x = marked n k.Arg (λ at. (refl, refl)) then (named n x then marked n k.Semicolon (λ at. (refl, refl)))

first_value : (n : ℕ) (o : Option Num) → Keeps n n (g.first_value SamePlace o)
first_value n None = nothing n
first_value n (Some x) = marked n k.Equals (λ at. (refl, refl)) then numbered n x

pub variable : (n : ℕ) (v : VarDecl) → Keeps n n (g.variable SamePlace v)
variable n v = marked n k.Var (λ at. (refl, refl)) then (named n v.name then (first_value n v.first then marked n k.Semicolon (λ at. (refl, refl))))

slot : (n : ℕ) (t : Name) (o : Operand) → Keeps n n (g.slot SamePlace t o)
slot n t o = named n t then (marked n k.OpenBracket (λ at. (refl, refl)) then (valued n o then marked n k.CloseBracket (λ at. (refl, refl))))

pub test : (n : ℕ) (w : Bool) → Keeps n n (g.mark (g.test_mark w))
test n true = marked n k.DoubleEquals (λ at. (refl, refl))
test n false = marked n k.Tilde (λ at. (refl, refl))

module _ (n : ℕ) (block : List Stmt → Phrase) (blocks : (xs : List Stmt) → Keeps n n (block xs)) where
  ended : Keeps n n (g.mark k.Semicolon)
  ended = marked n k.Semicolon (λ at. (refl, refl))

  pub otherwise : (xs : List Stmt) → Keeps n n (g.otherwise SamePlace block xs)
  otherwise [] = record {
    up = λ b a d at o. elim d [ inl e ↦ (nothing n).up b a e at o | inr e ↦ (marked n k.Else (λ at. (refl, refl)) then blocks []).up b a e at o ];
    down = λ b a d at o. elim d [ inl e ↦ (nothing n).down b a e at o | inr e ↦ (marked n k.Else (λ at. (refl, refl)) then blocks []).down b a e at o ];
  }
  otherwise (x ∷ xs) = marked n k.Else (λ at. (refl, refl)) then blocks (x ∷ xs)

  pub form : (layer : StmtKind-F StmtKind Stmt) → Keeps n n (g.form SamePlace block layer)
  unfolding g.form
  form (StmtKind-F.Move to from) = named n to then (marked n k.Equals (λ at. (refl, refl)) then (valued n from then ended))
  form (StmtKind-F.Add to by) = named n to then (marked n k.PlusEquals (λ at. (refl, refl)) then (valued n by then ended))
  form (StmtKind-F.Load to t offset) = named n to then (marked n k.Equals (λ at. (refl, refl)) then (slot n t offset then ended))
  form (StmtKind-F.Store t offset from) = slot n t offset then (marked n k.Equals (λ at. (refl, refl)) then (valued n from then ended))
  form (StmtKind-F.If wide left right then_do else_do) =
      marked n k.If (λ at. (refl, refl)) then (valued n left then (test n wide then (valued n right then (blocks then_do then otherwise else_do))))
  form (StmtKind-F.Loop body) = marked n k.Loop (λ at. (refl, refl)) then blocks body
  form (StmtKind-F.Repeat count body) = marked n k.Repeat (λ at. (refl, refl)) then (numbered n count then blocks body)
  form StmtKind-F.Break = marked n k.Break (λ at. (refl, refl)) then ended
  form (StmtKind-F.Lookup to t offset key probes) =
      marked n k.Lookup (λ at. (refl, refl)) then (named n to then (marked n k.Equals (λ at. (refl, refl)) then (slot n t offset then (marked n k.Key (λ at. (refl, refl)) then (valued n key
      then (marked n k.Probes (λ at. (refl, refl)) then (numbered n probes then ended)))))))
  form (StmtKind-F.Walk to t offset key nodes) =
      marked n k.Walk (λ at. (refl, refl)) then (named n to then (marked n k.Equals (λ at. (refl, refl)) then (slot n t offset then (marked n k.Key (λ at. (refl, refl)) then (valued n key
      then (marked n k.Nodes (λ at. (refl, refl)) then (numbered n nodes then ended)))))))
  form (StmtKind-F.Reply ws) = marked n k.Reply (λ at. (refl, refl)) then (listed n (g.value SamePlace) (valued n) ws then ended)

  pub statement : (s : Stmt) → Keeps n n (g.statement SamePlace block s)
  statement s = begun n s.at then form (out-StmtKind s.kind)

-- a block in which so many blocks may still be nested
pub block : (n d : ℕ) → n + d ≤ 65 → (xs : List Stmt) → Keeps n n (g.block_within SamePlace d xs)
block n zero h xs = never n n
block n (suc d) h xs =
    opened n (λ e. omega arith) then (each (n + 1) (g.statement SamePlace (g.block_within SamePlace d)) (statement (n + 1) (g.block_within SamePlace d) (block (n + 1) d (omega arith))) xs then closed n)

pub opening : (o : Option Num) → Keeps 0 1 (g.opening SamePlace o)
opening None = opened 0 (λ e. omega arith)
opening (Some x) = marked 0 k.Serve (λ at. (refl, refl)) then (numbered 0 x then opened 0 (λ e. omega arith))

pub chain : (c : Chain) → Keeps 0 0 (g.chain_within SamePlace 64 c)
chain c =
    marked 0 k.Chain (λ at. (refl, refl)) then (named 0 c.name then (opening c.serve then (each 1 (g.argument SamePlace) (argument 1) c.args then (each 1 (g.variable SamePlace) (variable 1) c.vars
    then (each 1 (g.statement SamePlace (g.block_within SamePlace 64)) (statement 1 (g.block_within SamePlace 64) (block 1 64 (omega arith))) c.body then closed_at 0 c.close)))))

pub tables : (ts : List Table) → Keeps 0 0 (g.each (g.table SamePlace) ts)
tables ts = each 0 (g.table SamePlace) table ts

pub chains : (cs : List Chain) → Keeps 0 0 (g.each (g.chain_within SamePlace 64) cs)
chains cs = each 0 (g.chain_within SamePlace 64) chain cs

pub file : (f : File) → Keeps 0 0 (g.file_within SamePlace 64 f)
file f = tables f.tables then some 0 (g.chain_within SamePlace 64) chain f.chains

-- a file within 64 blocks opens none that is deeper
pub shallow : (f : File) (lexemes : List Lexeme) (at : ℕ) → g.file_within SamePlace 64 f lexemes [] → OpensDeepFrom 0 lexemes at → ⊥
shallow f lexemes at h o = opens_nowhere 0 at ((file f).down lexemes [] h at o)
