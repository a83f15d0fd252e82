-- Which statement the next lexemes may begin.
use Rattle.std.proofs.Common.{arith, ◌≡◌, ◌≢◌, ℕ, Bool, List, ◌∷◌, Some, sym, refl, ap, ◌∙◌, subst}
use Rattle.redn_syntax.specs.declared.token.TokenKind.TheVariants as k
use Rattle.redn_syntax.specs.declared.tree.Name.{Name}
use Rattle.redn_syntax.specs.declared.tree.Num.{Num}
use Rattle.redn_syntax.specs.declared.tree.Operand.{Operand}
use Rattle.redn_syntax.specs.declared.tree.Stmt.{Stmt}
use Rattle.redn_syntax.specs.declared.tree.StmtKind.{StmtKind, out-StmtKind}
use Rattle.redn_syntax.specs.declared.tree.StmtKind.TheOpen.{StmtKind-F}
use Rattle.redn_syntax.specs.Lexemes.{Lexeme, Fixed, Named}
use Rattle.redn_syntax.specs.Grammar as g
use Rattle.redn_syntax.specs.Grammar.{Phrase, ◌>>◌, SamePlace}
use Rattle.redn_parse.specs.Lookahead.{kind_at, IsSlot}
use Rattle.redn_parse.specs.Reads.{HasNone, form, with_mark, slot}
use Rattle.redn_parse.proofs.Same.{names, marks, ◌and◌}
use Rattle.redn_parse.proofs.Trees.{Layer, sort_at, sort_of, form_sort, behind_value}

-- no statement begins here
abbrev pub NoForm : List Lexeme → Type 0
NoForm b = HasNone (λ (p : ℕ × StmtKind). form p.0 p.1) b

-- a statement of this layer
abbrev pub read_at : ℕ → Layer → Phrase
read_at d layer = g.form SamePlace (g.block_within SamePlace d) layer

pub no_form : (b : List Lexeme) → ((d : ℕ) (layer : Layer) (after : List Lexeme) → read_at d layer b after → ⊥) → NoForm b
no_form b f = record { rejects = λ p after h. f p.0 (out-StmtKind p.1) after h }

-- where the next lexemes are those of one sort of statement
sorted : (n m d : ℕ) (layer : Layer) (b after : List Lexeme) → sort_at b ≡ n → read_at d layer b after → sort_of layer ≡ m → n ≡ m
sorted n m d layer b after e h f = sym e ∙ form_sort (g.block_within SamePlace d) layer b after h ∙ f

pub sum_sort : (b : List Lexeme) → kind_at 0 b ≡ Some k.Name → kind_at 1 b ≡ Some k.PlusEquals → sort_at b ≡ 1
sum_sort b e e' = rw (e, e') refl

pub store_sort : (b : List Lexeme) → kind_at 0 b ≡ Some k.Name → kind_at 1 b ≡ Some k.OpenBracket → sort_at b ≡ 2
store_sort b e e' = rw (e, e') refl

pub no_sum : (b : List Lexeme) → sort_at b ≡ 1 → ((d : ℕ) (to : Name) (by : Operand) (after : List Lexeme) → read_at d (StmtKind-F.Add to by) b after → ⊥) → NoForm b
no_sum b e f = no_form b cases
  where
    cases : (d : ℕ) (layer : Layer) (after : List Lexeme) → read_at d layer b after → ⊥
    cases d (StmtKind-F.Add to by) after h = f d to by after h
    cases d layer after h = let wrong = sorted 1 (sort_of layer) d layer b after e h refl in omega arith

pub no_store : (b : List Lexeme) → sort_at b ≡ 2 → ((d : ℕ) (t : Name) (offset from : Operand) (after : List Lexeme) → read_at d (StmtKind-F.Store t offset from) b after → ⊥) → NoForm b
no_store b e f = no_form b cases
  where
    cases : (d : ℕ) (layer : Layer) (after : List Lexeme) → read_at d layer b after → ⊥
    cases d (StmtKind-F.Store t offset from) after h = f d t offset from after h
    cases d layer after h = let wrong = sorted 2 (sort_of layer) d layer b after e h refl in omega arith

pub no_if : (b : List Lexeme) → kind_at 0 b ≡ Some k.If → ((d : ℕ) (wide : Bool) (left right : Operand) (yes_body no_body : List Stmt) (after : List Lexeme) → read_at d (StmtKind-F.If wide left right yes_body no_body) b after → ⊥) → NoForm b
no_if b e f = no_form b cases
  where
    cases : (d : ℕ) (layer : Layer) (after : List Lexeme) → read_at d layer b after → ⊥
    cases d (StmtKind-F.If wide left right yes_body no_body) after h = f d wide left right yes_body no_body after h
    cases d layer after h = let wrong = sorted 5 (sort_of layer) d layer b after (rw e refl) h refl in omega arith

pub no_loop : (b : List Lexeme) → kind_at 0 b ≡ Some k.Loop → ((d : ℕ) (body : List Stmt) (after : List Lexeme) → read_at d (StmtKind-F.Loop body) b after → ⊥) → NoForm b
no_loop b e f = no_form b cases
  where
    cases : (d : ℕ) (layer : Layer) (after : List Lexeme) → read_at d layer b after → ⊥
    cases d (StmtKind-F.Loop body) after h = f d body after h
    cases d layer after h = let wrong = sorted 6 (sort_of layer) d layer b after (rw e refl) h refl in omega arith

pub no_repeat : (b : List Lexeme) → kind_at 0 b ≡ Some k.Repeat → ((d : ℕ) (count : Num) (body : List Stmt) (after : List Lexeme) → read_at d (StmtKind-F.Repeat count body) b after → ⊥) → NoForm b
no_repeat b e f = no_form b cases
  where
    cases : (d : ℕ) (layer : Layer) (after : List Lexeme) → read_at d layer b after → ⊥
    cases d (StmtKind-F.Repeat count body) after h = f d count body after h
    cases d layer after h = let wrong = sorted 7 (sort_of layer) d layer b after (rw e refl) h refl in omega arith

pub no_break : (b : List Lexeme) → kind_at 0 b ≡ Some k.Break → ((d : ℕ) (after : List Lexeme) → read_at d StmtKind-F.Break b after → ⊥) → NoForm b
no_break b e f = no_form b cases
  where
    cases : (d : ℕ) (layer : Layer) (after : List Lexeme) → read_at d layer b after → ⊥
    cases d StmtKind-F.Break after h = f d after h
    cases d layer after h = let wrong = sorted 8 (sort_of layer) d layer b after (rw e refl) h refl in omega arith

pub no_lookup : (b : List Lexeme) → kind_at 0 b ≡ Some k.Lookup → ((d : ℕ) (to t : Name) (offset key : Operand) (bound : Num) (after : List Lexeme) → read_at d (StmtKind-F.Lookup to t offset key bound) b after → ⊥) → NoForm b
no_lookup b e f = no_form b cases
  where
    cases : (d : ℕ) (layer : Layer) (after : List Lexeme) → read_at d layer b after → ⊥
    cases d (StmtKind-F.Lookup to t offset key bound) after h = f d to t offset key bound after h
    cases d layer after h = let wrong = sorted 9 (sort_of layer) d layer b after (rw e refl) h refl in omega arith

pub no_walk : (b : List Lexeme) → kind_at 0 b ≡ Some k.Walk → ((d : ℕ) (to t : Name) (offset key : Operand) (bound : Num) (after : List Lexeme) → read_at d (StmtKind-F.Walk to t offset key bound) b after → ⊥) → NoForm b
no_walk b e f = no_form b cases
  where
    cases : (d : ℕ) (layer : Layer) (after : List Lexeme) → read_at d layer b after → ⊥
    cases d (StmtKind-F.Walk to t offset key bound) after h = f d to t offset key bound after h
    cases d layer after h = let wrong = sorted 10 (sort_of layer) d layer b after (rw e refl) h refl in omega arith

pub no_reply : (b : List Lexeme) → kind_at 0 b ≡ Some k.Reply → ((d : ℕ) (words : List Operand) (after : List Lexeme) → read_at d (StmtKind-F.Reply words) b after → ⊥) → NoForm b
no_reply b e f = no_form b cases
  where
    cases : (d : ℕ) (layer : Layer) (after : List Lexeme) → read_at d layer b after → ⊥
    cases d (StmtKind-F.Reply words) after h = f d words after h
    cases d layer after h = let wrong = sorted 11 (sort_of layer) d layer b after (rw e refl) h refl in omega arith

-- ---- `x = a;` and `x = t[a];`

-- what begins with a name, and goes on neither as a sum nor as a store
pub no_assignment : (b : List Lexeme) → kind_at 0 b ≡ Some k.Name → kind_at 1 b ≢ Some k.PlusEquals → kind_at 1 b ≢ Some k.OpenBracket →
    ((to : Name) (from : Operand) (after : List Lexeme) → (g.name SamePlace to >> (g.mark k.Equals >> (g.value SamePlace from >> g.mark k.Semicolon))) b after → ⊥) →
    ((to t : Name) (offset : Operand) (after : List Lexeme) → (g.name SamePlace to >> (g.mark k.Equals >> (g.slot SamePlace t offset >> g.mark k.Semicolon))) b after → ⊥) → NoForm b
unfolding g.form
no_assignment b first second second' f f' = no_form b cases
  where
    cases : (d : ℕ) (layer : Layer) (after : List Lexeme) → read_at d layer b after → ⊥
    cases d (StmtKind-F.Move to from) after h = f to from after h
    cases d (StmtKind-F.Load to t offset) after h = f' to t offset after h
    cases d (StmtKind-F.Add to by) after (m1, (p, _, e1), (m2, (q, e2), rest)) =
        let e : b ≡ Named to.text p ∷ Fixed k.PlusEquals q ∷ m2 = cc (e1, e2) in second (ap (kind_at 1) e)
    cases d (StmtKind-F.Store t offset from) after (m1, (m2, (p, _, e1), (m3, (q, e2), _)), _) =
        let e : b ≡ Named t.text p ∷ Fixed k.OpenBracket q ∷ m3 = cc (e1, e2) in second' (ap (kind_at 1) e)
    cases d (StmtKind-F.If wide left right yes_body no_body) after (m, (p, e), _) = let kind = ap (kind_at 0) e in cc
    cases d (StmtKind-F.Loop body) after (m, (p, e), _) = let kind = ap (kind_at 0) e in cc
    cases d (StmtKind-F.Repeat count body) after (m, (p, e), _) = let kind = ap (kind_at 0) e in cc
    cases d StmtKind-F.Break after (m, (p, e), _) = let kind = ap (kind_at 0) e in cc
    cases d (StmtKind-F.Lookup to t offset key bound) after (m, (p, e), _) = let kind = ap (kind_at 0) e in cc
    cases d (StmtKind-F.Walk to t offset key bound) after (m, (p, e), _) = let kind = ap (kind_at 0) e in cc
    cases d (StmtKind-F.Reply words) after (m, (p, e), _) = let kind = ap (kind_at 0) e in cc

pub slot_ahead : (t : Name) (offset : Operand) (b r : List Lexeme) → g.slot SamePlace t offset b r → IsSlot b
slot_ahead t offset b r (m, (p, _, e), (n, (q, e'), _)) =
    let same : b ≡ Named t.text p ∷ Fixed k.OpenBracket q ∷ n = cc (e, e') in
    (ap (kind_at 0) same, ap (kind_at 1) same)

value_ahead : (o : Operand) (b m r : List Lexeme) → g.value SamePlace o b m → g.mark k.Semicolon m r → kind_at 1 b ≡ Some k.OpenBracket → ⊥
value_ahead o b m r h c ahead =
    let x = behind_value o b m h in
    let e : b ≡ x.0 ∷ Fixed k.Semicolon c.0 ∷ r = cc (x.1, c.1) in
    let kind = ap (kind_at 1) e in
    cc

module _ (b m : List Lexeme) (first : kind_at 0 b ≡ Some k.Name) (second : kind_at 1 b ≢ Some k.PlusEquals) (second' : kind_at 1 b ≢ Some k.OpenBracket)
    (to : Name) (h : with_mark (g.name SamePlace) k.Equals to b m) where
  behind_equals : (to' : Name) (n : List Lexeme) → with_mark (g.name SamePlace) k.Equals to' b n → m ≡ n
  behind_equals to' n h' = ((names to to' and marks k.Equals).joins b b m n refl h h' refl refl).1

  -- a place in a table is wanted
  pub no_load : IsSlot m → HasNone (with_mark slot k.Semicolon) m → NoForm b
  no_load ahead none = no_assignment b first second second'
      (λ to' from after d. let same = behind_equals to' d.2.0 (d.0, d.1, d.2.1) in value_ahead from d.2.0 d.2.2.0 after d.2.2.1 d.2.2.2 (subst (λ l. kind_at 1 l ≡ Some k.OpenBracket) same ahead.1))
      (λ to' t offset after d. let same = behind_equals to' d.2.0 (d.0, d.1, d.2.1) in none.rejects (t, offset) after (subst (λ l. with_mark slot k.Semicolon (t, offset) l after) (sym same) d.2.2))

  -- a variable or a number is wanted
  pub no_move : (IsSlot m → ⊥) → HasNone (with_mark (g.value SamePlace) k.Semicolon) m → NoForm b
  no_move ahead none = no_assignment b first second second'
      (λ to' from after d. let same = behind_equals to' d.2.0 (d.0, d.1, d.2.1) in none.rejects from after (subst (λ l. with_mark (g.value SamePlace) k.Semicolon from l after) (sym same) d.2.2))
      (λ to' t offset after d. let same = behind_equals to' d.2.0 (d.0, d.1, d.2.1) in ahead (subst IsSlot (sym same) (slot_ahead t offset d.2.0 d.2.2.0 d.2.2.1)))

  -- neither is there
  pub no_read : ((from : Operand) (after : List Lexeme) → with_mark (g.value SamePlace) k.Semicolon from m after → ⊥) → ((t : Name) (offset : Operand) (after : List Lexeme) → with_mark slot k.Semicolon (t, offset) m after → ⊥) → NoForm b
  no_read f f' = no_assignment b first second second'
      (λ to' from after d. let same = behind_equals to' d.2.0 (d.0, d.1, d.2.1) in f from after (subst (λ l. with_mark (g.value SamePlace) k.Semicolon from l after) (sym same) d.2.2))
      (λ to' t offset after d. let same = behind_equals to' d.2.0 (d.0, d.1, d.2.1) in f' t offset after (subst (λ l. with_mark slot k.Semicolon (t, offset) l after) (sym same) d.2.2))
