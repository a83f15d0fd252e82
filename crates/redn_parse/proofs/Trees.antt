-- Two readings of a statement, a block, a chain or a file are one.
use Rattle.std.proofs.Common.{arith, ◌≡◌, ℕ, zero, suc, inl, inr, true, false, not, List, [], ◌∷◌, Option, Some, None, sym, refl, ap, ◌∙◌, subst}
use Rattle.redn_syntax.specs.declared.token.Token.{Token}
use Rattle.redn_syntax.specs.declared.token.TokenKind.{TokenKind}
use Rattle.redn_syntax.specs.declared.token.TokenKind.TheVariants as k
use Rattle.redn_syntax.specs.declared.tree.Name.{Name}
use Rattle.redn_syntax.specs.declared.tree.Operand.{Operand}
use Rattle.redn_syntax.specs.declared.tree.Operand.TheVariants as operand
use Rattle.redn_syntax.specs.declared.tree.Table.{Table}
use Rattle.redn_syntax.specs.declared.tree.VarDecl.{VarDecl}
use Rattle.redn_syntax.specs.declared.tree.Chain.{Chain}
use Rattle.redn_syntax.specs.declared.tree.File.{File}
use Rattle.redn_syntax.specs.declared.tree.Stmt.{Stmt}
use Rattle.redn_syntax.specs.declared.tree.StmtKind.{StmtKind, out-StmtKind, roll-StmtKind, roll-out-StmtKind}
use Rattle.redn_syntax.specs.declared.tree.StmtKind.TheOpen.{StmtKind-F}
use Rattle.redn_syntax.specs.Lexemes.{Lexeme, Fixed, Named, Numbered, place_of, lexemes_of}
use Rattle.redn_syntax.specs.Grammar as g
use Rattle.redn_syntax.specs.Grammar.{Phrase, ◌>>◌, SamePlace, HasTree}
use Rattle.redn_parse.specs.Lookahead.{kind_at}
use Rattle.redn_parse.specs.Reads.{with_mark}
use Rattle.redn_parse.proofs.Same.{Ahead, Sees, anything, Same, Begins, weaken, anywhere, ◌and◌, before, marks, past, names, numbers, values, tests, lists, listed, no_else, no_table, no_argument, no_variable, closes, ends, is_end, starts, begins_mark, begins_close, begins_each, begins_weaker, closed, tables, arguments, variables, openings}

abbrev pub Layer : Type 0
Layer = StmtKind-F StmtKind Stmt

-- a phrase that begins with a value has one lexeme before the rest
pub behind_value : (o : Operand) (b r : List Lexeme) → g.value SamePlace o b r → (x : Lexeme) × (b ≡ x ∷ r)
behind_value (operand.Name n) b r h = (Named n.text h.0, h.2)
behind_value (operand.Num n) b r h = (Numbered n.value h.0, h.2)

-- ---- which statement begins with these kinds of lexeme: the first, the second and the fourth

abbrev pub sort : Option TokenKind → Option TokenKind → Option TokenKind → ℕ
sort (Some k.Name) (Some k.PlusEquals) fourth = 1
sort (Some k.Name) (Some k.OpenBracket) fourth = 2
sort (Some k.Name) second (Some k.OpenBracket) = 3
sort (Some k.Name) second fourth = 4
sort (Some k.If) second fourth = 5
sort (Some k.Loop) second fourth = 6
sort (Some k.Repeat) second fourth = 7
sort (Some k.Break) second fourth = 8
sort (Some k.Lookup) second fourth = 9
sort (Some k.Walk) second fourth = 10
sort (Some k.Reply) second fourth = 11
sort first second fourth = 0

abbrev pub sort_at : List Lexeme → ℕ
sort_at b = sort (kind_at 0 b) (kind_at 1 b) (kind_at 3 b)

abbrev pub sort_of : Layer → ℕ
sort_of (StmtKind-F.Add to by) = 1
sort_of (StmtKind-F.Store t offset from) = 2
sort_of (StmtKind-F.Load to t offset) = 3
sort_of (StmtKind-F.Move to from) = 4
sort_of (StmtKind-F.If wide left right then_do else_do) = 5
sort_of (StmtKind-F.Loop body) = 6
sort_of (StmtKind-F.Repeat count body) = 7
sort_of StmtKind-F.Break = 8
sort_of (StmtKind-F.Lookup to t offset key probes) = 9
sort_of (StmtKind-F.Walk to t offset key nodes) = 10
sort_of (StmtKind-F.Reply words) = 11

pub form_sort : (block : List Stmt → Phrase) (layer : Layer) (b r : List Lexeme) → g.form SamePlace block layer b r → sort_at b ≡ sort_of layer
unfolding g.form
form_sort block (StmtKind-F.Move to from) b r (m1, (p, _, e1), (m2, (q, e2), (m3, v, (s, e4)))) =
    let x = behind_value from m2 m3 v in
    let e : b ≡ Named to.text p ∷ Fixed k.Equals q ∷ x.0 ∷ Fixed k.Semicolon s ∷ r = cc (e1, e2, x.1, e4) in
    ap sort_at e
form_sort block (StmtKind-F.Add to by) b r (m1, (p, _, e1), (m2, (q, e2), rest)) =
    let e : b ≡ Named to.text p ∷ Fixed k.PlusEquals q ∷ m2 = cc (e1, e2) in ap sort_at e
form_sort block (StmtKind-F.Load to t offset) b r (m1, (p, _, e1), (m2, (q, e2), (m3, (m4, (u, _, e3), (m5, (w, e4), _)), _))) =
    let e : b ≡ Named to.text p ∷ Fixed k.Equals q ∷ Named t.text u ∷ Fixed k.OpenBracket w ∷ m5 = cc (e1, e2, e3, e4) in ap sort_at e
form_sort block (StmtKind-F.Store t offset from) b r (m1, (m2, (p, _, e1), (m3, (q, e2), _)), _) =
    let e : b ≡ Named t.text p ∷ Fixed k.OpenBracket q ∷ m3 = cc (e1, e2) in ap sort_at e
form_sort block (StmtKind-F.If wide left right then_do else_do) b r (m, (p, e), _) = ap sort_at e
form_sort block (StmtKind-F.Loop body) b r (m, (p, e), _) = ap sort_at e
form_sort block (StmtKind-F.Repeat count body) b r (m, (p, e), _) = ap sort_at e
form_sort block StmtKind-F.Break b r (m, (p, e), _) = ap sort_at e
form_sort block (StmtKind-F.Lookup to t offset key probes) b r (m, (p, e), _) = ap sort_at e
form_sort block (StmtKind-F.Walk to t offset key nodes) b r (m, (p, e), _) = ap sort_at e
form_sort block (StmtKind-F.Reply words) b r (m, (p, e), _) = ap sort_at e

-- ---- statements

pub slots : (t u : Name) (o p : Operand) → Same anything (g.slot SamePlace t o) (g.slot SamePlace u p) ((t ≡ u) × (o ≡ p))
slots t u o p = weaken (names t u and past k.OpenBracket (values o p and marks k.CloseBracket)) (λ e. (e.0, e.1.0))

ends_anything : (kind : Option TokenKind) → ends kind ≡ true → anything kind ≡ true
ends_anything kind h = refl

pub words : (xs ys : List Operand) → Same anything (with_mark (g.listed (g.value SamePlace)) k.Semicolon xs) (with_mark (g.listed (g.value SamePlace)) k.Semicolon ys) (xs ≡ ys)
words xs ys = closed ends k.Semicolon refl (listed (g.value SamePlace) anything ends values refl refl ends_anything xs ys)

module _ (block block' : List Stmt → Phrase) (blocks : (xs ys : List Stmt) → Same anything (block xs) (block' ys) (xs ≡ ys)) where
  no_else_ahead : (b : List Lexeme) (at : ℕ) (m : List Lexeme) → Sees no_else b → b ≡ Fixed k.Else at ∷ m → ⊥
  no_else_ahead b at m v e = let wrong : true ≡ false = sym v ∙ ap (λ l. no_else (kind_at 0 l)) e in cc

  pub otherwises : (xs ys : List Stmt) → Same no_else (g.otherwise SamePlace block xs) (g.otherwise SamePlace block' ys) (xs ≡ ys)
  otherwises xs ys = record { joins = joins xs ys }
    where
      joins : (xs ys : List Stmt) (b c r s : List Lexeme) → b ≡ c → g.otherwise SamePlace block xs b r → g.otherwise SamePlace block' ys c s → Sees no_else r → Sees no_else s → (xs ≡ ys) × (r ≡ s)
      joins [] [] b c r s e (inl h) (inl h') v w = (refl, sym h ∙ e ∙ h')
      joins [] [] b c r s e (inl h) (inr h') v w = absurd (no_else_ahead r h'.1.0 h'.0 v (sym h ∙ e ∙ h'.1.1))
      joins [] [] b c r s e (inr h) (inl h') v w = absurd (no_else_ahead s h.1.0 h.0 w (sym h' ∙ sym e ∙ h.1.1))
      joins [] [] b c r s e (inr h) (inr h') v w = (past k.Else (blocks [] [])).joins b c r s e h h' refl refl
      joins [] (y ∷ ys) b c r s e (inl h) h' v w = absurd (no_else_ahead r h'.1.0 h'.0 v (sym h ∙ e ∙ h'.1.1))
      joins [] (y ∷ ys) b c r s e (inr h) h' v w = (past k.Else (blocks [] (y ∷ ys))).joins b c r s e h h' refl refl
      joins (x ∷ xs) [] b c r s e h (inl h') v w = absurd (no_else_ahead s h.1.0 h.0 w (sym h' ∙ sym e ∙ h.1.1))
      joins (x ∷ xs) [] b c r s e h (inr h') v w = (past k.Else (blocks (x ∷ xs) [])).joins b c r s e h h' refl refl
      joins (x ∷ xs) (y ∷ ys) b c r s e h h' v w = (past k.Else (blocks (x ∷ xs) (y ∷ ys))).joins b c r s e h h' refl refl

  by_sort : {ahead : Ahead} (layer layer' : Layer) → (sort_of layer ≡ sort_of layer' → ⊥) → Same ahead (g.form SamePlace block layer) (g.form SamePlace block' layer') (layer ≡ layer')
  by_sort layer layer' differ = record {
    joins = λ b c r s e h h' v w. absurd (differ (sym (form_sort block layer b r h) ∙ ap sort_at e ∙ form_sort block' layer' c s h'));
  }

  -- a statement that is no `if` ends in one place
  pub plain_forms : (layer layer' : Layer) → (sort_of layer ≡ 5 → ⊥) → Same anything (g.form SamePlace block layer) (g.form SamePlace block' layer') (layer ≡ layer')
  unfolding g.form
  plain_forms (StmtKind-F.Move to from) (StmtKind-F.Move to' from') other =
      weaken (names to to' and past k.Equals (values from from' and marks k.Semicolon)) (λ e i. StmtKind-F.Move (e.0 i) (e.1.0 i))
  plain_forms (StmtKind-F.Add to by) (StmtKind-F.Add to' by') other =
      weaken (names to to' and past k.PlusEquals (values by by' and marks k.Semicolon)) (λ e i. StmtKind-F.Add (e.0 i) (e.1.0 i))
  plain_forms (StmtKind-F.Load to t offset) (StmtKind-F.Load to' t' offset') other =
      weaken (names to to' and past k.Equals (slots t t' offset offset' and marks k.Semicolon)) (λ e i. StmtKind-F.Load (e.0 i) (e.1.0.0 i) (e.1.0.1 i))
  plain_forms (StmtKind-F.Store t offset from) (StmtKind-F.Store t' offset' from') other =
      weaken (slots t t' offset offset' and past k.Equals (values from from' and marks k.Semicolon)) (λ e i. StmtKind-F.Store (e.0.0 i) (e.0.1 i) (e.1.0 i))
  plain_forms (StmtKind-F.If wide left right then_do else_do) (StmtKind-F.If wide' left' right' then_do' else_do') other = absurd (other refl)
  plain_forms (StmtKind-F.Loop body) (StmtKind-F.Loop body') other = weaken (past k.Loop (blocks body body')) (λ e i. StmtKind-F.Loop (e i))
  plain_forms (StmtKind-F.Repeat count body) (StmtKind-F.Repeat count' body') other =
      weaken (past k.Repeat (numbers count count' and blocks body body')) (λ e i. StmtKind-F.Repeat (e.0 i) (e.1 i))
  plain_forms StmtKind-F.Break StmtKind-F.Break other = weaken (past k.Break (marks k.Semicolon)) (λ e. refl)
  plain_forms (StmtKind-F.Lookup to t offset key probes) (StmtKind-F.Lookup to' t' offset' key' probes') other =
      weaken (past k.Lookup (names to to' and past k.Equals (slots t t' offset offset' and past k.Key (values key key' and past k.Probes (numbers probes probes' and marks k.Semicolon)))))
      (λ e i. StmtKind-F.Lookup (e.0 i) (e.1.0.0 i) (e.1.0.1 i) (e.1.1.0 i) (e.1.1.1.0 i))
  plain_forms (StmtKind-F.Walk to t offset key nodes) (StmtKind-F.Walk to' t' offset' key' nodes') other =
      weaken (past k.Walk (names to to' and past k.Equals (slots t t' offset offset' and past k.Key (values key key' and past k.Nodes (numbers nodes nodes' and marks k.Semicolon)))))
      (λ e i. StmtKind-F.Walk (e.0 i) (e.1.0.0 i) (e.1.0.1 i) (e.1.1.0 i) (e.1.1.1.0 i))
  plain_forms (StmtKind-F.Reply ws) (StmtKind-F.Reply ws') other = weaken (past k.Reply (words ws ws')) (λ e i. StmtKind-F.Reply (e i))
  plain_forms layer layer' other = by_sort layer layer' (λ e. omega arith)

  pub forms : (layer layer' : Layer) → Same no_else (g.form SamePlace block layer) (g.form SamePlace block' layer') (layer ≡ layer')
  unfolding g.form
  forms (StmtKind-F.If wide left right then_do else_do) (StmtKind-F.If wide' left' right' then_do' else_do') =
      weaken (past k.If (values left left' and (tests wide wide' and (values right right' and (blocks then_do then_do' and otherwises else_do else_do')))))
      (λ e i. StmtKind-F.If (e.1.0 i) (e.0 i) (e.1.1.0 i) (e.1.1.1.0 i) (e.1.1.1.1 i))
  forms (StmtKind-F.If wide left right then_do else_do) layer' = by_sort (StmtKind-F.If wide left right then_do else_do) layer' (λ e. omega arith)
  forms layer layer' = anywhere (plain_forms layer layer' (λ e. omega arith))

-- ---- blocks

starts_no_else : (kind : Option TokenKind) → starts kind ≡ true → no_else kind ≡ true
starts_no_else None h = refl
starts_no_else (Some k.Else) h = cc
starts_no_else (Some kind) h = refl

starts_no_close : (kind : Option TokenKind) → starts kind ≡ true → not (closes kind) ≡ true
starts_no_close None h = refl
starts_no_close (Some k.CloseBrace) h = cc
starts_no_close (Some kind) h = refl

closes_no_else : (kind : Option TokenKind) → closes kind ≡ true → no_else kind ≡ true
closes_no_else None h = refl
closes_no_else (Some k.Else) h = cc
closes_no_else (Some kind) h = refl

-- a statement begins with one of eight kinds
pub form_starts : (block : List Stmt → Phrase) (layer : Layer) (b r : List Lexeme) → g.form SamePlace block layer b r → Sees starts b
unfolding g.form
form_starts block (StmtKind-F.Move to from) b r (m, h, _) = ap (λ l. starts (kind_at 0 l)) h.2
form_starts block (StmtKind-F.Add to by) b r (m, h, _) = ap (λ l. starts (kind_at 0 l)) h.2
form_starts block (StmtKind-F.Load to t offset) b r (m, h, _) = ap (λ l. starts (kind_at 0 l)) h.2
form_starts block (StmtKind-F.Store t offset from) b r (m, (n, h, _), _) = ap (λ l. starts (kind_at 0 l)) h.2
form_starts block (StmtKind-F.If wide left right then_do else_do) b r (m, h, _) = ap (λ l. starts (kind_at 0 l)) h.1
form_starts block (StmtKind-F.Loop body) b r (m, h, _) = ap (λ l. starts (kind_at 0 l)) h.1
form_starts block (StmtKind-F.Repeat count body) b r (m, h, _) = ap (λ l. starts (kind_at 0 l)) h.1
form_starts block StmtKind-F.Break b r (m, h, _) = ap (λ l. starts (kind_at 0 l)) h.1
form_starts block (StmtKind-F.Lookup to t offset key probes) b r (m, h, _) = ap (λ l. starts (kind_at 0 l)) h.1
form_starts block (StmtKind-F.Walk to t offset key nodes) b r (m, h, _) = ap (λ l. starts (kind_at 0 l)) h.1
form_starts block (StmtKind-F.Reply ws) b r (m, h, _) = ap (λ l. starts (kind_at 0 l)) h.1

pub statement_starts : (block : List Stmt → Phrase) (s : Stmt) → Begins starts (g.statement SamePlace block s)
statement_starts block s = record {
  sees = λ b r h. subst (Sees starts) (sym h.1.4) (form_starts block (out-StmtKind s.kind) h.0 r h.2);
}

pub begun : (p q : ℕ) → Same anything (g.begins_at SamePlace p) (g.begins_at SamePlace q) (p ≡ q)
begun p q = record {
  joins = λ b c r s e h h' v w.
      let lexeme : h.0 ≡ h'.0 = cc in
      let place : place_of h.0 ≡ place_of h'.0 = ap place_of lexeme in
      let first : p ≡ place_of h.0 = h.3 in
      let second : q ≡ place_of h'.0 = h'.3 in
      (first ∙ place ∙ sym second, sym h.4 ∙ e ∙ h'.4);
}

pub kind_same : (x y : StmtKind) → out-StmtKind x ≡ out-StmtKind y → x ≡ y
kind_same x y e = sym (roll-out-StmtKind x) ∙ ap roll-StmtKind e ∙ roll-out-StmtKind y

pub statements : (block block' : List Stmt → Phrase) → ((xs ys : List Stmt) → Same anything (block xs) (block' ys) (xs ≡ ys)) → (s u : Stmt) → Same no_else (g.statement SamePlace block s) (g.statement SamePlace block' u) (s ≡ u)
statements block block' blocks s u =
    weaken (begun s.at u.at and forms block block' blocks (out-StmtKind s.kind) (out-StmtKind u.kind))
    (λ e. let kind = kind_same s.kind u.kind e.1 in λ i. record { at = e.0 i; kind = kind i })

pub statement_lists : (block block' : List Stmt → Phrase) → ((xs ys : List Stmt) → Same anything (block xs) (block' ys) (xs ≡ ys)) → (xs ys : List Stmt) → Same closes (g.each (g.statement SamePlace block) xs) (g.each (g.statement SamePlace block') ys) (xs ≡ ys)
statement_lists block block' blocks =
    lists (g.statement SamePlace block) (g.statement SamePlace block') no_else closes (statements block block' blocks)
    (λ s. begins_weaker starts no_else starts_no_else (statement_starts block s)) (λ s. begins_weaker starts no_else starts_no_else (statement_starts block' s))
    closes_no_else
    (λ s. begins_weaker starts (λ kind. not (closes kind)) starts_no_close (statement_starts block s)) (λ s. begins_weaker starts (λ kind. not (closes kind)) starts_no_close (statement_starts block' s))

-- a block has one reading, at whatever depth
pub blocks : (d d' : ℕ) (xs ys : List Stmt) → Same anything (g.block_within SamePlace d xs) (g.block_within SamePlace d' ys) (xs ≡ ys)
blocks zero d' xs ys = record { joins = λ b c r s e h h' v w. absurd h }
blocks (suc d) zero xs ys = record { joins = λ b c r s e h h' v w. absurd h' }
blocks (suc d) (suc d') xs ys =
    past k.OpenBrace (closed closes k.CloseBrace refl (statement_lists (g.block_within SamePlace d) (g.block_within SamePlace d') (blocks d d') xs ys))

-- ---- chains and files

close_brace : (p q : ℕ) → Same anything (g.mark_at SamePlace k.CloseBrace p) (g.mark_at SamePlace k.CloseBrace q) (p ≡ q)
close_brace p q = record {
  joins = λ b c r s e h h' v w.
      let first : p ≡ h.0 = h.1 in
      let second : q ≡ h'.0 = h'.1 in
      let at : h.0 ≡ h'.0 = cc in
      (first ∙ at ∙ sym second, cc);
}

-- from the statements of a chain on
abbrev pub rest_of : ℕ → Chain → Phrase
rest_of d c = do
  g.each (g.statement SamePlace (g.block_within SamePlace d)) c.body
  g.mark_at SamePlace k.CloseBrace c.close

starts_no_variable : (kind : Option TokenKind) → starts kind ≡ true → no_variable kind ≡ true
starts_no_variable None h = refl
starts_no_variable (Some k.Var) h = cc
starts_no_variable (Some kind) h = refl

starts_no_argument : (kind : Option TokenKind) → starts kind ≡ true → no_argument kind ≡ true
starts_no_argument None h = refl
starts_no_argument (Some k.Arg) h = cc
starts_no_argument (Some kind) h = refl

pub rest_begins : (ahead : Ahead) → ((kind : Option TokenKind) → starts kind ≡ true → ahead kind ≡ true) → ahead (Some k.CloseBrace) ≡ true → (d : ℕ) (c : Chain) → Begins ahead (rest_of d c)
rest_begins ahead f last d c =
    begins_each ahead (g.statement SamePlace (g.block_within SamePlace d)) (g.mark_at SamePlace k.CloseBrace c.close)
    (λ s. begins_weaker starts ahead f (statement_starts (g.block_within SamePlace d) s)) (begins_close ahead c.close last) c.body

pub no_variable_begins : (d : ℕ) (c : Chain) → Begins no_variable (rest_of d c)
no_variable_begins d c = rest_begins no_variable starts_no_variable refl d c

pub no_argument_begins : (d : ℕ) (c : Chain) → Begins no_argument (g.each (g.variable SamePlace) c.vars >> rest_of d c)
no_argument_begins d c =
    begins_each no_argument (g.variable SamePlace) (rest_of d c) (λ v. begins_mark no_argument k.Var refl _) (rest_begins no_argument starts_no_argument refl d c) c.vars

rests : (d d' : ℕ) (c c' : Chain) → Same anything (rest_of d c) (rest_of d' c') ((c.body ≡ c'.body) × (c.close ≡ c'.close))
rests d d' c c' =
    before (statement_lists (g.block_within SamePlace d) (g.block_within SamePlace d') (blocks d d') c.body c'.body)
    (begins_close closes c.close refl) (begins_close closes c'.close refl) (close_brace c.close c'.close)

always : (ahead : Ahead) (kind : Option TokenKind) → ahead kind ≡ true → anything kind ≡ true
always ahead kind h = refl

begins_any : {p : Phrase} → Begins anything p
begins_any = record { sees = λ b r h. refl }

pub variable_lists : (xs ys : List VarDecl) → Same no_variable (g.each (g.variable SamePlace) xs) (g.each (g.variable SamePlace) ys) (xs ≡ ys)
variable_lists =
    lists (g.variable SamePlace) (g.variable SamePlace) anything no_variable variables (λ v. begins_any) (λ v. begins_any) (always no_variable)
    (λ v. begins_mark (λ kind. not (no_variable kind)) k.Var refl _) (λ v. begins_mark (λ kind. not (no_variable kind)) k.Var refl _)

pub argument_lists : (xs ys : List Name) → Same no_argument (g.each (g.argument SamePlace) xs) (g.each (g.argument SamePlace) ys) (xs ≡ ys)
argument_lists =
    lists (g.argument SamePlace) (g.argument SamePlace) anything no_argument arguments (λ v. begins_any) (λ v. begins_any) (always no_argument)
    (λ v. begins_mark (λ kind. not (no_argument kind)) k.Arg refl _) (λ v. begins_mark (λ kind. not (no_argument kind)) k.Arg refl _)

pub chains : (d d' : ℕ) (c c' : Chain) → Same anything (g.chain_within SamePlace d c) (g.chain_within SamePlace d' c') (c ≡ c')
chains d d' c c' =
    weaken (past k.Chain (names c.name c'.name and (openings c.serve c'.serve and
    before (argument_lists c.args c'.args) (no_argument_begins d c) (no_argument_begins d' c')
    (before (variable_lists c.vars c'.vars) (no_variable_begins d c) (no_variable_begins d' c') (rests d d' c c')))))
    (λ e i. record { name = e.0 i; serve = e.1.0 i; args = e.1.1.0 i; vars = e.1.1.1.0 i; body = e.1.1.1.1.0 i; close = e.1.1.1.1.1 i })

chain_no_end : (d : ℕ) (c : Chain) → Begins (λ kind. not (is_end kind)) (g.chain_within SamePlace d c)
chain_no_end d c = begins_mark (λ kind. not (is_end kind)) k.Chain refl _

pub chain_lists : (d d' : ℕ) (xs ys : List Chain) → Same is_end (g.each (g.chain_within SamePlace d) xs) (g.each (g.chain_within SamePlace d') ys) (xs ≡ ys)
chain_lists d d' =
    lists (g.chain_within SamePlace d) (g.chain_within SamePlace d') anything is_end (chains d d') (λ c. begins_any) (λ c. begins_any) (always is_end) (chain_no_end d) (chain_no_end d')

pub some_chains : (d d' : ℕ) (xs ys : List Chain) → Same is_end (g.some (g.chain_within SamePlace d) xs) (g.some (g.chain_within SamePlace d') ys) (xs ≡ ys)
some_chains d d' [] ys = record { joins = λ b c r s e h h' v w. absurd h }
some_chains d d' (x ∷ xs) [] = record { joins = λ b c r s e h h' v w. absurd h' }
some_chains d d' (x ∷ xs) (y ∷ ys) = weaken (chains d d' x y and chain_lists d d' xs ys) (λ e i. e.0 i ∷ e.1 i)

chain_no_table : (d : ℕ) (c : Chain) → Begins no_table (g.chain_within SamePlace d c)
chain_no_table d c = begins_mark no_table k.Chain refl _

pub some_begins : (d : ℕ) (xs : List Chain) → Begins no_table (g.some (g.chain_within SamePlace d) xs)
some_begins d [] = record { sees = λ b r h. absurd h }
some_begins d (x ∷ xs) = record { sees = λ b r h. (chain_no_table d x).sees b h.0 h.1 }

pub table_lists : (xs ys : List Table) → Same no_table (g.each (g.table SamePlace) xs) (g.each (g.table SamePlace) ys) (xs ≡ ys)
table_lists =
    lists (g.table SamePlace) (g.table SamePlace) anything no_table tables (λ v. begins_any) (λ v. begins_any) (always no_table)
    (λ v. begins_mark (λ kind. not (no_table kind)) k.Table refl _) (λ v. begins_mark (λ kind. not (no_table kind)) k.Table refl _)

pub files : (d d' : ℕ) (f f' : File) → Same is_end (g.file_within SamePlace d f) (g.file_within SamePlace d' f') (f ≡ f')
files d d' f f' =
    weaken (before (table_lists f.tables f'.tables) (some_begins d f.chains) (some_begins d' f'.chains) (some_chains d d' f.chains f'.chains))
    (λ e i. record { tables = e.0 i; chains = e.1 i })

-- tokens have one tree
pub one_tree : (text : List ℕ) (tokens : List Token) (f f' : File) → HasTree text tokens f → HasTree text tokens f' → f ≡ f'
one_tree text tokens f f' (d, h) (d', h') = ((files d d' f f').joins (lexemes_of text tokens) (lexemes_of text tokens) [] [] refl h h' refl refl).0
