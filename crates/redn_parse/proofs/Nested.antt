-- Statements that have blocks.
use Rattle.std.proofs.Common.{arith, ◌≡◌, ℕ, inl, inr, Bool, List, [], ◌∷◌, ◌++◌, Some, append_assoc, sym, refl, ap, ◌∙◌, subst}
use Rattle.redn_syntax.specs.declared.token.TokenKind.TheVariants as k
use Rattle.redn_syntax.specs.declared.tree.Num.{Num}
use Rattle.redn_syntax.specs.declared.tree.Operand.{Operand}
use Rattle.redn_syntax.specs.declared.tree.Stmt.{Stmt}
use Rattle.redn_syntax.specs.declared.tree.StmtKind.{StmtKind, out-StmtKind}
use Rattle.redn_syntax.specs.declared.tree.StmtKind.TheVariants as s
use Rattle.redn_syntax.specs.declared.tree.StmtKind.TheOpen.{StmtKind-F}
use Rattle.redn_syntax.specs.Lexemes.{Lexeme}
use Rattle.redn_syntax.specs.Grammar as g
use Rattle.redn_syntax.specs.Grammar.{Phrase, ◌>>◌, SamePlace}
use Rattle.redn_parse.specs.Lookahead.{kind_at}
use Rattle.redn_parse.specs.Reads.{HasNone, IsOnly, IsSole, form, otherwise, body, unless, test}
use Rattle.redn_parse.proofs.Same.{Same, anything, weaken, ◌and◌, past, marks, values, tests, numbers}
use Rattle.redn_parse.proofs.Trees.{Layer, sort_of, sort_at, form_sort, blocks, kind_same}
use Rattle.redn_parse.proofs.Forms.{no_loop, no_repeat, read_at}
use Rattle.redn_parse.proofs.Passed.{read, behind}
use Rattle.redn_parse.proofs.Braces as braces
use Rattle.redn_parse.proofs.Braces.{Keeps, ◌then◌}
use Rattle.redn_parse.proofs.Fronts as fronts
use Rattle.redn_parse.proofs.Fronts.{Free, ◌plus◌}
use Rattle.redn_parse.proofs.Blocks.{NoBlock, NoFormUnless, unless_form}

-- ---- `else`

abbrev pub NoOtherwise : List Lexeme → Type 0
NoOtherwise b = HasNone (λ (p : ℕ × List Stmt). otherwise p.0 p.1 >> unless k.Else) b

pub left_out_only : (b : List Lexeme) → (kind_at 0 b ≡ Some k.Else → ⊥) → IsOnly otherwise (unless k.Else) b b []
left_out_only b ahead depth y other d = cases y d.0 d.1 d.2
  where
    cases : (y : List Stmt) (m : List Lexeme) → otherwise depth y b m → unless k.Else m other → (y ≡ []) × (other ≡ b)
    cases [] m (inl e) u = (refl, sym u.0 ∙ sym e)
    cases [] m (inr h) u = absurd (ahead (ap (kind_at 0) h.1.1))
    cases (y ∷ ys) m h u = absurd (ahead (ap (kind_at 0) h.1.1))

pub else_read : (room : ℕ) (xs : List Stmt) (b m a : List Lexeme) → g.mark k.Else b m → g.block_within SamePlace room xs m a → otherwise room xs b a
else_read room [] b m a h d = inr (m, h, d)
else_read room (x ∷ xs) b m a h d = (m, h, d)

pub left_out_sole : (b : List Lexeme) → (kind_at 0 b ≡ Some k.Else → ⊥) → IsSole otherwise (unless k.Else) b b []
left_out_sole b ahead = record {
  front = [];
  split = refl;
  only = λ rest e. left_out_only rest (λ h. ahead (sym e ∙ h));
}

-- what stands behind an `else` that isn't left out
behind_else : (depth : ℕ) (y : List Stmt) (b m other o : List Lexeme) → g.mark k.Else b m → otherwise depth y b o → unless k.Else o other → g.block_within SamePlace depth y m o
behind_else depth [] b m other o h (inl e) u = absurd (u.1 (sym (ap (kind_at 0) e) ∙ ap (kind_at 0) h.1))
behind_else depth [] b m other o h (inr d) u = subst (λ l. g.block_within SamePlace depth [] l o) (sym ((marks k.Else).joins b b m d.0 refl h d.1 refl refl).1) d.2
behind_else depth (y ∷ ys) b m other o h d u = subst (λ l. g.block_within SamePlace depth (y ∷ ys) l o) (sym ((marks k.Else).joins b b m d.0 refl h d.1 refl refl).1) d.2

pub else_only : (room : ℕ) (xs : List Stmt) (b m a : List Lexeme) → g.mark k.Else b m → g.block_within SamePlace room xs m a → IsOnly otherwise (unless k.Else) b a xs
else_only room xs b m a h d depth y other e =
    let same = (blocks room depth xs y).joins m m a e.0 refl d (behind_else depth y b m other e.0 h e.1 e.2) refl refl in
    (sym same.0, sym e.2.0 ∙ sym same.1)

else_front : (room : ℕ) (xs : List Stmt) → Free (g.mark k.Else >> g.block_within SamePlace room xs)
else_front room xs = fronts.marked k.Else plus fronts.block room xs

pub else_sole : (room : ℕ) (xs : List Stmt) (b m a : List Lexeme) → g.mark k.Else b m → g.block_within SamePlace room xs m a → IsSole otherwise (unless k.Else) b a xs
else_sole room xs b m a h d =
    let f = (else_front room xs).fronts b a (m, h, d) in
    record {
      front = f.front;
      split = f.split;
      only = λ rest e. let w = f.always rest in else_only room xs (f.front ++ rest) w.0 rest w.1 w.2;
    }

pub else_failed : (b m : List Lexeme) → g.mark k.Else b m → NoBlock m → NoOtherwise b
else_failed b m h none = record {
  rejects = λ p after e. none.rejects p e.0 (e.0, behind_else p.0 p.1 b m after e.0 h e.1 e.2, refl);
}

-- ---- `if`

-- up to the blocks
abbrev pub if_test : Bool → Operand → Operand → Phrase
if_test wide left right = g.mark k.If >> (g.value SamePlace left >> (g.mark (g.test_mark wide) >> g.value SamePlace right))

pub if_tests : (v w : Bool) (l l' r r' : Operand) → Same anything (if_test v l r) (if_test w l' r') ((v ≡ w) × (l ≡ l') × (r ≡ r'))
if_tests v w l l' r r' = weaken (past k.If (values l l' and (tests v w and values r r'))) (λ e. (e.1.0, e.0, e.1.1))

-- a test behind its `if`
pub tested : (wide : Bool) (left right : Operand) (b m n : List Lexeme) → g.mark k.If b m → test (left, wide, right) m n → if_test wide left right b n
tested wide left right b m n h d = (m, h, d)

-- the parts of an `if`
pub record IfParts (d : ℕ) (layer : Layer) (b o : List Lexeme) : Type 0 where
  pub wide : Bool
  pub left : Operand
  pub right : Operand
  pub yes_body : List Stmt
  pub no_body : List Stmt
  pub behind_test : List Lexeme
  pub behind_block : List Lexeme
  pub is : layer ≡ StmtKind-F.If wide left right yes_body no_body
  pub tests : if_test wide left right b behind_test
  pub block : g.block_within SamePlace d yes_body behind_test behind_block
  pub rest : otherwise d no_body behind_block o

pub if_parts : (d : ℕ) (layer : Layer) (b o : List Lexeme) → kind_at 0 b ≡ Some k.If → read_at d layer b o → IfParts d layer b o
unfolding g.form
if_parts d (StmtKind-F.If wide left right yes_body no_body) b o ahead (m0, h0, (m1, h1, (m2, h2, (m3, h3, (n, block, rest))))) = record {
  wide = wide;
  left = left;
  right = right;
  yes_body = yes_body;
  no_body = no_body;
  behind_test = m3;
  behind_block = n;
  is = refl;
  tests = (m0, h0, (m1, h1, (m2, h2, h3)));
  block = block;
  rest = rest;
}
if_parts d layer b o ahead h =
    let found : sort_at b ≡ sort_of layer = form_sort (g.block_within SamePlace d) layer b o h in
    let five : sort_at b ≡ 5 = rw ahead refl in
    absurd (omega arith)

pub if_read : (room : ℕ) (wide : Bool) (left right : Operand) (yes_body no_body : List Stmt) (b m n a : List Lexeme) → if_test wide left right b m → g.block_within SamePlace room yes_body m n → otherwise room no_body n a → read_at room (StmtKind-F.If wide left right yes_body no_body) b a
unfolding g.form
if_read room wide left right yes_body no_body b m n a (m0, h0, (m1, h1, (m2, h2, h3))) block rest = (m0, h0, (m1, h1, (m2, h2, (m, h3, (n, block, rest)))))

module _ (b m : List Lexeme) (ahead : kind_at 0 b ≡ Some k.If) (wide : Bool) (left right : Operand) (tested : if_test wide left right b m) where
  same_test : (d : ℕ) (layer : Layer) (o : List Lexeme) (p : IfParts d layer b o) → ((wide ≡ p.wide) × (left ≡ p.left) × (right ≡ p.right)) × (m ≡ p.behind_test)
  same_test d layer o p = (if_tests wide p.wide left p.left right p.right).joins b b m p.behind_test refl tested p.tests refl refl

  -- its first block isn't read
  pub yes_failed : NoBlock m → NoFormUnless b
  yes_failed none = record {
    rejects = λ q after e.
        let p = if_parts q.0 (out-StmtKind q.1) b e.0 ahead e.1 in
        let same = same_test q.0 (out-StmtKind q.1) e.0 p in
        none.rejects (q.0, p.yes_body) p.behind_block (p.behind_block, subst (λ l. g.block_within SamePlace q.0 p.yes_body l p.behind_block) (sym same.1) p.block, refl);
  }

  module _ (room : ℕ) (yes_body : List Stmt) (n : List Lexeme) (block : g.block_within SamePlace room yes_body m n) where
    same_block : (d : ℕ) (layer : Layer) (o : List Lexeme) (p : IfParts d layer b o) → (yes_body ≡ p.yes_body) × (n ≡ p.behind_block)
    same_block d layer o p = (blocks room d yes_body p.yes_body).joins m p.behind_test n p.behind_block (same_test d layer o p).1 block p.block refl refl

    -- its `else` isn't read
    pub no_failed : NoOtherwise n → NoFormUnless b
    no_failed none = record {
      rejects = λ q after e.
          let p = if_parts q.0 (out-StmtKind q.1) b e.0 ahead e.1 in
          let same = (same_block q.0 (out-StmtKind q.1) e.0 p).1 in
          none.rejects (q.0, p.no_body) after (e.0, subst (λ l. otherwise q.0 p.no_body l e.0) (sym same) p.rest, e.2);
    }

    pub if_only : (kind : StmtKind) (no_body : List Stmt) (a : List Lexeme) → out-StmtKind kind ≡ StmtKind-F.If wide left right yes_body no_body → IsOnly otherwise (unless k.Else) n a no_body → IsOnly form (unless k.Else) b a kind
    if_only kind no_body a is only depth y other e =
        let p = if_parts depth (out-StmtKind y) b e.0 ahead e.1 in
        let test = (same_test depth (out-StmtKind y) e.0 p).0 in
        let both = same_block depth (out-StmtKind y) e.0 p in
        let rest = only depth p.no_body other (e.0, subst (λ l. otherwise depth p.no_body l e.0) (sym both.1) p.rest, e.2) in
        let layer : StmtKind-F.If p.wide p.left p.right p.yes_body p.no_body ≡ StmtKind-F.If wide left right yes_body no_body =
        λ i. StmtKind-F.If (sym test.0 i) (sym test.1 i) (sym test.2 i) (sym both.0 i) (rest.0 i) in
        (kind_same y kind (p.is ∙ layer ∙ sym is), rest.1)

-- its test isn't read
pub test_failed : (b m : List Lexeme) → kind_at 0 b ≡ Some k.If → g.mark k.If b m → HasNone test m → NoFormUnless b
test_failed b m ahead h none = record {
  rejects = λ q after e.
      let p = if_parts q.0 (out-StmtKind q.1) b e.0 ahead e.1 in
      (behind (marks k.If) h p.tests.1 none).rejects (p.left, p.wide, p.right) p.behind_test p.tests.2;
}

pub if_kept : (n : ℕ) (wide : Bool) (left right : Operand) → Keeps n n (if_test wide left right)
if_kept n wide left right = braces.marked n k.If (λ p. (refl, refl)) then (braces.valued n left then (braces.test n wide then braces.valued n right))

pub test_kept : (n : ℕ) (t : Operand × Bool × Operand) → Keeps n n (test t)
test_kept n t = braces.valued n t.0 then (braces.test n t.1 then braces.valued n t.2)

pub if_front : (wide : Bool) (left right : Operand) → Free (if_test wide left right)
if_front wide left right = fronts.marked k.If plus (fronts.valued left plus (fronts.marked (g.test_mark wide) plus fronts.valued right))

pub an_if : (room : ℕ) (wide : Bool) (left right : Operand) (yes_body no_body : List Stmt) (b m n a : List Lexeme) → if_test wide left right b m → g.block_within SamePlace room yes_body m n → otherwise room no_body n a → form room (s.If wide left right yes_body no_body) b a
an_if room wide left right yes_body no_body b m n a tested block rest =
    subst (λ layer. read_at room layer b a) (sym (s.outs-If wide left right yes_body no_body)) (if_read room wide left right yes_body no_body b m n a tested block rest)

pub if_sole : (room : ℕ) (wide : Bool) (left right : Operand) (yes_body no_body : List Stmt) (b m n a : List Lexeme) → if_test wide left right b m → g.block_within SamePlace room yes_body m n →
    IsSole otherwise (unless k.Else) n a no_body → IsSole form (unless k.Else) b a (s.If wide left right yes_body no_body)
if_sole room wide left right yes_body no_body b m n a tested block only =
    let r = read (if_front wide left right plus fronts.block room yes_body) (m, tested, block) in
    record {
      front = r.front ++ only.front;
      split = r.split ∙ ap (λ l. r.front ++ l) only.split ∙ sym (append_assoc r.front only.front a);
      only = λ rest e.
          let h = r.always (only.front ++ rest) in
          subst (λ l. IsOnly form (unless k.Else) l rest (s.If wide left right yes_body no_body)) (sym (append_assoc r.front only.front rest))
          (if_only (r.front ++ (only.front ++ rest)) h.0 (ap (kind_at 0) h.1.1.1) wide left right h.1 room yes_body (only.front ++ rest) h.2 (s.If wide left right yes_body no_body) no_body rest
          (s.outs-If wide left right yes_body no_body) (only.only rest e));
    }

-- ---- `loop` and `repeat`

pub loop_failed : (b m : List Lexeme) → kind_at 0 b ≡ Some k.Loop → g.mark k.Loop b m → NoBlock m → NoFormUnless b
unfolding g.form
loop_failed b m ahead h none =
    unless_form b (no_loop b ahead (λ d xs after e. (behind (marks k.Loop) h e.1 none).rejects (d, xs) after (after, e.2, refl)))

pub a_loop : (room : ℕ) (body : List Stmt) (b m a : List Lexeme) → g.mark k.Loop b m → g.block_within SamePlace room body m a → form room (s.Loop body) b a
unfolding g.form
a_loop room body b m a h d = subst (λ layer. read_at room layer b a) (sym (s.outs-Loop body)) (m, h, d)

pub a_repeat : (room : ℕ) (count : Num) (body : List Stmt) (b m n a : List Lexeme) → g.mark k.Repeat b m → g.number SamePlace count m n → g.block_within SamePlace room body n a → form room (s.Repeat count body) b a
unfolding g.form
a_repeat room count body b m n a h h' d = subst (λ layer. read_at room layer b a) (sym (s.outs-Repeat count body)) (m, h, (n, h', d))

pub count_failed : (b m : List Lexeme) → kind_at 0 b ≡ Some k.Repeat → g.mark k.Repeat b m → HasNone (g.number SamePlace) m → NoFormUnless b
unfolding g.form
count_failed b m ahead h none =
    unless_form b (no_repeat b ahead (λ d count xs after e. (behind (marks k.Repeat) h e.1 none).rejects count e.2.0 e.2.1))

pub repeat_failed : (count : Num) (b m n : List Lexeme) → kind_at 0 b ≡ Some k.Repeat → g.mark k.Repeat b m → g.number SamePlace count m n → NoBlock n → NoFormUnless b
unfolding g.form
repeat_failed count b m n ahead h h' none =
    unless_form b (no_repeat b ahead (λ d count' xs after e.
    (behind (past k.Repeat (numbers count count')) (m, h, h') (e.0, e.1, e.2.1) none).rejects (d, xs) after (after, e.2.2, refl)))
