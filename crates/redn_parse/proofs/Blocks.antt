-- Blocks and the statements that have them.
use Rattle.std.proofs.Common.{arith, ◌≡◌, ◌≢◌, ◌+◌, ◌-◌, ◌<◌, ◌≤◌, ℕ, zero, suc, false, List, [], ◌∷◌, ◌++◌, Some, Result, drop, append-nil, sym, refl, ap, ◌∙◌, subst}
use Rattle.std.proofs.lemmas.List.{append_cancel_right}
use Rattle.redn_syntax.specs.declared.token.TokenKind.{TokenKind}
use Rattle.redn_syntax.specs.declared.token.TokenKind.TheVariants as k
use Rattle.redn_syntax.specs.declared.tree.Stmt.{Stmt}
use Rattle.redn_syntax.specs.declared.tree.StmtKind.{StmtKind, out-StmtKind}
use Rattle.redn_syntax.specs.declared.tree.StmtKind.TheVariants as s
use Rattle.redn_syntax.specs.declared.tree.StmtKind.TheOpen.{StmtKind-F}
use Rattle.redn_syntax.specs.Lexemes.{Lexeme, Fixed, Named, Numbered}
use Rattle.redn_syntax.specs.Grammar as g
use Rattle.redn_syntax.specs.Grammar.{Phrase, ◌>>◌, SamePlace}
use Rattle.redn_parse.specs.Lookahead.{kind_at, next_place, IsFixed}
use Rattle.redn_parse.specs.Depth.{OpensDeepFrom}
use Rattle.redn_parse.specs.declared.reader.Stop.{Stop}
use Rattle.redn_parse.specs.declared.reader.Stop.TheVariants.{Unexpected}
use Rattle.redn_parse.specs.Reads.{HasNone, Begins, IsStuckWithin, IsBlocked, IsFault, IsOnly, IsSole, ReadsForm, ReadsWithin, plain_form, form, statement, statements, body, unless}
use Rattle.redn_parse.proofs.Same.{Sees, marks, starts}
use Rattle.redn_parse.proofs.Trees.{Layer, sort_of, sort_at, form_sort, form_starts, statement_starts, plain_forms, blocks, kind_same}
use Rattle.redn_parse.proofs.Forms.{NoForm, no_form}
use Rattle.redn_parse.proofs.Passed.{Goes, start, alike_kind, first_goes, first_blames, last_flat}
use Rattle.redn_parse.proofs.Braces as braces
use Rattle.redn_parse.proofs.Braces.{Keeps, ◌then◌}
use Rattle.redn_parse.proofs.Samples as a
use Rattle.redn_parse.proofs.Fronts as fronts
use Rattle.redn_parse.proofs.Fronts.{Free, ◌plus◌}
use Rattle.redn_parse.proofs.Plain.{a_break}
use Rattle.redn_parse.proofs.Lists.{each_more}
use Rattle.redn_parse.proofs.Sole.{sole, settled}

-- ---- the next lexeme

-- a keyword or a mark that comes next
pub fixed_next : (kind : TokenKind) (b : List Lexeme) → IsFixed kind → kind_at 0 b ≡ Some kind → b ≡ Fixed kind (next_place b) ∷ drop 1 b
fixed_next kind [] fixed h = cc
fixed_next kind (Fixed other at ∷ b) fixed h = let same : other ≡ kind = cc in ap (λ x. Fixed x at ∷ b) same
fixed_next kind (Named name at ∷ b) fixed h = let same : k.Name ≡ kind = cc in absurd (subst IsFixed (sym same) fixed)
fixed_next kind (Numbered value at ∷ b) fixed h = let same : k.Number ≡ kind = cc in absurd (subst IsFixed (sym same) fixed)

pub mark_next : (kind : TokenKind) (b : List Lexeme) → IsFixed kind → kind_at 0 b ≡ Some kind → g.mark kind b (drop 1 b)
mark_next kind b fixed h = (next_place b, fixed_next kind b fixed h)

-- what begins a statement is no closing brace, and no `else`
starts_kind : (kind : TokenKind) (b : List Lexeme) → Sees starts b → starts (Some kind) ≡ false → kind_at 0 b ≡ Some kind → ⊥
starts_kind kind b h other e = let same = ap starts e in cc

-- ---- a block

abbrev pub NoBlock : List Lexeme → Type 0
NoBlock b = HasNone (λ (p : ℕ × List Stmt). g.block_within SamePlace p.0 p.1 >> g.nothing) b

abbrev pub NoBody : List Lexeme → Type 0
NoBody b = HasNone (λ (p : ℕ × List Stmt). body p.0 p.1 >> g.nothing) b

-- its statements aren't read
pub block_failed : (b m : List Lexeme) → g.mark k.OpenBrace b m → NoBody m → NoBlock b
block_failed b m h none = record { rejects = λ p after d. rejects p.0 p.1 d.0 d.1 }
  where
    rejects : (d : ℕ) (xs : List Stmt) (after : List Lexeme) → g.block_within SamePlace d xs b after → ⊥
    rejects zero xs after e = e
    rejects (suc d) xs after (n, mark, (o, each, close)) =
        let same = ((marks k.OpenBrace).joins b b m n refl h mark refl refl).1 in
        none.rejects (d, xs) o (o, (o, subst (λ l. g.each (statement d) xs l o) (sym same) each, (refl, ap (kind_at 0) close.1)), refl)

pub block_read : (room : ℕ) (xs : List Stmt) (b m n a : List Lexeme) → 0 < room → g.mark k.OpenBrace b m → body (room - 1) xs m n → g.mark k.CloseBrace n a → g.block_within SamePlace room xs b a
block_read zero xs b m n a some h d close = absurd (omega arith)
block_read (suc room) xs b m n a some h d close =
    let same : suc room - 1 ≡ room = omega arith in
    let d' = subst (λ r. body r xs m n) same d in
    (m, h, (n, subst (λ l. g.each (statement room) xs m l) d'.2.0 d'.1, close))

-- 65 are open
pub block_deep : (b : List Lexeme) (at : ℕ) → kind_at 0 b ≡ Some k.OpenBrace → at ≡ next_place b → OpensDeepFrom 65 b at
block_deep b at ahead e =
    let whole = fixed_next k.OpenBrace b tt ahead in
    subst (λ l. OpensDeepFrom 65 l at) (sym whole) (subst (λ p. OpensDeepFrom 65 (Fixed k.OpenBrace (next_place b) ∷ drop 1 b) p) (sym e) (braces.opens_here (next_place b) (drop 1 b)))

pub opened : (room : ℕ) → 0 < room → room ≤ 64 → Keeps (65 - room) (65 - (room - 1)) (g.mark k.OpenBrace)
opened room some fits =
    let more : 65 - room + 1 ≡ 65 - (room - 1) = omega arith in
    subst (λ n. Keeps (65 - room) n (g.mark k.OpenBrace)) more (braces.opened (65 - room) (λ e. omega arith))

pub block_kept : (room : ℕ) (xs : List Stmt) → room ≤ 64 → Keeps (65 - room) (65 - room) (g.block_within SamePlace room xs)
block_kept room xs fits = braces.block (65 - room) room (omega arith) xs

pub statements_kept : (room : ℕ) (xs : List Stmt) → room ≤ 64 → Keeps (65 - room) (65 - room) (g.each (statement room) xs)
statements_kept room xs fits = braces.each (65 - room) (statement room) (braces.statement (65 - room) (g.block_within SamePlace room) (braces.block (65 - room) room (omega arith))) xs

-- ---- where a block is wanted

-- an empty one
pub empty_block : (room : ℕ) (tail : List Lexeme) → g.block_within SamePlace (suc room) [] (a.mark k.OpenBrace ∷ a.mark k.CloseBrace ∷ tail) tail
empty_block room tail = (_, (0, refl), (_, refl, (0, refl)))

pub block_stuck : (room opened : ℕ) (b : List Lexeme) → (kind_at 0 b ≡ Some k.OpenBrace → ⊥) →
    IsFault (IsStuckWithin (g.block_within SamePlace) (λ (p : ℕ × List Stmt). g.block_within SamePlace p.0 p.1 >> g.nothing) room opened b b) (IsBlocked (g.block_within SamePlace) room opened b) Unexpected
block_stuck room opened b ahead = record {
  none = λ e. record {
    stuck = record {
      front = [];
      split = refl;
      begun = ([], a.mark k.OpenBrace ∷ a.mark k.CloseBrace ∷ [], empty_block room);
      rejects = λ other alike. record { rejects = λ p after d. rejects other (alike_kind b other alike) p.0 p.1 d.0 d.1 };
    };
    calm = λ at o. braces.opens_nowhere opened at o;
  };
  deep = λ at e. cc;
}
  where
    rejects : (other : List Lexeme) → kind_at 0 other ≡ kind_at 0 b → (d : ℕ) (xs : List Stmt) (after : List Lexeme) → g.block_within SamePlace d xs other after → ⊥
    rejects other e zero xs after h = h
    rejects other e (suc d) xs after h = ahead (sym e ∙ ap (kind_at 0) h.1.1)

-- 65 are open
pub block_blocked : (b : List Lexeme) (at : ℕ) → kind_at 0 b ≡ Some k.OpenBrace → at ≡ next_place b → IsBlocked (g.block_within SamePlace) 0 65 b at
block_blocked b at ahead e =
    let whole = fixed_next k.OpenBrace b tt ahead in
    record {
      opens = block_deep b at ahead e;
      front = [];
      behind = drop 1 b;
      split = whole ∙ ap (λ p. Fixed k.OpenBrace p ∷ drop 1 b) (sym e);
      begun = ([], a.mark k.CloseBrace ∷ [], λ tail. (_, (at, refl), (_, refl, (0, refl))));
    }

pub block_goes : (room room' : ℕ) → room' ≡ room → Goes (g.mark k.OpenBrace) (statements room') (g.block_within SamePlace (suc room))
block_goes room room' e = record {
  goes = λ z. (z, a.mark k.CloseBrace ∷ [], λ b m tail h d. (m, h, (_, subst (λ n. statements n z m (a.mark k.CloseBrace ∷ tail)) e d, (0, refl))));
}

-- ---- the statements up to a closing brace

abbrev pub NoStatement : List Lexeme → Type 0
NoStatement b = HasNone (λ (p : ℕ × Stmt). statement p.0 p.1 >> unless k.Else) b

pub sole_each : (room : ℕ) (xs : List Stmt) (b a : List Lexeme) → g.each (sole room) xs b a → g.each (statement room) xs b a
sole_each room [] b a h = h
sole_each room (x ∷ xs) b a (m, h, hs) = (m, h.0, sole_each room xs m a hs)

pub body_goes : (room : ℕ) (xs : List Stmt) → Goes (g.each (statement room) xs) (statement (suc room)) (statements (suc room))
body_goes room xs = record { goes = λ z. (xs ++ z ∷ [], [], λ b m tail h d. each_more (statement (suc room)) xs z b m tail (fronts.body_more room xs b m h) d) }

-- behind a statement of a body comes no `else`
after_no_else : (d : ℕ) (xs : List Stmt) (b n : List Lexeme) → g.each (statement d) xs b n → kind_at 0 n ≡ Some k.CloseBrace → kind_at 0 b ≢ Some k.Else
after_no_else d [] b n h close = λ e. let same = ap (kind_at 0) h in cc
after_no_else d (x ∷ xs) b n (m, h, hs) close = starts_kind k.Else b ((statement_starts (g.block_within SamePlace d) x).sees b m h) refl

body_rejected : (room d : ℕ) (xs ys : List Stmt) (b m n : List Lexeme) → g.each (settled room) xs b m → g.each (statement d) ys b n → kind_at 0 n ≡ Some k.CloseBrace → (kind_at 0 m ≡ Some k.CloseBrace → ⊥) → NoStatement m → ⊥
body_rejected room d [] [] b m n h h' close here none = here (ap (kind_at 0) (sym h ∙ h') ∙ close)
body_rejected room d [] (y ∷ ys) b m n h (l, h', hs') close here none =
    none.rejects (d, y) l (l, subst (λ z. statement d y z l) h h', (refl, after_no_else d ys l n hs' close))
body_rejected room d (x ∷ xs) [] b m n (l, h, hs) h' close here none =
    starts_kind k.CloseBrace b ((statement_starts (g.block_within SamePlace room) x).sees b l h.0) refl (ap (kind_at 0) h' ∙ close)
body_rejected room d (x ∷ xs) (y ∷ ys) b m n (l, h, hs) (l', h', hs') close here none =
    let same = (h.1 d y l' (l', h', (refl, after_no_else d ys l' n hs' close))).1 in
    body_rejected room d xs ys l m n hs (subst (λ z. g.each (statement d) ys z n) same hs') close here none

pub body_failed : (room : ℕ) (xs : List Stmt) (b m : List Lexeme) → g.each (settled room) xs b m → (kind_at 0 m ≡ Some k.CloseBrace → ⊥) → NoStatement m → NoBody b
body_failed room xs b m h here none = record {
  rejects = λ p after d. body_rejected room p.0 xs p.1 b m d.1.0 h d.1.1 d.1.2.1 here none;
}

-- ---- a statement

pub nonempty : (b : List Lexeme) → Sees starts b → (x : Lexeme) × (rest : List Lexeme) × (b ≡ x ∷ rest)
nonempty [] h = cc
nonempty (x ∷ rest) h = (x, rest, refl)

pub statement_read : (room at : ℕ) (kind : StmtKind) (b a : List Lexeme) → at ≡ next_place b → form room kind b a → statement room (record { at = at; kind = kind }) b a
statement_read room at kind b a place h =
    let first = nonempty b (form_starts (g.block_within SamePlace room) (out-StmtKind kind) b a h) in
    (b, (first.0, first.1, first.2, place ∙ ap next_place first.2, refl), h)

abbrev pub NoFormUnless : List Lexeme → Type 0
NoFormUnless b = HasNone (λ (p : ℕ × StmtKind). form p.0 p.1 >> unless k.Else) b

pub statement_failed : (b : List Lexeme) → NoFormUnless b → NoStatement b
statement_failed b none = record {
  rejects = λ p after d. none.rejects (p.0, p.1.kind) after (d.0, subst (λ l. form p.0 p.1.kind l d.0) (sym d.1.1.4) d.1.2, d.2);
}

-- its place is that of its first lexeme
begins_there : (d : ℕ) (front : List Lexeme) → Begins (form d) front → Begins (statement d) front
begins_there d front (kind, more, f) =
    (record { at = next_place (front ++ (more ++ [])); kind = kind }, more, λ tail. statement_read d (next_place (front ++ (more ++ []))) kind (front ++ (more ++ tail)) tail (place front more (nonempty (front ++ (more ++ [])) (form_starts (g.block_within SamePlace d) (out-StmtKind kind) (front ++ (more ++ [])) [] (f []))) tail) (f tail))
  where
    place : (front more : List Lexeme) → (x : Lexeme) × (rest : List Lexeme) × (front ++ (more ++ []) ≡ x ∷ rest) → (tail : List Lexeme) → next_place (front ++ (more ++ [])) ≡ next_place (front ++ (more ++ tail))
    place (y ∷ front) more e tail = refl
    place [] (y ∷ more) e tail = refl
    place [] [] (x, rest, e) tail = cc

pub statement_fault : (room opened : ℕ) (b after : List Lexeme) (stop : Stop) →
    IsFault (IsStuckWithin form (λ (p : ℕ × StmtKind). form p.0 p.1 >> unless k.Else) room opened b after) (IsBlocked form room opened b) stop →
    IsFault (IsStuckWithin statement (λ (p : ℕ × Stmt). statement p.0 p.1 >> unless k.Else) room opened b after) (IsBlocked statement room opened b) stop
statement_fault room opened b after stop fault = record {
  none = λ e. let f = fault.none e in record {
    stuck = record {
      front = f.stuck.front;
      split = f.stuck.split;
      begun = begins_there (suc room) f.stuck.front f.stuck.begun;
      rejects = λ other alike. statement_failed (f.stuck.front ++ other) (f.stuck.rejects other alike);
    };
    calm = f.calm;
  };
  deep = λ at e. let f = fault.deep at e in record {
    opens = f.opens;
    front = f.front;
    behind = f.behind;
    split = f.split;
    begun = begins_there (suc room) (f.front ++ Fixed k.OpenBrace at ∷ []) f.begun;
  };
}

-- a statement has a lexeme
form_somewhere : (room : ℕ) (kind : StmtKind) (b after : List Lexeme) → form room kind b after → b ≡ after → ⊥
form_somewhere room kind b after h e =
    let f = (fronts.form (g.block_within SamePlace room) (fronts.block room) (out-StmtKind kind)).fronts b after h in
    let none : f.front ≡ [] = append_cancel_right f.front [] after (sym f.split ∙ e) in
    let sees = form_starts (g.block_within SamePlace room) (out-StmtKind kind) [] [] (subst (λ l. form room kind l []) (append-nil f.front ∙ none) (f.always [])) in
    cc

pub statement_only : (at : ℕ) (kind : StmtKind) (b a : List Lexeme) → at ≡ next_place b → IsOnly form (unless k.Else) b a kind → IsOnly statement (unless k.Else) b a (record { at = at; kind = kind })
statement_only at kind b a place only depth y other d =
    let begins = d.1.1 in
    let same = only depth y.kind other (d.0, subst (λ l. form depth y.kind l d.0) (sym begins.4) d.1.2, d.2) in
    let first : y.at ≡ at = begins.3 ∙ ap next_place (sym begins.2) ∙ sym place in
    ((λ i. record { at = first i; kind = same.0 i }), same.1)

pub statement_sole : (room at : ℕ) (kind : StmtKind) (b after : List Lexeme) → at ≡ next_place b → form room kind b after → IsSole form (unless k.Else) b after kind → IsSole statement (unless k.Else) b after (record { at = at; kind = kind })
statement_sole room at kind b after place h only = record {
  front = only.front;
  split = only.split;
  only = λ rest e. statement_only at kind (only.front ++ rest) rest (there only.front only.split rest) (only.only rest e);
}
  where
    there : (front : List Lexeme) → b ≡ front ++ after → (rest : List Lexeme) → at ≡ next_place (front ++ rest)
    there [] e rest = absurd (form_somewhere room kind b after h e)
    there (x ∷ front) e rest = place ∙ ap next_place e

-- ---- kinds of statement

pub unless_form : (b : List Lexeme) → NoForm b → NoFormUnless b
unless_form b none = record { rejects = λ p after d. none.rejects p d.0 d.1 }

other_sort : (block : List Stmt → Phrase) (layer : Layer) (b a : List Lexeme) → g.form SamePlace block layer b a → (kind_at 0 b ≡ Some k.If → ⊥) → sort_of layer ≡ 5 → ⊥
unfolding g.form
other_sort block (StmtKind-F.If wide left right yes_body no_body) b a h ahead e = ahead (ap (kind_at 0) h.1.1)
other_sort block layer b a h ahead e = omega arith

-- a statement that is no `if` is the only one where it stands
pub plain_only : (room : ℕ) (kind : StmtKind) (b a : List Lexeme) → (kind_at 0 b ≡ Some k.If → ⊥) → form room kind b a → IsOnly form (unless k.Else) b a kind
plain_only room kind b a ahead h depth y other d =
    let same = (plain_forms (g.block_within SamePlace room) (g.block_within SamePlace depth) (blocks room depth) (out-StmtKind kind) (out-StmtKind y)
    (other_sort (g.block_within SamePlace room) (out-StmtKind kind) b a h ahead)).joins b b a d.0 refl h d.1 refl refl in
    (sym (kind_same kind y same.0), sym d.2.0 ∙ sym same.1)

pub plain_sole : (room : ℕ) (kind : StmtKind) (b a : List Lexeme) → (kind_at 0 b ≡ Some k.If → ⊥) → form room kind b a → IsSole form (unless k.Else) b a kind
plain_sole room kind b a ahead h =
    let block = g.block_within SamePlace room in
    let layer = out-StmtKind kind in
    let f = (fronts.form block (fronts.block room) layer).fronts b a h in
    record {
      front = f.front;
      split = f.split;
      only = λ rest e. plain_only room kind (f.front ++ rest) rest
          (λ first. let five : sort_at (f.front ++ rest) ≡ 5 = rw first refl in other_sort block layer b a h ahead (sym (form_sort block layer (f.front ++ rest) rest (f.always rest)) ∙ five)) (f.always rest);
    }

-- one without a block, read as any
plain_kept : (n : ℕ) → n ≤ 65 → (kind : StmtKind) → Keeps n n (plain_form kind)
plain_kept n fits kind =
    let keep = braces.form n (g.block_within SamePlace 0) (braces.block n 0 (omega arith)) (out-StmtKind kind) in
    record { up = λ b a h. keep.up b a (h 0); down = λ b a h. keep.down b a (h 0) }

pub plain_reads : (room : ℕ) (b a : List Lexeme) (r : Result StmtKind Stop) → room ≤ 64 → ReadsForm b a r → ReadsWithin form (unless k.Else) room (65 - room) b a r
plain_reads room b a r fits h =
    last_flat form a room (65 - room) r (λ kind. form room kind b a) (λ kind. plain_form kind b a) h (λ x d. d room) start
    (first_goes (λ z. (z, [], λ b tail d. d (suc room))))
    (first_blames (λ b near none. unless_form b none))
    (braces.nothing (65 - room)) (plain_kept (65 - room) (omega arith))

-- ---- none at all

pub no_first : (kind : TokenKind) → (kind ≡ k.Name → ⊥) → (kind ≡ k.If → ⊥) → (kind ≡ k.Loop → ⊥) → (kind ≡ k.Repeat → ⊥) → (kind ≡ k.Break → ⊥) → (kind ≡ k.Lookup → ⊥) → (kind ≡ k.Walk → ⊥) → (kind ≡ k.Reply → ⊥) → starts (Some kind) ≡ false
no_first k.Name a b c d e f i j = absurd (a refl)
no_first k.If a b c d e f i j = absurd (b refl)
no_first k.Loop a b c d e f i j = absurd (c refl)
no_first k.Repeat a b c d e f i j = absurd (d refl)
no_first k.Break a b c d e f i j = absurd (e refl)
no_first k.Lookup a b c d e f i j = absurd (f refl)
no_first k.Walk a b c d e f i j = absurd (i refl)
no_first k.Reply a b c d e f i j = absurd (j refl)
no_first kind a b c d e f i j = refl

pub no_start : (b : List Lexeme) → starts (kind_at 0 b) ≡ false → NoFormUnless b
no_start b h = unless_form b (no_form b (λ d layer after e. let sees = form_starts (g.block_within SamePlace d) layer b after e in cc))

pub kind_stuck : (room opened : ℕ) (b : List Lexeme) → starts (kind_at 0 b) ≡ false →
    IsFault (IsStuckWithin form (λ (p : ℕ × StmtKind). form p.0 p.1 >> unless k.Else) room opened b b) (IsBlocked form room opened b) Unexpected
kind_stuck room opened b h = record {
  none = λ e. record {
    stuck = record {
      front = [];
      split = refl;
      begun = (s.Break, a.mark k.Break ∷ a.mark k.Semicolon ∷ [], λ tail. a_break (a.mark k.Break ∷ a.mark k.Semicolon ∷ tail) tail (_, (0, refl), (0, refl)) (suc room));
      rejects = λ other alike. no_start other (ap starts (alike_kind b other alike) ∙ h);
    };
    calm = λ at o. braces.opens_nowhere opened at o;
  };
  deep = λ at e. cc;
}
