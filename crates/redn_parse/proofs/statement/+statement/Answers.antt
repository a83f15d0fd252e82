use Rattle.std.proofs.Common.{arith, ◌≡◌, ◌-◌, suc, inl, Some, [], ◌∷◌, refl, sym, subst, ap, ◌∙◌}
use Rattle.redn_syntax.specs.declared.token.TokenKind.TheVariants as k
use Rattle.redn_syntax.specs.declared.tree.StmtKind.TheVariants as s
use Rattle.redn_syntax.specs.declared.tree.StmtKind.TheVariants.{outs-If, outs-Loop, outs-Repeat}
use Rattle.redn_syntax.specs.Grammar as g
use Rattle.redn_syntax.specs.Grammar.{SamePlace}
use Rattle.redn_parse.specs.Lookahead.{kind_at}
use Rattle.redn_parse.specs.Reads.{IsBlocked, IsSole, form, statement, statements, otherwise, unless}
use Rattle.redn_parse.proofs.Samples as a
use Rattle.redn_parse.proofs.Same.{starts}
use Rattle.redn_parse.proofs.Fronts as fronts
use Rattle.redn_parse.proofs.Fronts.{marked, numbered}
use Rattle.redn_parse.proofs.Braces as braces
use Rattle.redn_parse.proofs.Braces.{◌then◌}
use Rattle.redn_parse.proofs.Passed.{read, ◌also◌, goes, blames, unread_none, unread_flat, unread_deep, last_deep, passed, if_ok}
use Rattle.redn_parse.proofs.Lists.{each_more}
use Rattle.redn_parse.proofs.Sole.{sole, sole_read}
use Rattle.redn_parse.proofs.Plain.{near_mark}
use Rattle.redn_parse.proofs.Blocks as blocks
use Rattle.redn_parse.proofs.Nested as nested
use Rattle.redn_parse.proofs.statement.+statement.Goals as goal

-- ---- blocks

pub block-returns-then-not-is_ahead-clause-reads : goal.block-returns-then-not-is_ahead-clause-reads
block-returns-then-not-is_ahead-clause-reads t c = blocks.block_stuck c.args.room (65 - c.args.room) c.args.reader.now (λ e. cc (c.is_ahead.ensures.1 e))

pub block-returns-then-room-eq0-clause-reads : goal.block-returns-then-room-eq0-clause-reads
block-returns-then-room-eq0-clause-reads t c =
    let ahead = c.is_ahead.ensures.0 (cc) in
    let blocked = blocks.block_blocked c.args.reader.now c.place.result ahead c.place.ensures in
    let none : 0 ≡ c.args.room = omega arith in
    let all : 65 ≡ 65 - c.args.room = omega arith in
    record {
      none = λ e. cc;
      deep = λ at e.
          let same : c.place.result ≡ at = cc in
          subst (λ p. IsBlocked (g.block_within SamePlace) c.args.room (65 - c.args.room) c.args.reader.now p) same
          (subst (λ n. IsBlocked (g.block_within SamePlace) c.args.room n c.args.reader.now c.place.result) all
          (subst (λ r. IsBlocked (g.block_within SamePlace) r 65 c.args.reader.now c.place.result) none blocked));
    }

pub block-returns-in_err-statements-clause-reads : goal.block-returns-in_err-statements-clause-reads
block-returns-in_err-statements-clause-reads t c =
    let brace = subst (g.mark k.OpenBrace c.args.reader.now) (sym c.advance.ensures) (blocks.mark_next k.OpenBrace c.args.reader.now tt (c.is_ahead.ensures.0 (cc))) in
    unread_deep (g.block_within SamePlace) statements c.args.room (c.args.room - 1) _ _ c.from_residual.ensures.1 c.in_err-statements.ensures.reads
    (read (marked k.OpenBrace) brace)
    (blocks.block_goes c.args.room (suc (c.args.room - 1)) (omega arith))
    (blames (λ b m near h none. blocks.block_failed b m h none))
    (blocks.opened c.args.room (omega arith) (omega arith))

pub block-returns-in_err-mark-clause-reads : goal.block-returns-in_err-mark-clause-reads
block-returns-in_err-mark-clause-reads t c =
    let next = blocks.mark_next k.CloseBrace c.body.new.reader tt (subst (λ l. kind_at 0 l ≡ Some k.CloseBrace) c.in_ok-statements.ensures.reads.2.0 c.in_ok-statements.ensures.reads.2.1) in
    unread_none _ _ _ _ c.from_residual-in_err-mark.ensures.1 c.in_err-mark.ensures.reads (λ none. none.rejects tt _ next)

pub block-returns-clause-reads : goal.block-returns-clause-reads
block-returns-clause-reads t c =
    let brace = subst (g.mark k.OpenBrace c.args.reader.now) (sym c.advance.ensures) (blocks.mark_next k.OpenBrace c.args.reader.now tt (c.is_ahead.ensures.0 (cc))) in
    blocks.block_read c.args.room c.in_ok-statements.statements c.args.reader.now _ _ _ (omega arith) brace c.in_ok-statements.ensures.reads c.in_ok-mark.ensures.reads

pub body-returns-in_err-statement-clause-reads : goal.body-returns-in_err-statement-clause-reads
body-returns-in_err-statement-clause-reads t c =
    let room = c.args.room in
    let xs = c.body.statements in
    unread_deep statements statement room room _ _ c.from_residual.ensures.1 c.in_err-statement.ensures.reads
    (sole_read room xs c.args.reader.now c.body.reader c.body.invariant.reads)
    (blocks.body_goes room xs)
    (blames (λ b m near h none. blocks.body_failed room xs b m h (λ e. cc (c.is_ahead.ensures.1 (sym near.0 ∙ e))) none))
    (blocks.statements_kept room xs c.requires)

pub body-body-preserved : goal.body-body-preserved
body-body-preserved t c = record {
  reads = subst (λ xs. g.each (sole c.args.room) xs c.args.reader.now c.statement.new.reader) (sym c.in_ok-add.ensures.ok) (each_more (sole c.args.room) _ _ _ _ _ c.body.invariant.reads (c.in_ok-statement.ensures.reads, c.in_ok-statement.ensures.only));
  fewer = omega (arith, c.in_ok-statement.ensures.moves);
}

pub body-returns-clause-reads : goal.body-returns-clause-reads
body-returns-clause-reads t c = (_, blocks.sole_each c.args.room c.body.statements c.args.reader.now c.body.reader c.body.invariant.reads, (refl, c.is_ahead.ensures.0 (cc)))

-- ---- `if`

pub if_statement-returns-in_err-mark-clause-reads : goal.if_statement-returns-in_err-mark-clause-reads
if_statement-returns-in_err-mark-clause-reads t c =
    unread_none _ _ _ _ c.from_residual.ensures.1 c.in_err-mark.ensures.reads (λ none. none.rejects tt _ (blocks.mark_next k.If c.args.reader.now tt c.requires.first))

pub if_statement-returns-in_err-left-clause-reads : goal.if_statement-returns-in_err-left-clause-reads
if_statement-returns-in_err-left-clause-reads t c =
    let room = c.args.room in
    unread_flat form room _ _ c.from_residual-in_err-left.ensures.1 c.in_err-left.ensures.reads
    (read (marked k.If) c.in_ok-mark.ensures.reads)
    (goes (λ z. (
      s.If z.1 z.0 z.2 [] [],
      a.mark k.OpenBrace ∷ a.mark k.CloseBrace ∷ [],
      λ b m tail h d. nested.an_if (suc room) z.1 z.0 z.2 [] [] b _ tail tail (nested.tested z.1 z.0 z.2 b m _ h d) (blocks.empty_block room tail) (inl refl),
    )))
    (blames (λ b m near h none. nested.test_failed b m (near_mark k.If b m h) h none))
    (braces.marked (65 - room) k.If (λ p. (refl, refl)))
    (nested.test_kept (65 - room))

pub if_statement-returns-in_err-yes-clause-reads : goal.if_statement-returns-in_err-yes-clause-reads
if_statement-returns-in_err-yes-clause-reads t c =
    let room = c.args.room in
    let l = c.in_ok-left in
    let tested = nested.tested l.wide l.left l.right _ _ _ c.in_ok-mark.ensures.reads l.ensures.reads in
    unread_deep form (g.block_within SamePlace) room room _ _ c.from_residual-in_err-yes.ensures.1 c.in_err-yes.ensures.reads
    (read (nested.if_front l.wide l.left l.right) tested)
    (goes (λ z. (s.If l.wide l.left l.right z [], [], λ b m tail h d. nested.an_if (suc room) l.wide l.left l.right z [] b m tail tail h d (inl refl))))
    (blames (λ b m near h none. nested.yes_failed b m (near_mark k.If b h.0 h.1) l.wide l.left l.right h none))
    (nested.if_kept (65 - room) l.wide l.left l.right)

pub if_statement-returns-in_err-no-clause-reads : goal.if_statement-returns-in_err-no-clause-reads
if_statement-returns-in_err-no-clause-reads t c =
    let room = c.args.room in
    let l = c.in_ok-left in
    let yes = c.in_ok-yes.yes in
    let tested = nested.tested l.wide l.left l.right _ _ _ c.in_ok-mark.ensures.reads l.ensures.reads in
    unread_deep form otherwise room room _ _ c.from_residual-in_err-no.ensures.1 c.in_err-no.ensures.reads
    (read (nested.if_front l.wide l.left l.right) tested also read (fronts.block room yes) c.in_ok-yes.ensures.reads)
    (goes (λ z. (s.If l.wide l.left l.right yes z, [], λ b m tail h d. nested.an_if (suc room) l.wide l.left l.right yes z b h.0 m tail h.1 (fronts.block_more room yes h.0 m h.2) d)))
    (blames (λ b m near h none. nested.no_failed b h.0 (near_mark k.If b h.1.0 h.1.1) l.wide l.left l.right h.1 room yes m h.2 none))
    (nested.if_kept (65 - room) l.wide l.left l.right then blocks.block_kept room yes c.requires.room)

pub if_statement-returns-clause-reads : goal.if_statement-returns-clause-reads
if_statement-returns-clause-reads t c =
    let l = c.in_ok-left in
    let tested = nested.tested l.wide l.left l.right _ _ _ c.in_ok-mark.ensures.reads l.ensures.reads in
    nested.an_if c.args.room l.wide l.left l.right c.in_ok-yes.yes c.in_ok-no.no _ _ _ _ tested c.in_ok-yes.ensures.reads c.in_ok-no.ensures.reads

pub if_statement-returns-clause-only : goal.if_statement-returns-clause-only
if_statement-returns-clause-only t c =
    let l = c.in_ok-left in
    let tested = nested.tested l.wide l.left l.right _ _ _ c.in_ok-mark.ensures.reads l.ensures.reads in
    nested.if_sole c.args.room l.wide l.left l.right c.in_ok-yes.yes c.in_ok-no.no _ _ _ _ tested c.in_ok-yes.ensures.reads c.in_ok-no.ensures.only

-- ---- `loop` and `repeat`

pub loop_statement-returns-in_err-mark-clause-reads : goal.loop_statement-returns-in_err-mark-clause-reads
loop_statement-returns-in_err-mark-clause-reads t c =
    unread_none _ _ _ _ c.from_residual.ensures.1 c.in_err-mark.ensures.reads (λ none. none.rejects tt _ (blocks.mark_next k.Loop c.args.reader.now tt c.requires.first))

pub loop_statement-returns-in_err-body-clause-reads : goal.loop_statement-returns-in_err-body-clause-reads
loop_statement-returns-in_err-body-clause-reads t c =
    let room = c.args.room in
    unread_deep form (g.block_within SamePlace) room room _ _ c.from_residual-in_err-body.ensures.1 c.in_err-body.ensures.reads
    (read (marked k.Loop) c.in_ok-mark.ensures.reads)
    (goes (λ z. (s.Loop z, [], λ b m tail h d. nested.a_loop (suc room) z b m tail h d)))
    (blames (λ b m near h none. nested.loop_failed b m (near_mark k.Loop b m h) h none))
    (braces.marked (65 - room) k.Loop (λ p. (refl, refl)))

pub loop_statement-returns-clause-reads : goal.loop_statement-returns-clause-reads
loop_statement-returns-clause-reads t c = nested.a_loop c.args.room c.in_ok-body.body _ _ _ c.in_ok-mark.ensures.reads c.in_ok-body.ensures.reads

pub loop_statement-returns-clause-only : goal.loop_statement-returns-clause-only
loop_statement-returns-clause-only t c =
    blocks.plain_sole c.args.room _ _ _ (λ e. cc (c.requires.first, e)) (loop_statement-returns-clause-reads t c)

pub repeat_statement-returns-in_err-mark-clause-reads : goal.repeat_statement-returns-in_err-mark-clause-reads
repeat_statement-returns-in_err-mark-clause-reads t c =
    unread_none _ _ _ _ c.from_residual.ensures.1 c.in_err-mark.ensures.reads (λ none. none.rejects tt _ (blocks.mark_next k.Repeat c.args.reader.now tt c.requires.first))

pub repeat_statement-returns-in_err-count-clause-reads : goal.repeat_statement-returns-in_err-count-clause-reads
repeat_statement-returns-in_err-count-clause-reads t c =
    let room = c.args.room in
    unread_flat form room _ _ c.from_residual-in_err-count.ensures.1 c.in_err-count.ensures.reads
    (read (marked k.Repeat) c.in_ok-mark.ensures.reads)
    (goes (λ z. (s.Repeat z [], a.mark k.OpenBrace ∷ a.mark k.CloseBrace ∷ [], λ b m tail h d. nested.a_repeat (suc room) z [] b m _ tail h d (blocks.empty_block room tail))))
    (blames (λ b m near h none. nested.count_failed b m (near_mark k.Repeat b m h) h none))
    (braces.marked (65 - room) k.Repeat (λ p. (refl, refl)))
    (braces.numbered (65 - room))

pub repeat_statement-returns-in_err-body-clause-reads : goal.repeat_statement-returns-in_err-body-clause-reads
repeat_statement-returns-in_err-body-clause-reads t c =
    let room = c.args.room in
    let count = c.in_ok-count.count in
    unread_deep form (g.block_within SamePlace) room room _ _ c.from_residual-in_err-body.ensures.1 c.in_err-body.ensures.reads
    (read (marked k.Repeat) c.in_ok-mark.ensures.reads also read (numbered count) c.in_ok-count.ensures.reads)
    (goes (λ z. (s.Repeat count z, [], λ b m tail h d. nested.a_repeat (suc room) count z b h.0 m tail h.1 h.2 d)))
    (blames (λ b m near h none. nested.repeat_failed count b h.0 m (near_mark k.Repeat b h.0 h.1) h.1 h.2 none))
    (braces.marked (65 - room) k.Repeat (λ p. (refl, refl)) then braces.numbered (65 - room) count)

pub repeat_statement-returns-clause-reads : goal.repeat_statement-returns-clause-reads
repeat_statement-returns-clause-reads t c =
    nested.a_repeat c.args.room c.in_ok-count.count c.in_ok-body.body _ _ _ _ c.in_ok-mark.ensures.reads c.in_ok-count.ensures.reads c.in_ok-body.ensures.reads

pub repeat_statement-returns-clause-only : goal.repeat_statement-returns-clause-only
repeat_statement-returns-clause-only t c =
    blocks.plain_sole c.args.room _ _ _ (λ e. cc (c.requires.first, e)) (repeat_statement-returns-clause-reads t c)

-- ---- `else`

pub otherwise-returns-clause-reads : goal.otherwise-returns-clause-reads
otherwise-returns-clause-reads t c =
    let room = c.args.room in
    let mark = subst (g.mark k.Else c.args.reader.now) (sym c.advance.ensures) (blocks.mark_next k.Else c.args.reader.now tt (c.is_ahead.ensures.0 (cc))) in
    last_deep otherwise (g.block_within SamePlace) c.block.new.reader room room c.block.result (λ xs. otherwise room xs c.args.reader.now c.block.new.reader) _ c.block.ensures.reads
    (λ xs h. nested.else_read room xs _ _ _ mark h)
    (read (marked k.Else) mark)
    (goes (λ z. (z, [], λ b m tail h d. nested.else_read (suc room) z b m tail h d)))
    (blames (λ b m near h none. nested.else_failed b m h none))
    (braces.marked (65 - room) k.Else (λ p. (refl, refl)))

pub otherwise-returns-clause-only : goal.otherwise-returns-clause-only
otherwise-returns-clause-only t c =
    let mark = subst (g.mark k.Else c.args.reader.now) (sym c.advance.ensures) (blocks.mark_next k.Else c.args.reader.now tt (c.is_ahead.ensures.0 (cc))) in
    if_ok c.block.result _ _ _ c.block.ensures.reads (λ xs h. nested.else_sole c.args.room xs _ _ _ mark h)

pub otherwise-returns-then-not-is_ahead-clause-only : goal.otherwise-returns-then-not-is_ahead-clause-only
otherwise-returns-then-not-is_ahead-clause-only t c =
    subst (λ xs. IsSole otherwise (unless k.Else) c.args.reader.now c.args.reader.now xs) (sym c.new.ensures) (nested.left_out_sole c.args.reader.now (λ e. cc (c.is_ahead.ensures.1 e)))

-- ---- statements

pub statement-returns-in_err-kind-clause-reads : goal.statement-returns-in_err-kind-clause-reads
statement-returns-in_err-kind-clause-reads t c =
    passed _ _ _ _ c.from_residual.ensures.1 (blocks.statement_fault c.args.room (65 - c.args.room) c.args.reader.now _ _ c.in_err-kind.ensures.reads)

pub statement-returns-clause-only : goal.statement-returns-clause-only
statement-returns-clause-only t c = blocks.statement_sole c.args.room c.place-at.result c.in_ok-kind.kind _ _ c.place-at.ensures c.in_ok-kind.ensures.reads c.in_ok-kind.ensures.only

pub statement_kind-returns-in-Name-clause-reads : goal.statement_kind-returns-in-Name-clause-reads
statement_kind-returns-in-Name-clause-reads t c = blocks.plain_reads c.args.room _ _ _ c.requires c.named.ensures.reads

pub statement_kind-returns-in-Name-clause-only : goal.statement_kind-returns-in-Name-clause-only
statement_kind-returns-in-Name-clause-only t c =
    let other : kind_at 0 c.args.reader.now ≡ Some k.Name = sym c.in-Some.ensures ∙ ap (λ kind. Some kind) c.in-Name.is in
    if_ok c.named.result _ _ _ c.named.ensures.reads (λ kind h. blocks.plain_sole c.args.room kind _ _ (λ e. cc (other, e)) (h c.args.room))

pub statement_kind-returns-in-Break-clause-reads : goal.statement_kind-returns-in-Break-clause-reads
statement_kind-returns-in-Break-clause-reads t c = blocks.plain_reads c.args.room _ _ _ c.requires c.break_statement.ensures.reads

pub statement_kind-returns-in-Break-clause-only : goal.statement_kind-returns-in-Break-clause-only
statement_kind-returns-in-Break-clause-only t c =
    let other : kind_at 0 c.args.reader.now ≡ Some k.Break = sym c.in-Some.ensures ∙ ap (λ kind. Some kind) c.in-Break.is in
    if_ok c.break_statement.result _ _ _ c.break_statement.ensures.reads (λ kind h. blocks.plain_sole c.args.room kind _ _ (λ e. cc (other, e)) (h c.args.room))

pub statement_kind-returns-in-Lookup-clause-reads : goal.statement_kind-returns-in-Lookup-clause-reads
statement_kind-returns-in-Lookup-clause-reads t c = blocks.plain_reads c.args.room _ _ _ c.requires c.lookup.ensures.reads

pub statement_kind-returns-in-Lookup-clause-only : goal.statement_kind-returns-in-Lookup-clause-only
statement_kind-returns-in-Lookup-clause-only t c =
    let other : kind_at 0 c.args.reader.now ≡ Some k.Lookup = sym c.in-Some.ensures ∙ ap (λ kind. Some kind) c.in-Lookup.is in
    if_ok c.lookup.result _ _ _ c.lookup.ensures.reads (λ kind h. blocks.plain_sole c.args.room kind _ _ (λ e. cc (other, e)) (h c.args.room))

pub statement_kind-returns-in-Walk-clause-reads : goal.statement_kind-returns-in-Walk-clause-reads
statement_kind-returns-in-Walk-clause-reads t c = blocks.plain_reads c.args.room _ _ _ c.requires c.walk.ensures.reads

pub statement_kind-returns-in-Walk-clause-only : goal.statement_kind-returns-in-Walk-clause-only
statement_kind-returns-in-Walk-clause-only t c =
    let other : kind_at 0 c.args.reader.now ≡ Some k.Walk = sym c.in-Some.ensures ∙ ap (λ kind. Some kind) c.in-Walk.is in
    if_ok c.walk.result _ _ _ c.walk.ensures.reads (λ kind h. blocks.plain_sole c.args.room kind _ _ (λ e. cc (other, e)) (h c.args.room))

pub statement_kind-returns-in-Reply-clause-reads : goal.statement_kind-returns-in-Reply-clause-reads
statement_kind-returns-in-Reply-clause-reads t c = blocks.plain_reads c.args.room _ _ _ c.requires c.reply.ensures.reads

pub statement_kind-returns-in-Reply-clause-only : goal.statement_kind-returns-in-Reply-clause-only
statement_kind-returns-in-Reply-clause-only t c =
    let other : kind_at 0 c.args.reader.now ≡ Some k.Reply = sym c.in-Some.ensures ∙ ap (λ kind. Some kind) c.in-Reply.is in
    if_ok c.reply.result _ _ _ c.reply.ensures.reads (λ kind h. blocks.plain_sole c.args.room kind _ _ (λ e. cc (other, e)) (h c.args.room))

-- none begins so
pub statement_kind-returns-in_default-clause-reads : goal.statement_kind-returns-in_default-clause-reads
statement_kind-returns-in_default-clause-reads t c =
    blocks.kind_stuck c.args.room (65 - c.args.room) c.args.reader.now (ap starts (sym c.kind.ensures ∙ c.in_default.is))

pub statement_kind-returns-in_default-kind : goal.statement_kind-returns-in_default-kind
statement_kind-returns-in_default-kind t c =
    let d = c.in_default-kind in
    let other = blocks.no_first c.in-Some.kind d.not-Name d.not-If d.not-Loop d.not-Repeat d.not-Break d.not-Lookup d.not-Walk d.not-Reply in
    record {
      reads = blocks.kind_stuck c.args.room (65 - c.args.room) c.args.reader.now (ap starts (sym c.in-Some.ensures) ∙ other);
      only = tt;
      moves = tt;
    }
