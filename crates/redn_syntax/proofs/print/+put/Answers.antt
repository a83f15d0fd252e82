use Rattle.std.proofs.Common.{sym, refl, ap, map, ◌++◌}
use Rattle.std.proofs.lemmas.Result.{IfOk-equal}
use Rattle.redn_syntax.specs.declared.tree.StmtKind.TheVariants.{outs-Move, outs-Add, outs-Load, outs-Store, outs-If, outs-Loop, outs-Repeat, outs-Break, outs-Lookup, outs-Walk, outs-Reply}
use Rattle.redn_syntax.specs.declared.token.TokenKind.TheVariants as k
use Rattle.redn_syntax.specs.Grammar.{test_mark}
use Rattle.redn_syntax.specs.Canonical.{mark, value, block, body_of, otherwise, statement, form}
use Rattle.redn_syntax.proofs.Lines.{statement_is, body_of_is, joined, joined_last}
use Rattle.redn_syntax.proofs.print.+put.Goals as goal

pub put_block-returns : goal.put_block-returns
put_block-returns t c =
    let body = c.args.body.now in
    let first = joined (mark k.OpenBrace) (body_of body) _ _ _ c.in_ok-put_mark.ensures c.in_ok-put_body.ensures in
    joined_last c.put_mark-2.result (mark k.OpenBrace ++ body_of body) (mark k.CloseBrace) (block (map statement body)) _ _ _ (ap (λ l. mark k.OpenBrace ++ l ++ mark k.CloseBrace) (sym (body_of_is body))) first c.put_mark-2.ensures

pub put_statement-returns-in-Move : goal.put_statement-returns-in-Move
put_statement-returns-in-Move t c =
    IfOk-equal c.put_move.result _ _ _ c.put_move.ensures (rw (statement_is c.args.statement.now _ _ c.in-Move.is (outs-Move _ _)) refl)

pub put_statement-returns-in-Add : goal.put_statement-returns-in-Add
put_statement-returns-in-Add t c =
    IfOk-equal c.put_add.result _ _ _ c.put_add.ensures (rw (statement_is c.args.statement.now _ _ c.in-Add.is (outs-Add _ _)) refl)

pub put_statement-returns-in-Load : goal.put_statement-returns-in-Load
put_statement-returns-in-Load t c =
    IfOk-equal c.put_load.result _ _ _ c.put_load.ensures (rw (statement_is c.args.statement.now _ _ c.in-Load.is (outs-Load _ _ _)) refl)

pub put_statement-returns-in-Store : goal.put_statement-returns-in-Store
put_statement-returns-in-Store t c =
    IfOk-equal c.put_store.result _ _ _ c.put_store.ensures (rw (statement_is c.args.statement.now _ _ c.in-Store.is (outs-Store _ _ _)) refl)

pub put_statement-returns-in_ok-put_block-in-If : goal.put_statement-returns-in_ok-put_block-in-If
unfolding form
put_statement-returns-in_ok-put_block-in-If t c =
    let i = c.in-If in
    let test = mark k.If ++ value i.left ++ mark (test_mark i.wide) ++ value i.right in
    let then_do = rw c.as_slice.ensures at c.in_ok-put_block-in-If.ensures in
    let else_do = rw c.as_slice-in-If.ensures at c.put_otherwise.ensures in
    let first = joined test (block (map statement i.yes)) _ _ _ c.in_ok-put_test-in-If.ensures then_do in
    joined_last c.put_otherwise.result (test ++ block (map statement i.yes)) (otherwise (map statement i.no)) (statement c.args.statement.now) _ _ _ (sym (statement_is c.args.statement.now _ _ i.is (outs-If _ _ _ _ _))) first else_do

pub put_statement-returns-in-Loop : goal.put_statement-returns-in-Loop
put_statement-returns-in-Loop t c =
    IfOk-equal c.put_loop.result _ _ _ c.put_loop.ensures (rw (statement_is c.args.statement.now _ _ c.in-Loop.is (outs-Loop _), c.as_slice-in-Loop.ensures) refl)

pub put_statement-returns-in-Repeat : goal.put_statement-returns-in-Repeat
put_statement-returns-in-Repeat t c =
    IfOk-equal c.put_repeat.result _ _ _ c.put_repeat.ensures (rw (statement_is c.args.statement.now _ _ c.in-Repeat.is (outs-Repeat _ _), c.as_slice-in-Repeat.ensures) refl)

pub put_statement-returns-in-Break : goal.put_statement-returns-in-Break
put_statement-returns-in-Break t c =
    IfOk-equal c.put_break.result _ _ _ c.put_break.ensures (rw (statement_is c.args.statement.now _ _ c.in-Break.is outs-Break) refl)

pub put_statement-returns-in-Lookup : goal.put_statement-returns-in-Lookup
put_statement-returns-in-Lookup t c =
    IfOk-equal c.put_lookup.result _ _ _ c.put_lookup.ensures (rw (statement_is c.args.statement.now _ _ c.in-Lookup.is (outs-Lookup _ _ _ _ _)) refl)

pub put_statement-returns-in-Walk : goal.put_statement-returns-in-Walk
put_statement-returns-in-Walk t c =
    IfOk-equal c.put_walk.result _ _ _ c.put_walk.ensures (rw (statement_is c.args.statement.now _ _ c.in-Walk.is (outs-Walk _ _ _ _ _)) refl)

pub put_statement-returns-in-Reply : goal.put_statement-returns-in-Reply
put_statement-returns-in-Reply t c =
    IfOk-equal c.put_reply.result _ _ _ c.put_reply.ensures (rw (statement_is c.args.statement.now _ _ c.in-Reply.is (outs-Reply _), c.as_slice-in-Reply.ensures) refl)
