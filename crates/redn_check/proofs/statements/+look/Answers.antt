use Rattle.std.proofs.Common.{◌∙◌, ap, refl, sym}
use Rattle.redn_syntax.specs.declared.tree.StmtKind.TheVariants.{outs-If, outs-Loop, outs-Repeat}
use Rattle.redn_syntax.specs.declared.tree.StmtKind.{out-StmtKind}
use Rattle.redn_check.specs.Names.{variables}
use Rattle.redn_check.specs.Rules.{statement_faults}
use Rattle.redn_check.specs.Faults.{first_of}
use Rattle.redn_check.specs.Statements.{with_inner}
use Rattle.redn_check.proofs.Gathered.{found_if, found_loop, found_repeat, found_plain, in_body, no_blocks}
use Rattle.redn_check.proofs.EarliestOf.{first_more_of, stepped}
use Rattle.redn_check.proofs.statements.+look.Goals as goal

pub first_in-loop-s-preserved : goal.first_in-loop-s-preserved
first_in-loop-s-preserved t c =
    let g = statement_faults c.args.scope.now.tables.now (variables c.args.scope.now.chain.now) in
    stepped _ _ _ _ _ _ c.earlier-first.ensures c.loop-s.invariant c.look_into.ensures (first_more_of g with_inner c.args.body.now _ c.s-item.result c.loop-s-test.true c.s-item.is)

pub look_into-returns-in-If : goal.look_into-returns-in-If
look_into-returns-in-If t c =
    let i = c.in-If in
    let g = statement_faults c.args.scope.now.tables.now (variables c.args.scope.now.chain.now) in
    let found = found_if g c.args.s.now i.wide i.left i.right i.yes i.no (ap out-StmtKind i.is ∙ outs-If _ _ _ _ _) in
    let met = c.first_in.ensures ∙ ap (λ b. first_of (in_body g b)) c.as_slice.ensures in
    let unmet = c.first_in-in-If.ensures ∙ ap (λ b. first_of (in_body g b)) c.as_slice-in-If.ensures in
    stepped _ _ _ _ _ _ c.earlier.ensures c.own_fault-own.ensures (stepped _ _ _ _ _ _ c.earlier-inner.ensures met unmet refl) found

pub look_into-returns-in-Loop : goal.look_into-returns-in-Loop
look_into-returns-in-Loop t c =
    let g = statement_faults c.args.scope.now.tables.now (variables c.args.scope.now.chain.now) in
    let found = found_loop g c.args.s.now c.in-Loop.body (ap out-StmtKind c.in-Loop.is ∙ outs-Loop _) in
    let body = c.first_in-in-Loop.ensures ∙ ap (λ b. first_of (in_body g b)) c.as_slice-in-Loop.ensures in
    stepped _ _ _ _ _ _ c.earlier-in-Loop.ensures c.own_fault-own.ensures body found

pub look_into-returns-in-Repeat : goal.look_into-returns-in-Repeat
look_into-returns-in-Repeat t c =
    let g = statement_faults c.args.scope.now.tables.now (variables c.args.scope.now.chain.now) in
    let found = found_repeat g c.args.s.now c.in-Repeat.count c.in-Repeat.body (ap out-StmtKind c.in-Repeat.is ∙ outs-Repeat _ _) in
    let body = c.first_in-in-Repeat.ensures ∙ ap (λ b. first_of (in_body g b)) c.as_slice-in-Repeat.ensures in
    stepped _ _ _ _ _ _ c.earlier-in-Repeat.ensures c.own_fault-own.ensures body found

pub look_into-returns-in_default : goal.look_into-returns-in_default
look_into-returns-in_default t c =
    let g = statement_faults c.args.scope.now.tables.now (variables c.args.scope.now.chain.now) in
    c.own_fault-own.ensures ∙ sym (found_plain g c.args.s.now (no_blocks c.args.s.now.kind c.in_default.not-If c.in_default.not-Loop c.in_default.not-Repeat))
