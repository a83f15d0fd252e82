use Rattle.std.proofs.Common.{◌∙◌, ap, sym}
use Rattle.redn_syntax.specs.declared.tree.StmtKind.{out-StmtKind}
use Rattle.redn_syntax.specs.declared.tree.StmtKind.TheVariants.{outs-Break, outs-If}
use Rattle.redn_check.specs.Faults.{first_of}
use Rattle.redn_check.specs.Rules.{loose_breaks}
use Rattle.redn_check.proofs.EarliestOf.{stepped}
use Rattle.redn_check.proofs.Breaks.{loose, breaks_of_break, found_breaks, no_breaks, loose_more}
use Rattle.redn_check.proofs.flow.+breaks.Goals as goal

pub loose_break-returns-in-Break : goal.loose_break-returns-in-Break
loose_break-returns-in-Break t c = c.when.ensures ∙ sym (ap (λ l. first_of (loose l)) (breaks_of_break c.args.s.now (ap out-StmtKind c.in-Break.is ∙ outs-Break)))

pub loose_break-returns-in-If : goal.loose_break-returns-in-If
loose_break-returns-in-If t c =
    let i = c.in-If in
    let met = c.first_loose_break.ensures ∙ ap (λ b. first_of (loose_breaks b)) c.as_slice.ensures in
    let unmet = c.first_loose_break-in-If.ensures ∙ ap (λ b. first_of (loose_breaks b)) c.as_slice-in-If.ensures in
    stepped _ _ _ _ _ _ c.earlier.ensures met unmet (found_breaks c.args.s.now i.wide i.left i.right i.yes i.no (ap out-StmtKind i.is ∙ outs-If _ _ _ _ _))

pub loose_break-returns-in_default : goal.loose_break-returns-in_default
loose_break-returns-in_default t c = sym (ap (λ l. first_of (loose l)) (no_breaks c.args.s.now c.in_default.not-If c.in_default.not-Break))

pub first_loose_break-loop-s-preserved : goal.first_loose_break-loop-s-preserved
first_loose_break-loop-s-preserved t c =
    stepped _ _ _ _ _ _ c.earlier-first.ensures c.loop-s.invariant c.loose_break.ensures (loose_more c.args.body.now _ c.s-item.result c.loop-s-test.true c.s-item.is)
