use Rattle.std.proofs.Common.{◌∙◌, ap}
use Rattle.redn_syntax.specs.declared.tree.StmtKind.{out-StmtKind}
use Rattle.redn_syntax.specs.declared.tree.StmtKind.TheVariants.{outs-Break, outs-Reply}
use Rattle.redn_check.proofs.Flows.{flow_break, flow_reply, flow_simple}
use Rattle.redn_check.proofs.flow.+flow.Goals as goal

pub flow_of-returns-in-Break : goal.flow_of-returns-in-Break
flow_of-returns-in-Break t c = c.plain_flow.ensures ∙ flow_break c.args.s.now (ap out-StmtKind c.in-Break.is ∙ outs-Break)

pub flow_of-returns-in-Reply : goal.flow_of-returns-in-Reply
flow_of-returns-in-Reply t c = c.plain_flow-in-Reply.ensures ∙ flow_reply c.args.s.now _ (ap out-StmtKind c.in-Reply.is ∙ outs-Reply _)

pub flow_of-returns-in_default : goal.flow_of-returns-in_default
flow_of-returns-in_default t c =
    let h = c.in_default in
    c.plain_flow-in_default.ensures ∙ flow_simple c.args.s.now h.not-If h.not-Loop h.not-Repeat h.not-Break h.not-Reply
