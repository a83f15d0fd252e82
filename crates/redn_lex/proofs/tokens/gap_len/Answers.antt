use Rattle.std.proofs.Common.{subst, true, arith}
use Rattle.std.proofs.lemmas.List.{take_all}
use Rattle.redn_syntax.specs.Tokens.{IsGap}
use Rattle.redn_lex.proofs.Steps.{closed_here, open_here}
use Rattle.redn_lex.proofs.tokens.gap_len.Goals as goal

pub returns-then-not-is_blank-clause-gap : goal.returns-then-not-is_blank-clause-gap
returns-then-not-is_blank-clause-gap c = λ _. closed_here _ c.loop-i.in_comment c.if-in_comment.false c.loop-i.invariant

pub returns-clause-end : goal.returns-clause-end
returns-clause-end c = λ _. subst (IsGap true) (take_all c.loop-i.i c.args.text.now (omega arith)) (open_here _ c.loop-i.in_comment c.loop-i.invariant)
