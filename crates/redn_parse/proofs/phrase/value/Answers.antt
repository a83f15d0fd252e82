use Rattle.std.proofs.Common.{[], sym, ◌∙◌}
use Rattle.redn_syntax.specs.declared.tree.Operand.TheVariants as operand
use Rattle.redn_parse.proofs.Passed.{unread, start, value_by_name, value_by_number, first_goes, first_blames}
use Rattle.redn_parse.proofs.phrase.value.Goals as goal

pub returns-in_err-name-clause-reads : goal.returns-in_err-name-clause-reads
returns-in_err-name-clause-reads c =
    unread _ _ c.from_residual.ensures.1 c.in_err-name.ensures.reads start
    (first_goes (λ z. (operand.Name z, [], λ b tail d. d)))
    (first_blames (λ b near none. value_by_name b (near.0 ∙ c.is_ahead.ensures.0 c.if-is_ahead.true) none))

pub returns-in_err-number-clause-reads : goal.returns-in_err-number-clause-reads
returns-in_err-number-clause-reads c =
    unread _ _ c.from_residual-in_err-number.ensures.1 c.in_err-number.ensures.reads start
    (first_goes (λ z. (operand.Num z, [], λ b tail d. d)))
    (first_blames (λ b near none. value_by_number b (λ e. cc (c.is_ahead.ensures.1 (sym near.0 ∙ e))) none))
