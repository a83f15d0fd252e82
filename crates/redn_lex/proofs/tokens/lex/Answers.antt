use Rattle.std.proofs.lemmas.Result.{err_from_is_err_and}
use Rattle.redn_lex.proofs.Lexing.{tokens_same, fault_tokens, fault_bad, fault_wide, bad_not, wide_not}
use Rattle.redn_lex.proofs.tokens.lex.Goals as goal

pub returns-in_err-list-clause-has_tokens : goal.returns-in_err-list-clause-has_tokens
returns-in_err-list-clause-has_tokens c =
    let p = err_from_is_err_and c.from_residual.result c.from_residual.ensures.1 in
    λ tokens h. rw (p.1, p.2) (fault_tokens c.args.text.now tokens _ c.in_err-list.ensures h)

pub returns-in_err-list-clause-has_bad_byte : goal.returns-in_err-list-clause-has_bad_byte
returns-in_err-list-clause-has_bad_byte c =
    let p = err_from_is_err_and c.from_residual.result c.from_residual.ensures.1 in
    λ at h. rw (p.1, p.2) (fault_bad c.args.text.now at _ c.in_err-list.ensures h)

pub returns-in_err-list-clause-has_wide_number : goal.returns-in_err-list-clause-has_wide_number
returns-in_err-list-clause-has_wide_number c =
    let p = err_from_is_err_and c.from_residual.result c.from_residual.ensures.1 in
    λ at h. rw (p.1, p.2) (fault_wide c.args.text.now at _ c.in_err-list.ensures h)

pub returns-clause-has_tokens : goal.returns-clause-has_tokens
returns-clause-has_tokens c = λ tokens h. tokens_same 0 c.args.text.now c.in_ok-list.list.items tokens c.in_ok-list.ensures h

pub returns-clause-has_bad_byte : goal.returns-clause-has_bad_byte
returns-clause-has_bad_byte c = λ at h. bad_not c.args.text.now c.in_ok-list.list.items at c.in_ok-list.ensures h

pub returns-clause-has_wide_number : goal.returns-clause-has_wide_number
returns-clause-has_wide_number c = λ at h. wide_not c.args.text.now c.in_ok-list.list.items at c.in_ok-list.ensures h
