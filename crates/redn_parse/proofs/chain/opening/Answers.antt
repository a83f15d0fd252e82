use Rattle.std.proofs.Common.{[], Some}
use Rattle.redn_syntax.specs.declared.token.TokenKind.TheVariants as k
use Rattle.redn_parse.proofs.Fronts.{marked}
use Rattle.redn_parse.proofs.Passed.{unread, start, read, goes, blames, first_blames, chosen_first}
use Rattle.redn_parse.proofs.Chains.{opening_begins, opening_goes, opening_failed}
use Rattle.redn_parse.proofs.chain.opening.Goals as goal

pub returns-in_err-is_written-clause-reads : goal.returns-in_err-is_written-clause-reads
returns-in_err-is_written-clause-reads c =
    unread _ _ c.from_residual.ensures.1 c.in_err-is_written.ensures.reads start opening_goes (first_blames (λ b near none. opening_begins b none))

pub returns-in_err-number-clause-reads : goal.returns-in_err-number-clause-reads
returns-in_err-number-clause-reads c =
    let serve = chosen_first _ _ c.in_ok-is_written.is_written _ _ (cc) c.in_ok-is_written.ensures.reads in
    unread _ _ c.from_residual-in_err-number.ensures.1 c.in_err-number.ensures.reads (read (marked k.Serve) serve)
    (goes (λ z. (Some z, [], λ b m tail h d. (m, h, d))))
    (blames (λ b m near h none. opening_failed b m h none))
