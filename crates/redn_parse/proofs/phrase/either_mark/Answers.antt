use Rattle.std.proofs.Common.{false, [], sym, ◌∙◌}
use Rattle.redn_parse.proofs.Passed.{unread, start, neither, first_goes, first_blames}
use Rattle.redn_parse.proofs.phrase.either_mark.Goals as goal

pub returns-in_err-mark-clause-reads : goal.returns-in_err-mark-clause-reads
returns-in_err-mark-clause-reads c =
    unread _ _ c.from_residual.ensures.1 c.in_err-mark.ensures.reads start
    (first_goes (λ z. (false, [], λ b tail d. d)))
    (first_blames (λ b near none. neither _ _ b (λ e. cc (c.is_ahead.ensures.1 (sym near.0 ∙ e))) none))
