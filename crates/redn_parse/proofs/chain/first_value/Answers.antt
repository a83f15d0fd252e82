use Rattle.std.proofs.Common.{[], Some}
use Rattle.redn_syntax.specs.declared.token.TokenKind.TheVariants as k
use Rattle.redn_parse.proofs.Fronts.{marked}
use Rattle.redn_parse.proofs.Passed.{unread, start, read, goes, blames, first_blames, chosen_first}
use Rattle.redn_parse.proofs.Lists.{first_begin, first_value_goes, first_failed}
use Rattle.redn_parse.proofs.chain.first_value.Goals as goal

pub returns-in_err-has_value : goal.returns-in_err-has_value
returns-in_err-has_value c =
    unread _ _ c.from_residual.ensures.1 c.in_err-has_value.ensures.reads start first_value_goes (first_blames (λ b near none. first_begin b none))

pub returns-in_err-number : goal.returns-in_err-number
returns-in_err-number c =
    let equals = chosen_first _ _ c.in_ok-has_value.has_value _ _ (cc) c.in_ok-has_value.ensures.reads in
    unread _ _ c.from_residual-in_err-number.ensures.1 c.in_err-number.ensures.reads (read (marked k.Equals) equals)
    (goes (λ z. (Some z, [], λ b m tail h d. (d.0, (m, h, d.1), d.2))))
    (blames (λ b m near h none. first_failed b m h none))
