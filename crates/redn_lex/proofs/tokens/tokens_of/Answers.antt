use Rattle.std.proofs.lemmas.Result.{err_from_is_err_and}
use Rattle.redn_lex.proofs.Steps.{reads_more, reads_all, reads_fault}
use Rattle.redn_lex.proofs.tokens.tokens_of.Goals as goal

pub returns-in_err-token : goal.returns-in_err-token
returns-in_err-token c =
    let p = err_from_is_err_and c.from_residual.result c.from_residual.ensures.1 in
    let fault = reads_fault c.args.text.now c.tokens.rest.now c.tokens.place c.tokens.list.items _ c.tokens.invariant c.in_err-token.ensures in
    rw (p.1, p.2) fault

pub returns : goal.returns
returns c =
    reads_all c.args.text.now c.tokens.rest.now c.tokens.place c.tokens.list.items c.tokens.invariant (rw c.in_default.is at c.in_ok-token.ensures)

pub tokens-preserved : goal.tokens-preserved
tokens-preserved c =
    let next = rw c.in-Some.is at c.in_ok-token.ensures in
    let more = reads_more c.args.text.now c.tokens.rest.now c.tokens.place c.tokens.list.items c.in-Some.token _ c.tokens.invariant next in
    rw (c.behind-rest.ensures, c.in_ok-add.ensures.ok) more
