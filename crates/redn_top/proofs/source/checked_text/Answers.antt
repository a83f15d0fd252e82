-- What the rules refuse refuses the text.
use Rattle.std.proofs.lemmas.Result.{err_from_is_err_and}
use Rattle.redn_top.proofs.SourceFaults.{rules_refused}
use Rattle.redn_top.proofs.source.checked_text.Goals as goal

pub returns-in_err-resolve-clause-refused : goal.returns-in_err-resolve-clause-refused
returns-in_err-resolve-clause-refused c =
    let t = c.in_ok-f.ensures in
    let p = err_from_is_err_and c.from_residual-in_err-resolve.result c.from_residual-in_err-resolve.ensures.1 in
    rw (p.1, p.2) (rules_refused c.args.text.now c.in_ok-f.f t.tree t.only c.in_err-resolve.field-0.0 c.in_err-resolve.ensures.refused)
