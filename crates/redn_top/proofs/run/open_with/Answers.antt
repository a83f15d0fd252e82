use Rattle.std.proofs.Common.{◌≡◌, inl, rules}
use Rattle.redn_top.proofs.MisfitFaults.{no_misfit, first_misfit_told}
use Rattle.redn_top.proofs.run.open_with.Goals as goal

pub returns-in-Ok-clause-fits : goal.returns-in-Ok-clause-fits
returns-in-Ok-clause-fits c = no_misfit c.args.image.receives c.args.messages c.in-Ok.ensures.fits

pub returns-in-Err-Message-clause-refused : goal.returns-in-Err-Message-clause-refused
returns-in-Err-Message-clause-refused c =
    let e = c.open.ensures.message c.in-Err-Message.chain c.in-Err-Message.got c.in-Err-Message.want in
    let same : c.from-chain.result ≡ c.in-Err-Message.chain = search rules in
    rw same (inl (first_misfit_told c.args.image.receives c.args.messages c.in-Err-Message.chain c.in-Err-Message.got c.in-Err-Message.want (e.0 (search rules))))
