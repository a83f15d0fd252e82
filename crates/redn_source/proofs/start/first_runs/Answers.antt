use Rattle.std.proofs.Common.{ℕ, Vec, Global}
use Rattle.std.proofs.lemmas.List.Elements.{All-push}
use Rattle.redn_source.specs.RunView.{IsRun}
use Rattle.redn_source.proofs.Fresh.{fits_here, fresh_more}
use Rattle.redn_source.proofs.start.first_runs.Goals as goal

pub first_run-requires-clause-fits : goal.first_run-requires-clause-fits
first_run-requires-clause-fits c =
    fits_here (λ (v : Vec ℕ Global). v.items) c.loop-k.k c.args.chains.now c.args.messages.now c.index-chains-k.result c.index-messages-k.result c.loop-k-test.true c.requires.each c.index-chains-k.is c.index-messages-k.is c.requires.fits

pub loop-k-preserved : goal.loop-k-preserved
loop-k-preserved c =
    let run = c.in_ok-first_run in
    rw c.in_ok-push.ensures.items
    (All-push IsRun c.loop-k.runs.items run.field-0 c.loop-k.invariant.0 run.ensures.keep, fresh_more (λ (v : Vec ℕ Global). v.items) c.loop-k.k c.args.chains.now c.args.messages.now c.index-chains-k.result c.index-messages-k.result c.loop-k.runs.items run.field-0 _ c.loop-k-test.true c.requires.each c.index-chains-k.is c.index-messages-k.is run.ensures.fresh c.loop-k.invariant.1)
