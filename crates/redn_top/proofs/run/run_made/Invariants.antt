use Rattle.redn_top.specs.Makers.{made_from}
use Rattle.redn_top.specs.Refusals.{FaultsStay}
use Rattle.redn_top.proofs.MadeRuns.{MadeSoFar}
use Rattle.redn_top.proofs.run.run_made.Given as goal

abbrev pub invariant-loop : goal.invariant-loop
invariant-loop g l =
    MadeSoFar l.fn.adapter l.fn.steps (made_from l.fn.steps l.fn.adapter.state l.fn.maker) l.counter l.adapter l.maker l.keep l.made.items (g.K.Sink.seen l.fn.out).told (g.K.Sink.seen l.out).told
    × FaultsStay (g.K.Sink.seen l.fn.out) (g.K.Sink.seen l.out)
