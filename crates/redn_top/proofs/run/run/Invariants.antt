use Rattle.std.proofs.Common.{length}
use Rattle.redn_top.specs.Refusals.{FaultsStay}
use Rattle.redn_top.proofs.ScheduleRuns.{ReadSoFar}
use Rattle.redn_top.proofs.run.run.Given as goal

abbrev pub invariant-loop-rest : goal.invariant-loop-rest
invariant-loop-rest g l =
    ReadSoFar l.fn.adapter l.fn.text l.rest l.reader l.adapter (g.K.Sink.seen l.fn.out).told (g.K.Sink.seen l.out).told
    × FaultsStay (g.K.Sink.seen l.fn.out) (g.K.Sink.seen l.out)

abbrev pub decreases-loop-rest : goal.decreases-loop-rest
decreases-loop-rest g l = length l.rest
