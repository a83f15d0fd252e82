use Rattle.std.proofs.Common.{refl, subst}
use Rattle.redn_trace.specs.EventText.{IsPrintable}
use Rattle.redn_sched.specs.MadeSchedules.{fair_from}
use Rattle.redn_summary.proofs.OneMore.{Adds, step_some, counted_more, nothing_left}
use Rattle.redn_summary.proofs.run.count_run.Goals as goal

pub returns-in_default : goal.returns-in_default
returns-in_default c =
    let first = c.args.adapter.now in
    let acts = fair_from c.args.steps first.state c.args.fair.now in
    nothing_left first c.args.steps acts c.loop.counter c.loop-test.true c.loop.adapter c.loop.fair c.loop.counted c.loop.invariant (λ n. c.in_default.ensures.list n) (c.in_default.ensures.quiet.0 refl)

pub loop-preserved : goal.loop-preserved
loop-preserved c =
    let first = c.args.adapter.now in
    let acts = fair_from c.args.steps first.state c.args.fair.now in
    let a = c.in-Some.action in
    let s = step_some c.loop.adapter a c.in-Some-step.shown c.step.new.self c.in-Some-step.ensures.shown c.in-Some-step.ensures.after in
    let adds : Adds c.loop.counted c.in-Some-step.shown c.add.new.self = record { steps = c.in_ok-add.ensures.steps; events = c.in_ok-add.ensures.events; replies = c.in_ok-add.ensures.replies } in
    let printable = subst IsPrintable s.shows_it (c.each_event_has_a_line.ensures c.loop.adapter.state a) in
    counted_more first c.args.steps acts c.loop.counter c.loop-test.true c.loop.adapter c.loop.fair c.loop.counted c.loop.invariant a c.in-Some-step.shown c.step.new.self c.next_fair.new.self c.add.new.self s (λ n. c.in-Some.ensures.list n) (c.in-Some.ensures.stays a) c.in-Some.ensures.useful printable adds
