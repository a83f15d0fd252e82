use Rattle.std.proofs.Common.{◌≡◌, [], ◌∷◌, ap, subst, ◌∙◌}
use Rattle.redn_trace.specs.EventText.{event_text, IsPrintable}
use Rattle.redn_top.specs.RunText.{events_text}
use Rattle.redn_top.proofs.RunLemmas.{step_some, events_text-push}
use Rattle.redn_top.proofs.ScheduleRuns.{makes_one}
use Rattle.redn_top.proofs.MadeRuns.{put_ok}
use Rattle.redn_top.proofs.run.make_step.Goals as goal

pub put_event-requires : goal.put_event-requires
put_event-requires g c =
    let s = step_some c.args.adapter.now c.in-Action.action c.in-Some.shown c.step.new.self c.in-Some.ensures.shown c.in-Some.ensures.after in
    subst IsPrintable s.shows_it (c.each_event_has_a_line.ensures c.args.adapter.now.state c.in-Action.action)

pub returns-in-Some-clause-made : goal.returns-in-Some-clause-made
returns-in-Some-clause-made g c =
    let first = c.args.adapter.now in
    let a = c.in-Action.action in
    let s = step_some first a c.in-Some.shown c.step.new.self c.in-Some.ensures.shown c.in-Some.ensures.after in
    let text : events_text first.state (a ∷ []) ≡ event_text c.in-Some.shown = events_text-push first.state [] a ∙ ap event_text s.shows_it in
    rw c.in-Action.is (put_ok c.put_event.result (makes_one first c.in-Action.line a c.in-Some.shown c.step.new.self (g.K.Sink.seen c.args.out.now).told (g.K.Sink.seen c.put_event.new.out).told s text) c.put_event.ensures.ok)
