use Rattle.std.proofs.Common.{[], refl, map, string_bytes, sym, ap, subst}
use Rattle.std.specs.Prelude.{Err}
use Rattle.redn_command.specs.Words.{Command, command_view}
use Rattle.redn_top.specs.Answers.{Ends, Spares}
use Rattle.redn_top.proofs.OneReason.{can_run, demands_so, works_so, completes_so}
use Rattle.redn_top.proofs.Succeeding.{succeeds_so}
use Rattle.redn_top.proofs.CallsMade.{no_calls}
use Rattle.redn_top.proofs.Endings.{spares_same}
use Rattle.redn_top.specs.Calls.{Calls}
use Rattle.redn_top.proofs.top.redn.Goals as goal

pub obey-requires : goal.obey-requires
obey-requires g c = can_run (map string_bytes c.args.words.now.items) (command_view c.in-Ok.command) c.in-Ok.ensures.command

pub returns-in-Ok-clause-ends : goal.returns-in-Ok-clause-ends
returns-in-Ok-clause-ends g c d is =
    subst (λ (e : Command). Ends e (g.S.Store.seen c.args.store.now) (g.S.Store.seen c.obey.new.store) (g.K.Sink.seen c.args.out.now) (g.K.Sink.seen c.obey.new.out) c.obey.result) (sym (c.in-Ok.ensures.only d is)) c.obey.ensures.ends

pub returns-in-Ok-clause-spares : goal.returns-in-Ok-clause-spares
returns-in-Ok-clause-spares g c d is =
    subst (λ (e : Command). Spares e (g.S.Store.seen c.args.store.now) (g.S.Store.seen c.obey.new.store)) (sym (c.in-Ok.ensures.only d is)) c.obey.ensures.spares

pub returns-in-Ok-clause-demands : goal.returns-in-Ok-clause-demands
returns-in-Ok-clause-demands g c files told d is i found s h =
    let ends = subst (λ (e : Command). Ends e (g.S.Store.seen c.args.store.now) (g.S.Store.seen c.obey.new.store) (g.K.Sink.seen c.args.out.now) (g.K.Sink.seen c.obey.new.out) c.obey.result) (sym (c.in-Ok.ensures.only d is)) c.obey.ensures.ends in
    demands_so d (g.S.Store.seen c.args.store.now) (g.S.Store.seen c.obey.new.store) (g.K.Sink.seen c.args.out.now) (g.K.Sink.seen c.obey.new.out) files told i found s c.obey.result h ends (subst (λ (e : Command). Calls e (g.S.Store.seen c.args.store.now) (g.S.Store.seen c.obey.new.store) c.obey.result) (sym (c.in-Ok.ensures.only d is)) c.obey.ensures.calls)

pub returns-in-Ok-clause-works : goal.returns-in-Ok-clause-works
returns-in-Ok-clause-works g c files told d is i found none =
    let ends = subst (λ (e : Command). Ends e (g.S.Store.seen c.args.store.now) (g.S.Store.seen c.obey.new.store) (g.K.Sink.seen c.args.out.now) (g.K.Sink.seen c.obey.new.out) c.obey.result) (sym (c.in-Ok.ensures.only d is)) c.obey.ensures.ends in
    works_so d (g.S.Store.seen c.args.store.now) (g.S.Store.seen c.obey.new.store) (g.K.Sink.seen c.args.out.now) (g.K.Sink.seen c.obey.new.out) files told i found c.obey.result none ends

pub returns-in-Ok-clause-completes : goal.returns-in-Ok-clause-completes
returns-in-Ok-clause-completes g c files told d is i found none calm =
    let ends = subst (λ (e : Command). Ends e (g.S.Store.seen c.args.store.now) (g.S.Store.seen c.obey.new.store) (g.K.Sink.seen c.args.out.now) (g.K.Sink.seen c.obey.new.out) c.obey.result) (sym (c.in-Ok.ensures.only d is)) c.obey.ensures.ends in
    completes_so d (g.S.Store.seen c.args.store.now) (g.S.Store.seen c.obey.new.store) (g.K.Sink.seen c.args.out.now) (g.K.Sink.seen c.obey.new.out) files told i found c.obey.result none calm ends

pub returns-in-Ok-clause-succeeds : goal.returns-in-Ok-clause-succeeds
returns-in-Ok-clause-succeeds g c files told d is i found none good calm =
    let ends = subst (λ (e : Command). Ends e (g.S.Store.seen c.args.store.now) (g.S.Store.seen c.obey.new.store) (g.K.Sink.seen c.args.out.now) (g.K.Sink.seen c.obey.new.out) c.obey.result) (sym (c.in-Ok.ensures.only d is)) c.obey.ensures.ends in
    succeeds_so c.each_text_is_read_once.ensures c.beginnings_are_read.ensures (g.S.Store.seen c.args.store.now) (g.S.Store.seen c.obey.new.store) (g.K.Sink.seen c.args.out.now) (g.K.Sink.seen c.obey.new.out) files told i d found none good calm c.obey.result ends

pub returns-in-Err-Refused-clause-ends : goal.returns-in-Err-Refused-clause-ends
returns-in-Err-Refused-clause-ends g c d is = absurd (c.in-Err-Refused.ensures.refused (ap Err c.in-Err-Refused.field-0-is) d is)

pub returns-in-Err-Refused-clause-spares : goal.returns-in-Err-Refused-clause-spares
returns-in-Err-Refused-clause-spares g c d is = absurd (c.in-Err-Refused.ensures.refused (ap Err c.in-Err-Refused.field-0-is) d is)

pub returns-in-Err-Refused-clause-words : goal.returns-in-Err-Refused-clause-words
returns-in-Err-Refused-clause-words g c e d is = c.in-Err-Refused.ensures.refused (ap Err c.in-Err-Refused.field-0-is) d is

pub returns-in-Err-Refused-clause-demands : goal.returns-in-Err-Refused-clause-demands
returns-in-Err-Refused-clause-demands g c files told d is i found s h = absurd (c.in-Err-Refused.ensures.refused (ap Err c.in-Err-Refused.field-0-is) d is)

pub returns-in-Err-Refused-clause-works : goal.returns-in-Err-Refused-clause-works
returns-in-Err-Refused-clause-works g c files told d is i found none = absurd (c.in-Err-Refused.ensures.refused (ap Err c.in-Err-Refused.field-0-is) d is)

pub returns-in-Err-Refused-clause-completes : goal.returns-in-Err-Refused-clause-completes
returns-in-Err-Refused-clause-completes g c files told d is i found none calm = absurd (c.in-Err-Refused.ensures.refused (ap Err c.in-Err-Refused.field-0-is) d is)

pub returns-in-Err-Refused-clause-succeeds : goal.returns-in-Err-Refused-clause-succeeds
returns-in-Err-Refused-clause-succeeds g c files told d is i found none good calm = absurd (c.in-Err-Refused.ensures.refused (ap Err c.in-Err-Refused.field-0-is) d is)

pub returns-in-Err-Memory-clause-spares : goal.returns-in-Err-Memory-clause-spares
returns-in-Err-Memory-clause-spares g c d is = spares_same d (g.S.Store.seen c.args.store.now)

pub returns-in-Ok-clause-calls : goal.returns-in-Ok-clause-calls
returns-in-Ok-clause-calls g c d is =
    subst (λ (e : Command). Calls e (g.S.Store.seen c.args.store.now) (g.S.Store.seen c.obey.new.store) c.obey.result) (sym (c.in-Ok.ensures.only d is)) c.obey.ensures.calls

pub returns-in-Err-Refused-clause-calls : goal.returns-in-Err-Refused-clause-calls
returns-in-Err-Refused-clause-calls g c d is = absurd (c.in-Err-Refused.ensures.refused (ap Err c.in-Err-Refused.field-0-is) d is)

pub returns-in-Err-Memory-clause-calls : goal.returns-in-Err-Memory-clause-calls
returns-in-Err-Memory-clause-calls g c d is = ([], (_, refl), no_calls (g.S.Store.seen c.args.store.now).calls)
