use Rattle.std.proofs.Common.{List, ℕ, map, string_bytes, sym, ap, subst, ◌∙◌, append-nil, refl}
use Rattle.std.specs.Prelude.{Some}
use Rattle.std.specs.Option.{option_map}
use Rattle.std.proofs.lemmas.Result.{err_from_is_err_and}
use Rattle.redn_image.specs.Spelling.{Spells}
use Rattle.redn_command.specs.Words.{message_view, plan_view}
use Rattle.redn_top.specs.Answers.{status_of}
use Rattle.redn_outside.specs.Calls.{and_calls}
use Rattle.redn_top.specs.Reasons.{NoneHolds, image_reasons, run_reads}
use Rattle.redn_top.specs.Refusals.{Refuses, run_of}
use Rattle.redn_top.proofs.Endings.{run_unread, run_refused, run_ends, has_text}
use Rattle.redn_command.specs.Words.{Run}
use Rattle.redn_top.specs.declared.limits.TheConstants.{MAX_IMAGE}
use Rattle.redn_top.specs.Calls.{reads_of}
use Rattle.redn_top.proofs.CallsMade.{unread_calls, refused_calls, run_calls}
use Rattle.redn_top.proofs.top.run_run.Goals as goal

pub returns-in_err-bytes-clause-ends : goal.returns-in_err-bytes-clause-ends
returns-in_err-bytes-clause-ends g c =
    let r = run_of (plan_view c.args.plan.now) (option_map string_bytes c.args.keep.now) (map message_view c.args.messages.now) in
    let p = err_from_is_err_and c.from_residual.result c.from_residual.ensures.1 in
    rw (p.1, p.2) (run_unread c.args.name.now r (g.S.Store.seen c.args.store.now) (g.S.Store.seen c.read_run.new.store) (g.K.Sink.seen c.args.out.now) c.in_err-bytes.ensures.stays c.in_err-bytes.field-0.0 c.in_err-bytes.ensures.refused)

pub returns-in_err-image-clause-ends : goal.returns-in_err-image-clause-ends
returns-in_err-image-clause-ends g c =
    let r = run_of (plan_view c.args.plan.now) (option_map string_bytes c.args.keep.now) (map message_view c.args.messages.now) in
    let p = err_from_is_err_and c.from_residual-in_err-image.result c.from_residual-in_err-image.ensures.1 in
    let refused = subst (λ (t : List ℕ). Refuses (image_reasons (Some t)) c.in_err-image.field-0.0) c.deref.ensures.value c.in_err-image.ensures.refused in
    rw (p.1, p.2) (run_refused c.args.name.now r (g.S.Store.seen c.args.store.now) (g.S.Store.seen c.read_run.new.store) (g.K.Sink.seen c.args.out.now) c.in_ok-bytes.ensures.stays c.in_ok-bytes.bytes.items (option_map (λ v. v.items) c.in_ok-bytes.schedule) c.in_ok-bytes.ensures.held c.in_ok-bytes.ensures.schedule_held c.in_err-image.field-0.0 refused)

pub run_planned-requires-clause-text : goal.run_planned-requires-clause-text
run_planned-requires-clause-text g c =
    has_text (g.S.Store.seen c.args.store.now).told (plan_view c.args.plan.now) (option_map (λ v. v.items) c.in_ok-bytes.schedule) c.in_ok-bytes.ensures.schedule_held

pub returns-clause-ends : goal.returns-clause-ends
returns-clause-ends g c =
    let r = run_of (plan_view c.args.plan.now) (option_map string_bytes c.args.keep.now) (map message_view c.args.messages.now) in
    let image = c.in_ok-image.image in
    let spells = subst (λ (t : List ℕ). Spells t image) c.deref.ensures.value c.in_ok-image.ensures.spells in
    let accepted = subst (λ (t : List ℕ). NoneHolds (image_reasons (Some t))) c.deref.ensures.value c.in_ok-image.ensures.accepted in
    run_ends c.args.name.now r (g.S.Store.seen c.args.store.now) (g.S.Store.seen c.read_run.new.store) (g.K.Sink.seen c.args.out.now) c.in_ok-bytes.ensures.stays c.in_ok-bytes.bytes.items (option_map (λ v. v.items) c.in_ok-bytes.schedule) c.in_ok-bytes.ensures.held c.in_ok-bytes.ensures.schedule_held image spells accepted (g.S.Store.seen c.run_planned.new.store) (g.K.Sink.seen c.run_planned.new.out) (status_of c.run_planned.result) c.run_planned.ensures.ran

pub returns-in_err-bytes-clause-calls : goal.returns-in_err-bytes-clause-calls
returns-in_err-bytes-clause-calls g c =
    let r = run_of (plan_view c.args.plan.now) (option_map string_bytes c.args.keep.now) (map message_view c.args.messages.now) in
    let p = err_from_is_err_and c.from_residual.result c.from_residual.ensures.1 in
    let x = c.in_err-bytes.ensures.refused in
    rw (p.1, p.2) (unread_calls (Run c.args.name.now r) (g.S.Store.seen c.args.store.now) (g.S.Store.seen c.read_run.new.store) (run_reads x.file MAX_IMAGE r.plan x.schedule) c.in_err-bytes.field-0.0 x.refuses c.in_err-bytes.ensures.made)

pub returns-in_err-image-clause-calls : goal.returns-in_err-image-clause-calls
returns-in_err-image-clause-calls g c =
    let r = run_of (plan_view c.args.plan.now) (option_map string_bytes c.args.keep.now) (map message_view c.args.messages.now) in
    let p = err_from_is_err_and c.from_residual-in_err-image.result c.from_residual-in_err-image.ensures.1 in
    rw (p.1, p.2) (refused_calls (Run c.args.name.now r) (g.S.Store.seen c.args.store.now) (g.S.Store.seen c.read_run.new.store) c.in_ok-bytes.ensures.called (image_reasons (Some c.deref.result.now)) c.in_err-image.field-0.0 c.in_err-image.ensures.refused)

pub returns-clause-calls : goal.returns-clause-calls
returns-clause-calls g c =
    let r = run_of (plan_view c.args.plan.now) (option_map string_bytes c.args.keep.now) (map message_view c.args.messages.now) in
    let read = c.in_ok-bytes.ensures.called ∙ ap (λ l. and_calls l (g.S.Store.seen c.args.store.now).calls) (sym (append-nil (reads_of (Run c.args.name.now r)))) in
    run_calls (Run c.args.name.now r) r.keep refl (g.S.Store.seen c.args.store.now) (g.S.Store.seen c.read_run.new.store) (g.S.Store.seen c.run_planned.new.store) read (option_map (λ v. v.items) c.in_ok-bytes.schedule) r c.in_ok-image.image (g.K.Sink.seen c.args.out.now) (g.K.Sink.seen c.run_planned.new.out) (status_of c.run_planned.result) c.run_planned.ensures.ran c.run_planned.ensures.calls
