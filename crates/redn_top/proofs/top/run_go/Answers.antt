use Rattle.std.proofs.Common.{List, [], ◌∷◌, ℕ, map, string_bytes, refl, subst}
use Rattle.std.specs.Prelude.{Some}
use Rattle.std.specs.Option.{option_map}
use Rattle.std.proofs.lemmas.Result.{err_from_is_err_and}
use Rattle.redn_command.specs.Words.{message_view, plan_view}
use Rattle.redn_top.specs.Sources.{Means}
use Rattle.redn_top.specs.Answers.{status_of}
use Rattle.redn_top.specs.Reasons.{NoneHolds, source_reasons, run_reads}
use Rattle.redn_top.specs.Refusals.{Refuses, run_of}
use Rattle.redn_top.proofs.Endings.{go_unread, go_refused, go_unwritten, go_ends, has_text, others_stay}
use Rattle.redn_command.specs.Words.{Go}
use Rattle.redn_outside.specs.Calls.{Writes}
use Rattle.redn_top.specs.declared.limits.TheConstants.{MAX_FILE}
use Rattle.redn_top.specs.Calls.{reads_of}
use Rattle.redn_top.proofs.CallsMade.{both, unread_calls, refused_calls, wants_calls, unwritten_calls, run_calls}
use Rattle.redn_top.proofs.top.run_go.Goals as goal

pub returns-in_err-source-clause-ends : goal.returns-in_err-source-clause-ends
returns-in_err-source-clause-ends g c =
    let r = run_of (plan_view c.args.plan.now) (option_map string_bytes c.args.keep.now) (map message_view c.args.messages.now) in
    let p = err_from_is_err_and c.from_residual.result c.from_residual.ensures.1 in
    rw (p.1, p.2) (go_unread c.args.file.now c.args.name.now r (g.S.Store.seen c.args.store.now) (g.S.Store.seen c.read_run.new.store) (g.K.Sink.seen c.args.out.now) c.in_err-source.ensures.stays c.in_err-source.field-0.0 c.in_err-source.ensures.refused)

pub returns-in_err-program-clause-ends : goal.returns-in_err-program-clause-ends
returns-in_err-program-clause-ends g c =
    let r = run_of (plan_view c.args.plan.now) (option_map string_bytes c.args.keep.now) (map message_view c.args.messages.now) in
    let p = err_from_is_err_and c.from_residual-in_err-program.result c.from_residual-in_err-program.ensures.1 in
    let refused = subst (λ (t : List ℕ). Refuses (source_reasons (Some t)) c.in_err-program.field-0.0) c.deref.ensures.value c.in_err-program.ensures.refused in
    rw (p.1, p.2) (go_refused c.args.file.now c.args.name.now r (g.S.Store.seen c.args.store.now) (g.S.Store.seen c.read_run.new.store) (g.K.Sink.seen c.args.out.now) c.in_ok-source.ensures.stays c.in_ok-source.source.items (option_map (λ v. v.items) c.in_ok-source.schedule) c.in_ok-source.ensures.held c.in_ok-source.ensures.schedule_held c.in_err-program.field-0.0 refused)

pub returns-in_err-write_out-clause-ends : goal.returns-in_err-write_out-clause-ends
returns-in_err-write_out-clause-ends g c =
    let r = run_of (plan_view c.args.plan.now) (option_map string_bytes c.args.keep.now) (map message_view c.args.messages.now) in
    let p = err_from_is_err_and c.from_residual-in_err-write_out.result c.from_residual-in_err-write_out.ensures.1 in
    let program = c.in_ok-program.program in
    let means = subst (λ (t : List ℕ). Means t program) c.deref.ensures.value c.in_ok-program.ensures.means in
    let accepted = subst (λ (t : List ℕ). NoneHolds (source_reasons (Some t))) c.deref.ensures.value c.in_ok-program.ensures.accepted in
    rw (p.1, p.2) (go_unwritten c.args.file.now c.args.name.now r (g.S.Store.seen c.args.store.now) (g.S.Store.seen c.read_run.new.store) (g.K.Sink.seen c.args.out.now) c.in_ok-source.ensures.stays c.in_ok-source.source.items (option_map (λ v. v.items) c.in_ok-source.schedule) c.in_ok-source.ensures.held c.in_ok-source.ensures.schedule_held program means accepted (g.S.Store.seen c.write_out.new.store) c.in_err-write_out.ensures.spares c.in_err-write_out.field-0.0 c.in_err-write_out.ensures.refused)

pub run_planned-requires-clause-text : goal.run_planned-requires-clause-text
run_planned-requires-clause-text g c =
    has_text (g.S.Store.seen c.args.store.now).told (plan_view c.args.plan.now) (option_map (λ v. v.items) c.in_ok-source.schedule) c.in_ok-source.ensures.schedule_held

pub returns-clause-ends : goal.returns-clause-ends
returns-clause-ends g c =
    let r = run_of (plan_view c.args.plan.now) (option_map string_bytes c.args.keep.now) (map message_view c.args.messages.now) in
    let program = c.in_ok-program.program in
    let means = subst (λ (t : List ℕ). Means t program) c.deref.ensures.value c.in_ok-program.ensures.means in
    let accepted = subst (λ (t : List ℕ). NoneHolds (source_reasons (Some t))) c.deref.ensures.value c.in_ok-program.ensures.accepted in
    go_ends c.args.file.now c.args.name.now r (g.S.Store.seen c.args.store.now) (g.S.Store.seen c.read_run.new.store) (g.K.Sink.seen c.args.out.now) c.in_ok-source.ensures.stays c.in_ok-source.source.items (option_map (λ v. v.items) c.in_ok-source.schedule) c.in_ok-source.ensures.held c.in_ok-source.ensures.schedule_held program means accepted c.in_ok-image.image c.in_ok-image.ensures.faithful c.in_ok-image.ensures.small (g.S.Store.seen c.write_out.new.store) c.in_ok-write_out.ensures.wrote c.in_ok-write_out.ensures.count c.in_ok-write_out.ensures.reliable (g.S.Store.seen c.run_planned.new.store) (g.K.Sink.seen c.run_planned.new.out) (status_of c.run_planned.result) c.run_planned.ensures.ran

pub returns-in_err-source-clause-spares : goal.returns-in_err-source-clause-spares
returns-in_err-source-clause-spares g c =
    others_stay (Some c.args.name.now) (option_map string_bytes c.args.keep.now) (g.S.Store.seen c.args.store.now) (g.S.Store.seen c.read_run.new.store) c.in_err-source.ensures.stays.told

pub returns-in_err-program-clause-spares : goal.returns-in_err-program-clause-spares
returns-in_err-program-clause-spares g c =
    others_stay (Some c.args.name.now) (option_map string_bytes c.args.keep.now) (g.S.Store.seen c.args.store.now) (g.S.Store.seen c.read_run.new.store) c.in_ok-source.ensures.stays.told

pub returns-in_err-image-clause-spares : goal.returns-in_err-image-clause-spares
returns-in_err-image-clause-spares g c =
    others_stay (Some c.args.name.now) (option_map string_bytes c.args.keep.now) (g.S.Store.seen c.args.store.now) (g.S.Store.seen c.read_run.new.store) c.in_ok-source.ensures.stays.told

pub returns-in_err-source-clause-calls : goal.returns-in_err-source-clause-calls
returns-in_err-source-clause-calls g c =
    let r = run_of (plan_view c.args.plan.now) (option_map string_bytes c.args.keep.now) (map message_view c.args.messages.now) in
    let p = err_from_is_err_and c.from_residual.result c.from_residual.ensures.1 in
    let x = c.in_err-source.ensures.refused in
    rw (p.1, p.2) (unread_calls (Go c.args.file.now c.args.name.now r) (g.S.Store.seen c.args.store.now) (g.S.Store.seen c.read_run.new.store) (run_reads x.file MAX_FILE r.plan x.schedule) c.in_err-source.field-0.0 x.refuses c.in_err-source.ensures.made)

pub returns-in_err-program-clause-calls : goal.returns-in_err-program-clause-calls
returns-in_err-program-clause-calls g c =
    let r = run_of (plan_view c.args.plan.now) (option_map string_bytes c.args.keep.now) (map message_view c.args.messages.now) in
    let p = err_from_is_err_and c.from_residual-in_err-program.result c.from_residual-in_err-program.ensures.1 in
    rw (p.1, p.2) (refused_calls (Go c.args.file.now c.args.name.now r) (g.S.Store.seen c.args.store.now) (g.S.Store.seen c.read_run.new.store) c.in_ok-source.ensures.called (source_reasons (Some c.deref.result.now)) c.in_err-program.field-0.0 c.in_err-program.ensures.refused)

pub returns-in_err-image-clause-calls : goal.returns-in_err-image-clause-calls
returns-in_err-image-clause-calls g c =
    let r = run_of (plan_view c.args.plan.now) (option_map string_bytes c.args.keep.now) (map message_view c.args.messages.now) in
    let p = err_from_is_err_and c.from_residual-in_err-image.result c.from_residual-in_err-image.ensures.1 in
    rw (p.1, p.2) (wants_calls (Go c.args.file.now c.args.name.now r) (g.S.Store.seen c.args.store.now) (g.S.Store.seen c.read_run.new.store) c.in_ok-source.ensures.called)

pub returns-in_err-write_out-clause-calls : goal.returns-in_err-write_out-clause-calls
returns-in_err-write_out-clause-calls g c =
    let r = run_of (plan_view c.args.plan.now) (option_map string_bytes c.args.keep.now) (map message_view c.args.messages.now) in
    let p = err_from_is_err_and c.from_residual-in_err-write_out.result c.from_residual-in_err-write_out.ensures.1 in
    rw (p.1, p.2) (unwritten_calls (Go c.args.file.now c.args.name.now r) (g.S.Store.seen c.args.store.now) (g.S.Store.seen c.read_run.new.store) c.in_ok-source.ensures.called c.args.name.now refl (g.S.Store.seen c.write_out.new.store) c.in_err-write_out.field-0.0 c.in_err-write_out.ensures.refused c.in_err-write_out.ensures.made)

pub returns-clause-calls : goal.returns-clause-calls
returns-clause-calls g c =
    let r = run_of (plan_view c.args.plan.now) (option_map string_bytes c.args.keep.now) (map message_view c.args.messages.now) in
    let wrote = both (reads_of (Go c.args.file.now c.args.name.now r)) (Writes c.args.name.now ∷ []) (g.S.Store.seen c.args.store.now) (g.S.Store.seen c.read_run.new.store) (g.S.Store.seen c.write_out.new.store) c.in_ok-source.ensures.called c.in_ok-write_out.ensures.called in
    run_calls (Go c.args.file.now c.args.name.now r) r.keep refl (g.S.Store.seen c.args.store.now) (g.S.Store.seen c.write_out.new.store) (g.S.Store.seen c.run_planned.new.store) wrote (option_map (λ v. v.items) c.in_ok-source.schedule) r c.in_ok-image.image (g.K.Sink.seen c.args.out.now) (g.K.Sink.seen c.run_planned.new.out) (status_of c.run_planned.result) c.run_planned.ensures.ran c.run_planned.ensures.calls
