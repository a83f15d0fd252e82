use Rattle.std.proofs.Common.{◌≡◌, ℕ, true, List, [], map, string_bytes, refl, sym, ap, subst, ◌∙◌}
use Rattle.std.specs.Prelude.{Some, OnOk, is_some}
use Rattle.std.specs.Option.{option_map}
use Rattle.std.proofs.lemmas.Result.{err_from_is_err_and}
use Rattle.redn_outside.specs.Files.{with_file}
use Rattle.redn_command.specs.Words.{message_view, plan_view}
use Rattle.redn_top.specs.Answers.{status_of}
use Rattle.redn_top.specs.Refusals.{HasText, ImageRan}
use Rattle.redn_top.proofs.Endings.{schedule_ends, stopped_ends, whole_made, record_ends}
use Rattle.redn_top.specs.Calls.{record_write}
use Rattle.redn_top.proofs.CallsMade.{no_calls, record_none, stopped_record, written_record, unkept}
use Rattle.redn_top.proofs.top.run_planned.Goals as goal

pub returns-in_err-made-clause-ran : goal.returns-in_err-made-clause-ran
returns-in_err-made-clause-ran g c =
    let plan = plan_view c.args.plan.now in
    let keep = option_map string_bytes c.args.keep.now in
    let words = map message_view c.args.messages.now in
    let has = subst (λ s. HasText plan (option_map (λ v. v.items) s)) c.in_default.is c.requires.text in
    let p = err_from_is_err_and c.from_residual.result c.from_residual.ensures.1 in
    rw (p.1, p.2, c.in_default.is) (stopped_ends plan keep words c.args.image has (g.S.Store.seen c.args.store.now) (g.K.Sink.seen c.args.out.now) (g.K.Sink.seen c.run_image_made.new.out) c.in_err-made.field-0.0 c.in_err-made.ensures.stopped)

pub returns-clause-ran : goal.returns-clause-ran
returns-clause-ran g c =
    let plan = plan_view c.args.plan.now in
    let keep = option_map string_bytes c.args.keep.now in
    let words = map message_view c.args.messages.now in
    let before = g.S.Store.seen c.args.store.now in
    let now = g.S.Store.seen c.write_file.new.store in
    let has = subst (λ s. HasText plan (option_map (λ v. v.items) s)) c.in_default.is c.requires.text in
    let name = c.as_str.result.now in
    let made = c.deref-2.result.now in
    let asked : keep ≡ Some name = ap (option_map string_bytes) c.in-Some-keep.is ∙ ap Some (sym c.as_str.ensures.value) in
    let yes : c.is_some.result ≡ true = c.is_some.ensures ∙ ap is_some c.in-Some-keep.is in
    let are = c.deref-2.ensures.value ∙ c.in_ok-made.ensures.kept yes in
    let wrote = subst (λ (b : List ℕ). OnOk c.write_file.result (now.told ≡ option_map (with_file name b) before.told)) (c.deref-3.ensures.value ∙ c.in_ok-text.ensures.text) c.write_file.ensures.wrote in
    rw c.in_default.is (record_ends plan keep words c.args.image has before (g.K.Sink.seen c.args.out.now) (g.K.Sink.seen c.run_image_made.new.out) name asked made are c.in_ok-made.ensures.whole now c.write_file.ensures.stays.told c.write_file.result wrote c.write_file.ensures.refused)

pub returns-in-Some-clause-ran : goal.returns-in-Some-clause-ran
returns-in-Some-clause-ran g c =
    let plan = plan_view c.args.plan.now in
    let keep = option_map string_bytes c.args.keep.now in
    let words = map message_view c.args.messages.now in
    let text = c.in-Some.text.items in
    let has = subst (λ s. HasText plan (option_map (λ v. v.items) s)) c.in-Some.is c.requires.text in
    let ran = subst (λ (t : List ℕ). ImageRan c.args.image words t (g.K.Sink.seen c.args.out.now) (g.K.Sink.seen c.run_image.new.out) (status_of c.run_image.result)) c.deref.ensures.value c.run_image.ensures.ran in
    rw c.in-Some.is (schedule_ends plan keep words c.args.image text has c.requires.runs (g.S.Store.seen c.args.store.now) (g.K.Sink.seen c.args.out.now) (g.K.Sink.seen c.run_image.new.out) (status_of c.run_image.result) ran)

pub returns-in_err-text-clause-ran : goal.returns-in_err-text-clause-ran
returns-in_err-text-clause-ran g c =
    let plan = plan_view c.args.plan.now in
    let keep = option_map string_bytes c.args.keep.now in
    let words = map message_view c.args.messages.now in
    let has = subst (λ s. HasText plan (option_map (λ v. v.items) s)) c.in_default.is c.requires.text in
    let p = err_from_is_err_and c.from_residual-in_err-text.result c.from_residual-in_err-text.ensures.1 in
    rw (p.1, p.2, c.in_default.is) (whole_made plan keep words c.args.image has (g.S.Store.seen c.args.store.now) (g.K.Sink.seen c.args.out.now) (g.K.Sink.seen c.run_image_made.new.out) c.in_ok-made.ensures.whole (g.S.Store.seen c.args.store.now) refl)

pub returns-in_err-made-clause-calls : goal.returns-in_err-made-clause-calls
returns-in_err-made-clause-calls g c =
    let p = err_from_is_err_and c.from_residual.result c.from_residual.ensures.1 in
    rw (p.1, p.2) ([], stopped_record (option_map string_bytes c.args.keep.now) c.args.image (map message_view c.args.messages.now) (plan_view c.args.plan.now) (g.K.Sink.seen c.args.out.now) (g.K.Sink.seen c.run_image_made.new.out) c.in_err-made.field-0.0 c.in_err-made.ensures.stopped, no_calls (g.S.Store.seen c.args.store.now).calls)

pub returns-in_err-text-clause-calls : goal.returns-in_err-text-clause-calls
returns-in_err-text-clause-calls g c =
    let p = err_from_is_err_and c.from_residual-in_err-text.result c.from_residual-in_err-text.ensures.1 in
    rw (p.1, p.2) ([], (record_write (option_map string_bytes c.args.keep.now), refl), no_calls (g.S.Store.seen c.args.store.now).calls)

pub returns-clause-calls : goal.returns-clause-calls
returns-clause-calls g c =
    let keep = option_map string_bytes c.args.keep.now in
    let name = c.as_str.result.now in
    let asked : keep ≡ Some name = ap (option_map string_bytes) c.in-Some-keep.is ∙ ap Some (sym c.as_str.ensures.value) in
    written_record keep name asked (g.S.Store.seen c.args.store.now) (g.S.Store.seen c.write_file.new.store) c.write_file.result c.write_file.ensures.called c.write_file.ensures.refused c.write_file.ensures.made

pub returns-in-Some-clause-calls : goal.returns-in-Some-clause-calls
returns-in-Some-clause-calls g c =
    let keep = option_map string_bytes c.args.keep.now in
    let has = subst (λ s. HasText (plan_view c.args.plan.now) (option_map (λ v. v.items) s)) c.in-Some.is c.requires.text in
    ([], record_none keep (status_of c.run_image.result) (unkept (plan_view c.args.plan.now) c.in-Some.text.items keep has c.requires.runs), no_calls (g.S.Store.seen c.args.store.now).calls)
