use Rattle.std.proofs.Common.{List, ℕ, subst, refl}
use Rattle.std.specs.Prelude.{Some}
use Rattle.std.proofs.lemmas.Result.{err_from_is_err_and}
use Rattle.redn_top.specs.Sources.{Means}
use Rattle.redn_top.specs.Reasons.{NoneHolds, source_reasons}
use Rattle.redn_top.specs.Refusals.{Refuses}
use Rattle.redn_top.proofs.Ending.{compile_unread, compile_refused, compile_written}
use Rattle.redn_command.specs.Words.{Compile}
use Rattle.redn_top.specs.declared.limits.TheConstants.{MAX_FILE}
use Rattle.redn_top.specs.Reasons.{read_reasons}
use Rattle.redn_top.proofs.CallsMade.{unread_calls, refused_calls, wants_calls, written_calls}
use Rattle.redn_top.proofs.top.run_compile.Goals as goal

pub returns-in_err-source-clause-ends : goal.returns-in_err-source-clause-ends
returns-in_err-source-clause-ends g c =
    let p = err_from_is_err_and c.from_residual.result c.from_residual.ensures.1 in
    rw (p.1, p.2) (compile_unread c.args.file.now c.args.name.now (g.S.Store.seen c.args.store.now) (g.S.Store.seen c.read_file.new.store) (g.K.Sink.seen c.args.out.now) c.in_err-source.ensures.stays c.in_err-source.field-0.0 c.in_err-source.ensures.refused)

pub returns-in_err-program-clause-ends : goal.returns-in_err-program-clause-ends
returns-in_err-program-clause-ends g c =
    let p = err_from_is_err_and c.from_residual-in_err-program.result c.from_residual-in_err-program.ensures.1 in
    rw (p.1, p.2) (compile_refused c.args.file.now c.args.name.now (g.S.Store.seen c.args.store.now) (g.S.Store.seen c.read_file.new.store) (g.K.Sink.seen c.args.out.now) c.in_ok-source.ensures.stays c.in_ok-source.source.items c.in_ok-source.ensures.held c.in_err-program.field-0.0
    (subst (λ (t : List ℕ). Refuses (source_reasons (Some t)) c.in_err-program.field-0.0) c.deref.ensures.value c.in_err-program.ensures.refused))

pub returns-clause-ends : goal.returns-clause-ends
returns-clause-ends g c =
    let p = c.in_ok-program.program in
    let means = subst (λ (t : List ℕ). Means t p) c.deref.ensures.value c.in_ok-program.ensures.means in
    let accepted = subst (λ (t : List ℕ). NoneHolds (source_reasons (Some t))) c.deref.ensures.value c.in_ok-program.ensures.accepted in
    compile_written c.args.file.now c.args.name.now (g.S.Store.seen c.args.store.now) (g.S.Store.seen c.read_file.new.store) (g.K.Sink.seen c.args.out.now) c.in_ok-source.ensures.stays c.in_ok-source.source.items c.in_ok-source.ensures.held p means accepted c.in_ok-image.image c.in_ok-image.ensures.faithful c.in_ok-image.ensures.small (g.S.Store.seen c.write_out.new.store) c.write_out.ensures.spares c.write_out.result c.write_out.ensures.wrote c.write_out.ensures.refused

pub returns-in_err-source-clause-calls : goal.returns-in_err-source-clause-calls
returns-in_err-source-clause-calls g c =
    let p = err_from_is_err_and c.from_residual.result c.from_residual.ensures.1 in
    let x = c.in_err-source.ensures.refused in
    rw (p.1, p.2) (unread_calls (Compile c.args.file.now c.args.name.now) (g.S.Store.seen c.args.store.now) (g.S.Store.seen c.read_file.new.store) (read_reasons x.file MAX_FILE) c.in_err-source.field-0.0 x.refuses c.in_err-source.ensures.made)

pub returns-in_err-program-clause-calls : goal.returns-in_err-program-clause-calls
returns-in_err-program-clause-calls g c =
    let p = err_from_is_err_and c.from_residual-in_err-program.result c.from_residual-in_err-program.ensures.1 in
    rw (p.1, p.2) (refused_calls (Compile c.args.file.now c.args.name.now) (g.S.Store.seen c.args.store.now) (g.S.Store.seen c.read_file.new.store) c.in_ok-source.ensures.called (source_reasons (Some c.deref.result.now)) c.in_err-program.field-0.0 c.in_err-program.ensures.refused)

pub returns-in_err-image-clause-calls : goal.returns-in_err-image-clause-calls
returns-in_err-image-clause-calls g c =
    let p = err_from_is_err_and c.from_residual-in_err-image.result c.from_residual-in_err-image.ensures.1 in
    rw (p.1, p.2) (wants_calls (Compile c.args.file.now c.args.name.now) (g.S.Store.seen c.args.store.now) (g.S.Store.seen c.read_file.new.store) c.in_ok-source.ensures.called)

pub returns-clause-calls : goal.returns-clause-calls
returns-clause-calls g c = written_calls (Compile c.args.file.now c.args.name.now) (g.S.Store.seen c.args.store.now) (g.S.Store.seen c.read_file.new.store) c.in_ok-source.ensures.called c.args.name.now refl (g.S.Store.seen c.write_out.new.store) refl c.write_out.result c.write_out.ensures.called c.write_out.ensures.refused c.write_out.ensures.made
