use Rattle.std.proofs.Common.{◌∙◌, refl}
use Rattle.std.proofs.lemmas.Result.{err_from_is_err_and}
use Rattle.redn_top.proofs.Generating.{gen_unwritten, gen_unsummed, gen_put}
use Rattle.redn_command.specs.Words.{Gen}
use Rattle.redn_top.proofs.CallsMade.{no_calls, wants_calls, unwritten_calls, unput_calls, put_behind_calls}
use Rattle.redn_top.proofs.top.run_gen.Goals as goal

pub returns-in_err-write_out-clause-ends : goal.returns-in_err-write_out-clause-ends
returns-in_err-write_out-clause-ends g c =
    let p = err_from_is_err_and c.from_residual-in_err-write_out.result c.from_residual-in_err-write_out.ensures.1 in
    rw (p.1, p.2) (gen_unwritten c.args.number c.args.name.now (g.S.Store.seen c.args.store.now) (g.K.Sink.seen c.args.out.now) (g.S.Store.seen c.write_out.new.store) c.in_err-write_out.ensures.spares c.in_err-write_out.field-0.0 c.in_err-write_out.ensures.refused)

pub returns-in_err-text-clause-ends : goal.returns-in_err-text-clause-ends
returns-in_err-text-clause-ends g c =
    let p = err_from_is_err_and c.from_residual-in_err-text.result c.from_residual-in_err-text.ensures.1 in
    rw (p.1, p.2) (gen_unsummed c.args.number c.args.name.now (g.S.Store.seen c.args.store.now) (g.K.Sink.seen c.args.out.now) c.in_ok-image.image c.in_ok-image.ensures.faithful c.in_ok-image.ensures.small (g.S.Store.seen c.write_out.new.store) c.in_ok-write_out.ensures.wrote)

pub returns-clause-ends : goal.returns-clause-ends
returns-clause-ends g c =
    gen_put c.args.number c.args.name.now (g.S.Store.seen c.args.store.now) (g.K.Sink.seen c.args.out.now) c.in_ok-image.image c.in_ok-image.ensures.faithful c.in_ok-image.ensures.small (g.S.Store.seen c.write_out.new.store) c.in_ok-write_out.ensures.wrote c.deref.result.now (c.deref.ensures.value ∙ c.in_ok-text.ensures) (g.K.Sink.seen c.put_lines.new.out) c.put_lines.result c.put_lines.ensures.ok c.put_lines.ensures.refused

pub returns-in_err-image-clause-calls : goal.returns-in_err-image-clause-calls
returns-in_err-image-clause-calls g c =
    let p = err_from_is_err_and c.from_residual.result c.from_residual.ensures.1 in
    rw (p.1, p.2) (wants_calls (Gen c.args.number c.args.name.now) (g.S.Store.seen c.args.store.now) (g.S.Store.seen c.args.store.now) (no_calls (g.S.Store.seen c.args.store.now).calls))

pub returns-in_err-write_out-clause-calls : goal.returns-in_err-write_out-clause-calls
returns-in_err-write_out-clause-calls g c =
    let p = err_from_is_err_and c.from_residual-in_err-write_out.result c.from_residual-in_err-write_out.ensures.1 in
    rw (p.1, p.2) (unwritten_calls (Gen c.args.number c.args.name.now) (g.S.Store.seen c.args.store.now) (g.S.Store.seen c.args.store.now) (no_calls (g.S.Store.seen c.args.store.now).calls) c.args.name.now refl (g.S.Store.seen c.write_out.new.store) c.in_err-write_out.field-0.0 c.in_err-write_out.ensures.refused c.in_err-write_out.ensures.made)

pub returns-in_err-text-clause-calls : goal.returns-in_err-text-clause-calls
returns-in_err-text-clause-calls g c =
    let p = err_from_is_err_and c.from_residual-in_err-text.result c.from_residual-in_err-text.ensures.1 in
    rw (p.1, p.2) (unput_calls (Gen c.args.number c.args.name.now) c.args.name.now refl refl (g.S.Store.seen c.args.store.now) (g.S.Store.seen c.args.store.now) (g.S.Store.seen c.write_out.new.store) (no_calls (g.S.Store.seen c.args.store.now).calls) c.in_ok-write_out.ensures.called)

pub returns-clause-calls : goal.returns-clause-calls
returns-clause-calls g c = put_behind_calls (Gen c.args.number c.args.name.now) c.args.name.now refl refl (g.S.Store.seen c.args.store.now) (g.S.Store.seen c.args.store.now) (g.S.Store.seen c.write_out.new.store) (no_calls (g.S.Store.seen c.args.store.now).calls) c.in_ok-write_out.ensures.called c.deref.result.now (g.K.Sink.seen c.args.out.now) (g.K.Sink.seen c.put_lines.new.out) c.put_lines.result c.put_lines.ensures.refused
