use Rattle.std.proofs.Common.{List, ℕ, subst, refl}
use Rattle.std.specs.Prelude.{Some}
use Rattle.std.proofs.lemmas.Result.{err_from_is_err_and}
use Rattle.redn_image.specs.Rules.{numbers_of}
use Rattle.redn_disasm.specs.Assembly.{Assembles, Made}
use Rattle.redn_top.specs.Reasons.{NoneHolds, listing_reasons}
use Rattle.redn_top.specs.Refusals.{Refuses}
use Rattle.redn_top.proofs.Ending.{assemble_unread, assemble_refused, assemble_written}
use Rattle.redn_command.specs.Words.{Assemble}
use Rattle.redn_top.specs.declared.limits.TheConstants.{MAX_LISTING}
use Rattle.redn_top.specs.Reasons.{read_reasons}
use Rattle.redn_top.proofs.CallsMade.{unread_calls, refused_calls, written_calls}
use Rattle.redn_top.proofs.top.run_assemble.Goals as goal

pub returns-in_err-text-clause-ends : goal.returns-in_err-text-clause-ends
returns-in_err-text-clause-ends g c =
    let p = err_from_is_err_and c.from_residual.result c.from_residual.ensures.1 in
    rw (p.1, p.2) (assemble_unread c.args.file.now c.args.name.now (g.S.Store.seen c.args.store.now) (g.S.Store.seen c.read_file.new.store) (g.K.Sink.seen c.args.out.now) c.in_err-text.ensures.stays c.in_err-text.field-0.0 c.in_err-text.ensures.refused)

pub returns-in_err-image-clause-ends : goal.returns-in_err-image-clause-ends
returns-in_err-image-clause-ends g c =
    let p = err_from_is_err_and c.from_residual-in_err-image.result c.from_residual-in_err-image.ensures.1 in
    rw (p.1, p.2) (assemble_refused c.args.file.now c.args.name.now (g.S.Store.seen c.args.store.now) (g.S.Store.seen c.read_file.new.store) (g.K.Sink.seen c.args.out.now) c.in_ok-text.ensures.stays c.in_ok-text.text.items c.in_ok-text.ensures.held c.in_err-image.field-0.0
    (subst (λ (t : List ℕ). Refuses (listing_reasons (Some t)) c.in_err-image.field-0.0) c.deref.ensures.value c.in_err-image.ensures.refused))

pub returns-clause-ends : goal.returns-clause-ends
returns-clause-ends g c =
    let image = c.in_ok-image.image in
    let means = subst (λ (t : List ℕ). Assembles t (Made (numbers_of image) image.memory)) c.deref.ensures.value c.in_ok-image.ensures.means in
    let accepted = subst (λ (t : List ℕ). NoneHolds (listing_reasons (Some t))) c.deref.ensures.value c.in_ok-image.ensures.accepted in
    assemble_written c.args.file.now c.args.name.now (g.S.Store.seen c.args.store.now) (g.S.Store.seen c.read_file.new.store) (g.K.Sink.seen c.args.out.now) c.in_ok-text.ensures.stays c.in_ok-text.text.items c.in_ok-text.ensures.held image means accepted (g.S.Store.seen c.write_out.new.store) c.write_out.ensures.spares c.write_out.result c.write_out.ensures.wrote c.write_out.ensures.refused

pub returns-in_err-text-clause-calls : goal.returns-in_err-text-clause-calls
returns-in_err-text-clause-calls g c =
    let p = err_from_is_err_and c.from_residual.result c.from_residual.ensures.1 in
    let x = c.in_err-text.ensures.refused in
    rw (p.1, p.2) (unread_calls (Assemble c.args.file.now c.args.name.now) (g.S.Store.seen c.args.store.now) (g.S.Store.seen c.read_file.new.store) (read_reasons x.file MAX_LISTING) c.in_err-text.field-0.0 x.refuses c.in_err-text.ensures.made)

pub returns-in_err-image-clause-calls : goal.returns-in_err-image-clause-calls
returns-in_err-image-clause-calls g c =
    let p = err_from_is_err_and c.from_residual-in_err-image.result c.from_residual-in_err-image.ensures.1 in
    rw (p.1, p.2) (refused_calls (Assemble c.args.file.now c.args.name.now) (g.S.Store.seen c.args.store.now) (g.S.Store.seen c.read_file.new.store) c.in_ok-text.ensures.called (listing_reasons (Some c.deref.result.now)) c.in_err-image.field-0.0 c.in_err-image.ensures.refused)

pub returns-clause-calls : goal.returns-clause-calls
returns-clause-calls g c = written_calls (Assemble c.args.file.now c.args.name.now) (g.S.Store.seen c.args.store.now) (g.S.Store.seen c.read_file.new.store) c.in_ok-text.ensures.called c.args.name.now refl (g.S.Store.seen c.write_out.new.store) refl c.write_out.result c.write_out.ensures.called c.write_out.ensures.refused c.write_out.ensures.made
