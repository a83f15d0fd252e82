use Rattle.std.proofs.Common.{List, ℕ, subst, ◌∙◌, refl}
use Rattle.std.specs.Prelude.{Some}
use Rattle.std.proofs.lemmas.Result.{err_from_is_err_and}
use Rattle.redn_image.specs.Spelling.{Spells}
use Rattle.redn_top.specs.Reasons.{NoneHolds, image_reasons}
use Rattle.redn_top.specs.Refusals.{Refuses}
use Rattle.redn_top.proofs.Ending.{disasm_unread, disasm_refused, disasm_put}
use Rattle.redn_command.specs.Words.{Disasm}
use Rattle.redn_top.specs.declared.limits.TheConstants.{MAX_IMAGE}
use Rattle.redn_top.specs.Reasons.{read_reasons}
use Rattle.redn_top.proofs.CallsMade.{unread_calls, refused_calls, wants_calls, lines_calls}
use Rattle.redn_top.proofs.top.run_disasm.Goals as goal

pub returns-in_err-bytes-clause-ends : goal.returns-in_err-bytes-clause-ends
returns-in_err-bytes-clause-ends g c =
    let p = err_from_is_err_and c.from_residual.result c.from_residual.ensures.1 in
    rw (p.1, p.2) (disasm_unread c.args.name.now (g.S.Store.seen c.args.store.now) (g.S.Store.seen c.read_file.new.store) (g.K.Sink.seen c.args.out.now) c.in_err-bytes.ensures.stays.told c.in_err-bytes.field-0.0 c.in_err-bytes.ensures.refused)

pub returns-in_err-image-clause-ends : goal.returns-in_err-image-clause-ends
returns-in_err-image-clause-ends g c =
    let p = err_from_is_err_and c.from_residual-in_err-image.result c.from_residual-in_err-image.ensures.1 in
    rw (p.1, p.2) (disasm_refused c.args.name.now (g.S.Store.seen c.args.store.now) (g.S.Store.seen c.read_file.new.store) (g.K.Sink.seen c.args.out.now) c.in_ok-bytes.ensures.stays.told c.in_ok-bytes.bytes.items c.in_ok-bytes.ensures.held c.in_err-image.field-0.0
    (subst (λ (t : List ℕ). Refuses (image_reasons (Some t)) c.in_err-image.field-0.0) c.deref.ensures.value c.in_err-image.ensures.refused))

pub returns-clause-ends : goal.returns-clause-ends
returns-clause-ends g c =
    let image = c.in_ok-image.image in
    let spells = subst (λ (t : List ℕ). Spells t image) c.deref.ensures.value c.in_ok-image.ensures.spells in
    let accepted = subst (λ (t : List ℕ). NoneHolds (image_reasons (Some t))) c.deref.ensures.value c.in_ok-image.ensures.accepted in
    disasm_put c.args.name.now (g.S.Store.seen c.args.store.now) (g.S.Store.seen c.read_file.new.store) (g.K.Sink.seen c.args.out.now) c.in_ok-bytes.ensures.stays.told c.in_ok-bytes.bytes.items c.in_ok-bytes.ensures.held image spells accepted c.deref-2.result.now (c.deref-2.ensures.value ∙ c.in_ok-text.ensures.is) (g.K.Sink.seen c.put_lines.new.out) c.put_lines.result c.put_lines.ensures.ok c.put_lines.ensures.refused

pub returns-in_err-bytes-clause-calls : goal.returns-in_err-bytes-clause-calls
returns-in_err-bytes-clause-calls g c =
    let p = err_from_is_err_and c.from_residual.result c.from_residual.ensures.1 in
    let x = c.in_err-bytes.ensures.refused in
    rw (p.1, p.2) (unread_calls (Disasm c.args.name.now) (g.S.Store.seen c.args.store.now) (g.S.Store.seen c.read_file.new.store) (read_reasons x.file MAX_IMAGE) c.in_err-bytes.field-0.0 x.refuses c.in_err-bytes.ensures.made)

pub returns-in_err-image-clause-calls : goal.returns-in_err-image-clause-calls
returns-in_err-image-clause-calls g c =
    let p = err_from_is_err_and c.from_residual-in_err-image.result c.from_residual-in_err-image.ensures.1 in
    rw (p.1, p.2) (refused_calls (Disasm c.args.name.now) (g.S.Store.seen c.args.store.now) (g.S.Store.seen c.read_file.new.store) c.in_ok-bytes.ensures.called (image_reasons (Some c.deref.result.now)) c.in_err-image.field-0.0 c.in_err-image.ensures.refused)

pub returns-in_err-text-clause-calls : goal.returns-in_err-text-clause-calls
returns-in_err-text-clause-calls g c =
    let p = err_from_is_err_and c.from_residual-in_err-text.result c.from_residual-in_err-text.ensures.1 in
    rw (p.1, p.2) (wants_calls (Disasm c.args.name.now) (g.S.Store.seen c.args.store.now) (g.S.Store.seen c.read_file.new.store) c.in_ok-bytes.ensures.called)

pub returns-clause-calls : goal.returns-clause-calls
returns-clause-calls g c = lines_calls (Disasm c.args.name.now) (g.S.Store.seen c.args.store.now) (g.S.Store.seen c.read_file.new.store) c.in_ok-bytes.ensures.called refl c.deref-2.result.now (g.K.Sink.seen c.args.out.now) (g.K.Sink.seen c.put_lines.new.out) c.put_lines.result c.put_lines.ensures.refused
