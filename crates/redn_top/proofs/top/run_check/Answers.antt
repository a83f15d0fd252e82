use Rattle.std.proofs.Common.{List, ℕ, subst, ◌∙◌, refl}
use Rattle.std.proofs.lemmas.Result.{err_from_is_err_and}
use Rattle.redn_top.specs.Sources.{IsTextOf}
use Rattle.redn_top.specs.Refusals.{SourceRefused}
use Rattle.redn_top.proofs.Ending.{check_unread, check_refused, check_put}
use Rattle.redn_command.specs.Words.{Check}
use Rattle.redn_top.specs.declared.limits.TheConstants.{MAX_FILE}
use Rattle.redn_top.specs.Reasons.{read_reasons}
use Rattle.redn_top.proofs.CallsMade.{unread_calls, refused_source_calls, put_calls}
use Rattle.redn_top.proofs.top.run_check.Goals as goal

pub returns-in_err-source-clause-ends : goal.returns-in_err-source-clause-ends
returns-in_err-source-clause-ends g c =
    let p = err_from_is_err_and c.from_residual.result c.from_residual.ensures.1 in
    rw (p.1, p.2) (check_unread c.args.file.now (g.S.Store.seen c.args.store.now) (g.S.Store.seen c.read_file.new.store) (g.K.Sink.seen c.args.out.now) c.in_err-source.ensures.stays.told c.in_err-source.field-0.0 c.in_err-source.ensures.refused)

pub returns-in_err-text-clause-ends : goal.returns-in_err-text-clause-ends
returns-in_err-text-clause-ends g c =
    let p = err_from_is_err_and c.from_residual-in_err-text.result c.from_residual-in_err-text.ensures.1 in
    rw (p.1, p.2) (check_refused c.args.file.now (g.S.Store.seen c.args.store.now) (g.S.Store.seen c.read_file.new.store) (g.K.Sink.seen c.args.out.now) c.in_ok-source.ensures.stays.told c.in_ok-source.source.items c.in_ok-source.ensures.held c.in_err-text.field-0.0
    (subst (λ (t : List ℕ). SourceRefused t c.in_err-text.field-0.0) c.deref.ensures.value c.in_err-text.ensures.refused))

pub returns-clause-ends : goal.returns-clause-ends
returns-clause-ends g c =
    let text = c.in_ok-text.ensures.text in
    let read = subst (λ (t : List ℕ). IsTextOf t text.0) c.deref.ensures.value text.1 in
    check_put c.args.file.now (g.S.Store.seen c.args.store.now) (g.S.Store.seen c.read_file.new.store) (g.K.Sink.seen c.args.out.now) c.in_ok-source.ensures.stays.told c.in_ok-source.source.items c.deref-2.result.now text.0 c.in_ok-source.ensures.held read text.2
    (c.deref-2.ensures.value ∙ text.3) (g.K.Sink.seen c.put.new.out) c.put.result c.put.ensures.ok c.put.ensures.refused

pub returns-in_err-source-clause-calls : goal.returns-in_err-source-clause-calls
returns-in_err-source-clause-calls g c =
    let p = err_from_is_err_and c.from_residual.result c.from_residual.ensures.1 in
    let x = c.in_err-source.ensures.refused in
    rw (p.1, p.2) (unread_calls (Check c.args.file.now) (g.S.Store.seen c.args.store.now) (g.S.Store.seen c.read_file.new.store) (read_reasons x.file MAX_FILE) c.in_err-source.field-0.0 x.refuses c.in_err-source.ensures.made)

pub returns-in_err-text-clause-calls : goal.returns-in_err-text-clause-calls
returns-in_err-text-clause-calls g c =
    let p = err_from_is_err_and c.from_residual-in_err-text.result c.from_residual-in_err-text.ensures.1 in
    rw (p.1, p.2) (refused_source_calls (Check c.args.file.now) (g.S.Store.seen c.args.store.now) (g.S.Store.seen c.read_file.new.store) c.in_ok-source.ensures.called c.deref.result.now c.in_err-text.field-0.0 c.in_err-text.ensures.refused)

pub returns-clause-calls : goal.returns-clause-calls
returns-clause-calls g c = put_calls (Check c.args.file.now) (g.S.Store.seen c.args.store.now) (g.S.Store.seen c.read_file.new.store) c.in_ok-source.ensures.called refl c.deref-2.result.now (g.K.Sink.seen c.args.out.now) (g.K.Sink.seen c.put.new.out) c.put.result c.put.ensures.refused
