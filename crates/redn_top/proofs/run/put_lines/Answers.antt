use Rattle.std.proofs.Common.{◌++◌, sym, ap, ◌∙◌, append_assoc, append-nil}
use Rattle.std.specs.Option.{option_map}
use Rattle.std.proofs.lemmas.Result.{err_from_is_err_and}
use Rattle.redn_top.proofs.RunLemmas.{later_faults}
use Rattle.redn_top.proofs.ListingLines.{no_line_left, told_more, lines_cut}
use Rattle.redn_top.proofs.run.put_lines.Goals as goal

pub returns-in_err-put-clause-refused : goal.returns-in_err-put-clause-refused
returns-in_err-put-clause-refused g c =
    let done = c.loop-line.invariant.1 in
    let p = err_from_is_err_and c.from_residual.result c.from_residual.ensures.1 in
    rw (p.1, p.2) (lines_cut c.args.text.now done.0 c.loop-line.rest.now c.in-Some.line.now c.in-Some.behind.now done.1 c.in-Some.ensures.whole (g.K.Sink.seen c.args.out.now) (g.K.Sink.seen c.loop-line.out) (g.K.Sink.seen c.put.new.out) c.loop-line.invariant.0 done.2 c.in_err-put.field-0.0 c.in_err-put.ensures.refused)

pub loop-line-preserved : goal.loop-line-preserved
loop-line-preserved g c =
    let done = c.loop-line.invariant.1 in
    let line = c.in-Some.line.now in (
      later_faults _ _ _ c.loop-line.invariant.0 c.in_ok-put.ensures.stays,
      (done.0 ++ line, done.1 ∙ ap (λ r. done.0 ++ r) c.in-Some.ensures.whole ∙ sym (append_assoc done.0 line c.in-Some.behind.now), told_more done.0 line _ _ _ done.2 c.in_ok-put.ensures.ok),
    )

pub returns-clause-ok : goal.returns-clause-ok
returns-clause-ok g c =
    let done = c.loop-line.invariant.1 in
    let all = done.1 ∙ ap (λ r. done.0 ++ r) (no_line_left c.loop-line.rest.now c.in_default.ensures.none) ∙ append-nil done.0 in
    done.2 ∙ ap (λ t. option_map (λ before. before ++ t) (g.K.Sink.seen c.args.out.now).told) (sym all)
