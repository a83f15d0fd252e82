use Rattle.std.proofs.Common.{◌≡◌, ℕ, List, length, subst, sym, ◌∙◌}
use Rattle.std.proofs.lemmas.Result.{err_from_is_err_and, IfErr-weaker}
use Rattle.redn_top.specs.Refusals.{RunRefused}
use Rattle.redn_top.specs.Makers.{StepRefused}
use Rattle.redn_top.proofs.RunLemmas.{faults_here, later_faults}
use Rattle.redn_top.proofs.MadeRuns.{both_ok}
use Rattle.redn_top.proofs.ScheduleRuns.{ReadSoFar, read_none, read_more, begins_here, bad_here, bad_kept, got_enough, left_length, left_whole, step_ends, at_end, begins_last, bad_last, read_all, is_none}
use Rattle.redn_top.proofs.run.run.Goals as goal

pub loop-rest-init : goal.loop-rest-init
loop-rest-init g c =
    (read_none c.args.adapter.now c.args.text.now c.new-reader.result (g.K.Sink.seen c.args.out.now).told c.new-reader.ensures, faults_here (g.K.Sink.seen c.args.out.now))

pub returns-in_err-make_step-clause-refused : goal.returns-in_err-make_step-clause-refused
returns-in_err-make_step-clause-refused g c =
    let first = c.args.adapter.now in
    let now = c.loop-rest.adapter in
    let text = c.args.text.now in
    let rest = c.loop-rest.rest.now in
    let reader = c.loop-rest.reader in
    let fed = c.feed-fed in
    let before = (g.K.Sink.seen c.args.out.now).told in
    let told = (g.K.Sink.seen c.loop-rest.out).told in
    let so_far = c.loop-rest.invariant.0 in
    let p = err_from_is_err_and c.from_residual.result c.from_residual.ensures.1 in
    rw (p.1, p.2)
    (step_ends first now text so_far.done (g.K.Sink.seen c.args.out.now) (g.K.Sink.seen c.loop-rest.out) (g.K.Sink.seen c.make_step.new.out) c.loop-rest.invariant.1 so_far.all_possible so_far.state so_far.puts fed.result.got
    (begins_here first now c.make_step.new.adapter text rest reader fed.new.self fed.result.taken fed.result.got before told told so_far fed.ensures.reads fed.ensures.begins)
    (λ n e. bad_here first now c.make_step.new.adapter text rest reader fed.new.self fed.result.taken fed.result.got before told told so_far fed.ensures.reads fed.ensures.begins n e (bad_kept reader rest fed.result.taken fed.result.got fed.new.self n e fed.ensures.fed)) c.in_err-make_step.field-0.0 c.in_err-make_step.ensures.refused)

pub loop-rest-preserved : goal.loop-rest-preserved
loop-rest-preserved g c =
    let first = c.args.adapter.now in
    let now = c.loop-rest.adapter in
    let next = c.make_step.new.adapter in
    let text = c.args.text.now in
    let rest = c.loop-rest.rest.now in
    let reader = c.loop-rest.reader in
    let fed = c.feed-fed in
    let before = (g.K.Sink.seen c.args.out.now).told in
    let told = (g.K.Sink.seen c.loop-rest.out).told in
    let told_now = (g.K.Sink.seen c.make_step.new.out).told in
    let enough = got_enough reader rest fed.result.taken fed.result.got fed.new.self fed.ensures.fed in
    let more = read_more first now next text rest reader fed.new.self fed.result.taken fed.result.got before told told_now c.loop-rest.invariant.0 fed.ensures.reads fed.ensures.begins c.in_ok-make_step.ensures.made fed.ensures.lines fed.ensures.within enough (left_length rest fed.result.taken) in (
      subst (λ (l : List ℕ). ReadSoFar first text l fed.new.self next before told_now) (sym (left_whole rest fed.result.taken)) more,
      later_faults _ _ _ c.loop-rest.invariant.1 c.in_ok-make_step.ensures.stays,
    )

pub returns-clause-ran : goal.returns-clause-ran
returns-clause-ran g c =
    let first = c.args.adapter.now in
    let now = c.loop-rest.adapter in
    let text = c.args.text.now in
    let reader = c.loop-rest.reader in
    let before = (g.K.Sink.seen c.args.out.now).told in
    let told = (g.K.Sink.seen c.loop-rest.out).told in
    let none : length c.loop-rest.rest.now ≡ 0 = is_none (length c.loop-rest.rest.now) (sym c.is_empty.ensures ∙ c.loop-rest-test.false) in
    let so_far = at_end first now text c.loop-rest.rest.now reader before told none c.loop-rest.invariant.0 in
    both_ok c.make_step-2.result (λ m good. read_all first now c.make_step-2.new.adapter text reader c.finish-last.result before told (g.K.Sink.seen c.make_step-2.new.out).told so_far m good c.finish-last.ensures.reads) c.make_step-2.ensures.made c.make_step-2.ensures.good

pub returns-clause-refused : goal.returns-clause-refused
returns-clause-refused g c =
    let first = c.args.adapter.now in
    let now = c.loop-rest.adapter in
    let text = c.args.text.now in
    let reader = c.loop-rest.reader in
    let last = c.finish-last.result in
    let before = (g.K.Sink.seen c.args.out.now).told in
    let told = (g.K.Sink.seen c.loop-rest.out).told in
    let none : length c.loop-rest.rest.now ≡ 0 = is_none (length c.loop-rest.rest.now) (sym c.is_empty.ensures ∙ c.loop-rest-test.false) in
    let so_far = at_end first now text c.loop-rest.rest.now reader before told none c.loop-rest.invariant.0 in
    let begins = begins_last first now now text reader last before told told so_far c.finish-last.ensures.begins in
    let bad : (n : ℕ) → _ = λ n e. bad_last first now now text reader last before told told so_far n e c.finish-last.ensures.reads in
    IfErr-weaker c.make_step-2.result (StepRefused last now.state (g.K.Sink.seen c.loop-rest.out) (g.K.Sink.seen c.make_step-2.new.out)) (RunRefused first.state text (g.K.Sink.seen c.args.out.now) (g.K.Sink.seen c.make_step-2.new.out))
    (step_ends first now text so_far.done (g.K.Sink.seen c.args.out.now) (g.K.Sink.seen c.loop-rest.out) (g.K.Sink.seen c.make_step-2.new.out) c.loop-rest.invariant.1 so_far.all_possible so_far.state so_far.puts last begins bad) c.make_step-2.ensures.refused
