use Rattle.std.proofs.Common.{◌≡◌, ℕ, suc, true, Vec, Global, [], ◌∷◌, ◌++◌, subst, ap, arith, refl, sym, ◌∙◌}
use Rattle.std.specs.Prelude.{Some, codes}
use Rattle.std.proofs.lemmas.Result.{err_from_is_err_and, IfErr-weaker}
use Rattle.redn_words.specs.declared.types.Action.{Action}
use Rattle.redn_words.specs.Steps.{after}
use Rattle.redn_trace.specs.EventText.{IsPrintable}
use Rattle.redn_sched.specs.MadeView.{followed_by}
use Rattle.redn_top.specs.Makers.{made_from}
use Rattle.redn_top.specs.Refusals.{MadeRefused, PutRefused}
use Rattle.redn_top.proofs.RunLemmas.{step_some, faults_here, later_faults}
use Rattle.redn_top.proofs.MadeRuns.{MadeSoFar, made_none, made_more, nothing_left, made_short, made_broken, all_made, made_put, made_unput, put_ok}
use Rattle.redn_top.proofs.run.run_made.Goals as goal
use Rattle.redn_top.proofs.run.run_made.Goals.{then-keep+in_ok-keep_action, else-keep}

pub loop-init : goal.loop-init
loop-init g c = (made_none c.args.adapter.now c.args.steps c.args.maker.now c.args.keep c.args.made.now.items (g.K.Sink.seen c.args.out.now).told c.requires.maker c.requires.none, faults_here (g.K.Sink.seen c.args.out.now))

pub returns-in_default-clause-text : goal.returns-in_default-clause-text
returns-in_default-clause-text g c =
    let first = c.args.adapter.now in
    let steps = c.args.steps in
    let acts = made_from steps first.state c.args.maker.now in
    let now = c.loop.adapter in
    let made = c.loop.invariant.0 in
    let list : (n : ℕ) → made_from (suc n) now.state c.loop.maker ≡ [] = λ n. c.in_default.ensures.list n in
    let ends = nothing_left first steps acts c.loop.counter c.loop-test.true now c.loop.maker c.args.keep c.loop.made.items (g.K.Sink.seen c.args.out.now).told (g.K.Sink.seen c.loop.out).told made list in
    put_ok c.put.result (made_put first steps acts made.done (codes "end quiet\n") ends.0 ends.1 (g.K.Sink.seen c.args.out.now) (g.K.Sink.seen c.loop.out) (g.K.Sink.seen c.put.new.out) made.ran.text) c.put.ensures.ok

pub returns-in_default-clause-kept : goal.returns-in_default-clause-kept
returns-in_default-clause-kept g c =
    let first = c.args.adapter.now in
    let steps = c.args.steps in
    let acts = made_from steps first.state c.args.maker.now in
    let now = c.loop.adapter in
    let made = c.loop.invariant.0 in
    let list : (n : ℕ) → made_from (suc n) now.state c.loop.maker ≡ [] = λ n. c.in_default.ensures.list n in
    let ends = nothing_left first steps acts c.loop.counter c.loop-test.true now c.loop.maker c.args.keep c.loop.made.items (g.K.Sink.seen c.args.out.now).told (g.K.Sink.seen c.loop.out).told made list in
    put_ok c.put.result (λ h. λ yes. made.keeps yes ∙ sym ends.0) c.put.ensures.ok

pub returns-in_default-clause-refused : goal.returns-in_default-clause-refused
returns-in_default-clause-refused g c =
    let first = c.args.adapter.now in
    let steps = c.args.steps in
    let acts = made_from steps first.state c.args.maker.now in
    let now = c.loop.adapter in
    let made = c.loop.invariant.0 in
    let list : (n : ℕ) → made_from (suc n) now.state c.loop.maker ≡ [] = λ n. c.in_default.ensures.list n in
    let ends = nothing_left first steps acts c.loop.counter c.loop-test.true now c.loop.maker c.args.keep c.loop.made.items (g.K.Sink.seen c.args.out.now).told (g.K.Sink.seen c.loop.out).told made list in
    IfErr-weaker c.put.result (PutRefused (codes "end quiet\n") (g.K.Sink.seen c.loop.out) (g.K.Sink.seen c.put.new.out)) (MadeRefused first.state steps acts (g.K.Sink.seen c.args.out.now) (g.K.Sink.seen c.put.new.out))
    (made_unput first steps acts made.done (codes "end quiet\n") ends.0 ends.1 (g.K.Sink.seen c.args.out.now) (g.K.Sink.seen c.loop.out) (g.K.Sink.seen c.put.new.out) made.ran.text c.loop.invariant.1) c.put.ensures.refused

pub put_event-requires : goal.put_event-requires
put_event-requires g c =
    let s = step_some c.loop.adapter c.in-Some.action c.in-Some-step.shown c.step.new.self c.in-Some-step.ensures.shown c.in-Some-step.ensures.after in
    subst IsPrintable s.shows_it (c.each_event_has_a_line.ensures c.loop.adapter.state c.in-Some.action)

pub returns-in_err-put_event-clause-refused : goal.returns-in_err-put_event-clause-refused
returns-in_err-put_event-clause-refused g c =
    let first = c.args.adapter.now in
    let steps = c.args.steps in
    let acts = made_from steps first.state c.args.maker.now in
    let now = c.loop.adapter in
    let a = c.in-Some.action in
    let s = step_some now a c.in-Some-step.shown c.step.new.self c.in-Some-step.ensures.shown c.in-Some-step.ensures.after in
    let list : (n : ℕ) → made_from (suc n) now.state c.loop.maker ≡ a ∷ made_from n (after now.state a) c.next.new.self = λ n. c.in-Some.ensures.list n in
    let p = err_from_is_err_and c.from_residual-in_err-put_event.result c.from_residual-in_err-put_event.ensures.1 in
    rw (p.1, p.2) (made_broken first steps acts c.loop.counter c.loop-test.true now c.loop.maker c.args.keep c.loop.made.items (g.K.Sink.seen c.args.out.now).told (g.K.Sink.seen c.loop.out).told c.loop.invariant.0 a c.in-Some-step.shown c.step.new.self c.next.new.self (g.K.Sink.seen c.args.out.now) (g.K.Sink.seen c.loop.out) (g.K.Sink.seen c.put_event.new.out) refl refl c.loop.invariant.1 s list c.in_err-put_event.field-0.0 c.in_err-put_event.ensures.refused)

pub loop-preserved : goal.loop-preserved
loop-preserved g c =
    let first = c.args.adapter.now in
    let steps = c.args.steps in
    let acts = made_from steps first.state c.args.maker.now in
    let now = c.loop.adapter in
    let a = c.in-Some.action in
    let s = step_some now a c.in-Some-step.shown c.step.new.self c.in-Some-step.ensures.shown c.in-Some-step.ensures.after in
    let list : (n : ℕ) → made_from (suc n) now.state c.loop.maker ≡ followed_by (Some a) (λ act. made_from n (after now.state act) c.next.new.self) = λ n. c.in-Some.ensures.list n in
    let more : c.args.keep ≡ true → c.if-keep.made.items ≡ c.loop.made.items ++ a ∷ [] =
    elim c.if-keep.branch [
      | then-keep+in_ok-keep_action w ↦ λ yes. ap (λ (v : Vec Action Global). v.items) w.made-is ∙ w.in_ok-keep_action.ensures
      | else-keep w ↦ λ yes. absurd (let no = sym yes ∙ w.if-keep.false in cc)
    ] in (
      made_more first steps acts c.loop.counter c.loop-test.true now c.loop.maker c.args.keep c.loop.made.items (g.K.Sink.seen c.args.out.now).told (g.K.Sink.seen c.loop.out).told c.loop.invariant.0 a c.in-Some-step.shown c.step.new.self c.next.new.self c.if-keep.made.items (g.K.Sink.seen c.put_event.new.out).told s list c.in-Some.ensures.stays more c.in_ok-put_event.ensures.ok,
      later_faults _ _ _ c.loop.invariant.1 c.in_ok-put_event.ensures.stays,
    )

pub returns-clause-text : goal.returns-clause-text
returns-clause-text g c =
    let first = c.args.adapter.now in
    let steps = c.args.steps in
    let acts = made_from steps first.state c.args.maker.now in
    let before = (g.K.Sink.seen c.args.out.now).told in
    let told = (g.K.Sink.seen c.loop.out).told in
    let whole : c.loop.counter ≡ steps = omega arith in
    let made = subst (λ (k : ℕ). MadeSoFar first steps acts k c.loop.adapter c.loop.maker c.args.keep c.loop.made.items before told) whole c.loop.invariant.0 in
    let ends = all_made first steps acts c.loop.adapter c.loop.maker c.args.keep c.loop.made.items before told made in
    put_ok c.put-2.result (made_put first steps acts made.done (codes "end steps\n") ends.0 ends.1 (g.K.Sink.seen c.args.out.now) (g.K.Sink.seen c.loop.out) (g.K.Sink.seen c.put-2.new.out) made.ran.text) c.put-2.ensures.ok

pub returns-clause-kept : goal.returns-clause-kept
returns-clause-kept g c =
    let first = c.args.adapter.now in
    let steps = c.args.steps in
    let acts = made_from steps first.state c.args.maker.now in
    let before = (g.K.Sink.seen c.args.out.now).told in
    let told = (g.K.Sink.seen c.loop.out).told in
    let whole : c.loop.counter ≡ steps = omega arith in
    let made = subst (λ (k : ℕ). MadeSoFar first steps acts k c.loop.adapter c.loop.maker c.args.keep c.loop.made.items before told) whole c.loop.invariant.0 in
    let ends = all_made first steps acts c.loop.adapter c.loop.maker c.args.keep c.loop.made.items before told made in
    put_ok c.put-2.result (λ h. λ yes. made.keeps yes ∙ sym ends.0) c.put-2.ensures.ok

pub returns-clause-refused : goal.returns-clause-refused
returns-clause-refused g c =
    let first = c.args.adapter.now in
    let steps = c.args.steps in
    let acts = made_from steps first.state c.args.maker.now in
    let before = (g.K.Sink.seen c.args.out.now).told in
    let told = (g.K.Sink.seen c.loop.out).told in
    let whole : c.loop.counter ≡ steps = omega arith in
    let made = subst (λ (k : ℕ). MadeSoFar first steps acts k c.loop.adapter c.loop.maker c.args.keep c.loop.made.items before told) whole c.loop.invariant.0 in
    let ends = all_made first steps acts c.loop.adapter c.loop.maker c.args.keep c.loop.made.items before told made in
    IfErr-weaker c.put-2.result (PutRefused (codes "end steps\n") (g.K.Sink.seen c.loop.out) (g.K.Sink.seen c.put-2.new.out)) (MadeRefused first.state steps acts (g.K.Sink.seen c.args.out.now) (g.K.Sink.seen c.put-2.new.out))
    (made_unput first steps acts made.done (codes "end steps\n") ends.0 ends.1 (g.K.Sink.seen c.args.out.now) (g.K.Sink.seen c.loop.out) (g.K.Sink.seen c.put-2.new.out) made.ran.text c.loop.invariant.1) c.put-2.ensures.refused

pub returns-in_err-keep_action-clause-refused : goal.returns-in_err-keep_action-clause-refused
returns-in_err-keep_action-clause-refused g c =
    let first = c.args.adapter.now in
    let steps = c.args.steps in
    let acts = made_from steps first.state c.args.maker.now in
    let p = err_from_is_err_and c.from_residual.result c.from_residual.ensures.1 in
    rw (p.1, p.2) (made_short first steps acts c.loop.counter c.loop-test.true c.loop.adapter c.loop.maker c.args.keep c.loop.made.items (g.K.Sink.seen c.args.out.now).told (g.K.Sink.seen c.loop.out).told c.loop.invariant.0 (g.K.Sink.seen c.args.out.now) (g.K.Sink.seen c.loop.out) refl refl)
