use Rattle.std.proofs.Common.{◌≡◌, ◌+◌, ◌++◌, ◌∷◌, [], ℕ, List, take, get_or, sym, ap, subst, ◌∙◌}
use Rattle.std.specs.Prelude.{codes, None}
use Rattle.std.proofs.lemmas.List.{take_all, take_more}
use Rattle.redn_words.specs.declared.types.Action.{Action}
use Rattle.redn_words.specs.declared.types.Action.TheVariants.{Deliver}
use Rattle.redn_sched.specs.ScheduleText.{action_text, recorded, lines_of, Reads, numbered}
use Rattle.redn_sched.proofs.Replay.{AllFit, all_fit_more, recorded_more, read_back}
use Rattle.redn_sched.proofs.written.schedule_text.Goals as goal

pub loop-a-preserved : goal.loop-a-preserved
loop-a-preserved c =
    let actions = c.args.actions.now in
    let k = c.loop-a.a-index in
    let d : Action = Deliver 0 in
    let more : take (k + 1) actions ≡ take k actions ++ get_or actions k d ∷ [] = take_more actions k d c.loop-a-test.true in
    let a = get_or actions k d in
    record {
      text =
          c.in_ok-extend_from_slice.ensures.items
          ∙ ap (λ (l : List ℕ). c.loop-a.text.items ++ l) c.action_line-len.ensures.line
          ∙ ap (λ (l : List ℕ). l ++ (action_text a ++ codes "\n")) c.loop-a.invariant.text
          ∙ sym (ap recorded more ∙ recorded_more (take k actions) a);
      fit = subst AllFit (sym more) (all_fit_more (take k actions) a c.loop-a.invariant.fit c.action_line-len.ensures.fits);
    }

pub returns-clause-reads : goal.returns-clause-reads
returns-clause-reads c =
    let actions = c.args.actions.now in
    let all : take c.loop-a.a-index actions ≡ actions = take_all c.loop-a.a-index actions c.loop-a-test.false in
    let fit = subst AllFit all c.loop-a.invariant.fit in
    let text : c.loop-a.text.items ≡ recorded actions = c.loop-a.invariant.text ∙ ap recorded all in
    subst (λ (t : List ℕ). Reads 1 (lines_of t) (numbered 1 actions) None) (sym text) (read_back 1 actions fit)
