use Rattle.std.proofs.Common.{◌≡◌, ◌<◌, false, true, ℕ, List, Vec, Global, length, map, sym, ap, ◌∙◌, arith}
use Rattle.std.specs.Prelude.{slice_set, is_some, not}
use Rattle.std.proofs.lemmas.List.{get_or_read, length-map}
use Rattle.redn_source.specs.declared.run.Run.{Run}
use Rattle.redn_source.specs.declared.state.SourceAnswer.TheVariants as answer
use Rattle.redn_kernel.specs.Source.{Source, first_does}
use Rattle.redn_source.specs.Tasks.{all_items}
use Rattle.redn_source.specs.RunView.{run_view, words_of}
use Rattle.redn_source.specs.StateView.{state_view}
use Rattle.redn_source.proofs.Stepping.{IsStep, view_at, no_words, some_words, step_ended, step_waiting, step_running, now_is}
use Rattle.redn_source.proofs.state.SourceState.source_step.Goals as goal
use Rattle.redn_source.proofs.state.SourceState.source_step.Goals.{Then-run, Then-is_none, After-answer}

within : (list : List Run) (c : ℕ) → c < length (map run_view list) → c < length list
within list c lt = omega (arith, lt, length-map list run_view)

ended : (c : Then-run) → IsStep (state_view c.self.inside) c.args.chain (state_view c.self.inside) answer.Ended
ended c =
    let lt = within c.self.inside.chains.items c.args.chain (rw (← c.self.view_is) at c.requires) in
    let run = c.index-run.result.now in
    step_ended (state_view c.self.inside) c.args.chain (run_view run) (view_at c.self.inside.chains.items c.args.chain run lt c.index-run.ensures) c.if-run.true

pub returns-then-run-clause-after : goal.returns-then-run-clause-after
returns-then-run-clause-after c = rw (← c.self.view_is) (ended c).after

pub returns-then-run-clause-shown : goal.returns-then-run-clause-shown
returns-then-run-clause-shown c = rw (← c.self.view_is) (ended c).shown

pub returns-then-run-clause-ended : goal.returns-then-run-clause-ended
returns-then-run-clause-ended c = rw (← c.self.view_is) (ended c).ended

pub returns-then-run-clause-waiting : goal.returns-then-run-clause-waiting
returns-then-run-clause-waiting c = rw (← c.self.view_is) (ended c).waiting

waiting : (c : Then-is_none) → IsStep (state_view c.self.inside) c.args.chain (state_view c.self.inside) answer.Waiting
waiting c =
    let lt = within c.self.inside.chains.items c.args.chain (rw (← c.self.view_is) at c.requires) in
    let run = c.index-run.result.now in
    let none = no_words (λ (v : Vec ℕ Global). v.items) run.message (c.is_none.ensures ∙ ap not c.if-is_none.true) in
    step_waiting (state_view c.self.inside) c.args.chain (run_view run) (view_at c.self.inside.chains.items c.args.chain run lt c.index-run.ensures) c.if-run.false none

pub returns-then-is_none-clause-after : goal.returns-then-is_none-clause-after
returns-then-is_none-clause-after c = rw (← c.self.view_is) (waiting c).after

pub returns-then-is_none-clause-shown : goal.returns-then-is_none-clause-shown
returns-then-is_none-clause-shown c = rw (← c.self.view_is) (waiting c).shown

pub returns-then-is_none-clause-ended : goal.returns-then-is_none-clause-ended
returns-then-is_none-clause-ended c = rw (← c.self.view_is) (waiting c).ended

pub returns-then-is_none-clause-waiting : goal.returns-then-is_none-clause-waiting
returns-then-is_none-clause-waiting c = rw (← c.self.view_is) (waiting c).waiting

bytes : Vec ℕ Global → List ℕ
bytes v = v.items

running : (c : After-answer) →
    let now : Source = record { tables = map bytes c.step-shown.new.tables; chains = slice_set (map run_view c.self.inside.chains.items) c.args.chain (run_view c.step-shown.new.self) } in
    IsStep (state_view c.self.inside) c.args.chain now c.answer.result
unfolding bytes
running c =
    let lt = within c.self.inside.chains.items c.args.chain (rw (← c.self.view_is) at c.requires) in
    let run = c.index_mut.result.now in
    let same : run ≡ c.index-run.result.now = get_or_read c.self.inside.chains.items c.args.chain run lt c.index_mut.ensures.value c.index-run.result.now ∙ sym c.index-run.ensures in
    let some : is_some (words_of run) ≡ true = ap (λ (r : Run). is_some (words_of r)) same ∙ some_words (λ (v : Vec ℕ Global). v.items) c.index-run.result.now.message (c.is_none.ensures ∙ ap not c.if-is_none.false) in
    let goes : run.ended ≡ false = ap (λ (r : Run). r.ended) same ∙ c.if-run.false in
    let done = c.step-shown.ensures.turn ∙ ap (λ ts. first_does c.args.chain (map bytes ts) (run_view run) (all_items run.tasks.items)) c.deref_mut.ensures.value in
    step_running (state_view c.self.inside) c.args.chain (run_view run) (view_at c.self.inside.chains.items c.args.chain run lt c.index_mut.ensures.value) _ c.step-shown.new.self c.step-shown.result c.answer.result goes some done c.answer.ensures

pub returns-clause-after : goal.returns-clause-after
unfolding bytes
returns-clause-after c =
    rw (← c.self.view_is) (now_is c.self.inside.tables c.self.inside.chains.items c.args.chain c.step-shown.new.tables c.step-shown.new.self (c.step-shown.auto.tables ∙ c.deref_mut.ensures.len) ∙ (running c).after)

pub returns-clause-shown : goal.returns-clause-shown
returns-clause-shown c = rw (← c.self.view_is) (running c).shown

pub returns-clause-ended : goal.returns-clause-ended
returns-clause-ended c = rw (← c.self.view_is) (running c).ended

pub returns-clause-waiting : goal.returns-clause-waiting
returns-clause-waiting c = rw (← c.self.view_is) (running c).waiting
