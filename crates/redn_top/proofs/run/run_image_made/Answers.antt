use Rattle.std.proofs.Common.{◌≡◌, ℕ, List, [], length, map, sym, ap, subst, ◌∙◌}
use Rattle.std.specs.Prelude.{Option}
use Rattle.std.proofs.lemmas.Result.{err_from_is_err_and}
use Rattle.std.proofs.lemmas.List.FromFn.{length-map-range_with_len}
use Rattle.redn_image.specs.Rules.{Image}
use Rattle.redn_image.specs.Faithful.{start_of}
use Rattle.redn_adapter.specs.Running.{Running}
use Rattle.redn_command.specs.Words.{message_view, plan_view}
use Rattle.redn_top.specs.MessageWords.{given, messages, word_faults, length_faults}
use Rattle.redn_top.specs.Reasons.{Or, Nil, first_fault, message_reasons}
use Rattle.redn_top.specs.Refusals.{WordsRefused}
use Rattle.redn_top.proofs.FirstReason.{words_map}
use Rattle.redn_top.specs.RunText.{planned, steps_asked}
use Rattle.redn_top.specs.Answers.{RunsMade, opened}
use Rattle.redn_top.proofs.AnyRun.{any_made}
use Rattle.redn_top.specs.Makers.{made_from, IsMakerOf}
use Rattle.redn_top.proofs.ImageRuns.{maker_fits, no_part, made_words_refused, word_first, length_first, none_holds, made_stopped, made_whole, planned_is, refused_as, text_as}
use Rattle.redn_top.proofs.run.run_image_made.Goals as goal

pub open_with-requires : goal.open_with-requires
open_with-requires g c =
    let chains : length c.as_slice.result.now ≡ length c.args.image.receives = ap length (c.as_slice.ensures.value ∙ ap (λ (i : Image). i.receives) c.image.view_is) in
    ap length c.in_ok-messages.ensures.messages ∙ length-map-range_with_len (given (map message_view c.args.words.now)) 0 (length c.as_slice.result.now) ∙ chains

pub returns-in_err-adapter-clause-stopped : goal.returns-in_err-adapter-clause-stopped
returns-in_err-adapter-clause-stopped g c =
    let image = c.args.image in
    let words = map message_view c.args.words.now in
    let chains : length c.as_slice.result.now ≡ length c.args.image.receives = ap length (c.as_slice.ensures.value ∙ ap (λ (i : Image). i.receives) c.image.view_is) in
    let p = err_from_is_err_and c.from_residual-in_err-adapter.result c.from_residual-in_err-adapter.ensures.1 in
    let given : c.in_ok-messages.messages ≡ messages (length image.receives) words = c.in_ok-messages.ensures.messages ∙ ap (λ n. messages n words) chains in
    let none : word_faults (length image.receives) [] words ≡ [] = ap (λ n. word_faults n [] words) (sym chains) ∙ c.in_ok-messages.ensures.accepted in
    let refused = subst (λ (ms : List (Option (List ℕ))). WordsRefused (Or (first_fault (length_faults image.receives ms)) Nil) c.in_err-adapter.field-0.0) given c.in_err-adapter.ensures.refused in
    rw (p.1, p.2) (made_words_refused image words (plan_view c.args.plan.now) (g.K.Sink.seen c.args.out.now) c.in_err-adapter.field-0.0
    (words_map (Or (first_fault (length_faults image.receives (messages (length image.receives) words))) Nil) (message_reasons image words) (length_first image words none) c.in_err-adapter.field-0.0 refused))

pub returns-in_err-run_made-clause-stopped : goal.returns-in_err-run_made-clause-stopped
returns-in_err-run_made-clause-stopped g c =
    let image = c.args.image in
    let words = map message_view c.args.words.now in
    let plan = plan_view c.args.plan.now in
    let chains : length c.as_slice.result.now ≡ length c.args.image.receives = ap length (c.as_slice.ensures.value ∙ ap (λ (i : Image). i.receives) c.image.view_is) in
    let given : c.in_ok-messages.messages ≡ messages (length image.receives) words = c.in_ok-messages.ensures.messages ∙ ap (λ n. messages n words) chains in
    let none : word_faults (length image.receives) [] words ≡ [] = ap (λ n. word_faults n [] words) (sym chains) ∙ c.in_ok-messages.ensures.accepted in
    let fits = ap (length_faults image.receives) (sym given) ∙ c.in_ok-adapter.ensures.fits in
    let first = c.in_ok-adapter.adapter.state in
    let state : first ≡ opened image words = ap (λ (r : Running). r.state) c.in_ok-adapter.ensures.opened ∙ ap (start_of image) given in
    let steps = c.steps_of-steps.result in
    let made = made_from steps first c.in-Some.maker in
    let list : made ≡ planned plan (opened image words) =
    ap (λ (n : ℕ). made_from n first c.in-Some.maker) c.steps_of-steps.ensures ∙ planned_is plan first c.in-Some.maker (subst (IsMakerOf plan first) c.in-Some.is c.in_ok-maker.ensures) ∙ ap (planned plan) state in
    let before = g.K.Sink.seen c.args.out.now in
    let now = g.K.Sink.seen c.run_made.new.out in
    let p = err_from_is_err_and c.from_residual-in_err-run_made.result c.from_residual-in_err-run_made.ensures.1 in
    rw (p.1, p.2) (made_stopped image words plan before (none_holds image words none fits) now c.in_err-run_made.field-0.0
    (refused_as first (opened image words) steps (steps_asked plan) made (planned plan (opened image words)) state c.steps_of-steps.ensures list before now c.in_err-run_made.field-0.0 c.in_err-run_made.ensures.refused))

pub returns-clause-whole : goal.returns-clause-whole
returns-clause-whole g c =
    let image = c.args.image in
    let words = map message_view c.args.words.now in
    let plan = plan_view c.args.plan.now in
    let chains : length c.as_slice.result.now ≡ length c.args.image.receives = ap length (c.as_slice.ensures.value ∙ ap (λ (i : Image). i.receives) c.image.view_is) in
    let given : c.in_ok-messages.messages ≡ messages (length image.receives) words = c.in_ok-messages.ensures.messages ∙ ap (λ n. messages n words) chains in
    let none : word_faults (length image.receives) [] words ≡ [] = ap (λ n. word_faults n [] words) (sym chains) ∙ c.in_ok-messages.ensures.accepted in
    let fits = ap (length_faults image.receives) (sym given) ∙ c.in_ok-adapter.ensures.fits in
    let first = c.in_ok-adapter.adapter.state in
    let state : first ≡ opened image words = ap (λ (r : Running). r.state) c.in_ok-adapter.ensures.opened ∙ ap (start_of image) given in
    let steps = c.steps_of-steps.result in
    let made = made_from steps first c.in-Some.maker in
    let list : made ≡ planned plan (opened image words) =
    ap (λ (n : ℕ). made_from n first c.in-Some.maker) c.steps_of-steps.ensures ∙ planned_is plan first c.in-Some.maker (subst (IsMakerOf plan first) c.in-Some.is c.in_ok-maker.ensures) ∙ ap (planned plan) state in
    let before = g.K.Sink.seen c.args.out.now in
    let now = g.K.Sink.seen c.run_made.new.out in
    made_whole image words plan before (none_holds image words none fits) now
    (text_as first (opened image words) steps (steps_asked plan) made (planned plan (opened image words)) state c.steps_of-steps.ensures list before.told now.told c.in_ok-run_made.ensures.text)

pub returns-clause-kept : goal.returns-clause-kept
returns-clause-kept g c =
    let image = c.args.image in
    let words = map message_view c.args.words.now in
    let plan = plan_view c.args.plan.now in
    let chains : length c.as_slice.result.now ≡ length c.args.image.receives = ap length (c.as_slice.ensures.value ∙ ap (λ (i : Image). i.receives) c.image.view_is) in
    let given : c.in_ok-messages.messages ≡ messages (length image.receives) words = c.in_ok-messages.ensures.messages ∙ ap (λ n. messages n words) chains in
    let none : word_faults (length image.receives) [] words ≡ [] = ap (λ n. word_faults n [] words) (sym chains) ∙ c.in_ok-messages.ensures.accepted in
    let fits = ap (length_faults image.receives) (sym given) ∙ c.in_ok-adapter.ensures.fits in
    let first = c.in_ok-adapter.adapter.state in
    let state : first ≡ opened image words = ap (λ (r : Running). r.state) c.in_ok-adapter.ensures.opened ∙ ap (start_of image) given in
    let steps = c.steps_of-steps.result in
    let made = made_from steps first c.in-Some.maker in
    let list : made ≡ planned plan (opened image words) =
    ap (λ (n : ℕ). made_from n first c.in-Some.maker) c.steps_of-steps.ensures ∙ planned_is plan first c.in-Some.maker (subst (IsMakerOf plan first) c.in-Some.is c.in_ok-maker.ensures) ∙ ap (planned plan) state in
    λ yes. c.in_ok-run_made.ensures.kept yes ∙ list

pub returns-in_err-messages-clause-stopped : goal.returns-in_err-messages-clause-stopped
returns-in_err-messages-clause-stopped g c =
    let image = c.args.image in
    let words = map message_view c.args.words.now in
    let chains : length c.as_slice.result.now ≡ length c.args.image.receives = ap length (c.as_slice.ensures.value ∙ ap (λ (i : Image). i.receives) c.image.view_is) in
    let p = err_from_is_err_and c.from_residual.result c.from_residual.ensures.1 in
    let refused = subst (λ n. WordsRefused (Or (first_fault (word_faults n [] words)) Nil) c.in_err-messages.field-0.0) chains c.in_err-messages.ensures.refused in
    rw (p.1, p.2) (made_words_refused image words (plan_view c.args.plan.now) (g.K.Sink.seen c.args.out.now) c.in_err-messages.field-0.0
    (words_map (Or (first_fault (word_faults (length image.receives) [] words)) Nil) (message_reasons image words) (word_first image words) c.in_err-messages.field-0.0 refused))

pub returns-in_err-maker-clause-stopped : goal.returns-in_err-maker-clause-stopped
returns-in_err-maker-clause-stopped g c =
    let p = err_from_is_err_and c.from_residual-in_err-maker.result c.from_residual-in_err-maker.ensures.1 in
    rw (p.1, p.2) (no_part (RunsMade c.args.image (map message_view c.args.words.now) (plan_view c.args.plan.now)) (g.K.Sink.seen c.args.out.now) (any_made c.args.image (map message_view c.args.words.now) (plan_view c.args.plan.now)))

pub run_made-requires-clause-maker : goal.run_made-requires-clause-maker
run_made-requires-clause-maker g c =
    let plan = plan_view c.args.plan.now in
    let first = c.in_ok-adapter.adapter.state in
    maker_fits plan first c.in-Some.maker (subst (IsMakerOf plan first) c.in-Some.is c.in_ok-maker.ensures)
