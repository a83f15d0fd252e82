use Rattle.std.proofs.Common.{◌≡◌, ℕ, List, [], length, map, sym, ap, subst, ◌∙◌}
use Rattle.std.specs.Prelude.{Option}
use Rattle.std.proofs.lemmas.Result.{err_from_is_err_and}
use Rattle.std.proofs.lemmas.List.FromFn.{length-map-range_with_len}
use Rattle.redn_words.specs.States.{State}
use Rattle.redn_image.specs.Rules.{Image}
use Rattle.redn_image.specs.Faithful.{start_of}
use Rattle.redn_adapter.specs.Running.{Running}
use Rattle.redn_command.specs.Words.{message_view}
use Rattle.redn_top.specs.MessageWords.{given, messages, word_faults, length_faults}
use Rattle.redn_top.specs.Reasons.{Or, Nil, first_fault, message_reasons}
use Rattle.redn_top.specs.Refusals.{RunRefused, WordsRefused}
use Rattle.redn_top.specs.Makers.{RanAll}
use Rattle.redn_top.proofs.FirstReason.{words_map}
use Rattle.redn_top.proofs.ImageRuns.{words_refused, word_first, length_first, none_holds, run_stopped, run_ended}
use Rattle.redn_top.proofs.run.run_image.Goals as goal

pub open_with-requires : goal.open_with-requires
open_with-requires g c =
    let chains : length c.as_slice.result.now ≡ length c.args.image.receives = ap length (c.as_slice.ensures.value ∙ ap (λ (i : Image). i.receives) c.image.view_is) in
    ap length c.in_ok-messages.ensures.messages ∙ length-map-range_with_len (given (map message_view c.args.words.now)) 0 (length c.as_slice.result.now) ∙ chains

pub returns-in_err-adapter-clause-ran : goal.returns-in_err-adapter-clause-ran
returns-in_err-adapter-clause-ran g c =
    let image = c.args.image in
    let words = map message_view c.args.words.now in
    let chains : length c.as_slice.result.now ≡ length c.args.image.receives = ap length (c.as_slice.ensures.value ∙ ap (λ (i : Image). i.receives) c.image.view_is) in
    let p = err_from_is_err_and c.from_residual-in_err-adapter.result c.from_residual-in_err-adapter.ensures.1 in
    let given : c.in_ok-messages.messages ≡ messages (length image.receives) words = c.in_ok-messages.ensures.messages ∙ ap (λ n. messages n words) chains in
    let none : word_faults (length image.receives) [] words ≡ [] = ap (λ n. word_faults n [] words) (sym chains) ∙ c.in_ok-messages.ensures.accepted in
    let refused = subst (λ (ms : List (Option (List ℕ))). WordsRefused (Or (first_fault (length_faults image.receives ms)) Nil) c.in_err-adapter.field-0.0) given c.in_err-adapter.ensures.refused in
    rw (p.1, p.2) (words_refused c.each_text_is_read.ensures c.beginnings_are_read.ensures image words c.args.text.now (g.K.Sink.seen c.args.out.now) c.in_err-adapter.field-0.0
    (words_map (Or (first_fault (length_faults image.receives (messages (length image.receives) words))) Nil) (message_reasons image words) (length_first image words none) c.in_err-adapter.field-0.0 refused))

pub returns-in_err-run-clause-ran : goal.returns-in_err-run-clause-ran
returns-in_err-run-clause-ran g c =
    let image = c.args.image in
    let words = map message_view c.args.words.now in
    let chains : length c.as_slice.result.now ≡ length c.args.image.receives = ap length (c.as_slice.ensures.value ∙ ap (λ (i : Image). i.receives) c.image.view_is) in
    let text = c.args.text.now in
    let before = g.K.Sink.seen c.args.out.now in
    let now = g.K.Sink.seen c.run.new.out in
    let p = err_from_is_err_and c.from_residual-in_err-run.result c.from_residual-in_err-run.ensures.1 in
    let given : c.in_ok-messages.messages ≡ messages (length image.receives) words = c.in_ok-messages.ensures.messages ∙ ap (λ n. messages n words) chains in
    let none : word_faults (length image.receives) [] words ≡ [] = ap (λ n. word_faults n [] words) (sym chains) ∙ c.in_ok-messages.ensures.accepted in
    let fits = ap (length_faults image.receives) (sym given) ∙ c.in_ok-adapter.ensures.fits in
    let state : c.in_ok-adapter.adapter.state ≡ start_of image (messages (length image.receives) words) = ap (λ (r : Running). r.state) c.in_ok-adapter.ensures.opened ∙ ap (start_of image) given in
    rw (p.1, p.2) (run_stopped c.each_text_is_read.ensures c.beginnings_are_read.ensures image words text before (none_holds image words none fits) now c.in_err-run.field-0.0
    (subst (λ (s : State). RunRefused s text before now c.in_err-run.field-0.0) state c.in_err-run.ensures.refused))

pub returns-clause-ran : goal.returns-clause-ran
returns-clause-ran g c =
    let image = c.args.image in
    let words = map message_view c.args.words.now in
    let chains : length c.as_slice.result.now ≡ length c.args.image.receives = ap length (c.as_slice.ensures.value ∙ ap (λ (i : Image). i.receives) c.image.view_is) in
    let text = c.args.text.now in
    let before = g.K.Sink.seen c.args.out.now in
    let mid = g.K.Sink.seen c.run.new.out in
    let given : c.in_ok-messages.messages ≡ messages (length image.receives) words = c.in_ok-messages.ensures.messages ∙ ap (λ n. messages n words) chains in
    let none : word_faults (length image.receives) [] words ≡ [] = ap (λ n. word_faults n [] words) (sym chains) ∙ c.in_ok-messages.ensures.accepted in
    let fits = ap (length_faults image.receives) (sym given) ∙ c.in_ok-adapter.ensures.fits in
    let state : c.in_ok-adapter.adapter.state ≡ start_of image (messages (length image.receives) words) = ap (λ (r : Running). r.state) c.in_ok-adapter.ensures.opened ∙ ap (start_of image) given in
    let all = subst (λ (s : State). RanAll s text before.told mid.told) state c.in_ok-run.ensures.ran in
    run_ended c.each_text_is_read.ensures c.beginnings_are_read.ensures image words text before (none_holds image words none fits) (g.K.Sink.seen c.put.new.out) mid all c.in_ok-run.ensures.stays c.put.result c.put.ensures.ok c.put.ensures.refused

pub returns-in_err-messages-clause-ran : goal.returns-in_err-messages-clause-ran
returns-in_err-messages-clause-ran g c =
    let image = c.args.image in
    let words = map message_view c.args.words.now in
    let chains : length c.as_slice.result.now ≡ length c.args.image.receives = ap length (c.as_slice.ensures.value ∙ ap (λ (i : Image). i.receives) c.image.view_is) in
    let p = err_from_is_err_and c.from_residual.result c.from_residual.ensures.1 in
    let refused = subst (λ n. WordsRefused (Or (first_fault (word_faults n [] words)) Nil) c.in_err-messages.field-0.0) chains c.in_err-messages.ensures.refused in
    rw (p.1, p.2) (words_refused c.each_text_is_read.ensures c.beginnings_are_read.ensures image words c.args.text.now (g.K.Sink.seen c.args.out.now) c.in_err-messages.field-0.0
    (words_map (Or (first_fault (word_faults (length image.receives) [] words)) Nil) (message_reasons image words) (word_first image words) c.in_err-messages.field-0.0 refused))
